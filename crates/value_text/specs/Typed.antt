-- A text of the form as a value of a type, by recursion on the type: the value, or at which token it is none, and why. It says so of
-- the first such token. This project's own.
use Rattle.std.specs.Prelude.{ℕ, zero, suc, Bool, false, ◌&&◌, nat_lt, if◌then◌else◌, List, [], ◌∷◌, ◌++◌, Option, Some, None, Result, Ok, Err}
use Rattle.std.specs.List.{list_any}
use Rattle.std.specs.Str.{bytes_eq}
use Rattle.tydi_base.specs.HexWords.{hex_word}
use Rattle.tydi_base.specs.Numbers.{word_of_number}
use Rattle.tydi_base.specs.declared.hex_word.BitsFault.{BitsFault}
use Rattle.tydi_reading.specs.Lists.{repeated}
use Rattle.tydi_reading.specs.Reading.{Outcome, took, stopped, tells, told_by, rest_of, ◌>>=◌, ◌>>◌, ◌<<◌, ◌<$>◌, pure}
use Rattle.tydi_reading.specs.declared.fault.Fault.TheVariants as faults
use Rattle.logical_types.specs.Synchronicity.{is_apart}
use Rattle.logical_types.specs.Tree.{Ltype, Parts, names_of}
use Rattle.logical_types.specs.Tree as types
use Rattle.logical_value.specs.declared.value.Value.{Value}
use Rattle.logical_value.specs.declared.value.Value.TheVariants as values
use Rattle.value_text.specs.declared.fault.Why.{Why}
use Rattle.value_text.specs.declared.fault.Why.TheVariants as whys
use Rattle.value_text.specs.Syntax.{Reader}
use Rattle.value_text.specs.Tokens.{PlainToken}
use Rattle.value_text.specs.Words.{field_name, hex_digits_of, is_byte, is_word, number_of, root_word, variant_name}
use Rattle.value_text.specs.Words as words

-- ---- steps

-- the next token is none that the type asks for, or no token is left
abbrev pub wrong : {A : Type 0} → Why → Reader A
wrong why = λ ts. stopped (faults.Unfit why) ts

-- the next token, of which a test is to hold
unfoldable pub shaped : (PlainToken → Bool) → Reader (Unit {0})
shaped test = λ ts. if tells test false ts then took tt (rest_of ts) else wrong whys.WrongShape ts

-- a comma, where one stands
unfoldable pub comma : Reader (Unit {0})
comma = λ ts. if tells (is_byte 44) false ts then took tt (rest_of ts) else took tt ts

-- ---- words

-- the word of a Null, and that for a Stream that has a root of its own
abbrev pub null_word : PlainToken → Bool
null_word token = is_word token.kind && words.is_null token.text

abbrev pub apart_word : PlainToken → Bool
apart_word token = is_word token.kind && words.is_apart token.text

-- bits, where there are some; else the word is too great
abbrev pub in_range : Option (List Bool) → Result (List Bool) Why
in_range (Some bits) = Ok bits
in_range None = Err whys.OutOfRange

-- the word of this width of a number in decimal, which words of over 128 bits have not
abbrev pub decimal_word : ℕ → ℕ → Result (List Bool) Why
decimal_word width number = if nat_lt 128 width then Err whys.WrongShape else in_range (word_of_number width number)

-- bits, or why there are none
abbrev pub of_hex : Result (List Bool) BitsFault → Result (List Bool) Why
of_hex (Ok bits) = Ok bits
of_hex (Err _) = Err whys.OutOfRange

-- the word of this width of digits behind `0x`, where there are some
abbrev pub digits_word : ℕ → Option (List ℕ) → Result (List Bool) Why
digits_word width None = Err whys.WrongShape
digits_word width (Some digits) = of_hex (hex_word width digits)

-- the word of this width that a text is, by the number that it is in decimal
abbrev pub text_word : ℕ → List ℕ → Option ℕ → Result (List Bool) Why
text_word width text (Some number) = decimal_word width number
text_word width text None = digits_word width (hex_digits_of text)

-- the word of this width that a token is
unfoldable pub token_word : ℕ → PlainToken → Result (List Bool) Why
token_word width token = if is_word token.kind then text_word width token.text (number_of token.text) else Err whys.WrongShape

-- a token is taken with its word, or reported
abbrev pub judged : {A : Type 0} → Result A Why → List PlainToken → List PlainToken → Outcome Why PlainToken A
judged (Ok x) rest all = took x rest
judged (Err why) rest all = stopped (faults.Unfit why) all

-- a word of this width
unfoldable pub bits_word : ℕ → Reader (List Bool)
bits_word width [] = wrong whys.WrongShape []
bits_word width (token ∷ rest) = judged (token_word width token) rest (token ∷ rest)

-- ---- names

-- the name of a field that a token is
abbrev pub key_name : PlainToken → Option (List ℕ)
key_name token = if field_name token then Some token.text else None

-- the name of a variant that a token is
abbrev pub call_name : PlainToken → Option (List ℕ)
call_name token = if variant_name token then Some token.text else None

-- a name is among those of these parts
abbrev pub has_name : Parts → List ℕ → Bool
has_name parts name = list_any (bytes_eq name) (names_of parts)

-- why a name is not the one that is asked for: the Group has it at another place, or lacks it
abbrev pub misnamed : Parts → Option (List ℕ) → Why
misnamed parts None = whys.WrongShape
misnamed parts (Some name) = if has_name parts name then whys.WrongShape else whys.UnknownField

-- this name is the one that is asked for
abbrev pub is_named : List ℕ → Option (List ℕ) → Bool
is_named name None = false
is_named name (Some other) = bytes_eq other name

-- the name of this field of a Group, and its colon
unfoldable pub key : Parts → List ℕ → Reader (Unit {0})
key parts name = λ ts. if is_named name (told_by key_name ts) then took tt (rest_of ts) else wrong (misnamed parts (told_by key_name ts)) ts

-- the end of a Group, where another field may be named
unfoldable pub group_end : Parts → Reader (Unit {0})
group_end parts = λ ts. if tells (is_byte 125) false ts then took tt (rest_of ts) else wrong (misnamed parts (told_by key_name ts)) ts

-- ---- values

-- a thing after a comma, where one stands
unfoldable pub next_value : Reader Value → Reader Value
next_value item = comma >> item

-- things, each after a comma where one stands, up to a closing bracket
unfoldable pub listed_values : Reader Value → Reader (List Value)
listed_values item = repeated (is_byte 93) false (next_value item) << shaped (is_byte 93)

-- a list of values
unfoldable pub list_value : Reader Value → Reader Value
list_value item = values.List <$> (shaped (is_byte 91) >> listed_values item)

-- a nest of this depth, with such leaves
abbrev pub nest : Reader Value → ℕ → Reader Value
nest item zero = item
nest item (suc depth) = list_value (nest item depth)

-- one field more of a Group, behind those that are found
unfoldable pub next_field : Parts → List ℕ → Reader Value → List Value → Reader (List Value)
next_field all name item found = (λ value. found ++ value ∷ []) <$> (comma >> (key all name >> item))

-- the value of a variant of this number, after its name
unfoldable pub variant_value : ℕ → Reader Value → Reader Value
variant_value tag item = values.Union tag <$> (item << shaped (is_byte 41))

-- a value of a Union, by the name of the variant, if there is one
abbrev pub called : (List ℕ → Reader Value) → Option (List ℕ) → Reader Value
called variant None = wrong whys.WrongShape
called variant (Some name) = variant name

abbrev mutual
  -- a value of an element of a type
  pub element : Ltype → Reader Value
  element types.null = (λ _. values.Null) <$> shaped null_word
  element (types.bits width) = values.Word <$> bits_word width
  element (types.group parts) = values.Group <$> (shaped (is_byte 123) >> (fields parts parts [] << (comma >> group_end parts)))
  element (types.union parts) = λ ts. called (variant parts 0) (told_by call_name ts) ts
  element (types.stream inner user settings) =
      if is_apart settings.sync then (λ _. values.Apart) <$> shaped apart_word else nest (element inner) settings.dims

  -- the fields of a Group that are left, behind those that are found
  pub fields : Parts → Parts → List Value → Reader (List Value)
  fields all types.no_parts found = pure found
  fields all (types.part name ltype more) found = next_field all name (element ltype) found >>= fields all more

  -- a value of the first variant of this name; the first has this number
  pub variant : Parts → ℕ → List ℕ → Reader Value
  variant types.no_parts tag name = wrong whys.UnknownField
  variant (types.part other ltype more) tag name =
      if bytes_eq other name then (λ ts. variant_value tag (element ltype) (rest_of ts)) else variant more (suc tag) name
