-- The tests of the tokens of a value's text. This project's own.
use Rattle.std.specs.Prelude.{ℕ, ◌^◌, ◌==◌, Bool, true, false, not, ◌&&◌, ◌||◌, nat_lt, if◌then◌else◌, List, [], ◌∷◌, length, Option, Some, None, codes}
use Rattle.std.specs.List.{list_all}
use Rattle.std.specs.Option.{is_some}
use Rattle.std.specs.Str.{bytes_eq}
use Rattle.tydi_base.specs.Decimal.{below, padded_decimal_of}
use Rattle.tydi_base.specs.Hex.{digit_of}
use Rattle.tydi_base.specs.Name.{is_name}
use Rattle.tydi_base.specs.Pieces.{pieces_of}
use Rattle.value_text.specs.declared.opening.Opening.{Opening}
use Rattle.value_text.specs.declared.opening.Opening.TheVariants as openings
use Rattle.value_text.specs.declared.token.TokenKind.{TokenKind}
use Rattle.value_text.specs.declared.token.TokenKind.TheVariants as kinds
use Rattle.value_text.specs.Tokens.{PlainToken}

-- ---- the kinds of tokens

abbrev pub is_word : TokenKind → Bool
is_word kinds.Word = true
is_word _ = false

abbrev pub is_key : TokenKind → Bool
is_key kinds.Key = true
is_key _ = false

abbrev pub is_call : TokenKind → Bool
is_call kinds.Call = true
is_call _ = false

abbrev pub is_path : TokenKind → Bool
is_path kinds.Path = true
is_path _ = false

-- ---- words

-- the word of a Null
abbrev pub is_null : List ℕ → Bool
is_null text = bytes_eq text (codes "null")

-- the word for a Stream that has a root of its own
abbrev pub is_apart : List ℕ → Bool
is_apart text = bytes_eq text (codes "apart")

-- the number that a word is in decimal: one of at most 39 digits, and below 2 ^ 128
abbrev pub number_of : List ℕ → Option ℕ
number_of text = if nat_lt 39 (length text) then None else below (2 ^ 128) (padded_decimal_of text)

-- `0` to `9` or `a` to `f`
abbrev pub is_hex : ℕ → Bool
is_hex byte = is_some (digit_of byte)

-- hexadecimal digits, one at least
abbrev pub are_hex : List ℕ → Bool
are_hex digits = not (length digits == 0) && list_all is_hex digits

-- the digits behind `0x`
abbrev pub hex_digits_of : List ℕ → Option (List ℕ)
hex_digits_of [] = None
hex_digits_of (first ∷ []) = None
hex_digits_of (first ∷ second ∷ digits) = if first == 48 && second == 120 && are_hex digits then Some digits else None

-- a word that is a member by itself
abbrev pub is_leaf : List ℕ → Bool
is_leaf text = is_null text || is_apart text || is_some (number_of text) || is_some (hex_digits_of text)

-- names with a point between each two, one at least
abbrev pub are_names : List ℕ → Bool
are_names text = list_all is_name (pieces_of 46 text)

-- the text of a path: such names, or `-`
abbrev pub is_path_text : List ℕ → Bool
is_path_text text = bytes_eq text (codes "-") || are_names text

-- ---- tokens

-- the text is this byte alone
abbrev pub is_only : ℕ → List ℕ → Bool
is_only byte [] = false
is_only byte (only ∷ []) = only == byte
is_only byte (first ∷ second ∷ more) = false

-- a token is this byte
abbrev pub is_byte : ℕ → PlainToken → Bool
is_byte byte token = is_only byte token.text

-- a token is a member by itself: a number, `null` or `apart`
abbrev pub leaf : PlainToken → Bool
leaf token = is_word token.kind && is_leaf token.text

-- a token is the name of a field, and its colon
abbrev pub field_name : PlainToken → Bool
field_name token = is_key token.kind && is_name token.text

-- a token is the name of a variant, and its opening bracket
abbrev pub variant_name : PlainToken → Bool
variant_name token = is_call token.kind && is_name token.text

-- a token is a path, and its `=`
abbrev pub root_path : PlainToken → Bool
root_path token = is_path token.kind && is_path_text token.text

-- a token is a path of this text, and its `=`
abbrev pub is_path_text_of : List ℕ → PlainToken → Bool
is_path_text_of text token = is_path token.kind && bytes_eq token.text text

-- a token begins the line of a root
abbrev pub root_word : PlainToken → Bool
root_word token = is_word token.kind && bytes_eq token.text (codes "root")

-- the list, Group or variant that a token opens
unfoldable pub opening : PlainToken → Option Opening
opening token =
    if is_byte 91 token then Some openings.List
    else (if is_byte 123 token then Some openings.Group
    else (if variant_name token then Some openings.Variant
    else None))

-- white space or a comment stands before a token
abbrev pub is_spaced : PlainToken → Bool
is_spaced token = token.spaced
