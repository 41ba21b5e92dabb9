-- Names (Tydi specification, names; the five reserved words are the kinds of its logical types).
use Rattle.std.specs.Prelude.{ℕ, ◌-◌, Bool, false, ◌==◌, ◌&&◌, ◌||◌, not, List, [], ◌∷◌, length, slice_index, Option, Some, None, if◌then◌else◌, codes}
use Rattle.std.specs.Char.{is_ascii_alphabetic, is_ascii_alphanumeric}
use Rattle.std.specs.List.{list_all}
use Rattle.std.specs.Str.{bytes_eq}
use Rattle.tydi_base.specs.declared.name.Letters.{Letters}
use Rattle.tydi_base.specs.declared.name.Letters.TheVariants as letters

-- the bytes that a name keeps, in place or in a block that its copies share. This project's own.
abbrev pub letters_of : Letters → List ℕ
letters_of (letters.Few few) = few
letters_of (letters.Many many) = many.value

-- an ASCII letter, a digit or `_`
abbrev pub is_name_byte : ℕ → Bool
is_name_byte byte = is_ascii_alphanumeric byte || byte == 95

-- the first byte is an ASCII letter
abbrev pub begins_with_letter : List ℕ → Bool
begins_with_letter text = is_ascii_alphabetic (slice_index text 0)

-- the last byte is `_`
abbrev pub ends_in_underscore : List ℕ → Bool
ends_in_underscore text = slice_index text (length text - 1) == 95

-- somewhere two `_` stand together
abbrev pub has_double_underscore : List ℕ → Bool
has_double_underscore [] = false
has_double_underscore (byte ∷ bytes) = (byte == 95 && slice_index bytes 0 == 95) || has_double_underscore bytes

-- the words that name the kinds of logical types, and nothing else
abbrev pub is_reserved : List ℕ → Bool
is_reserved text = bytes_eq text (codes "Null") || bytes_eq text (codes "Bits") || bytes_eq text (codes "Group") || bytes_eq text (codes "Union") || bytes_eq text (codes "Stream")

-- the form of a name: ASCII letters, digits and `_`, with a letter first, no two `_` together and no `_` last
abbrev pub has_name_form : List ℕ → Bool
has_name_form text = begins_with_letter text && list_all is_name_byte text && not (has_double_underscore text) && not (ends_in_underscore text)

-- a name has the form of one, and is no reserved word
abbrev pub is_name : List ℕ → Bool
is_name text = has_name_form text && not (is_reserved text)

-- the name that a text is
abbrev pub name_of : List ℕ → Option (List ℕ)
name_of text = if is_name text then Some text else None
