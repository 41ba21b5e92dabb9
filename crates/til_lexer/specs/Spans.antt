-- White space, comments, digits and what stands between two marks. This project's own.
use Rattle.std.specs.Prelude.{◌≡◌, ℕ, ◌==◌, ◌≤◌, take, ◌&&◌, ◌||◌, not, nat_lt, Bool, List, [], ◌∷◌, length, slice_index, Option, Some, None, if◌then◌else◌}
use Rattle.std.specs.Char.{is_ascii_digit}
use Rattle.std.specs.List.{prefix_len, position_or_len}
use Rattle.std.specs.Fn.{Shared}
use denote.Ref.{Bor}
use Rattle.tydi_base.specs.declared.place.Place.{Place}
use Rattle.til_lexer.specs.declared.spans.Span.{Span}
use Rattle.til_lexer.specs.Places.{place_past}

-- each call of a closure gives what a test of bytes does
abbrev pub Decides : {F : Type 0} → Shared F (Bor ℕ × Unit {0}) Bool → F → (ℕ → Bool) → Type 0
Decides {F} calls f test = (byte : Bor ℕ) (passes : Bool) → calls.post f (byte, tt) passes → passes ≡ test byte.now

-- how many bytes at the front pass a test and are no LF
abbrev pub in_line : (ℕ → Bool) → List ℕ → ℕ
in_line test bytes = prefix_len (λ byte. not (byte == 10) && test byte) bytes

-- each call of a closure counts the bytes at the front of a text that pass a test and are no LF
abbrev pub CountsInLine : {F : Type 0} → Shared F (Bor (List ℕ) × Unit {0}) ℕ → F → (ℕ → Bool) → Type 0
CountsInLine {F} calls f test = (bytes : Bor (List ℕ)) (count : ℕ) → calls.post f (bytes, tt) count → count ≡ in_line test bytes.now

-- each call of a closure counts bytes of the text that it is given
abbrev pub CountsWithin : {F : Type 0} → Shared F (Bor (List ℕ) × Unit {0}) ℕ → F → Type 0
CountsWithin {F} calls f = (bytes : Bor (List ℕ)) (count : ℕ) → calls.post f (bytes, tt) count → count ≤ length bytes.now

-- space, tab, CR or LF
abbrev pub is_space : ℕ → Bool
is_space byte = byte == 32 || byte == 9 || byte == 13 || byte == 10

-- how many bytes of white space stand at the front
abbrev pub space_length : List ℕ → ℕ
space_length bytes = prefix_len is_space bytes

-- `//` stands at the front
abbrev pub begins_comment : List ℕ → Bool
begins_comment bytes = slice_index bytes 0 == 47 && slice_index bytes 1 == 47

-- how many bytes stand before the first LF, or in all where there is none: a comment's LF is white space after it
abbrev pub line_length : List ℕ → ℕ
line_length bytes = position_or_len (λ byte. byte == 10) bytes

-- how many digits stand at the front
abbrev pub digits_at : List ℕ → ℕ
digits_at bytes = prefix_len is_ascii_digit bytes

-- how many digits stand after a point at the front: none where no point stands there
abbrev pub digits_after_point : List ℕ → ℕ
digits_after_point [] = 0
digits_after_point (byte ∷ bytes) = if byte == 46 then digits_at bytes else 0

-- how many bytes stand before the first such mark: None where there is none
abbrev pub until_mark : ℕ → List ℕ → Option ℕ
until_mark mark bytes =
    if nat_lt (position_or_len (λ byte. byte == mark) bytes) (length bytes)
    then Some (position_or_len (λ byte. byte == mark) bytes) else None

-- so many bytes at the front of a text at this place, and the place after them
abbrev pub IsSpan : Place → List ℕ → ℕ → Span → Type 0
IsSpan place bytes count span = (span.count ≡ count) × (span.after ≡ place_past place (take count bytes))

-- the span before the first such mark in a text at this place
abbrev pub IsMarked : ℕ → Place → List ℕ → Span → Type 0
IsMarked mark place bytes span = (until_mark mark bytes ≡ Some span.count) × (span.after ≡ place_past place (take span.count bytes))
