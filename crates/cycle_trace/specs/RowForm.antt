-- How far a line has the form of a row (this project's own). For a line that is read up to here, `words` are the words of the
-- rest; the first of them is the rest of the word that is begun.
use Rattle.std.specs.Prelude.{◌≡◌, ℕ, Bool, true, false, ◌==◌, ◌&&◌, nat_le, if◌then◌else◌, List, [], ◌∷◌, ◌++◌, length, drop, codes, is_some}
use Rattle.std.specs.Char.{is_ascii_digit}
use Rattle.std.specs.List.{list_all}
use Rattle.tydi_base.specs.Decimal.{is_decimal}
use Rattle.tydi_base.specs.Hex.{digit_of}
use Rattle.tydi_base.specs.Pieces.{words_of}
use Rattle.cycle_trace.specs.RowText.{are_signals, has_form, is_bit, is_hex, is_payload}
use Rattle.cycle_trace.specs.declared.row.form.RowForm.{RowForm}
use Rattle.cycle_trace.specs.declared.row.form.RowForm.TheVariants as forms
use Rattle.cycle_trace.specs.declared.row.form.ValueKind.{ValueKind}
use Rattle.cycle_trace.specs.declared.row.form.ValueKind.TheVariants as kinds

-- the keys of the signals, in their order
abbrev pub row_keys : List ℕ
row_keys = codes "dlsebu"

-- the digits are a value of this kind
abbrev pub is_spelled : ValueKind → List ℕ → Bool
is_spelled kinds.Hex digits = is_hex digits
is_spelled kinds.Index digits = is_decimal digits && nat_le (length digits) 5

-- nothing is left of the word
abbrev pub is_end : List ℕ → Bool
is_end [] = true
is_end (byte ∷ word) = false

-- a value is right, and the words after it are signals of the keys from this number on
abbrev pub goes_on : ℕ → Bool → List (List ℕ) → Bool
goes_on next right words = if right then are_signals (drop next row_keys) words else false

-- with these words the line has the form of a row
abbrev pub fits : RowForm → List (List ℕ) → Bool
fits forms.Valid words = has_form words
fits forms.AfterValid (end ∷ ready ∷ payload) = is_end end && is_bit ready && is_payload payload
fits forms.AfterValid words = false
fits forms.Ready (ready ∷ payload) = is_bit ready && is_payload payload
fits forms.Ready [] = false
fits forms.AfterReady (end ∷ payload) = is_end end && is_payload payload
fits forms.AfterReady [] = false
fits forms.Payload words = is_payload words
fits forms.Dash (end ∷ []) = is_end end
fits forms.Dash words = false
fits (forms.Signal next) words = are_signals (drop next row_keys) words
fits (forms.Sign next kind) ((sign ∷ value) ∷ words) = goes_on next ((sign == 61) && is_spelled kind value) words
fits (forms.Sign next kind) words = false
fits (forms.Value next kind) (value ∷ words) = goes_on next (is_spelled kind value) words
fits (forms.Value next kind) [] = false
fits (forms.Hex next) (digits ∷ words) = goes_on next (list_all (λ digit. is_some (digit_of digit)) digits) words
fits (forms.Hex next) [] = false
fits (forms.Zero next) (end ∷ words) = goes_on next (is_end end) words
fits (forms.Zero next) [] = false
fits (forms.Index next left) (digits ∷ words) = goes_on next (list_all is_ascii_digit digits && nat_le (length digits) left) words
fits (forms.Index next left) [] = false
fits forms.No words = false

-- a line that begins so has this form, whatever follows
abbrev pub IsForm : RowForm → List ℕ → Type 0
IsForm form front = (more : List ℕ) → fits form (words_of more) ≡ has_form (words_of (front ++ more))

-- the new form is the old one with this byte more: a space ends the word that is begun, and any other byte is one of it
pub record Goes (old : RowForm) (byte : ℕ) (new : RowForm) : Type 0 where
  pub space : byte ≡ 32 → (word : List ℕ) (words : List (List ℕ)) → fits new (word ∷ words) ≡ fits old ([] ∷ word ∷ words)
  pub other : (byte ≡ 32 → ⊥) → (word : List ℕ) (words : List (List ℕ)) → fits new (word ∷ words) ≡ fits old ((byte ∷ word) ∷ words)

-- the one form after a space, and the other after a byte of which the test holds
abbrev pub step : ℕ → RowForm → Bool → RowForm → RowForm
step byte at_space test otherwise = if byte == 32 then at_space else (if test then otherwise else forms.No)
