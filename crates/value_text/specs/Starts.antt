-- A bound on the leaves of a text, by its bytes alone. It serves the reading, and no public clause.
use Rattle.std.specs.Prelude.{ℕ, ◌+◌, ◌==◌, Bool, not, ◌&&◌, ◌||◌, cond, List, [], ◌∷◌}
use Rattle.value_text.specs.Tokens.{is_word_byte}

-- a run of letters, digits, `_` and `.` begins with a byte, or it is a `{`; the byte before it is within such a run or not
abbrev pub begins : Bool → ℕ → Bool
begins within byte = (is_word_byte byte && not within) || byte == 123

-- how many such runs and how many `{` begin in a text
abbrev pub starts : Bool → List ℕ → ℕ
starts within [] = 0
starts within (byte ∷ bytes) = cond (begins within byte) 1 0 + starts (is_word_byte byte) bytes
