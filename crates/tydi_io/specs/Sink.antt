-- The bytes of a sink that reports them.
use Rattle.std.specs.Prelude.{ℕ, List, ◌++◌, Option, Result, Ok, Err, take, option_map}

-- the bytes after a push: as many of the piece as it answered, none where it failed
abbrev pub bytes_after : {E : Type 0} → List ℕ → List ℕ → Result ℕ E → List ℕ
bytes_after bytes piece (Ok n) = bytes ++ take n piece
bytes_after bytes piece (Err _) = bytes

-- the same where the sink reports its bytes
abbrev pub after_push : {E : Type 0} → Option (List ℕ) → List ℕ → Result ℕ E → Option (List ℕ)
after_push taken piece result = option_map (λ bytes. bytes_after bytes piece result) taken
