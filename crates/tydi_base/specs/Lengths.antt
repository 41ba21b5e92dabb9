-- Lengths of texts. This project's own.
use Rattle.std.specs.Prelude.{ℕ, ◌-◌, ◌^◌}

-- the greatest number of bytes that a length can be
abbrev pub most_bytes : ℕ
most_bytes = 2 ^ 64 - 1
