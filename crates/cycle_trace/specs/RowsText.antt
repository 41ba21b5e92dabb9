-- The error of a text that ends where a row is needed (this project's own).
use Rattle.std.specs.Prelude.{ℕ, List, [], ◌∷◌}
use Rattle.cycle_trace.specs.declared.fault.TraceFault.{TraceFault}
use Rattle.cycle_trace.specs.declared.fault.TraceFault.TheVariants.{BadRow, RowsMissing}

-- the error for this rest where a row is needed on the line of this number: nothing is left, or bytes with no LF
abbrev pub cut_row : List ℕ → (want got number : ℕ) → TraceFault
cut_row [] want got number = RowsMissing want got
cut_row (byte ∷ rest) want got number = BadRow number
