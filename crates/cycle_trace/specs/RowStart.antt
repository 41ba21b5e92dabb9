-- The bits at the front of a row (this project's own).
use Rattle.std.specs.Prelude.{ℕ, Bool, List, ◌∷◌, Result, Ok, Err}
use Rattle.tydi_base.specs.Reading.{◌>>=◌}
use Rattle.cycle_trace.specs.RowText.{bit_of}

-- the valid bit and the ready bit of the words of a row, and the words of its payload
unfoldable pub row_start : List (List ℕ) → Result (Bool × Bool × List (List ℕ)) (Unit {0})
row_start (valid ∷ ready ∷ payload) = do
  v ← bit_of valid
  r ← bit_of ready
  Ok (v, r, payload)
row_start words = Err tt
