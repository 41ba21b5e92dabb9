-- Lanes that mark no end (this project's own).
use Rattle.std.specs.Prelude.{◌≡◌, ℕ, zero, suc, ◌+◌, ◌<◌, ◌≤◌, false, cond, Option, Some}
use Rattle.std.specs.List.{slice_index_or}
use Rattle.std.specs.Int.{bit_at}
use Rattle.physical_stream.specs.Params.{Parameters}
use Rattle.physical_stream.specs.Items.{is_active, last_bit}
use Rattle.physical_stream.specs.declared.transfer.Transfer.{Transfer}

-- how many of so many lanes from one on are active
abbrev pub active_lanes : Transfer → ℕ → ℕ → ℕ
active_lanes t from zero = 0
active_lanes t from (suc count) = active_lanes t from count + cond (is_active t (from + count)) 1 0

-- none of the lanes from one up to another marks an end
abbrev pub AreUnmarked : Parameters → Transfer → ℕ → ℕ → Type 0
AreUnmarked p t from to = (lane dim : ℕ) → from ≤ lane → lane < to → dim < p.dims → last_bit p t lane dim ≡ false

-- where there is such a number, it has a one at the place of each last bit that is set
abbrev pub ShowsMarks : Option ℕ → Transfer → Type 0
ShowsMarks marks t = (number place : ℕ) → marks ≡ Some number → bit_at number place ≡ 0 → slice_index_or t.last place false ≡ false

-- so many bits of a number from a place on are zeros
abbrev pub AreZeros : ℕ → ℕ → ℕ → Type 0
AreZeros number place count = (next : ℕ) → next < count → bit_at number (place + next) ≡ 0
