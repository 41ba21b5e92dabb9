-- The rows of a port: those of the runs of its streams, by cycle and then by stream (this project's own).
use Rattle.std.specs.Prelude.{◌≡◌, ℕ, zero, suc, Bool, false, List, [], ◌∷◌, ◌++◌, map, take, drop, get_or, Option, None, MatchOption}
use Rattle.physical_stream.specs.Params.{Parameters}
use Rattle.physical_stream.specs.Cycles.{Cycle, cycle_in}
use Rattle.physical_stream.specs.declared.row.Row.{Row}
use Rattle.physical_stream.specs.declared.transfer.Transfer.{Transfer}
use Rattle.handshake.specs.Run.{next_cycle, run_of, undone}

-- the first of the rows, where there is one
abbrev pub FirstRow : List Cycle → Option Row → Type 0
FirstRow [] given = given ≡ None
FirstRow (row ∷ rows) given = MatchOption given ⊥ (λ r. cycle_in r ≡ row)

-- the rows after the first
abbrev pub rows_behind : List Cycle → List Cycle
rows_behind [] = []
rows_behind (row ∷ rows) = rows

-- one stream of a port: its parameters, its transfers and their gaps in cycles, and its ready bits
pub record StreamRun : Type 0 where
  pub params : Parameters
  pub transfers : List Transfer
  pub gaps : List ℕ
  pub ready : List Bool

-- the cycle of this number of a stream's run: the one after the run under the ready bits before it
abbrev pub row_at : ℕ → StreamRun → Cycle
row_at number s = next_cycle s.params s.transfers s.gaps (run_of s.params s.transfers s.gaps (take number s.ready)) (get_or s.ready number false)

-- the rows of so many cycles from this one on
abbrev pub rows_from : List StreamRun → (number many : ℕ) → List Cycle
rows_from runs number zero = []
rows_from runs number (suc many) = map (row_at number) runs ++ rows_from runs (suc number) many

-- the same without the rows of so many streams of the first of these cycles
abbrev pub rows_after : List StreamRun → (stream number many : ℕ) → List Cycle
rows_after runs stream number zero = []
rows_after runs stream number (suc many) = map (row_at number) (drop stream runs) ++ rows_from runs (suc number) many

-- how many transfers of each stream are not done after all cycles
abbrev pub undone_in : List StreamRun → List ℕ
undone_in runs = map (λ (s : StreamRun). undone s.params s.transfers s.gaps s.ready) runs
