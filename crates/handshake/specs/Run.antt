-- The run of a stream's transfers (this project's own).
use Rattle.std.specs.Prelude.{◌≡◌, ℕ, suc, ◌-◌, ◌<◌, ◌≤◌, ◌&&◌, Bool, not, nat_le, if◌then◌else◌, List, [], ◌∷◌, ◌++◌, length, take, map, slice_get, slice_index, Option, Some, None, is_some}
use Rattle.physical_stream.specs.Params.{Parameters}
use Rattle.physical_stream.specs.Cycles.{Cycle}
use Rattle.physical_stream.specs.Counts.{transfers_of}
use Rattle.physical_stream.specs.Items.{items_of_all}
use Rattle.physical_stream.specs.Shape.{tail_of}
use Rattle.physical_stream.specs.declared.item.Tail.{Tail}
use Rattle.physical_stream.specs.declared.transfer.Transfer.{Transfer}
use Rattle.complexity_rules.specs.Pauses.{pauses_after}

-- the gap before transfer t: the plan's, zero past its end, where valid may be low after the items of the transfers before it; elsewhere 0
abbrev pub gap_of : Parameters → List Transfer → List ℕ → ℕ → ℕ
gap_of p ts gaps t = if pauses_after p (tail_of (items_of_all p (take t ts))) then slice_index gaps t else 0

-- a transfer is done in the cycle
abbrev pub is_done : Cycle → Bool
is_done c = c.ready && is_some c.shown

-- the cycles since the last one that did a transfer: how long the next transfer has been up
abbrev pub idle_over : ℕ → List Cycle → ℕ
idle_over idle [] = idle
idle_over idle (c ∷ more) = idle_over (if is_done c then 0 else suc idle) more

abbrev pub idle_of : List Cycle → ℕ
idle_of cycles = idle_over 0 cycles

-- the transfer shown after these cycles: the first that is not done, where there is one and its gap has passed
abbrev pub shown_after : Parameters → List Transfer → List ℕ → List Cycle → Option Transfer
shown_after p ts gaps before = if nat_le (gap_of p ts gaps (transfers_of before)) (idle_of before) then slice_get ts (transfers_of before) else None

-- the run of transfers with gaps and ready bits: a cycle for each ready bit, which shows what is to be shown after those before it
pub record IsRun (p : Parameters) (ts : List Transfer) (gaps : List ℕ) (ready : List Bool) (cycles : List Cycle) : Type 0 where
  pub bits : map (λ (c : Cycle). c.ready) cycles ≡ ready
  pub shown : (number : ℕ) (now : Cycle) → slice_get cycles number ≡ Some now → now.shown ≡ shown_after p ts gaps (take number cycles)

-- the cycle after others, by its ready bit
abbrev pub next_cycle : Parameters → List Transfer → List ℕ → List Cycle → Bool → Cycle
next_cycle p ts gaps before bit = record { ready = bit; shown = shown_after p ts gaps before }

-- the run, from these cycles on
abbrev pub run_on : Parameters → List Transfer → List ℕ → List Cycle → List Bool → List Cycle
run_on p ts gaps before [] = before
run_on p ts gaps before (bit ∷ bits) = run_on p ts gaps (before ++ next_cycle p ts gaps before bit ∷ []) bits

abbrev pub run_of : Parameters → List Transfer → List ℕ → List Bool → List Cycle
run_of p ts gaps ready = run_on p ts gaps [] ready

-- how many transfers are not done after the run under these ready bits
abbrev pub undone : Parameters → List Transfer → List ℕ → List Bool → ℕ
undone p ts gaps ready = length ts - transfers_of (run_of p ts gaps ready)

-- so many of these cycles, after those before them, are the least number after which no transfer is left
pub record FinishesAfter (p : Parameters) (ts : List Transfer) (gaps : List ℕ) (before ready : List Bool) (number : ℕ) : Type 0 where
  pub within : number ≤ length ready
  pub over : undone p ts gaps (before ++ take number ready) ≡ 0
  pub least : (fewer : ℕ) → fewer < number → undone p ts gaps (before ++ take fewer ready) ≡ 0 → ⊥

-- whether and when a run finishes: some transfers are left after all of these cycles, or this is the least number of them after which none is
abbrev pub Finishes : Parameters → List Transfer → List ℕ → (before ready : List Bool) → Option ℕ → Type 0
Finishes p ts gaps before ready None = undone p ts gaps (before ++ ready) ≡ 0 → ⊥
Finishes p ts gaps before ready (Some number) = FinishesAfter p ts gaps before ready number
