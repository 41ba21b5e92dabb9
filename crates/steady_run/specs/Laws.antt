-- The laws of steady cycles (this project's own).
use Rattle.std.specs.Prelude.{◌≡◌, ℕ, ◌≤◌, ◌⊎◌, Bool, List, [], ◌∷◌, ◌++◌, length, map, take, Some}
use Rattle.std.specs.List.{All}
use Rattle.tydi_base.specs.Level.{number_of}
use Rattle.physical_stream.specs.Params.{Parameters}
use Rattle.physical_stream.specs.Breaks.{Breaks}
use Rattle.physical_stream.specs.Counts.{transfers_of}
use Rattle.physical_stream.specs.Cycles.{Cycle, IsShownBy, done_of, items_done, waiting_of}
use Rattle.physical_stream.specs.Ending.{ending_of}
use Rattle.physical_stream.specs.Signals.{Shows}
use Rattle.physical_stream.specs.declared.end.End.TheVariants as ends
use Rattle.physical_stream.specs.declared.item.Item.{Item}
use Rattle.physical_stream.specs.declared.rule.Rule.{Rule}
use Rattle.physical_stream.specs.declared.transfer.Transfer.{Transfer}
use Rattle.plan_text.specs.declared.plan.Wish.{Wish}
use Rattle.handshake.specs.Run.{run_of}
use Rattle.scheduler.specs.Laws.{CanBePlanned}
use Rattle.scheduler.specs.Planned.{Planned}
use Rattle.steady_run.specs.Steady.{IsSteady, PausesAnywhere, next_of}

-- a stream without dimensions pauses anywhere, and so does one whose level has 3 or more as its first number
abbrev pub HighStreamsPause : Type 0
HighStreamsPause = (p : Parameters) → (p.dims ≡ 0) ⊎ (3 ≤ number_of p.level) → PausesAnywhere p

-- no cycles are steady; and steady cycles stay so with one more that shows nothing or the next transfer, and what waits
abbrev pub SteadyGrows : Type 0
SteadyGrows =
    ((ts : List Transfer) → IsSteady ts [])
    × ((ts : List Transfer) (before : List Cycle) (now : Cycle) → IsSteady ts before → ((t : Transfer) → now.shown ≡ Some t → next_of ts before ≡ Some t)
    → ((t : Transfer) → waiting_of before ≡ Some t → now.shown ≡ Some t) → IsSteady ts (before ++ now ∷ []))

-- the transfers done are a front of those to be shown
abbrev pub SteadyIsFront : Type 0
SteadyIsFront = (ts : List Transfer) (cycles : List Cycle) → IsSteady ts cycles → done_of cycles ≡ take (transfers_of cycles) ts

-- the cycles are a run of these transfers under gaps, none of which is longer than the cycles
pub record IsGappedRun (p : Parameters) (ts : List Transfer) (cycles : List Cycle) : Type 0 where
  pub gaps : List ℕ
  pub few : All (λ gap. gap ≤ length cycles) gaps
  pub run : cycles ≡ run_of p ts gaps (map (λ (c : Cycle). c.ready) cycles)

-- so are steady cycles of a stream that pauses anywhere: the gap of a transfer is how long it was held back
abbrev pub SteadyIsRun : Type 0
SteadyIsRun = (p : Parameters) (ts : List Transfer) (cycles : List Cycle) → PausesAnywhere p → IsSteady ts cycles → IsGappedRun p ts cycles

-- steady cycles show only what the stream can show, where it can show each of the transfers
abbrev pub SteadyIsShown : Type 0
SteadyIsShown = (p : Parameters) (ts : List Transfer) (cycles : List Cycle) → All (Shows p) ts → IsSteady ts cycles → IsShownBy p cycles

-- the cycles break no rule; where all of these transfers are done, the stream ends whole, and the items are done
pub record IsLegalSteady (p : Parameters) (items : List Item) (ts : List Transfer) (cycles : List Cycle) : Type 0 where
  pub legal : (rule : Rule) (number : ℕ) → Breaks rule p cycles number → ⊥
  pub ends_whole : transfers_of cycles ≡ length ts → ending_of p cycles ≡ ends.Whole
  pub carries : transfers_of cycles ≡ length ts → items_done p cycles ≡ items

-- so it is with steady cycles of planned transfers, where the stream pauses anywhere
abbrev pub SteadyPlansAreLegal : Type 0
SteadyPlansAreLegal = (p : Parameters) (wishes : List Wish) (users : List (List Bool)) (items : List Item) (ts : List Transfer) (cycles : List Cycle)
    → PausesAnywhere p → CanBePlanned p wishes items → Planned p wishes users items ts → IsSteady ts cycles → IsLegalSteady p items ts cycles
