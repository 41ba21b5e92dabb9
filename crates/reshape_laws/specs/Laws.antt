-- The laws of the reshaping run (this project's own).
use Rattle.std.specs.Prelude.{◌≡◌, ℕ, ◌+◌, ◌≤◌, ◌⊎◌, Bool, true, List, [], ◌++◌, length, map, take}
use Rattle.tydi_base.specs.Level.{number_of}
use Rattle.physical_stream.specs.Params.{Parameters}
use Rattle.physical_stream.specs.Breaks.{Breaks}
use Rattle.physical_stream.specs.Counts.{transfers_of}
use Rattle.physical_stream.specs.Cycles.{Cycle, IsShownBy, done_of, items_done}
use Rattle.physical_stream.specs.Ending.{ending_of}
use Rattle.physical_stream.specs.Items.{items_of_all}
use Rattle.physical_stream.specs.declared.end.End.TheVariants as ends
use Rattle.physical_stream.specs.declared.item.Item.{Item}
use Rattle.physical_stream.specs.declared.rule.Rule.{Rule}
use Rattle.physical_stream.specs.declared.transfer.Transfer.{Transfer}
use Rattle.handshake.specs.Laws.{gaps_below, ones_in}
use Rattle.handshake.specs.Run.{run_of}
use Rattle.scheduler.specs.Laws.{AreItems, CanBePlanned}
use Rattle.scheduler.specs.Planned.{plan_of}
use Rattle.steady_run.specs.Steady.{IsSteady}
use Rattle.reshape.specs.Reshaping.{IsReshaping, Sides, behind_front, buffer_after, far_of, front_of, is_due, near_bits_of, sides_of, undone_far}

-- the transfers that are planned at the far side for the items of the source, without wishes
abbrev pub far_plan : (from to : Parameters) → List Transfer → List Transfer
far_plan from to ts = plan_of to [] [] (items_of_all from ts)

-- a source can be reshaped: its items can be planned at the far side, which may pause anywhere
pub record CanBeReshaped (from to : Parameters) (ts : List Transfer) : Type 0 where
  pub can : CanBePlanned to [] (items_of_all from ts)
  pub pauses : (to.dims ≡ 0) ⊎ (3 ≤ number_of to.level)

-- ---- one run

-- two sides are the run of these transfers with these gaps and far ready bits exactly where they are what the function gives
abbrev pub OneReshapingIs : Type 0
OneReshapingIs = (from to : Parameters) (ts : List Transfer) (gaps : List ℕ) (ready : List Bool)
    → IsReshaping from to ts gaps ready (sides_of from to ts gaps ready) × ((sides : Sides) → IsReshaping from to ts gaps ready sides → sides ≡ sides_of from to ts gaps ready)

-- ---- the front of a due buffer

-- the front of a due buffer is the same, whatever comes behind the buffer
pub record HasSameFront (to : Parameters) (buffer more : List Item) : Type 0 where
  pub front : front_of to (buffer ++ more) ≡ front_of to buffer
  pub rest : behind_front to (buffer ++ more) ≡ behind_front to buffer ++ more

-- so it is where nothing comes once the source has ended
abbrev pub DueFrontsStay : Type 0
DueFrontsStay = (to : Parameters) (ended : Bool) (buffer more : List Item) → 1 ≤ to.lanes → AreItems to (buffer ++ more) → (ended ≡ true → more ≡ [])
    → is_due to ended buffer ≡ true → HasSameFront to buffer more

-- ---- the far side

-- the cycles of the far side are steady for the transfers that are planned there
pub record IsReshapedWell (from to : Parameters) (ts : List Transfer) (gaps : List ℕ) (ready : List Bool) : Type 0 where
  -- they have the ready bits of the far side
  pub bits : map (λ (c : Cycle). c.ready) (far_of from to ts gaps ready) ≡ ready
  pub steady : IsSteady (far_plan from to ts) (far_of from to ts gaps ready)
  -- the transfers done are the first of them
  pub front : done_of (far_of from to ts gaps ready) ≡ take (transfers_of (far_of from to ts gaps ready)) (far_plan from to ts)
  -- the items that went out, and those in the buffer, are the items that went in
  pub between : items_done to (far_of from to ts gaps ready) ++ buffer_after from to ts gaps ready ≡ items_done from (run_of from ts gaps (near_bits_of from to ts gaps ready))
  -- the far side can show each transfer that it shows
  pub shown : IsShownBy to (far_of from to ts gaps ready)
  -- no cycle breaks a rule
  pub legal : (rule : Rule) (number : ℕ) → Breaks rule to (far_of from to ts gaps ready) number → ⊥
  -- where no transfer is left, the stream ends whole, and has the items of the source
  pub ends_whole : undone_far from to ts gaps ready ≡ 0 → ending_of to (far_of from to ts gaps ready) ≡ ends.Whole
  pub carries : undone_far from to ts gaps ready ≡ 0 → items_done to (far_of from to ts gaps ready) ≡ items_of_all from ts

-- so it is under all gaps and far ready bits
abbrev pub ReshapingIsLegal : Type 0
ReshapingIsLegal = (from to : Parameters) (ts : List Transfer) (gaps : List ℕ) (ready : List Bool) → CanBeReshaped from to ts → IsReshapedWell from to ts gaps ready

-- no far transfer is left where as many far ready bits are 1 as there are far transfers, source transfers and cycles of the source's effective gaps
abbrev pub ReshapingFinishes : Type 0
ReshapingFinishes = (from to : Parameters) (ts : List Transfer) (gaps : List ℕ) (ready : List Bool) → CanBeReshaped from to ts
    → length (far_plan from to ts) + length ts + gaps_below from ts gaps (length ts) ≤ ones_in ready → undone_far from to ts gaps ready ≡ 0
