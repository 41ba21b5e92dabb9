-- The laws of all plans (this project's own).
use Rattle.std.specs.Prelude.{◌≡◌, ℕ, ◌+◌, ◌*◌, ◌<◌, ◌≤◌, Bool, true, List, [], ◌∷◌, length}
use Rattle.std.specs.List.{All}
use Rattle.tydi_base.specs.Level.{number_of}
use Rattle.physical_stream.specs.Signals.{Shows}
use Rattle.physical_stream.specs.Params.{Parameters}
use Rattle.physical_stream.specs.Counts.{transfers_of}
use Rattle.physical_stream.specs.Items.{items_of_all}
use Rattle.physical_stream.specs.Shape.{tail_of, is_whole, IsNested}
use Rattle.physical_stream.specs.Ending.{ending_of}
use Rattle.physical_stream.specs.Breaks.{Breaks}
use Rattle.physical_stream.specs.declared.item.Item.{Item}
use Rattle.physical_stream.specs.declared.item.Item.TheVariants.{Elem, Close}
use Rattle.physical_stream.specs.declared.rule.Rule.{Rule}
use Rattle.physical_stream.specs.declared.end.End.TheVariants as ends
use Rattle.physical_stream.specs.declared.transfer.Transfer.{Transfer}
use Rattle.handshake.specs.Run.{run_of}
use Rattle.scheduler.specs.Planned.{Planned, MasksFit}
use Rattle.plan_text.specs.declared.plan.Wish.{Wish}

-- the elements have the width of the stream, and the Closes are of its dimensions
abbrev pub AreItems : Parameters → List Item → Type 0
AreItems p [] = Unit {0}
AreItems p (Elem word ∷ more) = (length word ≡ p.element) × AreItems p more
AreItems p (Close dim ∷ more) = (dim < p.dims) × AreItems p more

-- the lanes divide the elements, where whole transfers are asked for
abbrev pub IsMultiple : Parameters → List Item → Type 0
IsMultiple p items = p.dims ≡ 0 → number_of p.level ≤ 4 → (m : ℕ) × (length items ≡ m * p.lanes)

-- items that can be planned: those of a stream, nested and with nothing open, in whole transfers where those are asked for
pub record CanBePlanned (p : Parameters) (wishes : List Wish) (items : List Item) : Type 0 where
  pub lanes : 1 ≤ p.lanes
  pub fit : AreItems p items
  pub nested : IsNested items
  pub whole : is_whole p.dims (tail_of items) ≡ true
  pub multiple : IsMultiple p items
  pub masks : MasksFit p wishes

-- there is one list of transfers, with the items, and at most as long as items and wishes
pub record IsPlannedOnce (p : Parameters) (wishes : List Wish) (users : List (List Bool)) (items : List Item) : Type 0 where
  pub some : (ts : List Transfer) × Planned p wishes users items ts
  pub once : (one other : List Transfer) → Planned p wishes users items one → Planned p wishes users items other → one ≡ other
  pub carries : (ts : List Transfer) → Planned p wishes users items ts → items_of_all p ts ≡ items
  pub few : (ts : List Transfer) → Planned p wishes users items ts → length ts ≤ length items + length wishes

abbrev pub OneIsPlanned : Type 0
OneIsPlanned = (p : Parameters) (wishes : List Wish) (users : List (List Bool)) (items : List Item) → CanBePlanned p wishes items → IsPlannedOnce p wishes users items

-- under all gaps and ready bits its run breaks no rule, and ends whole where all transfers are done
pub record IsLegalRun (p : Parameters) (ts : List Transfer) (gaps : List ℕ) (ready : List Bool) : Type 0 where
  pub legal : (rule : Rule) (number : ℕ) → Breaks rule p (run_of p ts gaps ready) number → ⊥
  pub ends_whole : transfers_of (run_of p ts gaps ready) ≡ length ts → ending_of p (run_of p ts gaps ready) ≡ ends.Whole

abbrev pub PlannedRunsAreLegal : Type 0
PlannedRunsAreLegal = (p : Parameters) (wishes : List Wish) (users : List (List Bool)) (items : List Item) (ts : List Transfer) (gaps : List ℕ) (ready : List Bool) →
    CanBePlanned p wishes items → Planned p wishes users items ts → IsLegalRun p ts gaps ready

-- each user word is as wide as the stream's
abbrev pub UsersFit : Parameters → List (List Bool) → Type 0
UsersFit p [] = Unit {0}
UsersFit p (user ∷ more) = (length user ≡ p.user) × UsersFit p more

-- the stream can show each transfer: it fits, and absent signals stand at their defaults
abbrev pub PlannedAreShown : Type 0
PlannedAreShown = (p : Parameters) (wishes : List Wish) (users : List (List Bool)) (items : List Item) (ts : List Transfer) →
    CanBePlanned p wishes items → UsersFit p users → Planned p wishes users items ts → All (Shows p) ts
