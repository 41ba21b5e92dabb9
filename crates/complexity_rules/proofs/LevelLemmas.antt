-- Every greater level allows what one level allows: the level decides only which rules bind, not what a rule forbids.
use Rattle.std.proofs.Common.{◌≡◌, ◌∙◌, ℕ, ◌<◌, List, length, get_or, take, slice_get, Option, Some, None, arith, ap, subst}
use Rattle.std.proofs.lemmas.Option.{slice_get-get_or, slice_get_within}
use Rattle.physical_stream.specs.Params.{Parameters}
use Rattle.physical_stream.specs.Cycles.{Cycle, StreamTrace, items_done}
use Rattle.physical_stream.specs.Breaks.{BreaksLaneLast, BreaksStrobe, BreaksEmpty, BreaksNest, Breaking, BreaksAfter, BreaksBy, OnShown, Forbids}
use Rattle.physical_stream.specs.Ending.{ending_of}
use Rattle.physical_stream.specs.declared.item.Item.{Item}
use Rattle.physical_stream.specs.declared.rule.Rule.{Rule}
use Rattle.physical_stream.specs.declared.rule.Rule.TheVariants.{LaneLast, Strobe, Empty, Nest}
use Rattle.physical_stream.specs.declared.transfer.Transfer.{Transfer}
use Rattle.tydi_base.specs.Level.{LevelNumbers}
use Rattle.tydi_base.proofs.LevelOrder.{numbers_rise}
use Rattle.physical_stream.specs.Levels.{at_level}
use Rattle.complexity_rules.specs.Levels.{AtMostIsRaised, BreaksBelow, FirstNumbersBind, RulesBindBelow, RulesBreakBelow, IsRaised, OffencesFall, OffencesFallBy, EndingStays}

-- a rule on the transfer that is shown, where one forbids no more than another
on_shown : (P Q : Transfer → Type 0) → ((t : Transfer) → P t → Q t) → (shown : Option Transfer) → OnShown P shown → OnShown Q shown
on_shown P Q less None broken = broken
on_shown P Q less (Some t) broken = less t broken

lane_last-at_level : (level : LevelNumbers) (p : Parameters) (t : Transfer) → BreaksLaneLast (at_level level p) t → BreaksLaneLast p t
lane_last-at_level level p t broken = record { lane = broken.lane; dim = broken.dim; early = broken.early; within = broken.within; marked = broken.marked }

strobe-at_level : (level : LevelNumbers) (p : Parameters) (t : Transfer) → BreaksStrobe (at_level level p) t → BreaksStrobe p t
strobe-at_level level p t broken = record {
  one = broken.one;
  other = broken.other;
  one_within = broken.one_within;
  other_within = broken.other_within;
  one_set = broken.one_set;
  other_clear = broken.other_clear;
}

empty-at_level : (level : LevelNumbers) (p : Parameters) (done : List Item) (t : Transfer) → BreaksEmpty (at_level level p) done t → BreaksEmpty p done t
empty-at_level level p done t broken = record { inactive = broken.inactive; closes = broken.closes }

nest-at_level : (level : LevelNumbers) (p : Parameters) (done : List Item) (t : Transfer) → BreaksNest (at_level level p) done t → BreaksNest p done t
nest-at_level level p done t broken = record { front = broken.front; dim = broken.dim; rest = broken.rest; splits = broken.splits; misplaced = broken.misplaced }

-- a rule forbids the same at each level
forbids-at_level : (rule : Rule) (level : LevelNumbers) (p : Parameters) (before : List Cycle) (now : Cycle) → Forbids rule (at_level level p) before now → Forbids rule p before now
forbids-at_level LaneLast level p before now broken = on_shown (BreaksLaneLast (at_level level p)) (BreaksLaneLast p) (lane_last-at_level level p) now.shown broken
forbids-at_level Strobe level p before now broken = on_shown (BreaksStrobe (at_level level p)) (BreaksStrobe p) (strobe-at_level level p) now.shown broken
forbids-at_level Empty level p before now broken =
    on_shown (BreaksEmpty (at_level level p) (items_done p before)) (BreaksEmpty p (items_done p before)) (empty-at_level level p (items_done p before)) now.shown broken
forbids-at_level Nest level p before now broken =
    on_shown (BreaksNest (at_level level p) (items_done p before)) (BreaksNest p (items_done p before)) (nest-at_level level p (items_done p before)) now.shown broken
forbids-at_level other level p before now broken = broken

-- a cycle that breaks a rule at the greater level breaks it at the lower one
pub rules_break_below : RulesBreakBelow
rules_break_below rule level p before now higher broken = (
  (let binds = broken.0 in omega arith),
  forbids-at_level rule level p before now broken.1,
)

breaks_fall : (Broken : Breaking) → BreaksBelow Broken → (rule : Rule) (number : ℕ) (low high : StreamTrace) → IsRaised low high →
    BreaksBy Broken rule high.params high.cycles number → BreaksBy Broken rule low.params low.cycles number
breaks_fall Broken below rule number low high raised broken = record {
  now = broken.now;
  stands = subst (λ (cycles : List Cycle). slice_get cycles number ≡ Some broken.now) raised.cycles broken.stands;
  broken =
      below rule high.params.level low.params (take number low.cycles) broken.now raised.level
      (subst (λ (p : Parameters). Broken rule p (take number low.cycles) broken.now) raised.params
      (subst (λ (cycles : List Cycle). Broken rule high.params (take number cycles) broken.now) raised.cycles broken.broken));
}

-- so it is by any rules that are broken at lower levels too
pub offences_fall_by : (Broken : ℕ → Breaking) → ((stream : ℕ) → BreaksBelow (Broken stream)) → OffencesFallBy Broken
offences_fall_by Broken below from to o raised offends =
    let low = get_or from o.stream offends.trace in
    let within : o.stream < length to = slice_get_within to o.stream offends.trace offends.stands in
    let many = raised.many in
    let here : slice_get from o.stream ≡ Some low = slice_get-get_or from o.stream offends.trace (omega arith) in
    record {
      trace = low;
      stands = here;
      breaks = breaks_fall (Broken o.stream) (below o.stream) o.rule o.cycle low offends.trace (raised.each o.stream low offends.trace here offends.stands) offends.breaks;
    }

pub offences_fall : OffencesFall
offences_fall = offences_fall_by (λ stream. BreaksAfter) (λ stream. rules_break_below)

pub ending_stays : EndingStays
ending_stays from to raised = ap (ending_of to.params) raised.cycles ∙ ap (λ (p : Parameters). ending_of p from.cycles) raised.params

pub rules_bind_below : RulesBindBelow
rules_bind_below rule lower level under binds = let rises = numbers_rise lower level under in omega arith

pub first_numbers_bind : FirstNumbersBind
first_numbers_bind rule level other same = (λ binds. omega arith, λ binds. omega arith)

pub at_most_is_raised : AtMostIsRaised
at_most_is_raised from to cycles params under = record { cycles = cycles; params = params; level = numbers_rise from.params.level to.params.level under }
