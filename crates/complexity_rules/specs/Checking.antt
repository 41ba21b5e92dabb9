-- The cycles that a checker stands for, and its answer for one more cycle (this project's own).
use Rattle.std.specs.Prelude.{◌≡◌, ℕ, ◌+◌, ◌-◌, ◌^◌, ◌≤◌, if◌then◌else◌, List, [], ◌∷◌, ◌++◌, length, Option, Some, None, is_some, OnSome}
use Rattle.physical_stream.specs.Params.{Parameters}
use Rattle.physical_stream.specs.Cycles.{Cycle, items_done, waiting_of}
use Rattle.physical_stream.specs.Shape.{tail_of}
use Rattle.physical_stream.specs.Counts.{transfers_of, packets_of}
use Rattle.physical_stream.specs.Breaks.{BreaksAfter}
use Rattle.physical_stream.specs.Rules.{number_of_rule}
use Rattle.physical_stream.specs.declared.item.Tail.{Tail}
use Rattle.physical_stream.specs.declared.rule.Rule.{Rule}
use Rattle.physical_stream.specs.declared.transfer.Transfer.{Transfer}
use Rattle.complexity_rules.specs.declared.checker.Checker.{Checker}

-- no rule is broken by the cycle, or this is the one with the lowest number
abbrev pub IsLowestBroken : Parameters → List Cycle → Cycle → Option Rule → Type 0
IsLowestBroken p before now None = (rule : Rule) → BreaksAfter rule p before now → ⊥
IsLowestBroken p before now (Some lowest) =
    BreaksAfter lowest p before now × ((rule : Rule) → BreaksAfter rule p before now → number_of_rule lowest ≤ number_of_rule rule)

-- the stream that a checker checks
abbrev pub params_in : Checker → Parameters
params_in checker = checker.params

-- how many cycles it has seen
abbrev pub seen_in : Checker → ℕ
seen_in checker = checker.seen

-- the most cycles that it counts
abbrev pub most_seen : ℕ
most_seen = 2 ^ 32 - 1

-- the transfer that waits to be taken
abbrev pub waiting_in : Checker → Option Transfer
waiting_in checker = if checker.waits then Some checker.offered else None

-- the state kept of the cycles of a stream: how many they are, the transfer that waits, the kind of the last item done, and how
-- many transfers and packets are done
pub record Keeps (p : Parameters) (cycles : List Cycle) (seen_so_far : ℕ) (offered : Option Transfer) (last : Option Tail) (done packed : ℕ) : Type 0 where
  pub seen : seen_so_far ≡ length cycles
  pub waiting : offered ≡ waiting_of cycles
  pub tail : last ≡ tail_of (items_done p cycles)
  pub transfers : done ≡ transfers_of cycles
  pub packets : packed ≡ packets_of p cycles

-- a checker stands for these cycles of its stream: what it keeps is theirs
abbrev pub StandsFor : Checker → List Cycle → Type 0
StandsFor checker cycles = Keeps (params_in checker) cycles (seen_in checker) (waiting_in checker) checker.tail checker.transfers checker.packets

-- one cycle more: the lowest rule that it breaks, and the checker is as before; or it breaks none, and the checker stands for the
-- longer list
abbrev pub Steps : Checker → Checker → List Cycle → Cycle → Option Rule → Type 0
Steps old new before now None = IsLowestBroken (params_in old) before now None × StandsFor new (before ++ now ∷ [])
Steps old new before now (Some rule) = IsLowestBroken (params_in old) before now (Some rule) × (new ≡ old)

-- a step from one checker to another: for all cycles that the first one stands for, with the stream and the number of cycles seen
pub record IsStep (old new : Checker) (now : Cycle) (broken : Option Rule) : Type 0 where
  pub params : params_in new ≡ params_in old
  pub steps : (before : List Cycle) → StandsFor old before → Steps old new before now broken
  pub kept : OnSome broken (new ≡ old)
  pub seen : seen_in new ≡ (if is_some broken then seen_in old else seen_in old + 1)

-- the second checker is the first one with this cycle seen
pub record Sees (old new : Checker) (now : Cycle) : Type 0 where
  pub params : params_in new ≡ params_in old
  pub stands : (before : List Cycle) → StandsFor old before → StandsFor new (before ++ now ∷ [])
  pub seen : seen_in new ≡ seen_in old + 1
