-- The lowest rule of those that are broken (this project's own).
use Rattle.std.specs.Prelude.{Bool, ◌&&◌, nat_le, ℕ, ◌≤◌, List, Option, Some, None}
use Rattle.tydi_base.specs.Level.{LevelNumbers, number_of}
use Rattle.physical_stream.specs.Params.{Parameters}
use Rattle.physical_stream.specs.Cycles.{Cycle}
use Rattle.physical_stream.specs.Breaks.{BreaksAfter}
use Rattle.physical_stream.specs.Rules.{binds_up_to, number_of_rule}
use Rattle.physical_stream.specs.declared.rule.Rule.{Rule}

-- a rule binds at this level, and what it forbids is there
abbrev pub is_broken : LevelNumbers → Rule → Bool → Bool
is_broken level rule forbidden = nat_le (number_of level) (binds_up_to rule) && forbidden

-- the cycle breaks none of the rules from this number on, or this is the lowest of them that it breaks
abbrev pub IsLowestFrom : Parameters → List Cycle → Cycle → ℕ → Option Rule → Type 0
IsLowestFrom p before now n None = (rule : Rule) → n ≤ number_of_rule rule → BreaksAfter rule p before now → ⊥
IsLowestFrom p before now n (Some lowest) =
    BreaksAfter lowest p before now × ((rule : Rule) → n ≤ number_of_rule rule → BreaksAfter rule p before now → number_of_rule lowest ≤ number_of_rule rule)
