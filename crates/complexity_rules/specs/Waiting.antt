-- The transfer that waits (this project's own).
use Rattle.std.specs.Prelude.{◌≡◌, ◌≤◌, Bool, true, List, Option, Some, None}
use Rattle.physical_stream.specs.Params.{Parameters}
use Rattle.physical_stream.specs.Cycles.{Cycle, items_done}
use Rattle.physical_stream.specs.Items.{items_of}
use Rattle.physical_stream.specs.Shape.{tail_of}
use Rattle.physical_stream.specs.declared.item.Tail.{Tail}
use Rattle.physical_stream.specs.declared.rule.Rule.{Rule}
use Rattle.physical_stream.specs.declared.transfer.Transfer.{Transfer}
use Rattle.complexity_rules.specs.Lowest.{IsLowestFrom}
use Rattle.complexity_rules.specs.Effect.{IsEffect, most_packets}
use Rattle.complexity_rules.specs.declared.effect.Effect.{Effect}

-- where items with this tail are done, this is the lowest rule, the one on waiting transfers aside, that a cycle breaks which
-- shows the transfer, or it breaks none
abbrev pub IsLowestShown : Parameters → Option Tail → Transfer → Option Rule → Type 0
IsLowestShown p tail t lowest = (before : List Cycle) (ready : Bool) → tail ≡ tail_of (items_done p before) → IsLowestFrom p before (record { ready = ready; shown = Some t }) 2 lowest

-- a transfer that waits was looked at when it was offered: this is what it changes, and it breaks no rule
pub record IsJudged (p : Parameters) (waits : Bool) (offered : Transfer) (tail : Option Tail) (effect : Effect) : Type 0 where
  pub changes : waits ≡ true → IsEffect p.dims tail (items_of p offered) effect
  pub few : waits ≡ true → effect.packets ≤ most_packets
  pub kept : waits ≡ true → IsLowestShown p tail offered None
