-- The blocks of a text so far, as the code keeps them. This project's own.
use Rattle.std.specs.Prelude.{◌≡◌, ◌<◌, List, [], ◌∷◌, length, Option, Some, None, Result, Ok, Err, IfSome, MatchOption}
use Rattle.plan_text.specs.declared.block.Block.{Block}
use Rattle.plan_text.specs.declared.draft.Draft.{Draft}
use Rattle.plan_text.specs.declared.fault.PlanFault.{PlanFault}
use Rattle.plan_text.specs.Blocks.{blocks_from}
use Rattle.plan_text.specs.Faults.{fault_in}

-- the open block and those before it; where none is open there are none
abbrev pub IsOpened : Option Block → List Block → List Block → Type 0
IsOpened None before found = (before ≡ []) × (found ≡ [])
IsOpened (Some block) before found = found ≡ block ∷ before

-- the draft keeps the plans of the blocks before the open one by the numbers of their streams
pub record Holds (draft : Draft) (found : List Block) : Type 0 where
  pub before : List Block
  pub blocks : draft.blocks.items ≡ blocks_from 0 (length draft.streams.list.now) before
  pub opened : IsOpened draft.current before found
  pub within : IfSome draft.current (λ block. block.number < length draft.streams.list.now)

-- the draft keeps all these blocks, and none is open
pub record Keeps (draft : Draft) (found : List Block) : Type 0 where
  pub blocks : draft.blocks.items ≡ blocks_from 0 (length draft.streams.list.now) found

-- after a line the draft has the blocks of a reading, or the line has its fault
abbrev pub Adds : Result (Unit {0}) PlanFault → Draft → Result (List Block) PlanFault → Type 0
Adds (Ok fine) draft read = (found : List Block) × (read ≡ Ok found) × Holds draft found
Adds (Err e) draft read = MatchOption (fault_in e) (Unit {0}) (λ fault. read ≡ Err fault)
