use Rattle.std.proofs.Common.{◌≡◌, List, [], length}
use Rattle.plan_text.specs.Blocks.{blocks_of}
use Rattle.plan_text.specs.declared.block.Block.{Block}
use Rattle.plan_text.specs.Draft.{Holds}
use Rattle.plan_text.specs.Lines.{told}
use Rattle.plan_text.proofs.reading.read_plans.Given as goal

-- the draft has blocks with which the lines that are left give what all did

abbrev pub invariant-lines : goal.invariant-lines
invariant-lines l = (found : List Block) × (Holds l.draft found) × (l.draft.streams.list.now ≡ l.fn.streams)
    × (blocks_of l.cycles l.fn.streams found (told l.lines) ≡ blocks_of l.cycles l.fn.streams [] (told l.fn.lines))

abbrev pub decreases-lines : goal.decreases-lines
decreases-lines l = length (told l.lines)
