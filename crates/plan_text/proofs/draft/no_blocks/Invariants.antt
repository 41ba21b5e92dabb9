use Rattle.std.proofs.Common.{◌≡◌, []}
use Rattle.plan_text.specs.Blocks.{blocks_from}
use Rattle.plan_text.proofs.draft.no_blocks.Given as goal

abbrev pub invariant-streams : goal.invariant-streams
invariant-streams l = l.made.items ≡ blocks_from 0 l._number []
