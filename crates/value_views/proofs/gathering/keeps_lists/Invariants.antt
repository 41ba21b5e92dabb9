use Rattle.std.proofs.Common.{◌≡◌, drop}
use Rattle.value_views.specs.Way.{keeps_lists}
use Rattle.value_views.proofs.gathering.keeps_lists.Given as goal

-- all are kept where the steps that are left keep them
abbrev pub invariant-way : goal.invariant-way
invariant-way l = keeps_lists l.way ≡ keeps_lists (drop l.step-index l.way)
