use Rattle.std.proofs.Common.{◌≡◌, [], replicate}
use Rattle.net_text.proofs.draft.no_stages.Given as goal

abbrev pub invariant-streams : goal.invariant-streams
invariant-streams l = l.stages.items ≡ replicate l._number []
