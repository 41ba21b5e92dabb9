use Rattle.std.proofs.Common.{◌≡◌, take}
use Rattle.link_check.specs.Counts.{counted}
use Rattle.link_check.proofs.sizes.count_of.Given as goal

abbrev pub invariant-instances : goal.invariant-instances
invariant-instances l = l.count ≡ counted l.counts (take l.one-index l.instances)
