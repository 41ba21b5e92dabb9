use Rattle.std.proofs.Common.{◌≡◌, max, drop}
use Rattle.port_gen.specs.Longest.{greatest}
use Rattle.port_gen.proofs.longest.most_left.Given as goal

abbrev pub invariant-streams : goal.invariant-streams
invariant-streams g l = greatest (g.C.CycleFeed.undone l.feed) ≡ max l.most (greatest (drop l.stream (g.C.CycleFeed.undone l.feed)))
