use Rattle.std.proofs.Common.{take, drop}
use Rattle.std.specs.BTreeSet.{contains}
use Rattle.link_check.specs.Linked.{AreLinked, by_end}
use Rattle.link_check.specs.Wirings.{inside_lent, streamlets_lent}
use Rattle.link_check.proofs.wiring.Wiring.link_all.Given as goal

-- the links so far have no fault
abbrev pub invariant-links : goal.invariant-links
invariant-links l = AreLinked (streamlets_lent l.self) (inside_lent l.self) l.links (take l.link-index l.links) (drop l.link-index l.links) l.linked.nets (contains by_end l.linked.ends.names)
