use Rattle.std.proofs.Common.{map, take, drop}
use Rattle.til_resolve.specs.PlainProject.{plain_streamlet}
use Rattle.link_check.specs.Bodies.{AreWired}
use Rattle.link_check.proofs.checking.all_nets.Given as goal

-- the implementations so far have no fault
abbrev pub invariant-bodies : goal.invariant-bodies
invariant-bodies l = AreWired (map plain_streamlet l.streamlets) l.bodies (take l.body-index l.bodies) (drop l.body-index l.bodies) l.impls
