use Rattle.std.proofs.Common.{◌≡◌, map, take}
use Rattle.til_resolve.specs.PlainProject.{plain_streamlet}
use Rattle.link_check.specs.Bodies.{bodies_lent}
use Rattle.link_check.specs.Order.{bodies_from}
use Rattle.link_check.proofs.order.all_bodies.Given as goal

-- the bodies so far are those of the streamlets so far
abbrev pub invariant-streamlets : goal.invariant-streamlets
invariant-streamlets l = bodies_lent (map plain_streamlet l.streamlets) l.bodies ≡ bodies_from 0 (map plain_streamlet (take l.number l.streamlets))
