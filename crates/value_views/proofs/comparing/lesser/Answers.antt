use Rattle.std.proofs.Common.{arith}
use Rattle.value_views.proofs.PacketLemmas.{lesser-most, lesser-none, lesser-some}
use Rattle.value_views.proofs.comparing.lesser.Goals as goal

pub returns-then-left-eq0 : goal.returns-then-left-eq0
returns-then-left-eq0 c = λ series long. lesser-none _ series c.args.count c.in-Some.left long c.if-left-eq0.true c.in-Some.ensures

pub returns-else-left-eq0 : goal.returns-else-left-eq0
returns-else-left-eq0 c = λ series long. lesser-some _ series c.args.count c.in-Some.left long (let some = c.if-left-eq0.false in omega (arith, some)) c.in-Some.ensures

pub returns-in-None : goal.returns-in-None
returns-in-None c = λ series long. lesser-most _ series c.args.count long c.in-None.ensures
