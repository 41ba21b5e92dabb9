use Rattle.std.proofs.Common.{sym, arith}
use Rattle.tydi_base.proofs.LevelLaws.{made-none, made-some}
use Rattle.tydi_base.proofs.level.made_of.Goals as goal

pub returns-then-first-lt1 : goal.returns-then-first-lt1
returns-then-first-lt1 c = sym (made-none c.args.first c.args.second c.args.third c.args.fourth (λ low high. let less = c.if-first-lt1.true in omega arith))

pub returns-then-first-gt8 : goal.returns-then-first-gt8
returns-then-first-gt8 c = sym (made-none c.args.first c.args.second c.args.third c.args.fourth (λ low high. let more = c.if-first-gt8.true in omega arith))

pub returns : goal.returns
returns c = sym (made-some c.args.first c.args.second c.args.third c.args.fourth (omega (arith, c.if-first-lt1.false)) (omega (arith, c.if-first-gt8.false)))
