use Rattle.std.proofs.Common.{sym}
use Rattle.vhdl_text.proofs.CodeLemmas.{between-four}
use Rattle.vhdl_text.proofs.cuts.between.Goals as goal

pub returns-in-Some : goal.returns-in-Some
returns-in-Some c =
    sym (between-four c.args.mark c.args.text.now c.in_ok-front.after.now c.in_ok-inside.back.now c.in-Some.field-0.1.now c.in_ok-front.front.now c.in_ok-inside.inside.now c.in-Some.field-0.0.now
    c.in_ok-front.ensures.some c.in_ok-inside.ensures.some c.in-Some.ensures.some)
