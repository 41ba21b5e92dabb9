use Rattle.std.proofs.Common.{◌∙◌, arith}
use Rattle.value_gen.proofs.MadeLemmas.{bits-more}
use Rattle.value_gen.proofs.drawing.Drawing.bits.Goals as goal

pub draws-preserved-in_ok-append : goal.draws-preserved-in_ok-append
draws-preserved-in_ok-append c =
    bits-more c.draws.left c.draws.bits c.in_ok-part.part c.append.new.self c.draws.self.last c.part.new.self.last
    (omega arith) c.in_ok-part.ensures c.in_ok-append.ensures.ok ∙ c.draws.invariant

pub draws-preserved : goal.draws-preserved
draws-preserved c =
    bits-more c.draws.left c.draws.bits c.in_ok-part.part c.append.new.self c.draws.self.last c.part.new.self.last
    (omega arith) c.in_ok-part.ensures c.in_ok-append.ensures.ok ∙ c.draws.invariant
