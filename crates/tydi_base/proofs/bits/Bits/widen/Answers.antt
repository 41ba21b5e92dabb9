use Rattle.std.proofs.Common.{◌++◌, arith}
use Rattle.tydi_base.specs.Bits.{zero_bits}
use Rattle.tydi_base.proofs.SliceLemmas.{Widened, widened}
use Rattle.tydi_base.proofs.bits.Bits.widen.Goals as goal
use Rattle.tydi_base.proofs.bits.Bits.widen.Goals.{In_ok-resize}

told : (c : In_ok-resize) → Widened c.in-Some.width c.resize.new.self.items (c.args.self.now ++ zero_bits c.args.count)
told c =
    widened c.self.inside.len c.args.count c.in-Some.width c.div_ceil.result c.self.inside.bytes.items c.resize.new.self.items
    c.args.self.now c.self.invariant c.self.view_is (omega arith) c.div_ceil.ensures c.in_ok-resize.ensures.ok c.in_ok-resize.ensures.len

pub invariant_of-self-2 : goal.invariant_of-self-2
invariant_of-self-2 c = (told (goal.at.invariant_of-self-2 c).In_ok-resize).packed

pub returns-clause-ok : goal.returns-clause-ok
returns-clause-ok c = (told (goal.at.returns-clause-ok c).In_ok-resize).word_is
