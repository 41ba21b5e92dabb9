use Rattle.std.proofs.Common.{arith}
use Rattle.tydi_base.proofs.HexFilling.{cleared}
use Rattle.tydi_base.proofs.bits.fill_or_clear.Goals as goal

pub returns-then-not-spelled-clause-packed : goal.returns-then-not-spelled-clause-packed
returns-then-not-spelled-clause-packed c =
    cleared c.args.width c.fill_word-spelled.new.bytes c.fill.new.self (omega arith) (c.fill.ensures.after (λ y same. same))
