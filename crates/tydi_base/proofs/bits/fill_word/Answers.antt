use Rattle.std.proofs.Common.{arith}
use Rattle.tydi_base.proofs.HexBytes.{word_at-none}
use Rattle.tydi_base.proofs.HexFilling.{filled}
use Rattle.tydi_base.proofs.bits.fill_word.Goals as goal

pub returns-then-not-fill_digits-clause-word : goal.returns-then-not-fill_digits-clause-word
returns-then-not-fill_digits-clause-word c =
    word_at-none c.args.width c.args.digits.now (omega arith) c.if-not-fill_digits.ensures

pub returns : goal.returns
returns c =
    let told = filled c.args.width c.args.digits.now c.fill_digits.new.bytes c.has_ones_from.result (omega arith) (omega arith)
    c.if-not-fill_digits.ensures c.has_ones_from.ensures
    in record { packed = told.packed; word = told.word }
