use Rattle.std.proofs.Common.{◌∙◌, arith, sym}
use Rattle.tydi_base.proofs.NumberLemmas.{fitted-number, word_of_number-none}
use Rattle.tydi_base.proofs.bits.Bits.from_number.Goals as goal

pub returns-then-push_number-ne0 : goal.returns-then-push_number-ne0
returns-then-push_number-ne0 c =
    sym (word_of_number-none c.args.width c.div_ceil-count.result c.args.number c.push_number.result (omega arith)
    c.push_number.ensures.rest c.if-push_number-ne0.true)

pub returns : goal.returns
returns c =
    c.fitted.ensures
    ∙ fitted-number c.args.width c.div_ceil-count.result c.args.number c.push_number.new.bytes.items (omega arith)
    c.push_number.ensures.bits (sym c.if-push_number-ne0.false ∙ c.push_number.ensures.rest)
