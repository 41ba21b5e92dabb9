use Rattle.std.proofs.Common.{◌∙◌, arith}
use Rattle.value_text.proofs.WrittenLemmas.{number-short}
use Rattle.value_text.proofs.word.decimal_of.Goals as goal

pub returns : goal.returns
returns c = c.number.ensures ∙ number-short c.args.word.now (omega (arith, c.if-len-gt-WIDEST_DECIMAL.false, c.len.ensures))
