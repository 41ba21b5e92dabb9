use Rattle.std.proofs.Common.{◌∙◌, ◌^◌, arith, sym}
use Rattle.tydi_base.specs.Decimal.{decimal_of}
use Rattle.plan_text.specs.Words.{gap_of}
use Rattle.plan_text.proofs.WordLemmas.{gap_in-none, gap_in-large, gap_in-small}
use Rattle.plan_text.proofs.words.gap_of.Goals as goal

pub returns-in_default : goal.returns-in_default
unfolding gap_of
returns-in_default c = gap_in-none c.args.place (2 ^ 64) (decimal_of c.args.word.now) (omega arith) (sym c.read_decimal.ensures ∙ c.in_default.is)

pub returns-then-gap-gt-MOST_GAP : goal.returns-then-gap-gt-MOST_GAP
unfolding gap_of
returns-then-gap-gt-MOST_GAP c = gap_in-large c.args.place (2 ^ 64) (decimal_of c.args.word.now) _ (sym c.read_decimal.ensures ∙ c.in-Some.is) (omega (arith, c.if-gap-gt-MOST_GAP.true))

pub returns : goal.returns
unfolding gap_of
returns c = gap_in-small c.args.place (2 ^ 64) (decimal_of c.args.word.now) _ (sym c.read_decimal.ensures ∙ c.in-Some.is) (omega (arith, c.if-gap-gt-MOST_GAP.false))
