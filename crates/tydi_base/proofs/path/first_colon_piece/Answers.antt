use Rattle.std.proofs.Common.{◌∙◌, sym, arith}
use Rattle.tydi_base.proofs.ColonLaws.{Searched-found, Searched-more, Searched-all}
use Rattle.tydi_base.proofs.path.first_colon_piece.Goals as goal

pub returns-then-begins_with_colons-clause-some : goal.returns-then-begins_with_colons-clause-some
returns-then-begins_with_colons-clause-some c = Searched-found c.args.text.now c.loop-at.at c.loop-at.invariant (sym c.begins_with_colons.ensures.value ∙ c.if-begins_with_colons.true)

pub loop-at-preserved : goal.loop-at-preserved
loop-at-preserved c = Searched-more c.args.text.now c.loop-at.at (omega arith) c.loop-at.invariant (sym c.begins_with_colons.ensures.value ∙ c.if-begins_with_colons.false)

pub returns-clause-none : goal.returns-clause-none
returns-clause-none c = Searched-all c.args.text.now c.loop-at.at (omega arith) c.loop-at.invariant
