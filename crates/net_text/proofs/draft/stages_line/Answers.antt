use Rattle.std.proofs.Common.{◌∙◌, Some, None, sym}
use Rattle.tydi_base.specs.Pieces.{words_of}
use Rattle.net_text.proofs.LineLemmas.{pieces-some}
use Rattle.net_text.proofs.NetLemmas.{stages_line-named}
use Rattle.net_text.proofs.draft.stages_line.Goals as goal

pub returns-in-Some-find-clause-gives : goal.returns-in-Some-find-clause-gives
returns-in-Some-find-clause-gives c =
    stages_line-named c.args.place c.args.streams.now.list.now (words_of c.args.text.now) (words_of c.in-Some.capacities.now) c.in-Some.word.now c.in-Some-2.path (Some c.in-Some-find.number)
    c.in-Some.ensures.some (pieces-some 32 c.in-Some.capacities.now) (sym c.are_decimals.ensures ∙ c.if-not-are_decimals.false) (sym c.in_ok-path.ensures ∙ c.in-Some-2.is) (sym c.find.ensures.value ∙ c.in-Some-find.is)

pub returns-clause-gives : goal.returns-clause-gives
returns-clause-gives c =
    stages_line-named c.args.place c.args.streams.now.list.now (words_of c.args.text.now) (words_of c.in-Some.capacities.now) c.in-Some.word.now c.in-Some-2.path None
    c.in-Some.ensures.some (pieces-some 32 c.in-Some.capacities.now) (sym c.are_decimals.ensures ∙ c.if-not-are_decimals.false) (sym c.in_ok-path.ensures ∙ c.in-Some-2.is) (sym c.find.ensures.value ∙ c.in-None.is)
