use Rattle.std.proofs.Common.{◌∙◌, sym}
use Rattle.plan_text.proofs.BlockLemmas.{current-within, current-put}
use Rattle.plan_text.proofs.draft.Draft.close.Goals as goal

pub put_block-requires : goal.put_block-requires
put_block-requires c = current-within c.args.self.now c.requires.0 _ c.in-Some.block c.requires.1 (sym c.replace.ensures.value) c.in-Some.is

pub returns-in-Some-clause-kept : goal.returns-in-Some-clause-kept
returns-in-Some-clause-kept c = λ found holds. record {
  blocks = c.put_block.ensures ∙ current-put c.args.self.now found _ c.in-Some.block holds (sym c.replace.ensures.value) c.in-Some.is;
}
