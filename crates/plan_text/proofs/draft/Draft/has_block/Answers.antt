use Rattle.std.proofs.Common.{◌∙◌, ap, arith, length, Option}
use Rattle.std.specs.Option.{is_some}
use Rattle.plan_text.specs.declared.plan.StreamPlan.{StreamPlan}
use Rattle.plan_text.proofs.BlockLemmas.{blocks_from-length, blocks_from-get}
use Rattle.plan_text.proofs.draft.Draft.has_block.Goals as goal

pub index-requires : goal.index-requires
index-requires c =
    let size = c.args.self.now.blocks.ok.0 in
    let kept = ap length c.requires.kept.1.blocks ∙ blocks_from-length 0 (length c.args.self.now.streams.list.now) c.requires.kept.0 in
    let within = c.requires.within in
    omega (arith, size, kept, within)

pub returns : goal.returns
returns c = λ found keeps.
    c.is_some.ensures ∙ ap (λ (o : Option StreamPlan). is_some o) (c.index.ensures ∙ rw (keeps.blocks) (blocks_from-get 0 c.args.number (length c.args.self.now.streams.list.now) c.args.number found _ c.requires.within (omega arith)))
