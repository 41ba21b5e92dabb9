use Rattle.std.proofs.Common.{◌∙◌, sym, ap, Option}
use Rattle.physical_stream.specs.Items.{items_of}
use Rattle.physical_stream.specs.Shape.{tail_over}
use Rattle.physical_stream.specs.declared.item.Tail.{Tail}
use Rattle.physical_stream.proofs.ShapeLemmas.{tail_of-over}
use Rattle.complexity_rules.proofs.tails.tail_after.Goals as goal

pub returns : goal.returns
returns c done is =
    let carried = items_of c.args.p.now c.args.transfer.now in
    c.kind.ensures ∙ c.walk_over.ensures.found.last ∙ ap (λ (tail : Option Tail). tail_over tail carried) (c.of.ensures ∙ is) ∙ sym (tail_of-over done carried)
