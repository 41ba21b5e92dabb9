use Rattle.std.proofs.Common.{◌∙◌, sym}
use Rattle.trace_compare.proofs.FrontLemmas.{front_rest}
use Rattle.trace_compare.proofs.KeepLemmas.{takes-all, takes-other}
use Rattle.trace_compare.proofs.stream_compared.StreamCompared.compare.Goals as goal

pub returns-in-Some : goal.returns-in-Some
returns-in-Some c =
    takes-other c.args.want.now c.args.items.now c.args.cycle c.same_front-count.result c.args.self.now c.requires.none
    (front_rest c.args.want.now c.args.items.now c.args.self.now.same c.same_front-count.result c.same_front-count.ensures) c.in-Some.item (sym c.item_at.ensures ∙ sym c.in_ok-item.ensures ∙ c.in-Some.is)

pub returns-in_default : goal.returns-in_default
returns-in_default c =
    takes-all c.args.want.now c.args.items.now c.args.cycle c.same_front-count.result c.args.self.now c.requires.none
    (front_rest c.args.want.now c.args.items.now c.args.self.now.same c.same_front-count.result c.same_front-count.ensures) (sym c.item_at.ensures ∙ sym c.in_ok-item.ensures ∙ c.in_default.is)
