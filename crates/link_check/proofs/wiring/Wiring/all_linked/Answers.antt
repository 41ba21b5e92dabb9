use Rattle.std.proofs.Common.{◌&&◌, ap, sym, ◌∙◌}
use Rattle.link_check.proofs.LinkedLemmas.{all-linked, short}
use Rattle.link_check.proofs.wiring.Wiring.all_linked.Goals as goal

pub returns-then-have_all : goal.returns-then-have_all
returns-then-have_all c = λ links sees.
    ap (λ b. b && c.instances_linked.result) (sym c.if-have_all.true) ∙ ap (λ b. c.have_all.result && b) (c.instances_linked.ensures links sees)
    ∙ all-linked c.args.self.now.streamlets.now c.args.self.now.home c.args.self.now.instances.now links _ c.have_all.result c.ports_at.ensures (c.have_all.ensures links sees)

pub returns-else-have_all : goal.returns-else-have_all
returns-else-have_all c = λ links sees.
    short c.have_all.result _ c.if-have_all.false
    ∙ all-linked c.args.self.now.streamlets.now c.args.self.now.home c.args.self.now.instances.now links _ c.have_all.result c.ports_at.ensures (c.have_all.ensures links sees)
