use Rattle.std.proofs.Common.{◌++◌, [], ◌∷◌, ap, ◌∙◌}
use Rattle.link_check.specs.declared.nets.Net.{Net}
use Rattle.link_check.proofs.LinkedLemmas.{linked-either, sees-more}
use Rattle.link_check.proofs.wiring.Wiring.link_one.Goals as goal

pub returns : goal.returns
returns c = λ earlier sees. (
  linked-either _ _ earlier c.args.link.now c.has.result c.has-2.result (c.has.ensures earlier sees) (c.has-2.ensures earlier sees) ∙ c.in_ok-net.ensures.0,
  record {
    nets_are = c.in_ok-push.ensures.ok ∙ ap (λ (net : Net). c.args.linked.now.nets ++ net ∷ []) c.in_ok-net.ensures.1;
    seen = sees-more _ _ _ earlier c.args.link.now sees c.in_ok-add.ensures c.in_ok-add-2.ensures;
  },
)
