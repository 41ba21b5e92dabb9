use Rattle.std.proofs.Common.{Some, Option, option_map, IfSome, refl, ap, sym, subst, ◌∙◌}
use Rattle.std.specs.Borrow.{Bor}
use Rattle.til_resolve.specs.PlainProject.{plain_port}
use Rattle.til_resolve.specs.declared.project.Port.{Port}
use Rattle.link_check.specs.Ends as ends
use Rattle.link_check.specs.Ends.{instance_side}
use Rattle.link_check.proofs.NamedLemmas.{side-found}
use Rattle.link_check.specs.Wirings.{HasTypeIn}
use Rattle.link_check.proofs.TypedLemmas.{side-typed}
use Rattle.link_check.proofs.wiring.Wiring.side_in.Goals as goal

pub returns-in-None-clause-value : goal.returns-in-None-clause-value
returns-in-None-clause-value c =
    sym (ap (option_map instance_side) (side-found c.args.self.now.streamlets.now c.args.one.now.streamlet c.args.name.now c.port.result c.port.ensures.value
    ∙ ap (option_map (λ (port : Bor Port). plain_port port.now)) c.in-None.is))

pub returns-in-Some-clause-value : goal.returns-in-Some-clause-value
returns-in-Some-clause-value c =
    ap (λ (side : ends.Side). Some side) c.side_with.ensures.value
    ∙ sym (ap (option_map instance_side) (side-found c.args.self.now.streamlets.now c.args.one.now.streamlet c.args.name.now c.port.result c.port.ensures.value
    ∙ ap (option_map (λ (port : Bor Port). plain_port port.now)) c.in-Some.is))

pub returns-in-Some-clause-typed : goal.returns-in-Some-clause-typed
returns-in-Some-clause-typed c = λ types all.
    side-typed types c.in-Some.port.now c.side_with.result _ (subst (λ (o : Option (Bor Port)). IfSome o (λ port. HasTypeIn c.args.self.now.streamlets.now port.now)) c.in-Some.is c.port.ensures.typed types all)
    c.side_with.ensures.value refl c.side_with.ensures.declared
