use Rattle.std.proofs.Common.{option_map, sym, ap, ◌∙◌}
use Rattle.std.specs.Borrow.{Bor}
use Rattle.til_resolve.specs.declared.project.Port.{Port}
use Rattle.link_check.proofs.NamedLemmas.{inward-found}
use Rattle.link_check.proofs.chain.inward_of.Goals as goal

pub returns-in-None : goal.returns-in-None
returns-in-None c =
    sym (ap (option_map (λ (port : Bor Port). port.now.inward)) c.in-None.is)
    ∙ inward-found c.args.streamlets.now c.args.number c.args.name.now c.ports_in.result.now c.named_port.result c.ports_in.ensures c.named_port.ensures

pub returns-in-Some : goal.returns-in-Some
returns-in-Some c =
    sym (ap (option_map (λ (port : Bor Port). port.now.inward)) c.in-Some.is)
    ∙ inward-found c.args.streamlets.now c.args.number c.args.name.now c.ports_in.result.now c.named_port.result c.ports_in.ensures c.named_port.ensures
