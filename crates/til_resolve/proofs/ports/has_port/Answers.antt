use Rattle.std.proofs.Common.{ℕ, List, length, ap, ◌∙◌}
use Rattle.til_resolve.specs.Ports.{is_port_before}
use Rattle.til_resolve.specs.Scope.{declarations_of}
use Rattle.til_resolve.proofs.PortLemmas.{has_port-owner}
use Rattle.til_resolve.proofs.ports.has_port.Goals as goal

pub returns-in-Some : goal.returns-in-Some
returns-in-Some c = c.contains.ensures ∙ c.requires.found (c.in-Some.owner, c.new.result)
    ∙ ap (λ (name : List ℕ). is_port_before (declarations_of c.args.scope.now.declared) (length (declarations_of c.args.scope.now.declared)) (c.in-Some.owner, name)) c.new.ensures
    ∙ has_port-owner (declarations_of c.args.scope.now.declared) c.args.streamlet c.in-Some.owner c.args.name.now.name c.in-Some.ensures.value c.in-Some.ensures.within
