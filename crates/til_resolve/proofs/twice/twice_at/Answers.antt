use Rattle.std.proofs.Common.{◌++◌, List, Contains, subst, ap, ◌∙◌}
use Rattle.til_parser.specs.declared.tree.AstPort.{AstPort}
use Rattle.til_resolve.specs.Declarations.{declaration, own_ports}
use Rattle.til_resolve.specs.Earliest.{IsEarliest}
use Rattle.til_resolve.specs.Names.{declared_again, ports_again, names_again_in_body}
use Rattle.til_resolve.specs.Scope.{declarations_of}
use Rattle.til_resolve.proofs.EarliestLemmas.{IsEarliest-append}
use Rattle.til_resolve.proofs.twice.twice_at.Goals as goal

pub returns : goal.returns
returns c =
    let all = declarations_of c.args.scope.now.declared in
    let one = declaration all c.args.number in
    let ports = subst (λ (l : List AstPort). IsEarliest (Contains (ports_again l)) c.in_ok-in_ports.in_ports) (c.own_ports.ensures ∙ ap (λ d. own_ports d.kind) c.get.ensures.value) c.in_ok-in_ports.ensures in
    rw (c.earlier-2.ensures, c.earlier.ensures)
    (IsEarliest-append (declared_again all c.args.number ++ ports_again (own_ports one.kind)) (names_again_in_body all one) _ c.in_ok-in_body.in_body
    (IsEarliest-append (declared_again all c.args.number) (ports_again (own_ports one.kind)) c.declared_again-again.result c.in_ok-in_ports.in_ports c.declared_again-again.ensures ports)
    c.in_ok-in_body.ensures)
