use Rattle.std.proofs.Common.{ap, ◌∙◌}
use Rattle.til_resolve.specs.Declarations.{declaration, own_ports}
use Rattle.til_resolve.specs.Scope.{declarations_of}
use Rattle.til_resolve.proofs.PortsWrittenLemmas.{port-written, written-more, written-all}
use Rattle.til_resolve.proofs.streamlets.written_ports.Goals as goal

pub port_of-requires-clause-written : goal.port_of-requires-clause-written
port_of-requires-clause-written c =
    let all = declarations_of c.args.scope.now.declared in
    port-written all c.args.number c.ports.port-index c.own_ports-port-items.result.now c.port-item.result c.requires.within (c.own_ports-port-items.ensures ∙ ap (λ d. own_ports d.kind) c.get.ensures.value)
    c.ports-test.true c.port-item.is

pub ports-preserved : goal.ports-preserved
ports-preserved c =
    let all = declarations_of c.args.scope.now.declared in
    rw (c.in_ok-push.ensures.ok) (written-more all (declaration all c.args.number).space c.own_ports-port-items.result.now c.ports.port-index c.port-item.result c.ports.ports
    c.in_ok-port_of.field-0 c.ports-test.true c.port-item.is c.ports.invariant c.in_ok-port_of.ensures)

pub returns : goal.returns
returns c =
    let all = declarations_of c.args.scope.now.declared in
    let listed = c.own_ports-port-items.ensures ∙ ap (λ d. own_ports d.kind) c.get.ensures.value in
    written-all all c.args.number c.ports.port-index c.own_ports-port-items.result.now c.ports.ports listed c.ports-test.false c.ports.invariant
