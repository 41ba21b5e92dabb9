use Rattle.std.proofs.Common.{List}
use Rattle.std.specs.List.{filter_map}
use Rattle.til_parser.specs.declared.tree.AstStmt.{AstStmt}
use Rattle.til_resolve.specs.Declarations.{declaration, ports_of}
use Rattle.til_resolve.specs.Names.{instance_at, instances_named_as_ports}
use Rattle.til_resolve.specs.Scope.{declarations_of}
use Rattle.til_resolve.proofs.EarliestLemmas.{IsEarliest-grown, IsEarliest-whole}
use Rattle.til_resolve.proofs.TwiceLemmas.{named_as_ports-append}
use Rattle.til_resolve.proofs.twice.instances_named_as_ports.Goals as goal

pub stmts-preserved : goal.stmts-preserved
stmts-preserved c =
    let all = declarations_of c.args.scope.now.declared in
    let own = ports_of all (declaration all c.args.streamlet) in
    IsEarliest-grown (λ (stmts : List AstStmt). instances_named_as_ports own (filter_map instance_at stmts)) c.args.stmts.now c.stmts.stmt-index c.stmt-item.result c.stmts.found
    c.instance_named_as_port.result c.earlier-found.result (named_as_ports-append own) c.stmts-test.true c.stmt-item.is c.earlier-found.ensures c.stmts.invariant c.instance_named_as_port.ensures

pub returns : goal.returns
returns c =
    let all = declarations_of c.args.scope.now.declared in
    let own = ports_of all (declaration all c.args.streamlet) in
    IsEarliest-whole (λ (stmts : List AstStmt). instances_named_as_ports own (filter_map instance_at stmts)) c.args.stmts.now c.stmts.stmt-index c.stmts.found c.stmts-test.false c.stmts.invariant
