use Rattle.std.proofs.Common.{List, Contains, subst}
use Rattle.std.specs.List.{filter_map}
use Rattle.til_parser.specs.declared.tree.AstStmt.{AstStmt}
use Rattle.til_resolve.specs.Declarations.{declaration, ports_of_streamlet}
use Rattle.til_resolve.specs.Earliest.{IsEarliest}
use Rattle.til_resolve.specs.Names.{instance_at, instances_again, instances_named_as_ports}
use Rattle.til_resolve.specs.Scope.{declarations_of}
use Rattle.til_resolve.proofs.TwiceLemmas.{names_again_in_impl-of}
use Rattle.til_resolve.proofs.twice.names_again_in_impl.Goals as goal

pub returns : goal.returns
returns c =
    let all = declarations_of c.args.scope.now.declared in
    let stmts = c.in-Structural.stmts in
    names_again_in_impl-of all (declaration all c.args.number).space c.args.target.now c.args.body.now stmts c.named_as-streamlet.result c.in_ok-again.again
    c.instances_named_as_own_ports-as_ports.result c.earlier.result c.in-Structural.is c.named_as-streamlet.ensures.value c.earlier.ensures
    (subst (λ (l : List AstStmt). IsEarliest (Contains (instances_again (filter_map instance_at l))) c.in_ok-again.again) c.as_slice.ensures c.in_ok-again.ensures)
    (subst (λ (l : List AstStmt). IsEarliest (Contains (instances_named_as_ports (ports_of_streamlet all c.named_as-streamlet.result) (filter_map instance_at l)))
    c.instances_named_as_own_ports-as_ports.result) c.as_slice-2.ensures c.instances_named_as_own_ports-as_ports.ensures)
