use Rattle.std.proofs.Common.{List, take, subst}
use Rattle.std.specs.List.{filter_map}
use Rattle.std.specs.BTreeSet.{contains}
use Rattle.til_parser.specs.declared.tree.AstStmt.{AstStmt}
use Rattle.til_resolve.specs.Names.{WrittenInstance, instance_at, instances_again}
use Rattle.til_resolve.specs.Twice.{FindsNames}
use Rattle.til_resolve.specs.Ordered.{by_name}
use Rattle.til_resolve.proofs.EarliestLemmas.{IsEarliest-whole}
use Rattle.til_resolve.proofs.TwiceLemmas.{instances-more, instances_again-more}
use Rattle.til_resolve.proofs.twice.instances_again.Goals as goal

pub stmts-preserved : goal.stmts-preserved
stmts-preserved c =
    let stmts = c.args.stmts.now in
    let adds = c.in_ok-instance_again.ensures (filter_map instance_at (take c.stmts.stmt-index stmts)) c.stmts.invariant.seen in
    record {
      found = rw (c.earlier-found.ensures)
          (instances_again-more stmts c.stmts.stmt-index c.stmt-item.result c.stmts.found c.in_ok-instance_again.field-0 c.stmts-test.true c.stmt-item.is c.stmts.invariant.found adds.again);
      seen = subst (λ (l : List WrittenInstance). FindsNames (contains by_name c.instance_again.new.seen) l)
          (instances-more stmts c.stmts.stmt-index c.stmt-item.result c.stmts-test.true c.stmt-item.is) adds.seen;
    }

pub returns : goal.returns
returns c = IsEarliest-whole (λ (stmts : List AstStmt). instances_again (filter_map instance_at stmts)) c.args.stmts.now c.stmts.stmt-index c.stmts.found c.stmts-test.false c.stmts.invariant.found
