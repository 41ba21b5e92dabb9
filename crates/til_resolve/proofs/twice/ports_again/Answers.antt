use Rattle.std.proofs.Common.{ℕ, List, map, nat_eq, take, not}
use Rattle.std.specs.Char.{to_ascii_lowercase}
use Rattle.std.specs.Cmp.Lexicographic.{pointwise, slice_cmp}
use Rattle.std.specs.Ordering.{nat_cmp}
use Rattle.std.specs.Str.{str_eq_ignore_ascii_case}
use Rattle.std.specs.BTreeSet.{contains}
use Rattle.til_parser.specs.declared.tree.AstPort.{AstPort}
use Rattle.til_resolve.specs.Names.{ports_again}
use Rattle.til_resolve.proofs.EarliestLemmas.{IsEarliest-whole}
use Rattle.til_resolve.proofs.AgainLemmas.{seconds-more}
use Rattle.til_resolve.proofs.TwiceLemmas.{seen-more, seen-again}
use Rattle.til_resolve.proofs.twice.ports_again.Goals as goal

pub ports-preserved : goal.ports-preserved
ports-preserved c =
    let eq = pointwise nat_eq in
    let order = slice_cmp nat_cmp in
    let ports = c.args.ports.now in
    let key : AstPort → List ℕ = λ port. map to_ascii_lowercase port.name.name in
    let value = c.in_ok-lowered.field-0 in
    record {
      found = rw (c.earlier-found.ensures, c.then_some.ensures)
          (seconds-more (λ first second. str_eq_ignore_ascii_case first.name.name second.name.name) (λ port. port.name.place) ports c.ports.port-index c.port-item.result c.ports.found
          (not c.in_ok-is_new.is_new) c.ports-test.true c.port-item.is
          (seen-again eq (contains order c.ports.seen) key (take c.ports.port-index ports) c.port-item.result value c.in_ok-is_new.is_new c.in_ok-lowered.ensures c.in_ok-is_new.ensures.new c.ports.invariant.seen)
          c.ports.invariant.found);
      seen = seen-more eq (contains order c.ports.seen) (contains order c.note.new.keys) key ports c.ports.port-index c.port-item.result value c.ports-test.true c.port-item.is
          c.in_ok-lowered.ensures c.ports.invariant.seen c.in_ok-is_new.ensures.added;
    }

pub returns : goal.returns
returns c = IsEarliest-whole ports_again c.args.ports.now c.ports.port-index c.ports.found c.ports-test.false c.ports.invariant.found
