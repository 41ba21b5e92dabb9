use Rattle.std.proofs.Common.{Contains, take}
use Rattle.std.specs.List.{filter_map}
use Rattle.std.specs.BTreeSet.{contains}
use Rattle.til_resolve.specs.Earliest.{IsEarliest}
use Rattle.til_resolve.specs.Names.{instances_again, instance_at}
use Rattle.til_resolve.specs.Twice.{FindsNames}
use Rattle.til_resolve.specs.Ordered.{by_name}
use Rattle.til_resolve.proofs.twice.instances_again.Given as goal

-- the first among the instances so far, whose names are found
abbrev pub invariant-stmts : goal.invariant-stmts
invariant-stmts l = record {
  found : IsEarliest (Contains (instances_again (filter_map instance_at (take l.stmt-index l.stmts)))) l.found;
  seen : FindsNames (contains by_name l.seen) (filter_map instance_at (take l.stmt-index l.stmts));
}
