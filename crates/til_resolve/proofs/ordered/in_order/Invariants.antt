use Rattle.std.proofs.Common.{◌≡◌, ◌≤◌, length, drop}
use Rattle.til_resolve.specs.Ordered.{by_letters}
use Rattle.til_resolve.proofs.ordered.in_order.Given as goal

-- what stands behind the names so far decides
abbrev pub invariant-names : goal.invariant-names
invariant-names l = record {
  rest : by_letters l.one l.other ≡ by_letters (drop l.index l.one) (drop l.index l.other);
  within : l.index ≤ length l.one;
}
