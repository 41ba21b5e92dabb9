use Rattle.std.proofs.Common.{◌≡◌, ◌≤◌, take}
use Rattle.trace_compare.specs.Places.{count_since}
use Rattle.trace_compare.proofs.places.count_since.Given as goal

abbrev pub invariant-items : goal.invariant-items
invariant-items l = record {
  count : l.count ≡ count_since l.rank (take l.item-index l.items);
  few : l.count ≤ l.item-index;
}
