use Rattle.std.proofs.Common.{◌≡◌, ◌+◌, ◌*◌, ◌≤◌, drop}
use Rattle.logical_types.specs.Tree.{plain, plain_parts}
use Rattle.logical_value.proofs.FitLemmas.{size_of, size_of_parts}
use Rattle.type_split.specs.Nodes.{streams_in_parts}
use Rattle.value_views.specs.Giving.{first_sync_in}
use Rattle.value_views.proofs.given.+first_sync.Given as goal

abbrev pub decreases-first_sync : goal.decreases-first_sync
decreases-first_sync l = 2 * size_of (plain l.ltype.now)

abbrev pub decreases-first_sync_in : goal.decreases-first_sync_in
decreases-first_sync_in l = 2 * size_of_parts (plain_parts l.parts.now) + 1

-- the first Sync Stream of the parts is that of those that are left
abbrev pub invariant-first_sync_in-parts : goal.invariant-first_sync_in-parts
invariant-first_sync_in-parts l = record {
  few : streams_in_parts (plain_parts (drop l.part-index l.parts)) + l.next ≤ 65536;
  rest : first_sync_in l.next (plain_parts (drop l.part-index l.parts)) ≡ first_sync_in l.number (plain_parts l.parts);
}
