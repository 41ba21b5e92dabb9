use Rattle.std.proofs.Common.{◌≡◌, ◌+◌, drop, map, []}
use Rattle.type_split.specs.Streams.{node_view}
use Rattle.value_gen.specs.Leaves.{leaves_of_roots}
use Rattle.value_gen.specs.Made.{roots_from}
use Rattle.value_gen.proofs.making.Making.roots.Given as goal

-- the series so far, and those that are left, are made as all are, and their leaves fill the room that is not left
abbrev pub invariant-roots : goal.invariant-roots
invariant-roots l = record {
  made : roots_from l.count (map node_view l.split.nodes) (drop l.root-index l.root-items) l.found l.self.draws.last
      ≡ roots_from l.count (map node_view l.split.nodes) l.split.roots [] l.initial.self.draws.last;
  room : leaves_of_roots l.found + l.self.room ≡ l.initial.self.room;
}
