use Rattle.std.proofs.Common.{◌≡◌, drop, map, []}
use Rattle.type_split.specs.Streams.{node_view}
use Rattle.value_text.specs.Port.{roots_from}
use Rattle.value_text.proofs.tokens.Tokens.take_roots.Given as goal

-- the series so far, and those that are left, are read as all are
abbrev pub invariant-roots : goal.invariant-roots
invariant-roots l = roots_from (map node_view l.split.nodes) l.split.roots [] l.initial.self ≡ roots_from (map node_view l.split.nodes) (drop l.root-index l.root-items) l.series l.self
