use Rattle.std.proofs.Common.{◌≡◌, ◌++◌, drop, map}
use Rattle.type_split.specs.Streams.{gathered, node_view, stream_at}
use Rattle.type_split.proofs.streams.streams_of.Given as goal

-- the streams found, and those that the nodes left give, are all
abbrev pub invariant-nodes : goal.invariant-nodes
invariant-nodes l = l.streams ++ gathered stream_at l.number (map node_view (drop l.number l.nodes)) ≡ gathered stream_at 0 (map node_view l.nodes)
