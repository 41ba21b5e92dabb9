use Rattle.std.proofs.Common.{◌≡◌, drop, map}
use Rattle.std.specs.List.{flat_map}
use Rattle.split_text.specs.Text.{room_behind, stream_text}
use Rattle.type_split.specs.Streams.{node_view}
use Rattle.split_text.proofs.fitting.streams_fit.Given as goal

-- what is left of the room leaves behind the streams that are left what all leave
abbrev pub invariant-streams : goal.invariant-streams
invariant-streams l =
    room_behind l.left (flat_map (stream_text (map node_view l.nodes)) (drop l.one-index l.streams))
    ≡ room_behind l.limit (flat_map (stream_text (map node_view l.nodes)) l.streams)
