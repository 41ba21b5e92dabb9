use Rattle.std.proofs.Common.{◌≡◌, map, take}
use Rattle.std.specs.List.{flat_map}
use Rattle.split_text.specs.Text.{stream_text}
use Rattle.type_split.specs.Streams.{node_view}
use Rattle.split_text.proofs.streams.write_streams.Given as goal

-- the text of the streams so far
abbrev pub invariant-streams : goal.invariant-streams
invariant-streams l = l.text ≡ flat_map (stream_text (map node_view l.nodes)) (take l.one-index l.streams)
