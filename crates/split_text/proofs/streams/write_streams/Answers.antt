use Rattle.std.proofs.Common.{map, arith}
use Rattle.split_text.specs.Text.{stream_text}
use Rattle.type_split.specs.Streams.{node_view}
use Rattle.split_text.proofs.TextLemmas.{front-is}
use Rattle.split_text.proofs.streams.write_streams.Goals as goal

pub returns-then-len-limit : goal.returns-then-len-limit
returns-then-len-limit c =
    front-is (stream_text (map node_view c.args.nodes.now)) c.args.streams.now c.streams.one-index c.args.limit c.one-item.result c.streams.text c.write_stream.new.text
    c.streams-test.true c.one-item.is c.streams.invariant c.in_ok-write_stream.ensures (omega (arith, c.if-len-limit.true, c.len.ensures))
