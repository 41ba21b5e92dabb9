use Rattle.std.proofs.Common.{◌≡◌, ◌+◌, ◌*◌, ◌≤◌, ◌++◌, length}
use Rattle.physical_stream.specs.Items.{lane_items, parts_below}
use Rattle.reshape.specs.Buffers.{KeepsRoom}
use Rattle.reshape.proofs.buffer.Buffer.enter.Given as goal

abbrev pub invariant-lanes : goal.invariant-lanes
invariant-lanes l = record {
  items : l.self.items.items ≡ l.fn.self.items.items ++ parts_below (lane_items l.p l.transfer) l.lane;
  few : length l.self.items.items ≤ length l.fn.self.items.items + l.lane * (1 + l.p.dims);
  words : length l.fn.self.words.items ≤ length l.self.words.items + l.lane;
  kept : KeepsRoom l.fn.self l.self;
}
