use Rattle.std.proofs.Common.{◌≡◌, ◌+◌, ◌≤◌, ◌++◌, length}
use Rattle.physical_stream.specs.Items.{parts_below}
use Rattle.physical_stream.proofs.ItemsLemmas.{close_at}
use Rattle.reshape.specs.Buffers.{KeepsRoom}
use Rattle.reshape.proofs.buffer.Buffer.enter_closes.Given as goal

abbrev pub invariant-dims : goal.invariant-dims
invariant-dims l = record {
  items : l.self.items.items ≡ l.fn.self.items.items ++ parts_below (close_at l.p l.transfer l.lane) l.dim;
  few : length l.self.items.items ≤ length l.fn.self.items.items + l.dim;
  words : length l.self.words.items ≡ length l.fn.self.words.items;
  kept : KeepsRoom l.fn.self l.self;
}
