use Rattle.std.proofs.Common.{◌≡◌, drop}
use Rattle.reshape.specs.Buffers.{KeepsRoom}
use Rattle.reshape.proofs.buffer.Buffer.release.Given as goal

abbrev pub invariant-items : goal.invariant-items
invariant-items l = record {
  items : l.self.items.items ≡ drop l.counter l.fn.self.items.items;
  kept : KeepsRoom l.fn.self l.self;
}
