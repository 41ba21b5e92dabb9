use Rattle.std.proofs.Common.{◌≡◌, length, take}
use Rattle.vhdl_meaning.specs.Started.{AreBegun}
use Rattle.vhdl_meaning.proofs.starting.begin_all.Given as goal

abbrev pub invariant-programs : goal.invariant-programs
invariant-programs l = record {
  many : length l.places ≡ length l.fn.places;
  begun : AreBegun l.bench.heads (take l.number l.programs) l.fn.lines (take l.number l.places) l.lines;
}
