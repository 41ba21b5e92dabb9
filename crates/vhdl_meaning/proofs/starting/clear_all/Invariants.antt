use Rattle.std.proofs.Common.{◌≡◌, length, take, drop, map}
use Rattle.vhdl_meaning.proofs.StartLemmas.{zero_of}
use Rattle.vhdl_meaning.proofs.starting.clear_all.Given as goal

abbrev pub invariant-streams : goal.invariant-streams
invariant-streams l = record {
  many : length l.lines ≡ length l.fn.lines;
  cleared : take l.stream l.lines ≡ map zero_of (take l.stream l.heads);
  left : drop l.stream l.lines ≡ drop l.stream l.fn.lines;
}
