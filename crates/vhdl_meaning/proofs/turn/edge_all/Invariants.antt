use Rattle.std.proofs.Common.{take}
use Rattle.vhdl_meaning.specs.Turns.{Turns}
use Rattle.vhdl_meaning.proofs.turn.edge_all.Given as goal

abbrev pub invariant-turns : goal.invariant-turns
invariant-turns l = Turns l.bench.heads l.bench.procs l.ready (take l.number-index l.order) l.fn.places l.places l.fn.lines l.lines
