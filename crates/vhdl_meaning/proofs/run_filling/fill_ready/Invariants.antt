use Rattle.std.proofs.Common.{◌≡◌, map}
use Rattle.vhdl_meaning.specs.RunText.{ready_in}
use Rattle.vhdl_meaning.proofs.run_filling.fill_ready.Given as goal

abbrev pub invariant-streams : goal.invariant-streams
invariant-streams l = l.ready ≡ map (ready_in l.cycles) l.yielded
