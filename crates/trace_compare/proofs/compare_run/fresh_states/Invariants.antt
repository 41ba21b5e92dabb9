use Rattle.trace_compare.specs.Standing.{AreFresh}
use Rattle.trace_compare.proofs.compare_run.fresh_states.Given as goal

abbrev pub invariant-streams : goal.invariant-streams
invariant-streams l = AreFresh l._stream l.states.items
