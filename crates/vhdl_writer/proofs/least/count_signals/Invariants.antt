use Rattle.std.proofs.Common.{◌≡◌, ◌+◌, ◌≤◌, take}
use Rattle.vhdl_writer.specs.Least.{least_of_signals}
use Rattle.vhdl_writer.proofs.least.count_signals.Given as goal

-- the bytes of the signals so far
abbrev pub invariant-signals : goal.invariant-signals
invariant-signals l = (l.count ≡ l.before + least_of_signals l.instance (take l.signal-index l.signals)) × (l.count ≤ l.limit)
