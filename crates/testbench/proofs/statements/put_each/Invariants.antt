use Rattle.std.proofs.Common.{◌≡◌, ◌++◌, take}
use Rattle.std.specs.List.{flat_map}
use Rattle.testbench.specs.Driving.{put_present}
use Rattle.testbench.proofs.statements.put_each.Given as goal

-- the signals so far are set
abbrev pub invariant-signals : goal.invariant-signals
invariant-signals l = l.process ≡ l.initial.process ++ flat_map (put_present l.p l.stream l.transfer) (take l.signal-index l.signals)
