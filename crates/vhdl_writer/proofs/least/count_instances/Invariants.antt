use Rattle.std.proofs.Common.{◌≡◌, ◌≤◌, take}
use Rattle.vhdl_writer.specs.Least.{least_of_instances}
use Rattle.vhdl_writer.proofs.least.count_instances.Given as goal

-- the bytes of the instances so far
abbrev pub invariant-instances : goal.invariant-instances
invariant-instances l = (l.count ≡ least_of_instances l.components (take l.one-index l.instances)) × (l.count ≤ l.limit)
