use Rattle.std.proofs.Common.{take}
use Rattle.std.specs.BTreeMap.{get}
use Rattle.til_resolve.specs.Ordered.{by_name}
use Rattle.vhdl_writer.specs.Finding.{FindsInstances}
use Rattle.vhdl_writer.proofs.tables.instances_by_name.Given as goal

-- the instances so far are found
abbrev pub invariant-instances : goal.invariant-instances
invariant-instances l = FindsInstances (get by_name l.table) (take l.instance-index l.instances)
