use Rattle.std.proofs.Common.{take}
use Rattle.std.specs.BTreeMap.{get}
use Rattle.til_resolve.specs.Ordered.{by_key}
use Rattle.vhdl_writer.specs.Finding.{FindsPorts}
use Rattle.vhdl_writer.proofs.tables.ports_by_name.Given as goal

-- the ports of the components so far are found
abbrev pub invariant-components : goal.invariant-components
invariant-components l = FindsPorts (get by_key l.table) (take l.home l.components)
