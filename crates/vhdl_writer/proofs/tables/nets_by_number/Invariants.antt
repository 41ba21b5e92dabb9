use Rattle.std.proofs.Common.{take}
use Rattle.std.specs.BTreeMap.{get}
use Rattle.std.specs.Ordering.{nat_cmp}
use Rattle.vhdl_writer.specs.Finding.{FindsNets}
use Rattle.vhdl_writer.proofs.tables.nets_by_number.Given as goal

-- the nets so far are found
abbrev pub invariant-impls : goal.invariant-impls
invariant-impls l = FindsNets (get nat_cmp l.table) (take l.one-index l.impls)
