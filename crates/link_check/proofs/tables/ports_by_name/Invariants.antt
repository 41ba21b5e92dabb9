use Rattle.std.proofs.Common.{take}
use Rattle.std.specs.BTreeMap.{get}
use Rattle.til_resolve.specs.Ordered.{by_key}
use Rattle.link_check.specs.Tables.{FindsPorts}
use Rattle.link_check.proofs.tables.ports_by_name.Given as goal

-- the ports of the streamlets so far are found
abbrev pub invariant-streamlets : goal.invariant-streamlets
invariant-streamlets l = FindsPorts (get by_key l.table) (take l.home l.streamlets)
