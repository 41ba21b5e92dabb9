use Rattle.std.proofs.Common.{◌≡◌, List, drop}
use Rattle.std.specs.List.{list_all}
use Rattle.std.specs.BTreeSet.{contains}
use Rattle.til_resolve.specs.declared.project.Link.{Link}
use Rattle.link_check.specs.Linked.{Sees, instance_linked, by_end}
use Rattle.link_check.specs.Wirings.{streamlets_lent}
use Rattle.link_check.proofs.wiring.Wiring.instances_linked.Given as goal

-- all are linked where those that are left are
abbrev pub invariant-instances : goal.invariant-instances
invariant-instances l = (links : List Link) → Sees (contains by_end l.ends.names) links
    → list_all (instance_linked (streamlets_lent l.self) links) (drop l.one-index l.self.instances.now) ≡ list_all (instance_linked (streamlets_lent l.self) links) l.self.instances.now
