use Rattle.std.proofs.Common.{◌≡◌, List, drop}
use Rattle.std.specs.List.{list_all}
use Rattle.std.specs.BTreeSet.{contains}
use Rattle.til_resolve.specs.declared.project.Link.{Link}
use Rattle.til_resolve.specs.declared.project.Port.{Port}
use Rattle.link_check.specs.Linked.{Sees, end_named, by_end}
use Rattle.link_check.specs.Links.{is_linked}
use Rattle.link_check.proofs.linked.LinkedEnds.have_all.Given as goal

-- all are there where those that are left are
abbrev pub invariant-ports : goal.invariant-ports
invariant-ports l = (links : List Link) → Sees (contains by_end l.self.names) links
    → list_all (λ (port : Port). is_linked links (end_named l.instance port.name)) (drop l.port-index l.ports)
    ≡ list_all (λ (port : Port). is_linked links (end_named l.instance port.name)) l.ports
