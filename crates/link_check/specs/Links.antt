-- The links of implementations: the first fault of each, and the nets of those without one. This project's own.
use Rattle.std.specs.Prelude.{ℕ, Bool, false, ◌||◌, List, [], ◌∷◌, ◌++◌, map, Option, Some, None, option_map, if◌then◌else◌}
use Rattle.std.specs.Bool.{beq}
use Rattle.std.specs.List.{list_any, list_all}
use Rattle.std.specs.Option.{option_or}
use Rattle.tydi_base.specs.declared.place.Place.{Place}
use Rattle.til_resolve.specs.PlainProject.{PlainStreamlet}
use Rattle.til_resolve.specs.declared.project.Link.{Link}
use Rattle.til_resolve.specs.declared.project.LinkEnd.{LinkEnd}
use Rattle.link_check.specs.Differences.{first_difference}
use Rattle.link_check.specs.Ends.{Side, Inside, side_of, ends_of, is_same_end}
use Rattle.link_check.specs.declared.difference.Difference.{Difference}
use Rattle.link_check.specs.declared.fault.LinkFault.{LinkFault}
use Rattle.link_check.specs.declared.fault.LinkFault.TheVariants as faults
use Rattle.link_check.specs.declared.nets.Net.{Net}

-- ---- one link

-- the first difference of the types of two ends, the source's first
abbrev pub difference_of : Side → Side → Option Difference
difference_of one other = if one.is_source then first_difference false one.ltype other.ltype else first_difference false other.ltype one.ltype

-- an end stands in one of these links
abbrev pub is_linked : List Link → LinkEnd → Bool
is_linked links end = list_any (λ (link : Link). is_same_end link.first end || is_same_end link.second end) links

-- the first fault of a link at this place, by its two sides, and by whether one of its ends stands in an earlier link
abbrev pub fault_of_sides : Place → Option Side → Option Side → (linked : Bool) → Option LinkFault
fault_of_sides place None other linked = Some (faults.UnknownEnd place)
fault_of_sides place (Some one) None linked = Some (faults.UnknownEnd place)
fault_of_sides place (Some one) (Some other) linked =
    if beq one.is_source other.is_source then Some (faults.SameSide place)
    else option_or (option_map (faults.NotCompatible place) (difference_of one other)) (if linked then Some (faults.LinkedTwice place) else None)

-- the first fault of a link behind these
abbrev pub fault_of_link : List PlainStreamlet → Inside → (earlier : List Link) → Link → Option LinkFault
fault_of_link streamlets inside earlier link =
    fault_of_sides link.place (side_of streamlets inside link.first) (side_of streamlets inside link.second) (is_linked earlier link.first || is_linked earlier link.second)

-- the first fault of links, one after another, behind these
abbrev pub fault_of_links : List PlainStreamlet → Inside → (earlier : List Link) → List Link → Option LinkFault
fault_of_links streamlets inside earlier [] = None
fault_of_links streamlets inside earlier (link ∷ more) =
    option_or (fault_of_link streamlets inside earlier link) (fault_of_links streamlets inside (earlier ++ link ∷ []) more)

-- ---- one implementation

-- an implementation: the streamlet that it implements, by its number, and its body
pub record Body : Type 0 where
  pub streamlet : ℕ
  pub place : Place
  pub inside : Inside
  pub links : List Link

-- its first fault: that of its links, or that some end stands in none of them
abbrev pub fault_of_body : List PlainStreamlet → Body → Option LinkFault
fault_of_body streamlets body = option_or (fault_of_links streamlets body.inside [] body.links)
    (if list_all (is_linked body.links) (ends_of streamlets body.inside) then None else Some (faults.Unlinked body.place))

-- a net: the source end and the sink end of a link, whose first end is a source end or not
abbrev pub net_between : (is_source : Bool) → LinkEnd → LinkEnd → Net
net_between is_source first second = if is_source then record { source = first; sink = second } else record { source = second; sink = first }

abbrev pub net_of_side : Option Side → LinkEnd → LinkEnd → Net
net_of_side None first second = record { source = second; sink = first }
net_of_side (Some one) first second = net_between one.is_source first second

abbrev pub net_of : List PlainStreamlet → Inside → Link → Net
net_of streamlets inside link = net_of_side (side_of streamlets inside link.first) link.first link.second

-- its nets, one for each link
abbrev pub nets_of : List PlainStreamlet → Body → List Net
nets_of streamlets body = map (net_of streamlets body.inside) body.links
