-- The answer of the check of a project's links. This project's own.
use Rattle.std.specs.Prelude.{◌≡◌, ◌≢◌, List, [], ◌∷◌, map, Option, Some, None, Result, Ok, Err, if◌then◌else◌}
use Rattle.std.specs.Option.{option_or}
use Rattle.til_resolve.specs.PlainProject.{PlainStreamlet}
use Rattle.link_check.specs.Links.{Body, fault_of_body, nets_of}
use Rattle.link_check.specs.Order.{bodies_in_text}
use Rattle.link_check.specs.Sizes.{is_too_large}
use Rattle.link_check.specs.declared.fault.LinkFault.{LinkFault}
use Rattle.link_check.specs.declared.fault.LinkFault.TheVariants as faults
use Rattle.link_check.specs.declared.nets.ImplNets.{ImplNets}
use Rattle.link_check.specs.declared.nets.Nets.{Nets}

-- the first error of implementations, one after another
abbrev pub fault_of_bodies : List PlainStreamlet → List Body → Option LinkFault
fault_of_bodies streamlets [] = None
fault_of_bodies streamlets (body ∷ more) = option_or (fault_of_body streamlets body) (fault_of_bodies streamlets more)

-- the nets of an implementation
abbrev pub impl_of : List PlainStreamlet → Body → ImplNets
impl_of streamlets body = record { streamlet = body.streamlet; nets = nets_of streamlets body }

-- the first error of the links of a project: the implementations come in text order, and its size is looked at last
abbrev pub fault_in : List PlainStreamlet → Option LinkFault
fault_in streamlets = option_or (fault_of_bodies streamlets (bodies_in_text streamlets)) (if is_too_large streamlets then Some faults.DesignTooLarge else None)

-- the nets of its implementations, in text order
abbrev pub nets_in : List PlainStreamlet → Nets
nets_in streamlets = record { impls = map (impl_of streamlets) (bodies_in_text streamlets) }

-- nets, or an error in their place
abbrev pub nets_or : Nets → Option LinkFault → Result Nets LinkFault
nets_or nets None = Ok nets
nets_or nets (Some fault) = Err fault

-- the answer for a project: its nets, or its first error
abbrev pub linked : List PlainStreamlet → Result Nets LinkFault
linked streamlets = nets_or (nets_in streamlets) (fault_in streamlets)

-- a project has these nets, and no error
abbrev pub AreNets : List PlainStreamlet → Nets → Type 0
AreNets streamlets nets = linked streamlets ≡ Ok nets

-- the nets, or the first error; want of memory says nothing
abbrev pub IsChecked : List PlainStreamlet → Result Nets LinkFault → Type 0
IsChecked streamlets (Ok nets) = AreNets streamlets nets
IsChecked streamlets (Err fault) = fault ≢ faults.Memory → linked streamlets ≡ Err fault
