-- Steps along the nets, as the code takes them: it looks up a streamlet by the names that lead to it, and the net of a source end. They
-- serve the walk along a chain, and no public clause.
use Rattle.std.specs.Prelude.{◌≡◌, ◌⊎◌, ℕ, nat_eq, Bool, List, [], ◌∷◌, ◌++◌, Option, Some, None, option_map, option_and_then}
use Rattle.std.specs.List.{find}
use Rattle.til_resolve.specs.Cycles.{LeadsTo}
use Rattle.til_resolve.specs.PlainProject.{PlainPort, PlainStreamlet}
use Rattle.til_resolve.specs.declared.project.Instance.{Instance}
use Rattle.til_resolve.specs.declared.project.LinkEnd.{LinkEnd}
use Rattle.link_check.specs.Chains.{NetLeads, port_of_end, streamlet_under}
use Rattle.link_check.specs.Ends.{instance_named, is_same_end, port_named, ports_at}
use Rattle.link_check.specs.Sizes.{instances_at}
use Rattle.link_check.specs.declared.leaf.LeafPort.{LeafPort}
use Rattle.link_check.specs.declared.nets.ImplNets.{ImplNets}
use Rattle.link_check.specs.declared.nets.Net.{Net}

-- the streamlet of the instance of a name
abbrev pub instance_at : List PlainStreamlet → ℕ → List ℕ → Option ℕ
instance_at streamlets number name = option_map (λ (one : Instance). one.streamlet) (instance_named (instances_at streamlets number) name)

-- the direction of the port of a name
abbrev pub inward_at : List PlainStreamlet → ℕ → List ℕ → Option Bool
inward_at streamlets number name = option_map (λ (port : PlainPort). port.inward) (port_named (ports_at streamlets number) name)

-- the sink of the first net of a source end
abbrev pub sink_among : List Net → LinkEnd → Option LinkEnd
sink_among nets end = option_map (λ (net : Net). net.sink) (find (λ (net : Net). is_same_end net.source end) nets)

abbrev pub sink_at : List ImplNets → ℕ → LinkEnd → Option LinkEnd
sink_at impls number end = option_and_then (λ (one : ImplNets). sink_among one.nets end) (find (λ (one : ImplNets). nat_eq one.streamlet number) impls)

-- the port to which a net leads from a source end, inside the implementation down these instances
abbrev pub led : List PlainStreamlet → List ImplNets → ℕ → List (List ℕ) → LinkEnd → Option LeafPort
led streamlets impls top instances end = option_and_then (λ number. option_map (port_of_end top instances) (sink_at impls number end)) (streamlet_under streamlets top instances)

-- the port to which a net leads outside of the last instance, if there is one
pub record IsLedOutside (streamlets : List PlainStreamlet) (impls : List ImplNets) (at : LeafPort) (next : Option LeafPort) : Type 0 where
  pub top : at.instances ≡ [] → next ≡ None
  pub inner : (outer : List (List ℕ)) (name : List ℕ) → at.instances ≡ outer ++ name ∷ [] → next ≡ led streamlets impls at.top outer (record { instance = Some name; port = at.port })

-- the port to which a net leads from a port, or that none does
abbrev pub IsNext : List PlainStreamlet → List ImplNets → LeafPort → Option LeafPort → Type 0
IsNext streamlets impls at None = (next : LeafPort) → NetLeads streamlets impls at next → ⊥
IsNext streamlets impls at (Some next) = NetLeads streamlets impls at next

-- the chain from a leaf source has come to this port
abbrev pub HasCome : List PlainStreamlet → List ImplNets → (source at : LeafPort) → Type 0
HasCome streamlets impls source at = (source ≡ at) ⊎ LeadsTo (NetLeads streamlets impls) source at
