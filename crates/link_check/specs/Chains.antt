-- Where the nets of a design lead: from a leaf source, through the ports of instances that have instances and links of their own, to a
-- leaf sink. A design is a streamlet with instances and links. This project's own.
use Rattle.std.specs.Prelude.{◌≡◌, ◌⊎◌, ℕ, Bool, true, false, List, [], ◌∷◌, ◌++◌, Option, Some, None, option_and_then, slice_get, Contains}
use Rattle.til_resolve.specs.Cycles.{LeadsTo}
use Rattle.til_resolve.specs.PlainProject.{PlainPort, PlainStreamlet}
use Rattle.til_resolve.specs.declared.project.Impl.{Impl}
use Rattle.til_resolve.specs.declared.project.Impl.TheVariants as impls
use Rattle.til_resolve.specs.declared.project.Instance.{Instance}
use Rattle.til_resolve.specs.declared.project.LinkEnd.{LinkEnd}
use Rattle.link_check.specs.Ends.{instance_named, port_named, ports_at}
use Rattle.link_check.specs.Sizes.{instances_at}
use Rattle.link_check.specs.declared.leaf.LeafPort.{LeafPort}
use Rattle.link_check.specs.declared.nets.ImplNets.{ImplNets}
use Rattle.link_check.specs.declared.nets.Net.{Net}

-- ---- instances under a top

-- an implementation has instances and links
abbrev pub is_structural : Option Impl → Bool
is_structural None = false
is_structural (Some (impls.Linked text)) = false
is_structural (Some (impls.Structural place instances links)) = true

abbrev pub is_design_there : Option PlainStreamlet → Bool
is_design_there None = false
is_design_there (Some streamlet) = is_structural streamlet.body

-- the streamlet of a number is a design
abbrev pub is_design : List PlainStreamlet → ℕ → Bool
is_design streamlets number = is_design_there (slice_get streamlets number)

-- the number of the streamlet under a top to which these names of instances lead down
abbrev pub streamlet_under : List PlainStreamlet → (top : ℕ) → List (List ℕ) → Option ℕ
streamlet_under streamlets top [] = Some top
streamlet_under streamlets top (name ∷ more) = option_and_then (λ (one : Instance). streamlet_under streamlets one.streamlet more) (instance_named (instances_at streamlets top) name)

-- the names of instances that lead to what an end names, inside the implementation down these instances
abbrev pub instances_of_end : List (List ℕ) → Option (List ℕ) → List (List ℕ)
instances_of_end instances None = instances
instances_of_end instances (Some name) = instances ++ name ∷ []

-- the port that an end names there
abbrev pub port_of_end : (top : ℕ) → List (List ℕ) → LinkEnd → LeafPort
port_of_end top instances end = record { top = top; instances = instances_of_end instances end.instance; port = end.port }

module _ (streamlets : List PlainStreamlet) where
  -- a port stands under its top, inward or not, and its streamlet is a design or not
  pub record IsPort (leaf : LeafPort) (inward design : Bool) : Type 0 where
    pub number : ℕ
    pub under : streamlet_under streamlets leaf.top leaf.instances ≡ Some number
    pub design_is : is_design streamlets number ≡ design
    pub port : PlainPort
    pub named : port_named (ports_at streamlets number) leaf.port ≡ Some port
    pub inward_is : port.inward ≡ inward

  -- a leaf source gives data to a design: an `in` port of the top, or an `out` port of an instance that is no design
  abbrev pub IsLeafSource : LeafPort → Type 0
  IsLeafSource leaf = ((leaf.instances ≡ []) × IsPort leaf true true) ⊎ ((leaf.instances ≡ [] → ⊥) × IsPort leaf false false)

  -- a leaf sink takes data from it: an `out` port of the top, or an `in` port of an instance that is no design
  abbrev pub IsLeafSink : LeafPort → Type 0
  IsLeafSink leaf = ((leaf.instances ≡ []) × IsPort leaf false true) ⊎ ((leaf.instances ≡ [] → ⊥) × IsPort leaf true false)

  module _ (nets : List ImplNets) where
    -- ---- along the nets

    -- a net leads from one port to the next: it is one of the implementation down some instances, and its ends name the two there
    pub record NetLeads (one next : LeafPort) : Type 0 where
      pub instances : List (List ℕ)
      pub number : ℕ
      pub under : streamlet_under streamlets one.top instances ≡ Some number
      pub impl : ImplNets
      pub among : Contains nets impl
      pub its : impl.streamlet ≡ number
      pub net : Net
      pub inside : Contains impl.nets net
      pub from : one ≡ port_of_end one.top instances net.source
      pub to : next ≡ port_of_end one.top instances net.sink

    -- the chain of nets that begins at a leaf source ends in this leaf sink
    pub record LeadsToSink (source sink : LeafPort) : Type 0 where
      pub is_source : IsLeafSource source
      pub is_sink : IsLeafSink sink
      pub way : LeadsTo NetLeads source sink

    -- the leaf sink to which the nets lead, or that a port is no leaf source
    abbrev pub IsSinkOf : LeafPort → Option LeafPort → Type 0
    IsSinkOf leaf None = IsLeafSource leaf → ⊥
    IsSinkOf leaf (Some sink) = LeadsToSink leaf sink
