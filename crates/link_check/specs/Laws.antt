-- The laws of the check, of differences and of chains.
use Rattle.std.specs.Prelude.{◌≡◌, ◌≢◌, ◌↔◌, Bool, IsTrue, List, [], ◌∷◌, ◌++◌, None, Err}
use Rattle.logical_types.specs.Tree.{Ltype}
use Rattle.til_resolve.specs.Cycles.{ByWay}
use Rattle.til_resolve.specs.PlainProject.{PlainStreamlet}
use Rattle.til_resolve.specs.SoundProject.{AreDistinct}
use Rattle.link_check.specs.Chains.{IsLeafSource, LeadsToSink, NetLeads}
use Rattle.link_check.specs.Checked.{AreNets, linked}
use Rattle.link_check.specs.Compatible.{Compatible}
use Rattle.link_check.specs.Differences.{first_difference}
use Rattle.link_check.specs.Links.{Body}
use Rattle.link_check.specs.Order.{IsInTextOrder, bodies_in_text}
use Rattle.link_check.specs.Sizes.{IsTooLarge, is_too_large}
use Rattle.link_check.specs.declared.fault.LinkFault.TheVariants as faults
use Rattle.link_check.specs.declared.leaf.LeafPort.{LeafPort}
use Rattle.link_check.specs.declared.nets.Nets.{Nets}

-- a project has one list of its implementations in text order
abbrev pub TextOrderIsOne : Type 0
TextOrderIsOne = (streamlets : List PlainStreamlet) (bodies : List Body) → IsInTextOrder streamlets bodies ↔ (bodies ≡ bodies_in_text streamlets)

-- a project is too large where some streamlet has over 65,536 instances inside it, down to any number of levels
abbrev pub SizesAreCountedWhole : Type 0
SizesAreCountedWhole = (streamlets : List PlainStreamlet) → IsTrue (is_too_large streamlets) ↔ IsTooLarge streamlets

-- the answer of the check is never want of memory, so each project has its nets or an error of its own
abbrev pub AnswersAreOfTheProject : Type 0
AnswersAreOfTheProject = (streamlets : List PlainStreamlet) → linked streamlets ≢ Err faults.Memory

-- two types are compatible exactly where they have no first difference
abbrev pub NoDifferenceIsCompatible : Type 0
NoDifferenceIsCompatible = (reversed : Bool) (source sink : Ltype) → (first_difference reversed source sink ≡ None) ↔ Compatible reversed source sink

-- the nets of a project lead from a leaf source to one leaf sink at most
abbrev pub ChainsEndInOneSink : Type 0
ChainsEndInOneSink = (streamlets : List PlainStreamlet) (nets : Nets) → AreNets streamlets nets
    → (source one other : LeafPort) → LeadsToSink streamlets nets.impls source one → LeadsToSink streamlets nets.impls source other → one ≡ other

-- and no port stands twice on the way from a leaf source, itself counted, to any other port
abbrev pub ChainsMeetNoPortTwice : Type 0
ChainsMeetNoPortTwice = (streamlets : List PlainStreamlet) (nets : Nets) → AreNets streamlets nets
    → (source last : LeafPort) (way : List LeafPort) → IsLeafSource streamlets source → ByWay (NetLeads streamlets nets.impls) source way last
    → AreDistinct (λ (one : LeafPort). one) (source ∷ way ++ last ∷ [])

-- and the chain from a leaf source ends in a leaf sink
abbrev pub ChainsEnd : Type 0
ChainsEnd = (streamlets : List PlainStreamlet) (nets : Nets) → AreNets streamlets nets → (source : LeafPort) → IsLeafSource streamlets source
    → (sink : LeafPort) × LeadsToSink streamlets nets.impls source sink
