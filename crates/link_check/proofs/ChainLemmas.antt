-- Chains of nets: a net's source end, and its sink end, is known by the port that it names; and a leaf port is met on one side only.
use Rattle.std.proofs.Common.{◌≡◌, ℕ, zero, suc, ◌<◌, ◌⊎◌, inl, inr, Bool, true, false, not, List, [], ◌∷◌, ◌++◌, map, length, get_or, Option, Some, None, option_map, option_and_then, Contains, IsPermutation, slice_get, if◌then◌else◌, refl, sym, ap, ◌∙◌, subst, arith}
use Rattle.std.specs.List.{list_all}
use Rattle.til_resolve.specs.Cycles.{ByWay}
use Rattle.til_resolve.specs.PlainProject.{PlainPort, PlainStreamlet}
use Rattle.til_resolve.specs.SoundProject.{AreDistinct}
use Rattle.til_resolve.specs.declared.project.Instance.{Instance}
use Rattle.link_check.specs.Chains.{IsLeafSink, IsLeafSource, IsPort, LeadsToSink, NetLeads, instances_of_end, is_design, port_of_end, streamlet_under}
use Rattle.link_check.specs.Checked.{fault_of_bodies, impl_of}
use Rattle.link_check.specs.Ends.{Inside, Side, ends_of, instance_named, instance_side, own_side, port_named, ports_at, side_named}
use Rattle.link_check.specs.Laws.{ChainsEndInOneSink, ChainsMeetNoPortTwice}
use Rattle.link_check.specs.Links.{Body, fault_of_links, is_linked, net_of}
use Rattle.link_check.specs.Order.{bodies_from, bodies_in_text}
use Rattle.link_check.specs.Sizes.{instances_at}
use Rattle.link_check.specs.declared.fault.LinkFault.TheVariants as faults
use Rattle.link_check.specs.declared.leaf.LeafPort.{LeafPort}
use Rattle.link_check.specs.declared.nets.ImplNets.{ImplNets}
use Rattle.link_check.specs.declared.nets.Net.{Net}
use Rattle.link_check.proofs.CheckedLemmas.{nets-of}
use Rattle.link_check.proofs.NetLemmas.{Contains-mapped, all-sides, alone-by_sink, alone-by_source, body_found, is_source_end, its-body, its-inside, no-fault, same-end}
use Rattle.link_check.proofs.TestLemmas.{clash, neither}

-- ---- any steps

-- steps that lead on alone end in one thing that leads nowhere
one-end : {A : Type 0} (Step : A → A → Type 0) → ((from one other : A) → Step from one → Step from other → one ≡ other)
    → (from : A) (way ways : List A) (one other : A) → ((next : A) → Step one next → ⊥) → ((next : A) → Step other next → ⊥)
    → ByWay Step from way one → ByWay Step from ways other → one ≡ other
one-end Step alone from [] [] one other last end by to = alone from one other by to
one-end Step alone from [] (next ∷ ways) one other last end by to = absurd (first ways (subst (λ x. ByWay Step x ways other) (alone from next one to.0 by) to.1))
  where
    first : (more : List _) → ByWay Step one more other → ⊥
    first [] step = last other step
    first (x ∷ more) step = last x step.0
one-end Step alone from (next ∷ way) [] one other last end by to = absurd (first way (subst (λ x. ByWay Step x way one) (alone from next other by.0 to) by.1))
  where
    first : (more : List _) → ByWay Step other more one → ⊥
    first [] step = end one step
    first (x ∷ more) step = end x step.0
one-end Step alone from (next ∷ way) (other_next ∷ ways) one other last end by to =
    one-end Step alone next way ways one other last end by.1 (subst (λ x. ByWay Step x ways other) (alone from other_next next to.0 by.0) to.1)

-- ---- ports under a top

pub same_some : {A : Type 0} (one other : A) → ◌≡◌ {A = Option A} (Some one) (Some other) → one ≡ other
same_some {A} one other e = ap value e
  where
    value : Option A → A
    value None = one
    value (Some x) = x

-- the things of a way, from its first to its last
abbrev pub on_way : {A : Type 0} → A → List A → A → List A
on_way from way to = from ∷ way ++ to ∷ []

-- each leads to the next
pub way-steps : {A : Type 0} (Step : A → A → Type 0) (from : A) (way : List A) (to d : A) → ByWay Step from way to
    → (i : ℕ) → suc i < length (on_way from way to) → Step (get_or (on_way from way to) i d) (get_or (on_way from way to) (suc i) d)
way-steps Step from [] to d by zero low = by
way-steps Step from [] to d by (suc i) low = absurd (omega (arith, low))
way-steps Step from (next ∷ way) to d by zero low = by.0
way-steps Step from (next ∷ way) to d by (suc i) low = way-steps Step next way to d by.1 i (omega (arith, low))

-- where each thing has at most one before it, and the first has none, no thing stands twice
pub once : {A : Type 0} (Step : A → A → Type 0) → ((one other next : A) → Step one next → Step other next → one ≡ other)
    → (things : List A) (d : A) → ((i : ℕ) → suc i < length things → Step (get_or things i d) (get_or things (suc i) d)) → ((one : A) → Step one (get_or things 0 d) → ⊥)
    → (i j : ℕ) → i < length things → j < length things → get_or things i d ≡ get_or things j d → i ≡ j
once Step back things d steps first zero zero low high same = refl
once Step back things d steps first zero (suc j) low high same = absurd (first (get_or things j d) (subst (Step (get_or things j d)) (sym same) (steps j high)))
once Step back things d steps first (suc i) zero low high same = absurd (first (get_or things i d) (subst (Step (get_or things i d)) same (steps i low)))
once Step back things d steps first (suc i) (suc j) low high same =
    ap (λ (n : ℕ). suc n) (once Step back things d steps first i j (omega (arith, low)) (omega (arith, high))
    (back (get_or things i d) (get_or things j d) (get_or things (suc i) d) (steps i low) (subst (Step (get_or things j d)) (sym same) (steps j high))))

got : {A : Type 0} (things : List A) (i : ℕ) (one d : A) → slice_get things i ≡ Some one → (i < length things) × (get_or things i d ≡ one)
got [] i one d e = absurd cc
got (x ∷ xs) zero one d e = (omega arith, same_some x one e)
got (x ∷ xs) (suc i) one d e = let rest = got xs i one d e in (omega (arith, rest.0), rest.1)

all-once : {A : Type 0} (Step : A → A → Type 0) → ((one other next : A) → Step one next → Step other next → one ≡ other)
    → (from : A) (way : List A) (to : A) → ((one : A) → Step one from → ⊥) → ByWay Step from way to → AreDistinct (λ (one : A). one) (on_way from way to)
all-once Step back from way to first by = λ i j one other at there same.
    let one_is = got (on_way from way to) i one from at in
    let other_is = got (on_way from way to) j other from there in
    once Step back (on_way from way to) from (way-steps Step from way to from by) first i j one_is.0 other_is.0 (one_is.1 ∙ same ∙ sym other_is.1)

-- the last name of a list of names, and those before
last-name : (one other : List (List ℕ)) (name other_name : List ℕ) → one ++ name ∷ [] ≡ other ++ other_name ∷ [] → (one ≡ other) × (name ≡ other_name)
last-name [] [] name other_name e = (refl, cc)
last-name [] (x ∷ []) name other_name e = absurd cc
last-name [] (x ∷ y ∷ xs) name other_name e = absurd cc
last-name (x ∷ []) [] name other_name e = absurd cc
last-name (x ∷ y ∷ xs) [] name other_name e = absurd cc
last-name (x ∷ xs) (y ∷ ys) name other_name e = let rest = last-name xs ys name other_name (ap tail e) in (ap (λ z. z ∷ xs) (ap head e) ∙ ap (λ l. y ∷ l) rest.0, rest.1)
  where
    tail : List (List ℕ) → List (List ℕ)
    tail [] = []
    tail (z ∷ zs) = zs

    head : List (List ℕ) → List ℕ
    head [] = []
    head (z ∷ zs) = z

pub not-empty : (one : List (List ℕ)) (name : List ℕ) → one ++ name ∷ [] ≡ [] → ⊥
not-empty [] name e = absurd cc
not-empty (x ∷ xs) name e = absurd cc

opposite : (is : Bool) → ◌≡◌ {A = Option Bool} (Some is) (Some (not is)) → ⊥
opposite true e = absurd cc
opposite false e = absurd cc

module _ (streamlets : List PlainStreamlet) where
  -- one instance further down
  pub under-push : (top : ℕ) (instances : List (List ℕ)) (name : List ℕ)
      → streamlet_under streamlets top (instances ++ name ∷ [])
      ≡ option_and_then (λ number. option_map (λ (one : Instance). one.streamlet) (instance_named (instances_at streamlets number) name)) (streamlet_under streamlets top instances)
  under-push top [] name = by (instance_named (instances_at streamlets top) name)
    where
      by : (found : Option Instance) → option_and_then (λ (one : Instance). Some one.streamlet) found ≡ option_map (λ (one : Instance). one.streamlet) found
      by None = refl
      by (Some one) = refl
  under-push top (next ∷ more) name = by (instance_named (instances_at streamlets top) next) (λ number. under-push number more name)
    where
      by : (found : Option Instance)
          → ((number : ℕ) → streamlet_under streamlets number (more ++ name ∷ [])
          ≡ option_and_then (λ n. option_map (λ (one : Instance). one.streamlet) (instance_named (instances_at streamlets n) name)) (streamlet_under streamlets number more))
          → option_and_then (λ (one : Instance). streamlet_under streamlets one.streamlet (more ++ name ∷ [])) found
          ≡ option_and_then (λ number. option_map (λ (one : Instance). one.streamlet) (instance_named (instances_at streamlets number) name))
          (option_and_then (λ (one : Instance). streamlet_under streamlets one.streamlet more) found)
      by None rest = refl
      by (Some one) rest = rest one.streamlet

  -- the direction of a port of the streamlet down these instances
  abbrev pub direction_in : List ℕ → Option ℕ → Option Bool
  direction_in port number = option_and_then (λ n. option_map (λ (one : PlainPort). one.inward) (port_named (ports_at streamlets n) port)) number

  abbrev pub direction : LeafPort → Option Bool
  direction leaf = direction_in leaf.port (streamlet_under streamlets leaf.top leaf.instances)

  -- the direction of a port that is a source end, or a sink end, of an implementation
  abbrev pub seen : Option (List ℕ) → Bool → Bool
  seen None is = is
  seen (Some name) is = not is

  own-seen : (found : Option PlainPort) (is : Bool) → option_map (λ (side : Side). side.is_source) (option_map own_side found) ≡ Some is → option_map (λ (one : PlainPort). one.inward) found ≡ Some is
  own-seen None is e = absurd cc
  own-seen (Some port) is e = e

  turned : (inward is : Bool) → ◌≡◌ {A = Option Bool} (Some (not inward)) (Some is) → ◌≡◌ {A = Option Bool} (Some inward) (Some (not is))
  turned true true e = absurd cc
  turned true false e = refl
  turned false true e = refl
  turned false false e = absurd cc

  port-seen : (found : Option PlainPort) (is : Bool) → option_map (λ (side : Side). side.is_source) (option_map instance_side found) ≡ Some is → option_map (λ (one : PlainPort). one.inward) found ≡ Some (not is)
  port-seen None is e = absurd cc
  port-seen (Some port) is e = turned port.inward is e

  instance-seen : (found : Option Instance) (port : List ℕ) (is : Bool)
      → option_map (λ (side : Side). side.is_source) (option_and_then (λ (one : Instance). option_map instance_side (port_named (ports_at streamlets one.streamlet) port)) found) ≡ Some is
      → direction_in port (option_map (λ (one : Instance). one.streamlet) found) ≡ Some (not is)
  instance-seen None port is e = absurd cc
  instance-seen (Some one) port is e = port-seen (port_named (ports_at streamlets one.streamlet) port) is e

  end-seen : (top : ℕ) (instances : List (List ℕ)) (number : ℕ) (instance : Option (List ℕ)) (port : List ℕ) (is : Bool) → streamlet_under streamlets top instances ≡ Some number
      → option_map (λ (side : Side). side.is_source) (side_named streamlets (record { own = ports_at streamlets number; instances = instances_at streamlets number }) instance port) ≡ Some is
      → direction (record { top = top; instances = instances_of_end instances instance; port = port }) ≡ Some (seen instance is)
  end-seen top instances number None port is under side = ap (direction_in port) under ∙ own-seen (port_named (ports_at streamlets number) port) is side
  end-seen top instances number (Some name) port is under side =
      ap (direction_in port) (under-push top instances name ∙ ap (option_and_then (λ n. option_map (λ (one : Instance). one.streamlet) (instance_named (instances_at streamlets n) name))) under)
      ∙ instance-seen (instance_named (instances_at streamlets number) name) port is side

  -- two ends of one side that name one port are one end
  one-spot : (top : ℕ) (port : List ℕ) (is : Bool) (one other : List (List ℕ)) (instance other_instance : Option (List ℕ)) → instances_of_end one instance ≡ instances_of_end other other_instance
      → direction (record { top = top; instances = instances_of_end one instance; port = port }) ≡ Some (seen instance is)
      → direction (record { top = top; instances = instances_of_end other other_instance; port = port }) ≡ Some (seen other_instance is)
      → (one ≡ other) × (instance ≡ other_instance)
  one-spot top port is one other None None same e f = (same, refl)
  one-spot top port is one other None (Some name) same e f =
      absurd (opposite is (sym e ∙ ap (λ (l : List (List ℕ)). direction (record { top = top; instances = l; port = port })) same ∙ f))
  one-spot top port is one other (Some name) None same e f =
      absurd (opposite is (sym f ∙ ap (λ (l : List (List ℕ)). direction (record { top = top; instances = l; port = port })) (sym same) ∙ e))
  one-spot top port is one other (Some name) (Some other_name) same e f = let both = last-name one other name other_name same in (both.0, ap (λ (n : List ℕ). Some n) both.1)

  -- the direction of a port that stands there
  pub port-direction : (leaf : LeafPort) (inward design : Bool) → IsPort streamlets leaf inward design → direction leaf ≡ Some inward
  port-direction leaf inward design port = ap (direction_in leaf.port) port.under
      ∙ ap (option_map (λ (one : PlainPort). one.inward)) port.named ∙ ap (λ (b : Bool). Some b) port.inward_is

  -- a leaf port is met on one side only
  met-once : (is : Bool) (leaf : LeafPort) (instances : List (List ℕ)) (number : ℕ) (instance : Option (List ℕ)) → streamlet_under streamlets leaf.top instances ≡ Some number
      → is_design streamlets number ≡ true → leaf.instances ≡ instances_of_end instances instance → direction leaf ≡ Some (seen instance is)
      → ((leaf.instances ≡ []) × IsPort streamlets leaf (not is) true) ⊎ ((leaf.instances ≡ [] → ⊥) × IsPort streamlets leaf is false) → ⊥
  met-once is leaf instances number None under design same e (inl top) = opposite is (sym e ∙ port-direction leaf (not is) true top.1)
  met-once is leaf instances number (Some name) under design same e (inl top) = not-empty instances name (sym same ∙ top.0)
  met-once is leaf instances number None under design same e (inr inner) =
      let number_is : inner.1.number ≡ number = same_some inner.1.number number (sym inner.1.under ∙ ap (streamlet_under streamlets leaf.top) same ∙ under) in
      clash (sym inner.1.design_is ∙ ap (is_design streamlets) number_is ∙ design)
  met-once is leaf instances number (Some name) under design same e (inr inner) = opposite is (sym (port-direction leaf is false inner.1) ∙ e)

  -- ---- the nets of a project without faults

  module _ (bodies : List Body) (all : IsPermutation (bodies_from 0 streamlets) bodies) (none : fault_of_bodies streamlets bodies ≡ None) where
    abbrev pub Leads : LeafPort → LeafPort → Type 0
    Leads = NetLeads streamlets (map (impl_of streamlets) bodies)

    -- a net is one of the streamlet of a number
    pub record IsNetOf (number : ℕ) (net : Net) : Type 0 where
      pub body : Body
      pub found : body_found number (slice_get streamlets number) ≡ body ∷ []
      pub clean : fault_of_links streamlets body.inside [] body.links ≡ None
      pub there : Contains (map (net_of streamlets body.inside) body.links) net

    net-of : (impl : ImplNets) (number : ℕ) (net : Net) → Contains (map (impl_of streamlets) bodies) impl → impl.streamlet ≡ number → Contains impl.nets net → IsNetOf number net
    net-of impl number net among its inside =
        let found = Contains-mapped (impl_of streamlets) bodies impl among in
        let body = found.0 in
        let same : body.streamlet ≡ number = ap (λ (i : ImplNets). i.streamlet) found.2 ∙ its in
        record {
          body = body;
          found = subst (λ n. body_found n (slice_get streamlets n) ≡ body ∷ []) same (its-body streamlets bodies body all found.1);
          clean = (neither (fault_of_links streamlets body.inside [] body.links) (if list_all (is_linked body.links) (ends_of streamlets body.inside) then None else Some (faults.Unlinked body.place)) (no-fault streamlets bodies body none found.1)).0;
          there = subst (λ (i : ImplNets). Contains i.nets net) (sym found.2) inside;
        }

    abbrev first-body : Body → List Body → Body
    first-body other [] = other
    first-body other (x ∷ xs) = x

    net-alone : (number : ℕ) (one other : Net) → IsNetOf number one → IsNetOf number other → one.source ≡ other.source → one ≡ other
    net-alone number one other is it same =
        let bodies_are : it.body ≡ is.body = ap (first-body is.body) (sym it.found ∙ is.found) in
        alone-by_source streamlets is.body.inside is.body.links one other is.clean is.there
        (subst (λ (body : Body). Contains (map (net_of streamlets body.inside) body.links) other) bodies_are it.there) same

    pub inside-is : (number : ℕ) (net : Net) (its : IsNetOf number net) → its.body.inside ≡ record { own = ports_at streamlets number; instances = instances_at streamlets number }
    inside-is number net its = (its-inside number (slice_get streamlets number) its.body its.found).0

    pub design-is : (number : ℕ) (net : Net) → IsNetOf number net → is_design streamlets number ≡ true
    design-is number net its = (its-inside number (slice_get streamlets number) its.body its.found).1

    source-seen : (top : ℕ) (instances : List (List ℕ)) (number : ℕ) (net : Net) → streamlet_under streamlets top instances ≡ Some number → IsNetOf number net
        → direction (port_of_end top instances net.source) ≡ Some (seen net.source.instance true)
    source-seen top instances number net under its =
        end-seen top instances number net.source.instance net.source.port true under
        (subst (λ (inside : Inside). is_source_end streamlets inside net.source ≡ Some true) (inside-is number net its)
        (all-sides streamlets its.body.inside [] its.body.links net its.clean its.there).source)

    pub its-net : (one next : LeafPort) (leads : Leads one next) → IsNetOf leads.number leads.net
    its-net one next leads = net-of leads.impl leads.number leads.net leads.among leads.its leads.inside

    -- from a port nets lead to one port at most
    pub leads-alone : (one next other : LeafPort) → Leads one next → Leads one other → next ≡ other
    leads-alone one next other leads also =
        let ports : port_of_end one.top leads.instances leads.net.source ≡ port_of_end one.top also.instances also.net.source = sym leads.from ∙ also.from in
        let names : leads.net.source.port ≡ also.net.source.port = ap (λ (p : LeafPort). p.port) ports in
        let spot = one-spot one.top leads.net.source.port true leads.instances also.instances leads.net.source.instance also.net.source.instance
        (ap (λ (p : LeafPort). p.instances) ports)
        (source-seen one.top leads.instances leads.number leads.net leads.under (its-net one next leads))
        (ap (λ (p : List ℕ). direction (record { top = one.top; instances = instances_of_end also.instances also.net.source.instance; port = p })) names
        ∙ source-seen one.top also.instances also.number also.net also.under (its-net one other also)) in
        let numbers : also.number ≡ leads.number = same_some also.number leads.number (sym also.under ∙ ap (streamlet_under streamlets one.top) (sym spot.0) ∙ leads.under) in
        let nets : leads.net ≡ also.net = net-alone leads.number leads.net also.net (its-net one next leads) (subst (λ n. IsNetOf n also.net) numbers (its-net one other also))
        (same-end leads.net.source also.net.source spot.1 names) in
        leads.to ∙ ap (λ (i : List (List ℕ)). port_of_end one.top i leads.net.sink) spot.0 ∙ ap (λ (n : Net). port_of_end one.top also.instances n.sink) nets ∙ sym also.to

    -- no net leads on from a leaf sink
    sink-last : (sink next : LeafPort) → IsLeafSink streamlets sink → Leads sink next → ⊥
    sink-last sink next is leads =
        met-once true sink leads.instances leads.number leads.net.source.instance leads.under (design-is leads.number leads.net (its-net sink next leads))
        (ap (λ (p : LeafPort). p.instances) leads.from)
        (ap direction leads.from ∙ source-seen sink.top leads.instances leads.number leads.net leads.under (its-net sink next leads)) is

    one-sink : (source one other : LeafPort) → LeadsToSink streamlets (map (impl_of streamlets) bodies) source one → LeadsToSink streamlets (map (impl_of streamlets) bodies) source other → one ≡ other
    one-sink source one other leads also =
        one-end Leads leads-alone source leads.way.0 also.way.0 one other (λ next. sink-last one next leads.is_sink) (λ next. sink-last other next also.is_sink) leads.way.1 also.way.1

    net-alone-by_sink : (number : ℕ) (one other : Net) → IsNetOf number one → IsNetOf number other → one.sink ≡ other.sink → one ≡ other
    net-alone-by_sink number one other is it same =
        let bodies_are : it.body ≡ is.body = ap (first-body is.body) (sym it.found ∙ is.found) in
        alone-by_sink streamlets is.body.inside is.body.links one other is.clean is.there
        (subst (λ (body : Body). Contains (map (net_of streamlets body.inside) body.links) other) bodies_are it.there) same

    pub sink-seen : (top : ℕ) (instances : List (List ℕ)) (number : ℕ) (net : Net) → streamlet_under streamlets top instances ≡ Some number → IsNetOf number net
        → direction (port_of_end top instances net.sink) ≡ Some (seen net.sink.instance false)
    sink-seen top instances number net under its =
        end-seen top instances number net.sink.instance net.sink.port false under
        (subst (λ (inside : Inside). is_source_end streamlets inside net.sink ≡ Some false) (inside-is number net its)
        (all-sides streamlets its.body.inside [] its.body.links net its.clean its.there).sink)

    -- to a port nets lead from one port at most
    pub back-alone : (one other next : LeafPort) → Leads one next → Leads other next → one ≡ other
    back-alone one other next leads also =
        let tops : one.top ≡ other.top = sym (ap (λ (p : LeafPort). p.top) leads.to) ∙ ap (λ (p : LeafPort). p.top) also.to in
        let under : streamlet_under streamlets one.top also.instances ≡ Some also.number = ap (λ t. streamlet_under streamlets t also.instances) tops ∙ also.under in
        let ports : port_of_end one.top leads.instances leads.net.sink ≡ port_of_end one.top also.instances also.net.sink =
        sym leads.to ∙ also.to ∙ ap (λ t. port_of_end t also.instances also.net.sink) (sym tops) in
        let names : leads.net.sink.port ≡ also.net.sink.port = ap (λ (p : LeafPort). p.port) ports in
        let spot = one-spot one.top leads.net.sink.port false leads.instances also.instances leads.net.sink.instance also.net.sink.instance
        (ap (λ (p : LeafPort). p.instances) ports)
        (sink-seen one.top leads.instances leads.number leads.net leads.under (its-net one next leads))
        (ap (λ (p : List ℕ). direction (record { top = one.top; instances = instances_of_end also.instances also.net.sink.instance; port = p })) names
        ∙ sink-seen one.top also.instances also.number also.net under (its-net other next also)) in
        let numbers : also.number ≡ leads.number = same_some also.number leads.number (sym under ∙ ap (streamlet_under streamlets one.top) (sym spot.0) ∙ leads.under) in
        let nets : leads.net ≡ also.net = net-alone-by_sink leads.number leads.net also.net (its-net one next leads) (subst (λ n. IsNetOf n also.net) numbers (its-net other next also))
        (same-end leads.net.sink also.net.sink spot.1 names) in
        leads.from ∙ ap (λ (i : List (List ℕ)). port_of_end one.top i leads.net.source) spot.0 ∙ ap (λ (n : Net). port_of_end one.top also.instances n.source) nets
        ∙ ap (λ t. port_of_end t also.instances also.net.source) tops ∙ sym also.from

    -- no net leads to a leaf source
    pub source-first : (source one : LeafPort) → IsLeafSource streamlets source → Leads one source → ⊥
    source-first source one is leads =
        let tops : one.top ≡ source.top = sym (ap (λ (p : LeafPort). p.top) leads.to) in
        met-once false source leads.instances leads.number leads.net.sink.instance (ap (λ t. streamlet_under streamlets t leads.instances) (sym tops) ∙ leads.under)
        (design-is leads.number leads.net (its-net one source leads)) (ap (λ (p : LeafPort). p.instances) leads.to)
        (ap direction leads.to ∙ sink-seen one.top leads.instances leads.number leads.net leads.under (its-net one source leads)) is

    port-once : (source last : LeafPort) (way : List LeafPort) → IsLeafSource streamlets source → ByWay Leads source way last → AreDistinct (λ (one : LeafPort). one) (source ∷ way ++ last ∷ [])
    port-once source last way is by = all-once Leads back-alone source way last (λ one. source-first source one is) by

pub chains_end_in_one_sink : ChainsEndInOneSink
chains_end_in_one_sink streamlets nets are source one other leads also =
    let its = nets-of streamlets nets are in
    one-sink streamlets (bodies_in_text streamlets) its.all its.faultless source one other
    (subst (λ (impls : List ImplNets). LeadsToSink streamlets impls source one) its.impls_are leads)
    (subst (λ (impls : List ImplNets). LeadsToSink streamlets impls source other) its.impls_are also)

pub chains_meet_no_port_twice : ChainsMeetNoPortTwice
chains_meet_no_port_twice streamlets nets are source last way is by =
    let its = nets-of streamlets nets are in
    port-once streamlets (bodies_in_text streamlets) its.all its.faultless source last way is
    (subst (λ (impls : List ImplNets). ByWay (NetLeads streamlets impls) source way last) its.impls_are by)
