-- The chain from a leaf source ends in a leaf sink: from each port on the way that is no leaf sink a net leads on.
use Rattle.std.proofs.Common.{◌≡◌, ℕ, zero, suc, ◌+◌, ◌<◌, ◌≤◌, ◌⊎◌, inl, inr, Bool, true, false, not, ltb, List, [], ◌∷◌, ◌++◌, map, length, get_or, Option, Some, None, option_map, option_and_then, Contains, IsPermutation, refl, sym, ap, ◌∙◌, subst, arith}
use Rattle.std.proofs.lemmas.Bool.{ltb-true, ltb-false}
use Rattle.std.proofs.lemmas.List.{length-append}
use Rattle.til_resolve.specs.Cycles.{ByWay}
use Rattle.til_resolve.specs.PlainProject.{PlainPort, PlainStreamlet}
use Rattle.til_resolve.specs.declared.project.Instance.{Instance}
use Rattle.link_check.specs.Chains.{IsLeafSink, IsLeafSource, IsPort, LeadsToSink, instances_of_end, is_design, port_of_end, streamlet_under}
use Rattle.link_check.specs.Checked.{fault_of_bodies, impl_of}
use Rattle.link_check.specs.Ends.{Inside, Side, instance_named, instance_side, own_side, port_named, ports_at}
use Rattle.link_check.specs.Laws.{ChainsEnd}
use Rattle.link_check.specs.Links.{Body}
use Rattle.link_check.specs.Order.{bodies_from, bodies_in_text}
use Rattle.link_check.specs.Sizes.{instances_at, instances_down}
use Rattle.link_check.specs.declared.leaf.LeafPort.{LeafPort}
use Rattle.link_check.specs.declared.nets.ImplNets.{ImplNets}
use Rattle.link_check.proofs.CheckedLemmas.{nets-of}
use Rattle.link_check.proofs.ChainLemmas.{Leads, back-alone, design-is, direction, inside-is, its-net, not-empty, on_way, once, port-direction, seen, sink-seen, source-first, under-push, way-steps}
use Rattle.link_check.proofs.FoundLemmas.{design-net, has-instances}
use Rattle.link_check.proofs.NetLemmas.{all-sides, is_source_end}
use Rattle.link_check.proofs.WayLemmas.{all_ports, as-deep, each-on-way, few, in-ports, last-apart, last-step, more-way}

module _ (streamlets : List PlainStreamlet) where
  -- the inside of the implementation of a number
  abbrev inside_at : ℕ → Inside
  inside_at number = record { own = ports_at streamlets number; instances = instances_at streamlets number }

  -- an own port that is a sink end is an `out` port, and a port of an instance an `in` port
  own-out : (number : ℕ) (name : List ℕ) → is_source_end streamlets (inside_at number) (record { instance = None; port = name }) ≡ Some false
      → (port : PlainPort) × (port_named (ports_at streamlets number) name ≡ Some port) × (port.inward ≡ false)
  own-out number name e = by (port_named (ports_at streamlets number) name) refl e
    where
      by : (found : Option PlainPort) → port_named (ports_at streamlets number) name ≡ found → option_map (λ (side : Side). side.is_source) (option_map own_side found) ≡ Some false
          → (port : PlainPort) × (port_named (ports_at streamlets number) name ≡ Some port) × (port.inward ≡ false)
      by None at same = absurd cc
      by (Some port) at same = let out : port.inward ≡ false = cc in (port, at, out)

  turned-in : (inward : Bool) → ◌≡◌ {A = Option Bool} (Some (not inward)) (Some false) → inward ≡ true
  turned-in true e = refl
  turned-in false e = absurd cc

  inner-in : (number : ℕ) (instance name : List ℕ) → is_source_end streamlets (inside_at number) (record { instance = Some instance; port = name }) ≡ Some false
      → (one : Instance) × (instance_named (instances_at streamlets number) instance ≡ Some one)
      × ((port : PlainPort) × (port_named (ports_at streamlets one.streamlet) name ≡ Some port) × (port.inward ≡ true))
  inner-in number instance name e = by (instance_named (instances_at streamlets number) instance) refl e
    where
      more : (one : Instance) (found : Option PlainPort) → port_named (ports_at streamlets one.streamlet) name ≡ found
          → option_map (λ (side : Side). side.is_source) (option_map instance_side found) ≡ Some false
          → (port : PlainPort) × (port_named (ports_at streamlets one.streamlet) name ≡ Some port) × (port.inward ≡ true)
      more one None at same = absurd cc
      more one (Some port) at same = (port, at, turned-in port.inward same)

      by : (found : Option Instance) → instance_named (instances_at streamlets number) instance ≡ found
          → option_map (λ (side : Side). side.is_source) (option_and_then (λ (one : Instance). option_map instance_side (port_named (ports_at streamlets one.streamlet) name)) found) ≡ Some false
          → (one : Instance) × (instance_named (instances_at streamlets number) instance ≡ Some one)
          × ((port : PlainPort) × (port_named (ports_at streamlets one.streamlet) name ≡ Some port) × (port.inward ≡ true))
      by None at same = absurd cc
      by (Some one) at same = (one, at, more one (port_named (ports_at streamlets one.streamlet) name) refl same)

  -- the instance at the end of a way
  last-instance : (top number : ℕ) (outer : List (List ℕ)) (name : List ℕ) → streamlet_under streamlets top (outer ++ name ∷ []) ≡ Some number
      → (above : ℕ) × (streamlet_under streamlets top outer ≡ Some above)
      × ((one : Instance) × (instance_named (instances_at streamlets above) name ≡ Some one) × (one.streamlet ≡ number))
  last-instance top number outer name e = by (streamlet_under streamlets top outer) refl (sym (under-push streamlets top outer name) ∙ e)
    where
      more : (above : ℕ) (found : Option Instance) → instance_named (instances_at streamlets above) name ≡ found → option_map (λ (one : Instance). one.streamlet) found ≡ Some number
          → (one : Instance) × (instance_named (instances_at streamlets above) name ≡ Some one) × (one.streamlet ≡ number)
      more above None at same = absurd cc
      more above (Some one) at same = let its : one.streamlet ≡ number = cc in (one, at, its)

      by : (under : Option ℕ) → streamlet_under streamlets top outer ≡ under
          → option_and_then (λ n. option_map (λ (one : Instance). one.streamlet) (instance_named (instances_at streamlets n) name)) under ≡ Some number
          → (above : ℕ) × (streamlet_under streamlets top outer ≡ Some above)
          × ((one : Instance) × (instance_named (instances_at streamlets above) name ≡ Some one) × (one.streamlet ≡ number))
      by None at same = absurd cc
      by (Some above) at same = (above, at, more above (instance_named (instances_at streamlets above) name) refl same)

  module _ (bodies : List Body) (all : IsPermutation (bodies_from 0 streamlets) bodies) (none : fault_of_bodies streamlets bodies ≡ None) where
    abbrev pub Next : LeafPort → LeafPort → Type 0
    Next = Leads streamlets bodies all none

    -- a net leads on from a source end
    goes-on : (top : ℕ) (instances : List (List ℕ)) (number : ℕ) (instance : Option (List ℕ)) (name : List ℕ) → streamlet_under streamlets top instances ≡ Some number
        → is_design streamlets number ≡ true → is_source_end streamlets (inside_at number) (record { instance = instance; port = name }) ≡ Some true
        → (next : LeafPort) × Next (record { top = top; instances = instances_of_end instances instance; port = name }) next
    goes-on top instances number instance name under design is =
        let found = design-net streamlets bodies number (record { instance = instance; port = name }) all none design is in (
          port_of_end top instances found.3.0.sink,
          record {
            instances = instances;
            number = number;
            under = under;
            impl = found.0;
            among = found.1;
            its = found.2;
            net = found.3.0;
            inside = found.3.1;
            from = ap (port_of_end top instances) (sym found.3.2);
            to = refl;
          },
        )

    -- inwards from an `in` port of a design
    goes-in : (leaf : LeafPort) → IsPort streamlets leaf true true → (next : LeafPort) × Next leaf next
    goes-in leaf its = goes-on leaf.top leaf.instances its.number None leaf.port its.under its.design_is
        (ap (λ (o : Option PlainPort). option_map (λ (side : Side). side.is_source) (option_map own_side o)) its.named ∙ ap (λ (b : Bool). Some b) its.inward_is)

    -- outwards from an `out` port of an instance
    goes-out : (leaf : LeafPort) (design : Bool) (outer : List (List ℕ)) (name : List ℕ) → leaf.instances ≡ outer ++ name ∷ [] → IsPort streamlets leaf false design → (next : LeafPort) × Next leaf next
    goes-out leaf design outer name same its =
        let above = last-instance leaf.top its.number outer name (ap (streamlet_under streamlets leaf.top) (sym same) ∙ its.under) in
        let one = above.2.0 in
        let side : is_source_end streamlets (inside_at above.0) (record { instance = Some name; port = leaf.port }) ≡ Some true =
        ap (λ (o : Option Instance). option_map (λ (side : Side). side.is_source) (option_and_then (λ (i : Instance). option_map instance_side (port_named (ports_at streamlets i.streamlet) leaf.port)) o)) above.2.1
        ∙ ap (λ (o : Option PlainPort). option_map (λ (side : Side). side.is_source) (option_map instance_side o)) (ap (λ n. port_named (ports_at streamlets n) leaf.port) above.2.2 ∙ its.named)
        ∙ ap (λ (b : Bool). Some (not b)) its.inward_is in
        let next = goes-on leaf.top outer above.0 (Some name) leaf.port above.1 (has-instances streamlets above.0 name one above.2.1) side in
        (next.0, subst (λ (l : List (List ℕ)). Next (record { top = leaf.top; instances = l; port = leaf.port }) next.0) (sym same) next.1)

    pub from-source : (source : LeafPort) → IsLeafSource streamlets source → (next : LeafPort) × Next source next
    from-source source (inl top) = goes-in source top.1
    from-source source (inr inner) = by (last-apart source.instances)
      where
        by : (source.instances ≡ []) ⊎ ((outer : List (List ℕ)) × ((name : List ℕ) × (source.instances ≡ outer ++ name ∷ []))) → (next : LeafPort) × Next source next
        by (inl empty) = absurd (inner.0 empty)
        by (inr some) = goes-out source false some.0 some.1.0 some.1.1 inner.1

    -- a port that a net leads to is a leaf sink, or a net leads on from it
    out-or-on : (leaf : LeafPort) → IsPort streamlets leaf false true → IsLeafSink streamlets leaf ⊎ ((next : LeafPort) × Next leaf next)
    out-or-on leaf its = by (last-apart leaf.instances)
      where
        by : (leaf.instances ≡ []) ⊎ ((outer : List (List ℕ)) × ((name : List ℕ) × (leaf.instances ≡ outer ++ name ∷ []))) → IsLeafSink streamlets leaf ⊎ ((next : LeafPort) × Next leaf next)
        by (inl empty) = inl (inl (empty, its))
        by (inr some) = inr (goes-out leaf true some.0 some.1.0 some.1.1 its)

    in-or-on : (leaf : LeafPort) (design : Bool) → (leaf.instances ≡ [] → ⊥) → IsPort streamlets leaf true design → IsLeafSink streamlets leaf ⊎ ((next : LeafPort) × Next leaf next)
    in-or-on leaf true inner its = inr (goes-in leaf its)
    in-or-on leaf false inner its = inl (inr (inner, its))

    end-or-on : (top : ℕ) (instances : List (List ℕ)) (number : ℕ) (instance : Option (List ℕ)) (name : List ℕ) → streamlet_under streamlets top instances ≡ Some number
        → is_design streamlets number ≡ true → is_source_end streamlets (inside_at number) (record { instance = instance; port = name }) ≡ Some false
        → IsLeafSink streamlets (record { top = top; instances = instances_of_end instances instance; port = name })
        ⊎ ((next : LeafPort) × Next (record { top = top; instances = instances_of_end instances instance; port = name }) next)
    end-or-on top instances number None name under design is =
        let its = own-out number name is in
        out-or-on (record { top = top; instances = instances; port = name }) (record { number = number; under = under; design_is = design; port = its.0; named = its.1; inward_is = its.2 })
    end-or-on top instances number (Some instance) name under design is =
        let its = inner-in number instance name is in
        let one = its.0 in
        in-or-on (record { top = top; instances = instances ++ instance ∷ []; port = name }) (is_design streamlets one.streamlet) (λ empty. not-empty instances instance empty)
        (record {
          number = one.streamlet;
          under = under-push streamlets top instances instance
              ∙ ap (option_and_then (λ n. option_map (λ (i : Instance). i.streamlet) (instance_named (instances_at streamlets n) instance))) under
              ∙ ap (option_map (λ (i : Instance). i.streamlet)) its.1;
          design_is = refl;
          port = its.2.0;
          named = its.2.1;
          inward_is = its.2.2;
        })

    pub sink-or-on : (one leaf : LeafPort) → Next one leaf → IsLeafSink streamlets leaf ⊎ ((next : LeafPort) × Next leaf next)
    sink-or-on one leaf leads =
        let its = its-net streamlets bodies all none one leaf leads in
        subst (λ (l : LeafPort). IsLeafSink streamlets l ⊎ ((next : LeafPort) × Next l next)) (sym leads.to)
        (end-or-on one.top leads.instances leads.number leads.net.sink.instance leads.net.sink.port leads.under (design-is streamlets bodies all none leads.number leads.net its)
        (subst (λ (inside : Inside). is_source_end streamlets inside leads.net.sink ≡ Some false) (inside-is streamlets bodies all none leads.number leads.net its)
        (all-sides streamlets its.body.inside [] its.body.links leads.net its.clean its.there).sink))

    -- ---- to the end

    module _ (source : LeafPort) (is : IsLeafSource streamlets source) (levels : ℕ)
        (short : (way : List (List ℕ)) (under : ℕ) → streamlet_under streamlets source.top way ≡ Some under → length way ≤ levels) where
      -- a port under the same top
      abbrev IsUnder : LeafPort → Type 0
      IsUnder leaf = (leaf.top ≡ source.top) × ((is : Bool) × (direction streamlets leaf ≡ Some is))

      source-direction : IsLeafSource streamlets source → (is : Bool) × (direction streamlets source ≡ Some is)
      source-direction (inl top) = (true, port-direction streamlets source true true top.1)
      source-direction (inr inner) = (false, port-direction streamlets source false false inner.1)

      is-port : (leaf : LeafPort) → IsUnder leaf → Contains (all_ports streamlets levels source.top) leaf
      is-port leaf under = subst (λ t. Contains (all_ports streamlets levels t) leaf) under.0
          (in-ports streamlets levels leaf under.1.0 (λ way number e. short way number (ap (λ t. streamlet_under streamlets t way) (sym under.0) ∙ e)) under.1.1)

      next-direction : (one leaf : LeafPort) → Next one leaf → (is : Bool) × (direction streamlets leaf ≡ Some is)
      next-direction one leaf leads = (
        seen streamlets leads.net.sink.instance false,
        ap (direction streamlets) leads.to ∙ sink-seen streamlets bodies all none one.top leads.instances leads.number leads.net leads.under (its-net streamlets bodies all none one leaf leads),
      )

      -- a way is no longer than the list of all ports
      tops-on : (from : LeafPort) (way : List LeafPort) (last : LeafPort) → from.top ≡ source.top → ByWay Next from way last → (i : ℕ) → (get_or (on_way from way last) i source).top ≡ source.top
      tops-on from [] last top by zero = top
      tops-on from [] last top by (suc zero) = ap (λ (p : LeafPort). p.top) by.to ∙ top
      tops-on from [] last top by (suc (suc i)) = refl
      tops-on from (next ∷ way) last top by zero = top
      tops-on from (next ∷ way) last top by (suc i) = tops-on next way last (ap (λ (p : LeafPort). p.top) by.0.to ∙ top) by.1 i

      short-way : (way : List LeafPort) (last : LeafPort) → ByWay Next source way last → length (on_way source way last) ≤ length (all_ports streamlets levels source.top)
      short-way way last by =
          let steps = way-steps Next source way last source by in
          few (on_way source way last) (all_ports streamlets levels source.top) source
          (λ i. is-port (get_or (on_way source way last) i source) (
            tops-on source way last refl by i,
            each-on-way (λ leaf. (is : Bool) × (direction streamlets leaf ≡ Some is)) (on_way source way last) source (source-direction is) (source-direction is)
                (λ j low. next-direction (get_or (on_way source way last) j source) (get_or (on_way source way last) (suc j) source) (steps j low)) i,
          ))
          (once Next (back-alone streamlets bodies all none) (on_way source way last) source steps (λ one. source-first streamlets bodies all none source one is))

      runs : (fuel : ℕ) (way : List LeafPort) (last : LeafPort) → ByWay Next source way last → length (all_ports streamlets levels source.top) < fuel + length (on_way source way last)
          → (sink : LeafPort) × LeadsToSink streamlets (map (impl_of streamlets) bodies) source sink
      runs zero way last by enough = absurd (omega (arith, enough, short-way way last by))
      runs (suc fuel) way last by enough = let before = last-step Next source way last by in
          on (sink-or-on before.0 last before.1) (λ next step. runs fuel (way ++ last ∷ []) next (more-way Next source way last next by step) (longer next))
        where
          longer : (next : LeafPort) → length (all_ports streamlets levels source.top) < fuel + length (on_way source (way ++ last ∷ []) next)
          longer next = omega (arith, enough, length-append way (last ∷ []), length-append (way ++ last ∷ []) (next ∷ []))

          on : IsLeafSink streamlets last ⊎ ((next : LeafPort) × Next last next)
              → ((next : LeafPort) → Next last next → (sink : LeafPort) × LeadsToSink streamlets (map (impl_of streamlets) bodies) source sink)
              → (sink : LeafPort) × LeadsToSink streamlets (map (impl_of streamlets) bodies) source sink
          on (inl sink) rest = (last, record { is_source = is; is_sink = sink; way = (way, by) })
          on (inr next) rest = rest next.0 next.1

      ends : (sink : LeafPort) × LeadsToSink streamlets (map (impl_of streamlets) bodies) source sink
      ends = let first = from-source source is in
          runs (length (all_ports streamlets levels source.top)) [] first.0 first.1 (omega arith)

-- each way of instances is short in a project that is not too large
short-enough : (streamlets : List PlainStreamlet) (top : ℕ) (limit : ℕ) → ((way : List (List ℕ)) → limit < instances_down streamlets (length way) top → ⊥)
    → (way : List (List ℕ)) (under : ℕ) → streamlet_under streamlets top way ≡ Some under → length way ≤ limit
short-enough streamlets top limit small way under e = by (ltb limit (instances_down streamlets (length way) top)) refl
  where
    by : (b : Bool) → ltb limit (instances_down streamlets (length way) top) ≡ b → length way ≤ limit
    by true is = absurd (small way (ltb-true limit (instances_down streamlets (length way) top) is))
    by false is = omega (arith, ltb-false limit (instances_down streamlets (length way) top) is, as-deep streamlets top way under e)

pub chains_end : ChainsEnd
chains_end streamlets nets are source is =
    let its = nets-of streamlets nets are in
    let found = ends streamlets (bodies_in_text streamlets) its.all its.faultless source is 65536
    (short-enough streamlets source.top 65536 (λ way many. its.small (record { levels = length way; number = source.top; many = many }))) in
    (found.0, subst (λ (impls : List ImplNets). LeadsToSink streamlets impls source found.0) (sym its.impls_are) found.1)
