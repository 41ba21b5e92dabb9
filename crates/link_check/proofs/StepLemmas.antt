-- Steps along the nets, and where they end.
use Rattle.std.proofs.Common.{◌≡◌, ℕ, ◌⊎◌, inl, inr, Bool, true, false, nat_eq, List, [], ◌∷◌, ◌++◌, map, Option, Some, None, Result, Ok, Err, IfOk, option_map, option_and_then, Contains, slice_get, if◌then◌else◌, refl, sym, ap, ◌∙◌, subst}
use Rattle.std.specs.List.{find}
use Rattle.std.proofs.lemmas.Bool.{eqb-true, eq-eqb}
use Rattle.tydi_base.specs.declared.memory.Memory.{Memory}
use Rattle.til_resolve.specs.Cycles.{LeadsTo}
use Rattle.til_resolve.specs.PlainProject.{PlainStreamlet}
use Rattle.til_resolve.specs.declared.project.LinkEnd.{LinkEnd}
use Rattle.link_check.specs.Chains.{IsLeafSink, IsLeafSource, LeadsToSink, NetLeads, instances_of_end, port_of_end, streamlet_under}
use Rattle.link_check.specs.Checked.{AreNets, impl_of}
use Rattle.link_check.specs.Ends.{is_same_end}
use Rattle.link_check.specs.Links.{Body}
use Rattle.link_check.specs.Order.{bodies_in_text}
use Rattle.link_check.specs.Steps.{HasCome, IsLedOutside, IsNext, led, sink_among, sink_at}
use Rattle.link_check.specs.declared.leaf.LeafPort.{LeafPort}
use Rattle.link_check.specs.declared.nets.ImplNets.{ImplNets}
use Rattle.link_check.specs.declared.nets.Net.{Net}
use Rattle.link_check.specs.declared.nets.Nets.{Nets}
use Rattle.link_check.proofs.CheckedLemmas.{AreOf, nets-of}
use Rattle.link_check.proofs.EndingLemmas.{from-source, sink-or-on}
use Rattle.link_check.proofs.FoundLemmas.{found-there, same-names}
use Rattle.link_check.proofs.NetLemmas.{Contains-cons, Contains-mapped, Contains-none, body_found, its-body, same-itself}
use Rattle.link_check.proofs.WayLemmas.{last-apart, last-step, more-way}

-- a search finds something where there is something
finds : {A : Type 0} (test : A → Bool) (xs : List A) (x : A) → Contains xs x → test x ≡ true → (y : A) × (find test xs ≡ Some y)
finds test [] x there holds = absurd (Contains-none x there)
finds {A} test (first ∷ xs) x there holds = by (test first) refl (Contains-cons first xs x there) (λ inside. finds test xs x inside holds)
  where
    by : (b : Bool) → test first ≡ b → (first ≡ x) ⊎ Contains xs x → (Contains xs x → (y : A) × (find test xs ≡ Some y)) → (y : A) × ((if b then Some first else find test xs) ≡ Some y)
    by true is place rest = (first, refl)
    by false is (inl same) rest = let no : ◌≡◌ {A = Bool} false true = sym is ∙ ap test same ∙ holds in absurd cc
    by false is (inr inside) rest = rest inside

module _ (streamlets : List PlainStreamlet) (impls : List ImplNets) where
  -- where a net is found, it leads on
  led-some : (top : ℕ) (instances : List (List ℕ)) (end : LinkEnd) (next : LeafPort) → led streamlets impls top instances end ≡ Some next → NetLeads streamlets impls (port_of_end top instances end) next
  led-some top instances end next e = by (streamlet_under streamlets top instances) refl e
    where
      net-at : (number : ℕ) (one : ImplNets) (found : Option Net) → streamlet_under streamlets top instances ≡ Some number
          → find (λ (i : ImplNets). nat_eq i.streamlet number) impls ≡ Some one → find (λ (net : Net). is_same_end net.source end) one.nets ≡ found
          → option_map (port_of_end top instances) (option_map (λ (net : Net). net.sink) found) ≡ Some next → NetLeads streamlets impls (port_of_end top instances end) next
      net-at number one None under at here same = absurd cc
      net-at number one (Some net) under at here same =
          let its = found-there (λ (i : ImplNets). nat_eq i.streamlet number) impls one at in
          let there = found-there (λ (n : Net). is_same_end n.source end) one.nets net here in
          let to : port_of_end top instances net.sink ≡ next = cc in
          record {
            instances = instances;
            number = number;
            under = under;
            impl = one;
            among = its.0;
            its = eqb-true one.streamlet number its.1;
            net = net;
            inside = there.0;
            from = ap (port_of_end top instances) (sym (same-names net.source end there.1));
            to = sym to;
          }

      impl-at : (number : ℕ) (found : Option ImplNets) → streamlet_under streamlets top instances ≡ Some number → find (λ (i : ImplNets). nat_eq i.streamlet number) impls ≡ found
          → option_map (port_of_end top instances) (option_and_then (λ (one : ImplNets). sink_among one.nets end) found) ≡ Some next → NetLeads streamlets impls (port_of_end top instances end) next
      impl-at number None under at same = absurd cc
      impl-at number (Some one) under at same = net-at number one (find (λ (net : Net). is_same_end net.source end) one.nets) under at refl same

      by : (under : Option ℕ) → streamlet_under streamlets top instances ≡ under
          → option_and_then (λ number. option_map (port_of_end top instances) (sink_at impls number end)) under ≡ Some next → NetLeads streamlets impls (port_of_end top instances end) next
      by None at same = absurd cc
      by (Some number) at same = impl-at number (find (λ (i : ImplNets). nat_eq i.streamlet number) impls) at refl same

  module _ (alone : (one other : ImplNets) → Contains impls one → Contains impls other → one.streamlet ≡ other.streamlet → one ≡ other) where
    -- where a net leads on, one is found
    led-there : (top : ℕ) (instances : List (List ℕ)) (number : ℕ) (one : ImplNets) (net : Net) → streamlet_under streamlets top instances ≡ Some number → Contains impls one → one.streamlet ≡ number
        → Contains one.nets net → led streamlets impls top instances net.source ≡ None → ⊥
    led-there top instances number one net under among its inside none =
        let found = finds (λ (i : ImplNets). nat_eq i.streamlet number) impls one among (eq-eqb one.streamlet number its) in
        let it = found-there (λ (i : ImplNets). nat_eq i.streamlet number) impls found.0 found.1 in
        let same : one ≡ found.0 = alone one found.0 among it.0 (its ∙ sym (eqb-true found.0.streamlet number it.1)) in
        let here = finds (λ (n : Net). is_same_end n.source net.source) found.0.nets net (subst (λ (i : ImplNets). Contains i.nets net) same inside) (same-itself net.source) in
        let all : led streamlets impls top instances net.source ≡ Some (port_of_end top instances here.0.sink) =
        ap (option_and_then (λ n. option_map (port_of_end top instances) (sink_at impls n net.source))) under
        ∙ ap (λ (o : Option ImplNets). option_map (port_of_end top instances) (option_and_then (λ (i : ImplNets). sink_among i.nets net.source) o)) found.1
        ∙ ap (λ (o : Option Net). option_map (port_of_end top instances) (option_map (λ (n : Net). n.sink) o)) here.1 in
        let clash : ◌≡◌ {A = Option LeafPort} None (Some (port_of_end top instances here.0.sink)) = sym none ∙ all in
        absurd cc

    -- where none is found inside and outside, no net leads on
    no-next : (at : LeafPort) → led streamlets impls at.top at.instances (record { instance = None; port = at.port }) ≡ None → IsLedOutside streamlets impls at None → IsNext streamlets impls at None
    no-next at inside outside next leads = by leads.net.source.instance refl
      where
        ports : at.port ≡ leads.net.source.port
        ports = ap (λ (p : LeafPort). p.port) leads.from

        end-is : (instance : Option (List ℕ)) → leads.net.source.instance ≡ instance → leads.net.source ≡ record { instance = instance; port = at.port }
        end-is instance e = ap (λ (i : Option (List ℕ)). record { instance = i; port = leads.net.source.port }) e ∙ ap (λ (p : List ℕ). record { instance = instance; port = p }) (sym ports)

        by : (instance : Option (List ℕ)) → leads.net.source.instance ≡ instance → ⊥
        by None e =
            let same : at.instances ≡ leads.instances = ap (λ (p : LeafPort). p.instances) leads.from ∙ ap (instances_of_end leads.instances) e in
            led-there at.top leads.instances leads.number leads.impl leads.net leads.under leads.among leads.its leads.inside
            (ap (led streamlets impls at.top leads.instances) (end-is None e) ∙ ap (λ (l : List (List ℕ)). led streamlets impls at.top l (record { instance = None; port = at.port })) (sym same) ∙ inside)
        by (Some name) e =
            let same : at.instances ≡ leads.instances ++ name ∷ [] = ap (λ (p : LeafPort). p.instances) leads.from ∙ ap (instances_of_end leads.instances) e in
            led-there at.top leads.instances leads.number leads.impl leads.net leads.under leads.among leads.its leads.inside
            (ap (led streamlets impls at.top leads.instances) (end-is (Some name) e) ∙ sym (outside.inner leads.instances name same))

    -- the port to which a net leads outside
    outside-next : (at : LeafPort) (next : Option LeafPort) → led streamlets impls at.top at.instances (record { instance = None; port = at.port }) ≡ None
        → IsLedOutside streamlets impls at next → IsNext streamlets impls at next
    outside-next at None inside outside = no-next at inside outside
    outside-next at (Some next) inside outside = by (last-apart at.instances)
      where
        by : (at.instances ≡ []) ⊎ ((outer : List (List ℕ)) × ((name : List ℕ) × (at.instances ≡ outer ++ name ∷ []))) → NetLeads streamlets impls at next
        by (inl empty) = let no : ◌≡◌ {A = Option LeafPort} (Some next) None = outside.top empty in absurd cc
        by (inr some) = subst (λ (l : List (List ℕ)). NetLeads streamlets impls (record { top = at.top; instances = l; port = at.port }) next) (sym some.1.1)
            (led-some at.top some.0 (record { instance = Some some.1.0; port = at.port }) next (sym (outside.inner some.0 some.1.0 some.1.1)))

-- ---- in the nets of a project

abbrev head : Body → List Body → Body
head other [] = other
head other (x ∷ xs) = x

impl-alone : (streamlets : List PlainStreamlet) (nets : Nets) → AreNets streamlets nets
    → (one other : ImplNets) → Contains nets.impls one → Contains nets.impls other → one.streamlet ≡ other.streamlet → one ≡ other
impl-alone streamlets nets are one other here there same =
    let its = nets-of streamlets nets are in
    let first = Contains-mapped (impl_of streamlets) (bodies_in_text streamlets) one (subst (λ (l : List ImplNets). Contains l one) its.impls_are here) in
    let second = Contains-mapped (impl_of streamlets) (bodies_in_text streamlets) other (subst (λ (l : List ImplNets). Contains l other) its.impls_are there) in
    let numbers : first.0.streamlet ≡ second.0.streamlet = ap (λ (i : ImplNets). i.streamlet) first.2 ∙ same ∙ sym (ap (λ (i : ImplNets). i.streamlet) second.2) in
    let bodies : first.0 ∷ [] ≡ second.0 ∷ [] =
    sym (its-body streamlets (bodies_in_text streamlets) first.0 its.all first.1) ∙ ap (λ n. body_found n (slice_get streamlets n)) numbers
    ∙ its-body streamlets (bodies_in_text streamlets) second.0 its.all second.1 in
    sym first.2 ∙ ap (λ (l : List Body). impl_of streamlets (head first.0 l)) bodies ∙ second.2

pub next-is : (streamlets : List PlainStreamlet) (nets : Nets) (at : LeafPort) (next : Option LeafPort) → AreNets streamlets nets
    → led streamlets nets.impls at.top at.instances (record { instance = None; port = at.port }) ≡ None → IsLedOutside streamlets nets.impls at next → IsNext streamlets nets.impls at next
next-is streamlets nets at next are = outside-next streamlets nets.impls (impl-alone streamlets nets are) at next

pub next-inside : (streamlets : List PlainStreamlet) (nets : Nets) (at next : LeafPort)
    → led streamlets nets.impls at.top at.instances (record { instance = None; port = at.port }) ≡ Some next → IsNext streamlets nets.impls at (Some next)
next-inside streamlets nets at next e = led-some streamlets nets.impls at.top at.instances (record { instance = None; port = at.port }) next e

pub come-on : (streamlets : List PlainStreamlet) (nets : Nets) (source at next : LeafPort) → HasCome streamlets nets.impls source at → IsNext streamlets nets.impls at (Some next) → HasCome streamlets nets.impls source next
come-on streamlets nets source at next (inl same) step = inr ([], subst (λ (p : LeafPort). NetLeads streamlets nets.impls p next) (sym same) step)
come-on streamlets nets source at next (inr way) step = inr (way.0 ++ at ∷ [], more-way (NetLeads streamlets nets.impls) source way.0 at next way.1 step)

-- where no net leads on from what the chain has come to, that is its sink
pub come-end : (streamlets : List PlainStreamlet) (nets : Nets) (source at : LeafPort) → AreNets streamlets nets → IsLeafSource streamlets source
    → HasCome streamlets nets.impls source at → IsNext streamlets nets.impls at None → LeadsToSink streamlets nets.impls source at
come-end streamlets nets source at are is come last = by come
  where
    its : AreOf streamlets nets
    its = nets-of streamlets nets are

    moved : (one next : LeafPort) → NetLeads streamlets (map (impl_of streamlets) (bodies_in_text streamlets)) one next → NetLeads streamlets nets.impls one next
    moved one next = subst (λ (l : List ImplNets). NetLeads streamlets l one next) (sym its.impls_are)

    end : LeadsTo (NetLeads streamlets nets.impls) source at → IsLeafSink streamlets at ⊎ ((next : LeafPort) × NetLeads streamlets (map (impl_of streamlets) (bodies_in_text streamlets)) at next)
        → LeadsToSink streamlets nets.impls source at
    end way (inl sink) = record { is_source = is; is_sink = sink; way = way }
    end way (inr next) = absurd (last next.0 (moved at next.0 next.1))

    by : HasCome streamlets nets.impls source at → LeadsToSink streamlets nets.impls source at
    by (inl same) = let next = from-source streamlets (bodies_in_text streamlets) its.all its.faultless source is in
        absurd (last next.0 (subst (λ (p : LeafPort). NetLeads streamlets nets.impls p next.0) same (moved source next.0 next.1)))
    by (inr way) = let before = last-step (NetLeads streamlets nets.impls) source way.0 at way.1 in
        end way (sink-or-on streamlets (bodies_in_text streamlets) its.all its.faultless before.0 at (subst (λ (l : List ImplNets). NetLeads streamlets l before.0 at) its.impls_are before.1))

pub next-ok : (streamlets : List PlainStreamlet) (nets : Nets) (at : LeafPort) (result : Result (Option LeafPort) Memory) → AreNets streamlets nets
    → led streamlets nets.impls at.top at.instances (record { instance = None; port = at.port }) ≡ None → IfOk result (IsLedOutside streamlets nets.impls at) → IfOk result (IsNext streamlets nets.impls at)
next-ok streamlets nets at (Ok next) are inside outside = next-is streamlets nets at next are inside outside
next-ok streamlets nets at (Err memory) are inside outside = outside
