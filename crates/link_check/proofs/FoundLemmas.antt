-- Each source end of a design without faults stands in a net.
use Rattle.std.proofs.Common.{◌≡◌, ℕ, zero, suc, ◌+◌, ◌⊎◌, inl, inr, Bool, true, false, ◌||◌, List, [], ◌∷◌, ◌++◌, map, Option, Some, None, option_map, option_and_then, Contains, IsPermutation, slice_get, bytes_eq, if◌then◌else◌, refl, sym, ap, ◌∙◌, subst, arith}
use Rattle.std.specs.List.{find, flat_map, list_all}
use Rattle.std.specs.Option.{option_eq}
use Rattle.std.proofs.lemmas.List.Concat.{flat_map-cons}
use Rattle.std.proofs.lemmas.List.Elements.{Contains-append_left, Contains-append_right}
use Rattle.std.proofs.lemmas.List.Sorted.{Contains-permutation}
use Rattle.std.proofs.lemmas.Slice.Eq.{bytes_eq-Decides}
use Rattle.til_resolve.specs.PlainProject.{PlainPort, PlainStreamlet}
use Rattle.til_resolve.specs.declared.project.Impl.{Impl}
use Rattle.til_resolve.specs.declared.project.Impl.TheVariants as impls
use Rattle.til_resolve.specs.declared.project.Instance.{Instance}
use Rattle.til_resolve.specs.declared.project.Link.{Link}
use Rattle.til_resolve.specs.declared.project.LinkEnd.{LinkEnd}
use Rattle.link_check.specs.Chains.{is_design, is_design_there, is_structural}
use Rattle.link_check.specs.Checked.{fault_of_bodies, impl_of}
use Rattle.link_check.specs.Ends.{Inside, Side, ends_of, ends_of_instance, instance_named, instance_side, is_same_end, own_end, own_side, port_named, ports_at, side_named}
use Rattle.link_check.specs.Links.{Body, fault_of_links, is_linked, net_between, net_of, net_of_side}
use Rattle.link_check.specs.Order.{bodies_from, body_of}
use Rattle.link_check.specs.Sizes.{instances_at, instances_found}
use Rattle.link_check.specs.declared.fault.LinkFault.TheVariants as faults
use Rattle.link_check.specs.declared.nets.ImplNets.{ImplNets}
use Rattle.link_check.specs.declared.nets.Net.{Net}
use Rattle.link_check.proofs.NetLemmas.{Contains-cons, Contains-none, HasSides, all-sides, is_source_end, its-body, its-inside, no-fault, same-end}
use Rattle.link_check.proofs.TestLemmas.{both, clash, neither}

-- ---- lists

pub Contains-map : {A B : Type 0} (value : A → B) (xs : List A) (x : A) → Contains xs x → Contains (map value xs) (value x)
Contains-map value [] x there = absurd (Contains-none x there)
Contains-map {A} {B} value (first ∷ xs) x there = by (Contains-cons first xs x there) (Contains-map value xs x)
  where
    by : (first ≡ x) ⊎ Contains xs x → (Contains xs x → Contains (map value xs) (value x)) → Contains (map value (first ∷ xs)) (value x)
    by (inl is) rest = (zero, omega arith, ap value is)
    by (inr later) rest = let found = rest later in (suc found.0, omega (arith, found.1), found.2)

pub Contains-flat_map : {A B : Type 0} (values : A → List B) (xs : List A) (x : A) (y : B) → Contains xs x → Contains (values x) y → Contains (flat_map values xs) y
Contains-flat_map values [] x y there inside = absurd (Contains-none x there)
Contains-flat_map {A} {B} values (first ∷ xs) x y there inside = subst (λ l. Contains l y) (sym (flat_map-cons values first xs)) (by (Contains-cons first xs x there) (Contains-flat_map values xs x y))
  where
    by : (first ≡ x) ⊎ Contains xs x → (Contains xs x → Contains (values x) y → Contains (flat_map values xs) y) → Contains (values first ++ flat_map values xs) y
    by (inl is) rest = Contains-append_left (values first) (flat_map values xs) y (subst (λ z. Contains (values z) y) (sym is) inside)
    by (inr later) rest = Contains-append_right (values first) (flat_map values xs) y (rest later inside)

pub all-hold : {A : Type 0} (test : A → Bool) (xs : List A) (x : A) → list_all test xs ≡ true → Contains xs x → test x ≡ true
all-hold test [] x holds there = absurd (Contains-none x there)
all-hold {A} test (first ∷ xs) x holds there = by (Contains-cons first xs x there) (all-hold test xs x)
  where
    parts : (test first ≡ true) × (list_all test xs ≡ true)
    parts = both (test first) (list_all test xs) holds

    by : (first ≡ x) ⊎ Contains xs x → (list_all test xs ≡ true → Contains xs x → test x ≡ true) → test x ≡ true
    by (inl is) rest = ap test (sym is) ∙ parts.0
    by (inr later) rest = rest parts.1 later

-- the thing that a search finds
pub found-there : {A : Type 0} (test : A → Bool) (xs : List A) (x : A) → find test xs ≡ Some x → Contains xs x × (test x ≡ true)
found-there test [] x e = absurd cc
found-there {A} test (first ∷ xs) x e = by (test first) refl e (found-there test xs x)
  where
    by : (b : Bool) → test first ≡ b → (if b then Some first else find test xs) ≡ Some x → (find test xs ≡ Some x → Contains xs x × (test x ≡ true)) → Contains (first ∷ xs) x × (test x ≡ true)
    by true is same rest = let it : first ≡ x = cc in ((zero, omega arith, it), ap test (sym it) ∙ is)
    by false is same rest = let found = rest same in ((suc found.0.0, omega (arith, found.0.1), found.0.2), found.1)

any-there : (links : List Link) (end : LinkEnd) → is_linked links end ≡ true → (link : Link) × Contains links link × ((is_same_end link.first end || is_same_end link.second end) ≡ true)
any-there [] end e = clash e
any-there (first ∷ links) end e = by (is_same_end first.first end || is_same_end first.second end) refl e (any-there links end)
  where
    by : (b : Bool) → (is_same_end first.first end || is_same_end first.second end) ≡ b → (b || is_linked links end) ≡ true
        → (is_linked links end ≡ true → (link : Link) × Contains links link × ((is_same_end link.first end || is_same_end link.second end) ≡ true))
        → (link : Link) × Contains (first ∷ links) link × ((is_same_end link.first end || is_same_end link.second end) ≡ true)
    by true is holds rest = (first, (zero, omega arith, refl), is)
    by false is holds rest = let found = rest holds in (found.0, (suc found.1.0, omega (arith, found.1.1), found.1.2), found.2)

-- ---- ends

pub same-names : (one other : LinkEnd) → is_same_end one other ≡ true → one ≡ other
same-names one other e =
    let parts = both (option_eq bytes_eq one.instance other.instance) (bytes_eq one.port other.port) e in
    same-end one other (by one.instance other.instance parts.0) ((bytes_eq-Decides one.port other.port).0 parts.1)
  where
    by : (a b : Option (List ℕ)) → option_eq bytes_eq a b ≡ true → a ≡ b
    by None None same = refl
    by None (Some y) same = clash same
    by (Some x) None same = clash same
    by (Some x) (Some y) same = ap (λ (n : List ℕ). Some n) ((bytes_eq-Decides x y).0 same)

either-same : (one other end : LinkEnd) (b : Bool) → is_same_end one end ≡ b → (b || is_same_end other end) ≡ true → (one ≡ end) ⊎ (other ≡ end)
either-same one other end true is e = inl (same-names one end is)
either-same one other end false is e = inr (same-names other end e)

pub own-named : (ports : List PlainPort) (name : List ℕ) (port : PlainPort) → port_named ports name ≡ Some port → Contains ports port × (port.name ≡ name)
own-named ports name port e = let found = found-there (λ (p : PlainPort). bytes_eq p.name name) ports port e in (found.0, (bytes_eq-Decides port.name name).0 found.1)

pub inner-named : (instances : List Instance) (name : List ℕ) (one : Instance) → instance_named instances name ≡ Some one → Contains instances one × (one.name ≡ name)
inner-named instances name one e = let found = found-there (λ (i : Instance). bytes_eq i.name name) instances one e in (found.0, (bytes_eq-Decides one.name name).0 found.1)

module _ (streamlets : List PlainStreamlet) (inside : Inside) where
  own-there : (name : List ℕ) (port : PlainPort) → port_named inside.own name ≡ Some port → Contains (ends_of streamlets inside) (record { instance = None; port = name })
  own-there name port e = let found = own-named inside.own name port e in
      subst (λ (n : List ℕ). Contains (ends_of streamlets inside) (record { instance = None; port = n })) found.1
      (Contains-append_left (map own_end inside.own) (flat_map (ends_of_instance streamlets) inside.instances) (own_end port) (Contains-map own_end inside.own port found.0))

  inner-there : (name port_name : List ℕ) (one : Instance) (port : PlainPort) → instance_named inside.instances name ≡ Some one → port_named (ports_at streamlets one.streamlet) port_name ≡ Some port
      → Contains (ends_of streamlets inside) (record { instance = Some name; port = port_name })
  inner-there name port_name one port e f =
      let its = inner-named inside.instances name one e in
      let found = own-named (ports_at streamlets one.streamlet) port_name port f in
      subst (λ (n : List ℕ). Contains (ends_of streamlets inside) (record { instance = Some n; port = port_name })) its.1
      (subst (λ (n : List ℕ). Contains (ends_of streamlets inside) (record { instance = Some one.name; port = n })) found.1
      (Contains-append_right (map own_end inside.own) (flat_map (ends_of_instance streamlets) inside.instances) (record { instance = Some one.name; port = port.name })
      (Contains-flat_map (ends_of_instance streamlets) inside.instances one (record { instance = Some one.name; port = port.name }) its.0
      (Contains-map (λ (p : PlainPort). record { instance = Some one.name; port = p.name }) (ports_at streamlets one.streamlet) port found.0))))

  -- an end that has a side is one of all ends
  end-there : (instance : Option (List ℕ)) (name : List ℕ) (is : Bool) → option_map (λ (side : Side). side.is_source) (side_named streamlets inside instance name) ≡ Some is
      → Contains (ends_of streamlets inside) (record { instance = instance; port = name })
  end-there None name is e = by (port_named inside.own name) refl e
    where
      by : (found : Option PlainPort) → port_named inside.own name ≡ found → option_map (λ (side : Side). side.is_source) (option_map own_side found) ≡ Some is
          → Contains (ends_of streamlets inside) (record { instance = None; port = name })
      by None found same = absurd cc
      by (Some port) found same = own-there name port found
  end-there (Some instance) name is e = by (instance_named inside.instances instance) refl e
    where
      more : (one : Instance) (found : Option PlainPort) → instance_named inside.instances instance ≡ Some one → port_named (ports_at streamlets one.streamlet) name ≡ found
          → option_map (λ (side : Side). side.is_source) (option_map instance_side found) ≡ Some is → Contains (ends_of streamlets inside) (record { instance = Some instance; port = name })
      more one None at found same = absurd cc
      more one (Some port) at found same = inner-there instance name one port at found

      by : (found : Option Instance) → instance_named inside.instances instance ≡ found
          → option_map (λ (side : Side). side.is_source) (option_and_then (λ (one : Instance). option_map instance_side (port_named (ports_at streamlets one.streamlet) name)) found) ≡ Some is
          → Contains (ends_of streamlets inside) (record { instance = Some instance; port = name })
      by None found same = absurd cc
      by (Some one) found same = more one (port_named (ports_at streamlets one.streamlet) name) found refl same

  -- a net's source end is one of its link's ends, and its sink end the other
  either-way : (first second : LinkEnd) (one : Option Side)
      → (((net_of_side one first second).source ≡ first) × ((net_of_side one first second).sink ≡ second)) ⊎ (((net_of_side one first second).source ≡ second) × ((net_of_side one first second).sink ≡ first))
  either-way first second None = inr (refl, refl)
  either-way first second (Some one) = by one.is_source
    where
      by : (is : Bool) → (((net_between is first second).source ≡ first) × ((net_between is first second).sink ≡ second)) ⊎ (((net_between is first second).source ≡ second) × ((net_between is first second).sink ≡ first))
      by true = inl (refl, refl)
      by false = inr (refl, refl)

  -- a source end that stands in a link is the source of its net
  source-of : (end : LinkEnd) (net : Net) (first second : LinkEnd) → is_source_end streamlets inside end ≡ Some true → HasSides streamlets inside net
      → ((net.source ≡ first) × (net.sink ≡ second)) ⊎ ((net.source ≡ second) × (net.sink ≡ first)) → (first ≡ end) ⊎ (second ≡ end) → net.source ≡ end
  source-of end net first second is sides (inl way) (inl same) = way.0 ∙ same
  source-of end net first second is sides (inr way) (inr same) = way.0 ∙ same
  source-of end net first second is sides (inl way) (inr same) =
      let at : ◌≡◌ {A = Option Bool} (Some true) (Some false) = sym is ∙ ap (is_source_end streamlets inside) (sym (way.1 ∙ same)) ∙ sides.sink in absurd cc
  source-of end net first second is sides (inr way) (inl same) =
      let at : ◌≡◌ {A = Option Bool} (Some true) (Some false) = sym is ∙ ap (is_source_end streamlets inside) (sym (way.1 ∙ same)) ∙ sides.sink in absurd cc

  source-net : (links : List Link) (end : LinkEnd) → fault_of_links streamlets inside [] links ≡ None → list_all (is_linked links) (ends_of streamlets inside) ≡ true
      → is_source_end streamlets inside end ≡ Some true → (net : Net) × Contains (map (net_of streamlets inside) links) net × (net.source ≡ end)
  source-net links end clean linked is =
      let found = any-there links end (all-hold (is_linked links) (ends_of streamlets inside) end linked (end-there end.instance end.port true is)) in
      let link = found.0 in
      let there = Contains-map (net_of streamlets inside) links link found.1 in (
        net_of streamlets inside link,
        there,
        source-of end (net_of streamlets inside link) link.first link.second is (all-sides streamlets inside [] links (net_of streamlets inside link) clean there)
            (either-way link.first link.second (side_named streamlets inside link.first.instance link.first.port))
            (either-same link.first link.second end (is_same_end link.first end) refl found.2),
      )

-- ---- implementations

-- a design has a body
has-body : (first : ℕ) (streamlets : List PlainStreamlet) (i : ℕ) → is_design streamlets i ≡ true → (body : Body) × Contains (bodies_from first streamlets) body × (body.streamlet ≡ i + first)
has-body first [] i e = clash e
has-body first (one ∷ more) zero e = by one.body e
  where
    by : (impl : Option Impl) → is_structural impl ≡ true → (body : Body) × Contains (body_of first one.ports impl ++ bodies_from (suc first) more) body × (body.streamlet ≡ 0 + first)
    by None is = clash is
    by (Some (impls.Linked text)) is = clash is
    by (Some (impls.Structural place instances links)) is =
        (record { streamlet = first; place = place; inside = record { own = one.ports; instances = instances }; links = links }, (zero, omega arith, refl), omega arith)
has-body first (one ∷ more) (suc i) e = let found = has-body (suc first) more i e in
    (found.0, Contains-append_right (body_of first one.ports one.body) (bodies_from (suc first) more) found.0 found.1, omega (arith, found.2))

-- a streamlet with instances is a design
pub has-instances : (streamlets : List PlainStreamlet) (number : ℕ) (name : List ℕ) (one : Instance) → instance_named (instances_at streamlets number) name ≡ Some one → is_design streamlets number ≡ true
has-instances streamlets number name one e = by (slice_get streamlets number) e
  where
    inside : (impl : Option Impl) (path : List (List ℕ)) (ports : List PlainPort) → instance_named (instances_found (Some (record { path = path; ports = ports; body = impl }))) name ≡ Some one → is_structural impl ≡ true
    inside None path ports is = absurd cc
    inside (Some (impls.Linked text)) path ports is = absurd cc
    inside (Some (impls.Structural place instances links)) path ports is = refl

    by : (found : Option PlainStreamlet) → instance_named (instances_found found) name ≡ Some one → is_design_there found ≡ true
    by None is = absurd cc
    by (Some there) is = inside there.body there.path there.ports is

whole : (place : _) (linked : Bool) → (if linked then None else Some (faults.Unlinked place)) ≡ None → linked ≡ true
whole place true e = refl
whole place false e = absurd cc

-- a source end of a design is the source of a net
pub design-net : (streamlets : List PlainStreamlet) (bodies : List Body) (number : ℕ) (end : LinkEnd) → IsPermutation (bodies_from 0 streamlets) bodies → fault_of_bodies streamlets bodies ≡ None
    → is_design streamlets number ≡ true → is_source_end streamlets (record { own = ports_at streamlets number; instances = instances_at streamlets number }) end ≡ Some true
    → (impl : ImplNets) × Contains (map (impl_of streamlets) bodies) impl × (impl.streamlet ≡ number) × ((net : Net) × Contains impl.nets net × (net.source ≡ end))
design-net streamlets bodies number end all none design is =
    let made = has-body 0 streamlets number design in
    let body = made.0 in
    let same : body.streamlet ≡ number = omega (arith, made.2) in
    let there = Contains-permutation (bodies_from 0 streamlets) bodies body all made.1 in
    let parts = neither (fault_of_links streamlets body.inside [] body.links) (if list_all (is_linked body.links) (ends_of streamlets body.inside) then None else Some (faults.Unlinked body.place))
    (no-fault streamlets bodies body none there) in
    let inside = (its-inside body.streamlet (slice_get streamlets body.streamlet) body (its-body streamlets bodies body all there)).0 in
    let source : is_source_end streamlets body.inside end ≡ Some true =
    ap (λ (i : Inside). is_source_end streamlets i end) (inside ∙ ap (λ n. record { own = ports_at streamlets n; instances = instances_at streamlets n }) same) ∙ is in (
      impl_of streamlets body,
      Contains-map (impl_of streamlets) bodies body there,
      same,
      source-net streamlets body.inside body.links end parts.0 (whole body.place (list_all (is_linked body.links) (ends_of streamlets body.inside)) parts.1) source,
    )
