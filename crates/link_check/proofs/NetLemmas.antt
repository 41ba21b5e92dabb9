-- The nets of a project without faults: the implementation that they are of, the sides of their ends, and ends that stand in one net.
use Rattle.std.proofs.Common.{◌≡◌, ℕ, zero, suc, ◌+◌, ◌<◌, ◌⊎◌, inl, inr, Bool, true, false, ◌&&◌, ◌||◌, List, [], ◌∷◌, ◌++◌, map, length, Option, Some, None, option_map, Contains, IsPermutation, slice_get, slice_index_or, bytes_eq, if◌then◌else◌, refl, sym, ap, ◌∙◌, subst, arith}
use Rattle.std.specs.Option.{option_eq}
use Rattle.std.proofs.lemmas.List.Elements.{Contains-append_cases}
use Rattle.std.proofs.lemmas.List.Folds.{list_any-append}
use Rattle.std.proofs.lemmas.List.Sorted.{Contains-permutation, IsPermutation-sym}
use Rattle.std.proofs.lemmas.Slice.Eq.{bytes_eq-Decides}
use Rattle.tydi_base.specs.declared.place.Place.{Place}
use Rattle.logical_types.specs.Tree.{Ltype}
use Rattle.til_resolve.specs.PlainProject.{PlainPort, PlainStreamlet}
use Rattle.til_resolve.specs.declared.project.Impl.{Impl}
use Rattle.til_resolve.specs.declared.project.Impl.TheVariants as impls
use Rattle.til_resolve.specs.declared.project.Link.{Link}
use Rattle.til_resolve.specs.declared.project.LinkEnd.{LinkEnd}
use Rattle.link_check.specs.Chains.{is_structural, is_design_there}
use Rattle.link_check.specs.Checked.{fault_of_bodies}
use Rattle.link_check.specs.Compatible.{Compatible}
use Rattle.link_check.specs.Differences.{first_difference}
use Rattle.link_check.specs.Ends.{Inside, Side, side_of, is_same_end, ports_found}
use Rattle.link_check.specs.Links.{Body, fault_of_body, fault_of_link, fault_of_links, fault_of_sides, is_linked, net_between, net_of, net_of_side}
use Rattle.link_check.specs.Order.{bodies_from, body_of}
use Rattle.link_check.specs.Sizes.{instances_found}
use Rattle.link_check.specs.declared.fault.LinkFault.TheVariants as faults
use Rattle.link_check.specs.declared.nets.Net.{Net}
use Rattle.link_check.proofs.CompatibleLemmas.{no_difference_is_compatible}
use Rattle.link_check.proofs.TestLemmas.{and, clash, neither, none-mapped}

-- ---- lists

pub Contains-none : {A : Type 0} (x : A) → Contains [] x → ⊥
Contains-none x there = omega (arith, there.1)

-- a thing of a list is the first, or is among the others
pub Contains-cons : {A : Type 0} (x : A) (xs : List A) (y : A) → Contains (x ∷ xs) y → (x ≡ y) ⊎ Contains xs y
Contains-cons {A} x xs y there = by there.0 there.1 there.2
  where
    by : (k : ℕ) → k < length (x ∷ xs) → slice_index_or (x ∷ xs) k y ≡ y → (x ≡ y) ⊎ Contains xs y
    by zero low is = inl is
    by (suc k) low is = inr (k, omega (arith, low), is)

-- a thing of a list of values is the value of one
pub Contains-mapped : {A B : Type 0} (value : A → B) (xs : List A) (y : B) → Contains (map value xs) y → (x : A) × Contains xs x × (value x ≡ y)
Contains-mapped value [] y there = absurd (Contains-none y there)
Contains-mapped {A} {B} value (x ∷ xs) y there = by (Contains-cons (value x) (map value xs) y there) (Contains-mapped value xs y)
  where
    by : (value x ≡ y) ⊎ Contains (map value xs) y → (Contains (map value xs) y → (z : A) × Contains xs z × (value z ≡ y)) → (z : A) × Contains (x ∷ xs) z × (value z ≡ y)
    by (inl is) rest = (x, (zero, omega arith, refl), is)
    by (inr inside) rest = let found = rest inside in (found.0, (suc found.1.0, omega (arith, found.1.1), found.1.2), found.2)

-- ---- ends

pub same-end : (one other : LinkEnd) → one.instance ≡ other.instance → one.port ≡ other.port → one ≡ other
same-end one other e f = ap (λ (i : Option (List ℕ)). record { instance = i; port = one.port }) e ∙ ap (λ (p : List ℕ). record { instance = other.instance; port = p }) f

-- ---- implementations

-- the body of a streamlet
abbrev pub body_found : ℕ → Option PlainStreamlet → List Body
body_found number None = []
body_found number (Some one) = body_of number one.ports one.body

its-number : (number : ℕ) (ports : List PlainPort) (impl : Option Impl) (body : Body) → Contains (body_of number ports impl) body
    → (body.streamlet ≡ number) × (body_of number ports impl ≡ body ∷ [])
its-number number ports None body there = absurd (Contains-none body there)
its-number number ports (Some (impls.Linked text)) body there = absurd (Contains-none body there)
its-number number ports (Some (impls.Structural place instances links)) body there =
    by (Contains-cons (record { streamlet = number; place = place; inside = record { own = ports; instances = instances }; links = links }) [] body there)
  where
    by : (record { streamlet = number; place = place; inside = record { own = ports; instances = instances }; links = links } ≡ body) ⊎ Contains [] body
        → (body.streamlet ≡ number) × (body_of number ports (Some (impls.Structural place instances links)) ≡ body ∷ [])
    by (inl is) = (ap (λ (one : Body). one.streamlet) (sym is), ap (λ (one : Body). one ∷ []) is)
    by (inr inside) = absurd (Contains-none body inside)

-- a body of streamlets is that of the streamlet of its number
pub its-streamlet : (first : ℕ) (streamlets : List PlainStreamlet) (body : Body) → Contains (bodies_from first streamlets) body
    → (i : ℕ) × (body.streamlet ≡ i + first) × (body_found body.streamlet (slice_get streamlets i) ≡ body ∷ [])
its-streamlet first [] body there = absurd (Contains-none body there)
its-streamlet first (one ∷ more) body there = by (Contains-append_cases (body_of first one.ports one.body) (bodies_from (suc first) more) body there) (its-streamlet (suc first) more body)
  where
    by : Contains (body_of first one.ports one.body) body ⊎ Contains (bodies_from (suc first) more) body
        → (Contains (bodies_from (suc first) more) body → (i : ℕ) × (body.streamlet ≡ i + suc first) × (body_found body.streamlet (slice_get more i) ≡ body ∷ []))
        → (i : ℕ) × (body.streamlet ≡ i + first) × (body_found body.streamlet (slice_get (one ∷ more) i) ≡ body ∷ [])
    by (inl here) rest = let its = its-number first one.ports one.body body here in
        (zero, omega (arith, its.0), ap (λ n. body_of n one.ports one.body) its.0 ∙ its.1)
    by (inr later) rest = let found = rest later in (suc found.0, omega (arith, found.1), found.2)

pub its-body : (streamlets : List PlainStreamlet) (bodies : List Body) (body : Body) → IsPermutation (bodies_from 0 streamlets) bodies → Contains bodies body
    → body_found body.streamlet (slice_get streamlets body.streamlet) ≡ body ∷ []
its-body streamlets bodies body all there =
    let found = its-streamlet 0 streamlets body (Contains-permutation bodies (bodies_from 0 streamlets) body (IsPermutation-sym (bodies_from 0 streamlets) bodies all) there) in
    let number : found.0 ≡ body.streamlet = omega (arith, found.1) in
    subst (λ n. body_found body.streamlet (slice_get streamlets n) ≡ body ∷ []) number found.2

-- its ports and its instances are those of its streamlet, which is a design
pub its-inside : (number : ℕ) (found : Option PlainStreamlet) (body : Body) → body_found number found ≡ body ∷ []
    → (body.inside ≡ record { own = ports_found found; instances = instances_found found }) × (is_design_there found ≡ true)
its-inside number None body is = absurd cc
its-inside number (Some one) body is = by one.body refl
  where
    first : Body → List Body → Body
    first other [] = other
    first other (x ∷ xs) = x

    by : (impl : Option Impl) → one.body ≡ impl → (body.inside ≡ record { own = one.ports; instances = instances_found (Some one) }) × (is_structural one.body ≡ true)
    by None e = let none : body_of number one.ports None ≡ body ∷ [] = subst (λ i. body_of number one.ports i ≡ body ∷ []) e is in absurd cc
    by (Some (impls.Linked text)) e = let none : body_of number one.ports (Some (impls.Linked text)) ≡ body ∷ [] = subst (λ i. body_of number one.ports i ≡ body ∷ []) e is in absurd cc
    by (Some (impls.Structural place instances links)) e =
        let there : body_of number one.ports (Some (impls.Structural place instances links)) ≡ body ∷ [] = subst (λ i. body_of number one.ports i ≡ body ∷ []) e is in (
          ap (λ (those : List Body). (first body those).inside) (sym there) ∙ ap (λ i. record { own = one.ports; instances = instances_found (Some (record { path = one.path; ports = one.ports; body = i })) }) (sym e),
          ap is_structural e,
        )

pub no-fault : (streamlets : List PlainStreamlet) (bodies : List Body) (body : Body) → fault_of_bodies streamlets bodies ≡ None → Contains bodies body → fault_of_body streamlets body ≡ None
no-fault streamlets [] body none there = absurd (Contains-none body there)
no-fault streamlets (first ∷ more) body none there = by (Contains-cons first more body there) (no-fault streamlets more body)
  where
    parts : (fault_of_body streamlets first ≡ None) × (fault_of_bodies streamlets more ≡ None)
    parts = neither (fault_of_body streamlets first) (fault_of_bodies streamlets more) none

    by : (first ≡ body) ⊎ Contains more body → (fault_of_bodies streamlets more ≡ None → Contains more body → fault_of_body streamlets body ≡ None) → fault_of_body streamlets body ≡ None
    by (inl is) rest = subst (λ (one : Body). fault_of_body streamlets one ≡ None) is parts.0
    by (inr later) rest = rest parts.1 later

pub same-itself : (end : LinkEnd) → is_same_end end end ≡ true
same-itself end = by end.instance (bytes_eq end.port end.port) ((bytes_eq-Decides end.port end.port).1 refl)
  where
    by : (instance : Option (List ℕ)) (rest : Bool) → rest ≡ true → (option_eq bytes_eq instance instance && rest) ≡ true
    by None rest e = e
    by (Some name) rest e = and (bytes_eq name name) rest ((bytes_eq-Decides name name).1 refl) e

-- no two nets are one
abbrev pub AreOnce : List Net → Type 0
AreOnce [] = Unit {0}
AreOnce (net ∷ more) = ((other : Net) → Contains more other → net ≡ other → ⊥) × AreOnce more

-- ---- the sides of a net's ends

-- an end is a source end or a sink end, where it is an end
abbrev pub is_source_end : List PlainStreamlet → Inside → LinkEnd → Option Bool
is_source_end streamlets inside end = option_map (λ (side : Side). side.is_source) (side_of streamlets inside end)

either : (one other : Bool) → (one || other) ≡ false → (one ≡ false) × (other ≡ false)
either true other e = clash (sym e)
either false other e = (refl, e)

unlinked : (place : Place) (linked : Bool) → (if linked then Some (faults.LinkedTwice place) else None) ≡ None → linked ≡ false
unlinked place true none = absurd cc
unlinked place false none = refl

-- the sides of the two ends of a net, and their types
pub record HasSides (streamlets : List PlainStreamlet) (inside : Inside) (net : Net) : Type 0 where
  pub source : is_source_end streamlets inside net.source ≡ Some true
  pub sink : is_source_end streamlets inside net.sink ≡ Some false
  pub types : (from to : Side) → side_of streamlets inside net.source ≡ Some from → side_of streamlets inside net.sink ≡ Some to → Compatible false from.ltype to.ltype

-- two ends whose types have no difference
types-of : (source sink : Option Side) (x y : Bool) (t u : Ltype) → source ≡ Some (record { is_source = x; ltype = t }) → sink ≡ Some (record { is_source = y; ltype = u }) → first_difference false t u ≡ None
    → (from to : Side) → source ≡ Some from → sink ≡ Some to → Compatible false from.ltype to.ltype
types-of source sink x y t u e f none from to a b =
    let left : ◌≡◌ {A = Option Side} (Some (record { is_source = x; ltype = t })) (Some from) = sym e ∙ a in
    let right : ◌≡◌ {A = Option Side} (Some (record { is_source = y; ltype = u })) (Some to) = sym f ∙ b in
    subst (λ (s : Ltype). Compatible false s to.ltype) (type-in left) (subst (λ (k : Ltype). Compatible false t k) (type-in right) ((no_difference_is_compatible false t u).0 none))
  where
    type-in : {one other : Side} → Some one ≡ Some other → one.ltype ≡ other.ltype
    type-in e = cc

module _ (streamlets : List PlainStreamlet) (inside : Inside) where
  side-is : (end : LinkEnd) (is : Bool) (ltype : Ltype) → side_of streamlets inside end ≡ Some (record { is_source = is; ltype = ltype }) → is_source_end streamlets inside end ≡ Some is
  side-is end is ltype e = ap (λ (o : Option Side). option_map (λ (side : Side). side.is_source) o) e

  both-sides : (place : Place) (first second : LinkEnd) (x y : Bool) (t u : Ltype) (linked : Bool)
      → side_of streamlets inside first ≡ Some (record { is_source = x; ltype = t }) → side_of streamlets inside second ≡ Some (record { is_source = y; ltype = u })
      → fault_of_sides place (Some (record { is_source = x; ltype = t })) (Some (record { is_source = y; ltype = u })) linked ≡ None
      → (linked ≡ false) × HasSides streamlets inside (net_of_side (Some (record { is_source = x; ltype = t })) first second)
  both-sides place first second true true t u linked e f none = absurd cc
  both-sides place first second false false t u linked e f none = absurd cc
  both-sides place first second true false t u linked e f none =
      let parts = neither (option_map (faults.NotCompatible place) (first_difference false t u)) (if linked then Some (faults.LinkedTwice place) else None) none in (
        unlinked place linked parts.1,
        record {
          source = side-is first true t e;
          sink = side-is second false u f;
          types = types-of (side_of streamlets inside first) (side_of streamlets inside second) true false t u e f (none-mapped (faults.NotCompatible place) (first_difference false t u) parts.0);
        },
      )
  both-sides place first second false true t u linked e f none =
      let parts = neither (option_map (faults.NotCompatible place) (first_difference false u t)) (if linked then Some (faults.LinkedTwice place) else None) none in (
        unlinked place linked parts.1,
        record {
          source = side-is second true u f;
          sink = side-is first false t e;
          types = types-of (side_of streamlets inside second) (side_of streamlets inside first) true false u t f e (none-mapped (faults.NotCompatible place) (first_difference false u t) parts.0);
        },
      )

  some-sides : (place : Place) (first second : LinkEnd) (one other : Option Side) (linked : Bool) → side_of streamlets inside first ≡ one → side_of streamlets inside second ≡ other
      → fault_of_sides place one other linked ≡ None → (linked ≡ false) × HasSides streamlets inside (net_of_side one first second)
  some-sides place first second None other linked e f none = absurd cc
  some-sides place first second (Some one) None linked e f none = absurd cc
  some-sides place first second (Some one) (Some other) linked e f none = both-sides place first second one.is_source other.is_source one.ltype other.ltype linked e f none

  -- a link without a fault: its ends stood in no link before, and its net leads from a source end to a sink end
  link-sides : (earlier : List Link) (link : Link) → fault_of_link streamlets inside earlier link ≡ None
      → ((is_linked earlier link.first || is_linked earlier link.second) ≡ false) × HasSides streamlets inside (net_of streamlets inside link)
  link-sides earlier link none = some-sides link.place link.first link.second (side_of streamlets inside link.first) (side_of streamlets inside link.second)
      (is_linked earlier link.first || is_linked earlier link.second) refl refl none

  pub all-sides : (earlier links : List Link) (net : Net) → fault_of_links streamlets inside earlier links ≡ None → Contains (map (net_of streamlets inside) links) net → HasSides streamlets inside net
  all-sides earlier [] net none there = absurd (Contains-none net there)
  all-sides earlier (link ∷ more) net none there = by (Contains-cons (net_of streamlets inside link) (map (net_of streamlets inside) more) net there) (all-sides (earlier ++ link ∷ []) more net)
    where
      parts : (fault_of_link streamlets inside earlier link ≡ None) × (fault_of_links streamlets inside (earlier ++ link ∷ []) more ≡ None)
      parts = neither (fault_of_link streamlets inside earlier link) (fault_of_links streamlets inside (earlier ++ link ∷ []) more) none

      by : (net_of streamlets inside link ≡ net) ⊎ Contains (map (net_of streamlets inside) more) net
          → (fault_of_links streamlets inside (earlier ++ link ∷ []) more ≡ None → Contains (map (net_of streamlets inside) more) net → HasSides streamlets inside net) → HasSides streamlets inside net
      by (inl is) rest = subst (HasSides streamlets inside) is (link-sides earlier link parts.0).1
      by (inr later) rest = rest parts.1 later

  -- ---- an end stands in one net

  -- the ends of a later link stand in none before
  later-apart : (earlier links : List Link) (link : Link) → fault_of_links streamlets inside earlier links ≡ None → Contains links link
      → (is_linked earlier link.first ≡ false) × (is_linked earlier link.second ≡ false)
  later-apart earlier [] link none there = absurd (Contains-none link there)
  later-apart earlier (first ∷ more) link none there = by (Contains-cons first more link there) (later-apart (earlier ++ first ∷ []) more link)
    where
      parts : (fault_of_link streamlets inside earlier first ≡ None) × (fault_of_links streamlets inside (earlier ++ first ∷ []) more ≡ None)
      parts = neither (fault_of_link streamlets inside earlier first) (fault_of_links streamlets inside (earlier ++ first ∷ []) more) none

      before : (end : LinkEnd) → is_linked (earlier ++ first ∷ []) end ≡ false → is_linked earlier end ≡ false
      before end e = (either (is_linked earlier end) (is_linked (first ∷ []) end) (sym (list_any-append (λ (l : Link). is_same_end l.first end || is_same_end l.second end) earlier (first ∷ [])) ∙ e)).0

      by : (first ≡ link) ⊎ Contains more link
          → (fault_of_links streamlets inside (earlier ++ first ∷ []) more ≡ None → Contains more link → (is_linked (earlier ++ first ∷ []) link.first ≡ false) × (is_linked (earlier ++ first ∷ []) link.second ≡ false))
          → (is_linked earlier link.first ≡ false) × (is_linked earlier link.second ≡ false)
      by (inl is) rest = subst (λ (l : Link). (is_linked earlier l.first ≡ false) × (is_linked earlier l.second ≡ false)) is
          (either (is_linked earlier first.first) (is_linked earlier first.second) (link-sides earlier first parts.0).0)
      by (inr later) rest = let apart = rest parts.1 later in (before link.first apart.0, before link.second apart.1)

  -- an end that stood in no link of these, the last of which is this one, is none of its ends
  no-end : (earlier : List Link) (link : Link) (end : LinkEnd) → is_linked (earlier ++ link ∷ []) end ≡ false → (link.first ≡ end) ⊎ (link.second ≡ end) → ⊥
  no-end earlier link end e is = by is
    where
      last : is_linked (link ∷ []) end ≡ false
      last = (either (is_linked earlier end) (is_linked (link ∷ []) end) (sym (list_any-append (λ (l : Link). is_same_end l.first end || is_same_end l.second end) earlier (link ∷ [])) ∙ e)).1

      apart : (is_same_end link.first end ≡ false) × (is_same_end link.second end ≡ false)
      apart = either (is_same_end link.first end) (is_same_end link.second end) (either (is_same_end link.first end || is_same_end link.second end) false last).0

      by : (link.first ≡ end) ⊎ (link.second ≡ end) → ⊥
      by (inl same) = clash (sym apart.0 ∙ ap (is_same_end link.first) (sym same) ∙ same-itself link.first)
      by (inr same) = clash (sym apart.1 ∙ ap (is_same_end link.second) (sym same) ∙ same-itself link.second)

  module _ (pick : Net → LinkEnd) (among : (link : Link) → (pick (net_of streamlets inside link) ≡ link.first) ⊎ (pick (net_of streamlets inside link) ≡ link.second)) where
    -- an end of a link stands in no later one
    meets : (earlier : List Link) (link later : Link) → (is_linked (earlier ++ link ∷ []) later.first ≡ false) × (is_linked (earlier ++ link ∷ []) later.second ≡ false)
        → pick (net_of streamlets inside link) ≡ pick (net_of streamlets inside later) → ⊥
    meets earlier link later apart same = by (among link) (among later)
      where
        by : (pick (net_of streamlets inside link) ≡ link.first) ⊎ (pick (net_of streamlets inside link) ≡ link.second)
            → (pick (net_of streamlets inside later) ≡ later.first) ⊎ (pick (net_of streamlets inside later) ≡ later.second) → ⊥
        by (inl is) (inl it) = no-end earlier link later.first apart.0 (inl (sym is ∙ same ∙ it))
        by (inl is) (inr it) = no-end earlier link later.second apart.1 (inl (sym is ∙ same ∙ it))
        by (inr is) (inl it) = no-end earlier link later.first apart.0 (inr (sym is ∙ same ∙ it))
        by (inr is) (inr it) = no-end earlier link later.second apart.1 (inr (sym is ∙ same ∙ it))

    pub alone : (earlier links : List Link) (one other : Net) → fault_of_links streamlets inside earlier links ≡ None
        → Contains (map (net_of streamlets inside) links) one → Contains (map (net_of streamlets inside) links) other → pick one ≡ pick other → one ≡ other
    alone earlier [] one other none there here same = absurd (Contains-none one there)
    alone earlier (link ∷ more) one other none there here same =
        by (Contains-cons (net_of streamlets inside link) (map (net_of streamlets inside) more) one there) (Contains-cons (net_of streamlets inside link) (map (net_of streamlets inside) more) other here)
        (alone (earlier ++ link ∷ []) more one other)
      where
        parts : (fault_of_link streamlets inside earlier link ≡ None) × (fault_of_links streamlets inside (earlier ++ link ∷ []) more ≡ None)
        parts = neither (fault_of_link streamlets inside earlier link) (fault_of_links streamlets inside (earlier ++ link ∷ []) more) none

        first-meets : (net : Net) → Contains (map (net_of streamlets inside) more) net → pick (net_of streamlets inside link) ≡ pick net → ⊥
        first-meets net later e = let found = Contains-mapped (net_of streamlets inside) more net later in
            meets earlier link found.0 (later-apart (earlier ++ link ∷ []) more found.0 parts.1 found.1) (e ∙ ap pick (sym found.2))

        by : (net_of streamlets inside link ≡ one) ⊎ Contains (map (net_of streamlets inside) more) one → (net_of streamlets inside link ≡ other) ⊎ Contains (map (net_of streamlets inside) more) other
            → (fault_of_links streamlets inside (earlier ++ link ∷ []) more ≡ None → Contains (map (net_of streamlets inside) more) one → Contains (map (net_of streamlets inside) more) other → pick one ≡ pick other → one ≡ other)
            → one ≡ other
        by (inl is) (inl it) rest = sym is ∙ it
        by (inl is) (inr later) rest = absurd (first-meets other later (ap pick is ∙ same))
        by (inr later) (inl it) rest = absurd (first-meets one later (ap pick it ∙ sym same))
        by (inr later) (inr also) rest = rest parts.1 later also same

    -- no two links have one end
    pub nets-once : (earlier links : List Link) → fault_of_links streamlets inside earlier links ≡ None → AreOnce (map (net_of streamlets inside) links)
    nets-once earlier [] none = tt
    nets-once earlier (link ∷ more) none =
        let parts = neither (fault_of_link streamlets inside earlier link) (fault_of_links streamlets inside (earlier ++ link ∷ []) more) none in
        (first-once parts.1, nets-once (earlier ++ link ∷ []) more parts.1)
      where
        first-once : fault_of_links streamlets inside (earlier ++ link ∷ []) more ≡ None → (net : Net) → Contains (map (net_of streamlets inside) more) net → net_of streamlets inside link ≡ net → ⊥
        first-once clean net later same = let found = Contains-mapped (net_of streamlets inside) more net later in
            meets earlier link found.0 (later-apart (earlier ++ link ∷ []) more found.0 clean found.1) (ap pick (same ∙ sym found.2))

  source-among : (first second : LinkEnd) (one : Option Side) → ((net_of_side one first second).source ≡ first) ⊎ ((net_of_side one first second).source ≡ second)
  source-among first second None = inr refl
  source-among first second (Some one) = by one.is_source
    where
      by : (is : Bool) → ((net_between is first second).source ≡ first) ⊎ ((net_between is first second).source ≡ second)
      by true = inl refl
      by false = inr refl

  sink-among : (first second : LinkEnd) (one : Option Side) → ((net_of_side one first second).sink ≡ first) ⊎ ((net_of_side one first second).sink ≡ second)
  sink-among first second None = inl refl
  sink-among first second (Some one) = by one.is_source
    where
      by : (is : Bool) → ((net_between is first second).sink ≡ first) ⊎ ((net_between is first second).sink ≡ second)
      by true = inr refl
      by false = inl refl

  -- no two nets of links without a fault are one
  pub all-once : (links : List Link) → fault_of_links streamlets inside [] links ≡ None → AreOnce (map (net_of streamlets inside) links)
  all-once links = nets-once (λ (net : Net). net.source) (λ (link : Link). source-among link.first link.second (side_of streamlets inside link.first)) [] links

  pub alone-by_source : (links : List Link) (one other : Net) → fault_of_links streamlets inside [] links ≡ None
      → Contains (map (net_of streamlets inside) links) one → Contains (map (net_of streamlets inside) links) other → one.source ≡ other.source → one ≡ other
  alone-by_source links one other = alone (λ (net : Net). net.source) (λ (link : Link). source-among link.first link.second (side_of streamlets inside link.first)) [] links one other

  pub alone-by_sink : (links : List Link) (one other : Net) → fault_of_links streamlets inside [] links ≡ None
      → Contains (map (net_of streamlets inside) links) one → Contains (map (net_of streamlets inside) links) other → one.sink ≡ other.sink → one ≡ other
  alone-by_sink links one other = alone (λ (net : Net). net.sink) (λ (link : Link). sink-among link.first link.second (side_of streamlets inside link.first)) [] links one other
