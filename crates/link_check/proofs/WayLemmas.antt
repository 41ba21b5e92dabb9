-- Ways of steps that meet nothing twice are no longer than the list of all that they can meet; and the ports under a top are such a list.
use Rattle.std.proofs.Common.{◌≡◌, ℕ, zero, suc, ◌+◌, ◌<◌, ◌≤◌, ◌⊎◌, inl, inr, Bool, true, false, ltb, List, [], ◌∷◌, ◌++◌, map, length, get_or, sum_by, Option, Some, None, option_map, option_and_then, Contains, refl, sym, ap, ◌∙◌, subst, arith}
use Rattle.std.specs.List.{flat_map}
use Rattle.std.proofs.lemmas.List.Sums.{get_or-le-sum_by}
use Rattle.std.proofs.lemmas.Bool.{ltb-true, ltb-false}
use Rattle.indexmap.proofs.IndexTableLemmas.Probe.{pigeonhole}
use Rattle.til_resolve.specs.Cycles.{ByWay}
use Rattle.til_resolve.specs.PlainProject.{PlainPort, PlainStreamlet}
use Rattle.til_resolve.specs.declared.project.Instance.{Instance}
use Rattle.link_check.specs.Chains.{streamlet_under}
use Rattle.link_check.specs.Ends.{instance_named, port_named, ports_at}
use Rattle.link_check.specs.Sizes.{instances_at, instances_down}
use Rattle.link_check.specs.declared.leaf.LeafPort.{LeafPort}
use Rattle.link_check.proofs.ChainLemmas.{direction, direction_in}
use Rattle.link_check.proofs.FoundLemmas.{Contains-flat_map, Contains-map, inner-named, own-named}

-- ---- finitely many things

module _ {A : Type 0} (things all : List A) (d : A) (among : (i : ℕ) → Contains all (get_or things i d))
    (apart : (i j : ℕ) → i < length things → j < length things → get_or things i d ≡ get_or things j d → i ≡ j) where
  default-is : (xs : List A) (i : ℕ) (x y : A) → i < length xs → get_or xs i x ≡ get_or xs i y
  default-is [] i x y low = absurd (omega (arith, low))
  default-is (z ∷ zs) zero x y low = refl
  default-is (z ∷ zs) (suc i) x y low = default-is zs i x y (omega (arith, low))

  same-place : (k l : ℕ) (x y : A) → k < length all → k ≡ l → get_or all k x ≡ x → get_or all l y ≡ y → x ≡ y
  same-place k l x y low same e f = sym e ∙ default-is all k x y low ∙ ap (λ n. get_or all n y) same ∙ f

  -- things apart are no more than all
  pub few : length things ≤ length all
  few = pigeonhole (length things) (length all) (λ i. (among i).0) (λ i low. (among i).1)
      (λ i j low high same. apart i j low high (same-place (among i).0 (among j).0 (get_or things i d) (get_or things j d) (among i).1 same (among i).2 (among j).2))

-- a fact about the first thing, and about each next one, is one about all
pub each-on-way : {A : Type 0} (P : A → Type 0) (things : List A) (d : A) → P d → P (get_or things 0 d) → ((i : ℕ) → suc i < length things → P (get_or things (suc i) d)) → (i : ℕ) → P (get_or things i d)
each-on-way P things d at first next zero = first
each-on-way {A} P things d at first next (suc i) = by (ltb (suc i) (length things)) refl
  where
    beyond : (xs : List A) (j : ℕ) → length xs ≤ j → get_or xs j d ≡ d
    beyond [] j low = refl
    beyond (x ∷ xs) zero low = absurd (omega (arith, low))
    beyond (x ∷ xs) (suc j) low = beyond xs j (omega (arith, low))

    by : (b : Bool) → ltb (suc i) (length things) ≡ b → P (get_or things (suc i) d)
    by true e = next i (ltb-true (suc i) (length things) e)
    by false e = subst P (sym (beyond things (suc i) (omega (arith, ltb-false (suc i) (length things) e)))) at

-- one step more
pub more-way : {A : Type 0} (Step : A → A → Type 0) (from : A) (way : List A) (last next : A) → ByWay Step from way last → Step last next → ByWay Step from (way ++ last ∷ []) next
more-way Step from [] last next by step = (by, step)
more-way Step from (first ∷ way) last next by step = (by.0, more-way Step first way last next by.1 step)

pub last-step : {A : Type 0} (Step : A → A → Type 0) (from : A) (way : List A) (last : A) → ByWay Step from way last → (one : A) × Step one last
last-step Step from [] last by = (from, by)
last-step Step from (first ∷ way) last by = last-step Step first way last by.1

-- all names but the last, and the last
pub last-apart : (names : List (List ℕ)) → (names ≡ []) ⊎ ((outer : List (List ℕ)) × ((name : List ℕ) × (names ≡ outer ++ name ∷ [])))
last-apart [] = inl refl
last-apart (first ∷ []) = inr ([], (first, refl))
last-apart (first ∷ next ∷ more) = by (last-apart (next ∷ more))
  where
    by : (next ∷ more ≡ []) ⊎ ((outer : List (List ℕ)) × ((name : List ℕ) × (next ∷ more ≡ outer ++ name ∷ [])))
        → (first ∷ next ∷ more ≡ []) ⊎ ((outer : List (List ℕ)) × ((name : List ℕ) × (first ∷ next ∷ more ≡ outer ++ name ∷ [])))
    by (inl none) = absurd cc
    by (inr some) = inr (first ∷ some.0, (some.1.0, ap (λ l. first ∷ l) some.1.1))

-- ---- ports under a top

-- the names of instances that lead to a streamlet, down to so many levels
ways : List PlainStreamlet → (levels number : ℕ) → List (List (List ℕ))
ways streamlets zero number = [] ∷ []
ways streamlets (suc levels) number = [] ∷ flat_map (λ (one : Instance). map (λ (more : List (List ℕ)). one.name ∷ more) (ways streamlets levels one.streamlet)) (instances_at streamlets number)

ports_of_way : List PlainStreamlet → ℕ → List (List ℕ) → Option ℕ → List LeafPort
ports_of_way streamlets top way None = []
ports_of_way streamlets top way (Some number) = map (λ (port : PlainPort). record { top = top; instances = way; port = port.name }) (ports_at streamlets number)

pub all_ports : List PlainStreamlet → (levels top : ℕ) → List LeafPort
all_ports streamlets levels top = flat_map (λ (way : List (List ℕ)). ports_of_way streamlets top way (streamlet_under streamlets top way)) (ways streamlets levels top)

among-sum : (count : Instance → ℕ) (all : List Instance) (one : Instance) → Contains all one → count one ≤ sum_by count all
among-sum count all one there = subst (λ (x : Instance). count x ≤ sum_by count all) there.2 (get_or-le-sum_by count all there.0 one there.1)

module _ (streamlets : List PlainStreamlet) where
  -- a streamlet down a way has as many instances round it
  pub as-deep : (number : ℕ) (way : List (List ℕ)) (under : ℕ) → streamlet_under streamlets number way ≡ Some under → length way ≤ instances_down streamlets (length way) number
  as-deep number [] under e = omega arith
  as-deep number (name ∷ more) under e = by (instance_named (instances_at streamlets number) name) refl e (λ (one : Instance). as-deep one.streamlet more under)
    where
      by : (found : Option Instance) → instance_named (instances_at streamlets number) name ≡ found
          → option_and_then (λ (one : Instance). streamlet_under streamlets one.streamlet more) found ≡ Some under
          → ((one : Instance) → streamlet_under streamlets one.streamlet more ≡ Some under → length more ≤ instances_down streamlets (length more) one.streamlet)
          → length (name ∷ more) ≤ instances_down streamlets (length (name ∷ more)) number
      by None found at rest = absurd cc
      by (Some one) found at rest =
          omega (
            arith,
            rest one at,
            among-sum (λ (i : Instance). 1 + instances_down streamlets (length more) i.streamlet) (instances_at streamlets number) one
                (inner-named (instances_at streamlets number) name one found).0,
          )

  in-ways : (levels number : ℕ) (way : List (List ℕ)) (under : ℕ) → streamlet_under streamlets number way ≡ Some under → length way ≤ levels → Contains (ways streamlets levels number) way
  unfolding ways
  in-ways zero number [] under e low = (0, omega arith, refl)
  in-ways (suc levels) number [] under e low = (0, omega arith, refl)
  in-ways zero number (name ∷ more) under e low = absurd (omega (arith, low))
  in-ways (suc levels) number (name ∷ more) under e low =
      by (instance_named (instances_at streamlets number) name) refl e (λ (one : Instance) (at : streamlet_under streamlets one.streamlet more ≡ Some under). in-ways levels one.streamlet more under at (omega (arith, low)))
    where
      inner : Instance → List (List (List ℕ))
      inner one = map (λ (rest : List (List ℕ)). one.name ∷ rest) (ways streamlets levels one.streamlet)

      by : (found : Option Instance) → instance_named (instances_at streamlets number) name ≡ found
          → option_and_then (λ (one : Instance). streamlet_under streamlets one.streamlet more) found ≡ Some under
          → ((one : Instance) → streamlet_under streamlets one.streamlet more ≡ Some under → Contains (ways streamlets levels one.streamlet) more)
          → Contains ([] ∷ flat_map (λ (one : Instance). map (λ (rest : List (List ℕ)). one.name ∷ rest) (ways streamlets levels one.streamlet)) (instances_at streamlets number)) (name ∷ more)
      by None found at rest = absurd cc
      by (Some one) found at rest =
          let its = inner-named (instances_at streamlets number) name one found in
          let there : Contains (map (λ (l : List (List ℕ)). one.name ∷ l) (ways streamlets levels one.streamlet)) (name ∷ more) =
          subst (λ (n : List ℕ). Contains (map (λ (l : List (List ℕ)). one.name ∷ l) (ways streamlets levels one.streamlet)) (n ∷ more)) its.1
          (Contains-map (λ (l : List (List ℕ)). one.name ∷ l) (ways streamlets levels one.streamlet) more (rest one at)) in
          let among = Contains-flat_map (λ (i : Instance). map (λ (l : List (List ℕ)). i.name ∷ l) (ways streamlets levels i.streamlet)) (instances_at streamlets number) one (name ∷ more) its.0 there in
          (suc among.0, omega (arith, among.1), among.2)

  -- a port that has a direction is one of all ports
  pub in-ports : (levels : ℕ) (leaf : LeafPort) (is : Bool) → ((way : List (List ℕ)) (under : ℕ) → streamlet_under streamlets leaf.top way ≡ Some under → length way ≤ levels)
      → direction streamlets leaf ≡ Some is → Contains (all_ports streamlets levels leaf.top) leaf
  unfolding all_ports ports_of_way
  in-ports levels leaf is short e = by (streamlet_under streamlets leaf.top leaf.instances) refl e
    where
      inner : (number : ℕ) (found : Option PlainPort) → port_named (ports_at streamlets number) leaf.port ≡ found → option_map (λ (one : PlainPort). one.inward) found ≡ Some is
          → Contains {X = LeafPort} (map (λ (port : PlainPort). record { top = leaf.top; instances = leaf.instances; port = port.name }) (ports_at streamlets number)) leaf
      inner number None at same = absurd cc
      inner number (Some port) at same = let found = own-named (ports_at streamlets number) leaf.port port at in
          subst (λ (n : List ℕ). Contains {X = LeafPort} (map (λ (p : PlainPort). record { top = leaf.top; instances = leaf.instances; port = p.name }) (ports_at streamlets number))
          (record { top = leaf.top; instances = leaf.instances; port = n })) found.1
          (Contains-map (λ (p : PlainPort). record { top = leaf.top; instances = leaf.instances; port = p.name }) (ports_at streamlets number) port found.0)

      by : (under : Option ℕ) → streamlet_under streamlets leaf.top leaf.instances ≡ under → direction_in streamlets leaf.port under ≡ Some is
          → Contains (flat_map (λ (way : List (List ℕ)). ports_of_way streamlets leaf.top way (streamlet_under streamlets leaf.top way)) (ways streamlets levels leaf.top)) leaf
      by None at same = absurd cc
      by (Some number) at same =
          Contains-flat_map (λ (way : List (List ℕ)). ports_of_way streamlets leaf.top way (streamlet_under streamlets leaf.top way)) (ways streamlets levels leaf.top) leaf.instances leaf
          (in-ways levels leaf.top leaf.instances number at (short leaf.instances number at))
          (subst (λ o. Contains (ports_of_way streamlets leaf.top leaf.instances o) leaf) (sym at) (inner number (port_named (ports_at streamlets number) leaf.port) refl same))
