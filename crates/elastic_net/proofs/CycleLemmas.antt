-- The cycles that a chain makes in an order.
use Rattle.std.proofs.Common.{◌≡◌, ◌∙◌, ℕ, zero, suc, ◌+◌, ◌-◌, ◌^◌, ◌<◌, ◌≤◌, min, Bool, true, false, if◌then◌else◌, List, [], ◌∷◌, ◌++◌, length, map, take, get_or, slice_get, None, Some, refl, sym, ap, subst, arith}
use Rattle.std.proofs.lemmas.List.{take_all}
use Rattle.physical_stream.specs.Params.{Parameters}
use Rattle.physical_stream.specs.declared.transfer.Transfer.{Transfer}
use Rattle.handshake.specs.declared.feed.TransferFeed.{Ghosts}
use Rattle.elastic_net.specs.declared.chain.Chain.{Chain}
use Rattle.elastic_net.specs.Orders.{IsOrder, count_from, how_many, is_among, order_in, own_order}
use Rattle.elastic_net.specs.Sinks.{acts_of}
use Rattle.elastic_net.specs.Standing.{KeepChain, StandsFor}
use Rattle.elastic_net.specs.States.{ChainState, act_of, has_acted, next_cycle_of}
use Rattle.elastic_net.proofs.OrderLemmas.{acts-append, acts-own, among-within, count-more, count-past, has-acted, many-here, not-acted, order-few, own-fresh, own-is_order}
use Rattle.elastic_net.proofs.StandLemmas.{stands-next}

map-get : {A : Type 0} {B : Type 0} (f : A → B) (xs : List A) (i : ℕ) (x : A) (d : B) → slice_get xs i ≡ Some x → get_or (map f xs) i d ≡ f x
map-get f [] i x d is = cc
map-get f (y ∷ xs) zero x d is = let e : y ≡ x = cc in ap f e
map-get f (y ∷ xs) (suc i) x d is = map-get f xs i x d is

map-past : {A : Type 0} {B : Type 0} (f : A → B) (xs : List A) (i : ℕ) (d : B) → slice_get xs i ≡ None → get_or (map f xs) i d ≡ d
map-past f [] i d is = refl
map-past f (y ∷ xs) zero d is = cc
map-past f (y ∷ xs) (suc i) d is = map-past f xs i d is

module _ {F : Type 0} {T : Ghosts F} (rest whole : F → List Transfer) where
  pub chain-same : (c : Chain F T) → KeepChain whole c c
  chain-same c = record { params = refl; gaps = refl; stages = refl; all = refl }

  pub chain-trans : (a b c : Chain F T) → KeepChain whole a b → KeepChain whole b c → KeepChain whole a c
  chain-trans a b c k l = record { params = l.params ∙ k.params; gaps = l.gaps ∙ k.gaps; stages = l.stages ∙ k.stages; all = l.all ∙ k.all }

  -- what the chain stands for once so many components of an order of all components have acted
  pub record ActsOn (old new : Chain F T) (first : ℕ) (order : List ℕ) (ready : Bool) (index : ℕ) : Type 0 where
    pub kept : KeepChain whole old new
    pub stands : (ts : List Transfer) (s : ChainState) → StandsFor rest old ts s → s.acted ≡ [] → IsOrder (suc (length old.stages)) (own_order first (suc (length old.stages)) order) →
        StandsFor rest new ts (acts_of old.params ts old.gaps old.stages (own_order first (suc (length old.stages)) (take index order)) ready s)

  pub acts-start : (c : Chain F T) (first : ℕ) (order : List ℕ) (ready : Bool) → ActsOn c c first order ready 0
  acts-start c first order ready = record { kept = chain-same c; stands = λ ts s stands fresh is. stands }

  -- the call for one component, where the chain before it has the stream, the gaps and the stages of the first
  module _ (old mid new : Chain F T) (k : KeepChain whole old mid) (first x : ℕ) (ready : Bool) where
    abbrev pub OneOwn : Parameters → List ℕ → List ℕ → Type 0
    OneOwn p gaps stages = (ts : List Transfer) (s : ChainState) → StandsFor rest mid ts s → (is_among first (suc (length stages)) x ≡ true → has_acted (x - first) s ≡ false) →
        StandsFor rest new ts (if is_among first (suc (length stages)) x then act_of p ts gaps stages (x - first) ready s else s)

    one-own : OneOwn mid.params mid.gaps mid.stages → OneOwn old.params old.gaps old.stages
    one-own is =
        subst (λ (q : Parameters). OneOwn q old.gaps old.stages) k.params
        (subst (λ (l : List ℕ). OneOwn mid.params l old.stages) k.gaps
        (subst (λ (l : List ℕ). OneOwn mid.params mid.gaps l) k.stages is))

    pub acts-more : (order : List ℕ) (index : ℕ) → ActsOn old mid first order ready index → KeepChain whole mid new →
        ((ts : List Transfer) (s : ChainState) → StandsFor rest mid ts s → (is_among first (suc (length mid.stages)) x ≡ true → has_acted (x - first) s ≡ false) →
        StandsFor rest new ts (if is_among first (suc (length mid.stages)) x then act_of mid.params ts mid.gaps mid.stages (x - first) ready s else s)) →
        index < length order → x ≡ get_or order index x → ActsOn old new first order ready (index + 1)
    acts-more order index a one call less is = record {
      kept = chain-trans old mid new a.kept one;
      stands = λ ts s stands fresh o.
          let so = a.stands ts s stands fresh o in
          let done : ChainState = acts_of old.params ts old.gaps old.stages (own_order first (suc (length old.stages)) (take index order)) ready s in
          subst (StandsFor rest new ts) (sym (acts-own old.params ts old.gaps old.stages ready first (suc (length old.stages)) order index x s less is))
          (one-own call ts (acts_of old.params ts old.gaps old.stages (own_order first (suc (length old.stages)) (take index order)) ready s) so
          (λ own. not-acted old.params ts old.gaps old.stages ready (x - first) (own_order first (suc (length old.stages)) (take index order)) s fresh
          (own-fresh first (suc (length old.stages)) order index x o less is own (among-within first (suc (length old.stages)) x own))));
    }

  pub acts-end : (old new : Chain F T) (first : ℕ) (order : List ℕ) (ready : Bool) (index : ℕ) → ActsOn old new first order ready index → length order ≤ index →
      (ts : List Transfer) (s : ChainState) → StandsFor rest old ts s → s.acted ≡ [] → IsOrder (suc (length old.stages)) (own_order first (suc (length old.stages)) order) →
      StandsFor rest new ts (acts_of old.params ts old.gaps old.stages (own_order first (suc (length old.stages)) order) ready s)
  acts-end old new first order ready index a past ts s stands fresh o =
      subst (λ (l : List ℕ). StandsFor rest new ts (acts_of old.params ts old.gaps old.stages (own_order first (suc (length old.stages)) l) ready s)) (take_all index order past) (a.stands ts s stands fresh o)

  -- ---- one after another from the source on

  pub record CountsOn (old new : Chain F T) (ready : Bool) (index : ℕ) : Type 0 where
    pub kept : KeepChain whole old new
    pub stands : (ts : List Transfer) (s : ChainState) → StandsFor rest old ts s → s.acted ≡ [] → StandsFor rest new ts (acts_of old.params ts old.gaps old.stages (count_from 0 index) ready s)

  pub counts-start : (c : Chain F T) (ready : Bool) → CountsOn c c ready 0
  counts-start c ready = record { kept = chain-same c; stands = λ ts s stands fresh. stands }

  module _ (old mid new : Chain F T) (k : KeepChain whole old mid) (index : ℕ) (ready : Bool) where
    abbrev pub OneTurn : Parameters → List ℕ → List ℕ → Type 0
    OneTurn p gaps stages = (ts : List Transfer) (s : ChainState) → StandsFor rest mid ts s → has_acted index s ≡ false → StandsFor rest new ts (act_of p ts gaps stages index ready s)

    one-turn : OneTurn mid.params mid.gaps mid.stages → OneTurn old.params old.gaps old.stages
    one-turn is =
        subst (λ (q : Parameters). OneTurn q old.gaps old.stages) k.params
        (subst (λ (l : List ℕ). OneTurn mid.params l old.stages) k.gaps
        (subst (λ (l : List ℕ). OneTurn mid.params mid.gaps l) k.stages is))

    pub counts-more : CountsOn old mid ready index → KeepChain whole mid new →
        ((ts : List Transfer) (s : ChainState) → StandsFor rest mid ts s → has_acted index s ≡ false → StandsFor rest new ts (act_of mid.params ts mid.gaps mid.stages index ready s)) → CountsOn old new ready (index + 1)
    counts-more a one call = record {
      kept = chain-trans old mid new a.kept one;
      stands = λ ts s stands fresh.
          let e : index + 1 ≡ suc index = omega arith in
          let longer : count_from 0 (index + 1) ≡ count_from 0 index ++ index ∷ [] = ap (count_from 0) e ∙ count-more 0 index ∙ ap (λ (n : ℕ). count_from 0 index ++ n ∷ []) (let f : 0 + index ≡ index = omega arith in f) in
          subst (StandsFor rest new ts) (sym (ap (λ (l : List ℕ). acts_of old.params ts old.gaps old.stages l ready s) longer ∙ acts-append old.params ts old.gaps old.stages ready (count_from 0 index) (index ∷ []) s))
          (one-turn call ts (acts_of old.params ts old.gaps old.stages (count_from 0 index) ready s) (a.stands ts s stands fresh)
          (not-acted old.params ts old.gaps old.stages ready index (count_from 0 index) s fresh (count-past index 0 index (omega arith))));
    }

  -- ---- the end of the cycle

  pub cycle-ends : (old new : Chain F T) (order : List ℕ) (ready : Bool) (ts : List Transfer) (s : ChainState) → 0 < how_many 0 order → StandsFor rest new ts (acts_of old.params ts old.gaps old.stages order ready s) →
      StandsFor rest new ts (next_cycle_of (acts_of old.params ts old.gaps old.stages order ready s))
  cycle-ends old new order ready ts s some stands =
      stands-next rest new ts (acts_of old.params ts old.gaps old.stages order ready s) (has-acted old.params ts old.gaps old.stages ready 0 order s some) stands

  -- the order is one of all components of a port
  pub acts-based : (old new : Chain F T) (first : ℕ) (order : List ℕ) (ready : Bool) (index : ℕ) → ActsOn old new first order ready index → length order ≤ index → ((k : ℕ) → k < length order → get_or order k 0 < 2 ^ 32) →
      (ts : List Transfer) (s : ChainState) (base total : ℕ) → StandsFor rest old ts s → s.acted ≡ [] → first ≡ min base (2 ^ 64 - 1) → base + suc (length old.stages) ≤ total → IsOrder total order →
      StandsFor rest new ts (acts_of old.params ts old.gaps old.stages (own_order base (suc (length old.stages)) order) ready s)
  acts-based old new first order ready index a past fits ts s base total stands fresh at fit o =
      let small : total ≤ 2 ^ 32 = order-few total (2 ^ 32) order o fits in
      let is : first ≡ base = omega (arith, small, at, fit) in
      let own : IsOrder (suc (length old.stages)) (own_order base (suc (length old.stages)) order) = own-is_order base (suc (length old.stages)) total order fit o in
      subst (λ (n : ℕ). StandsFor rest new ts (acts_of old.params ts old.gaps old.stages (own_order n (suc (length old.stages)) order) ready s)) is
      (acts-end old new first order ready index a past ts s stands fresh (subst (λ (n : ℕ). IsOrder (suc (length old.stages)) (own_order n (suc (length old.stages)) order)) (sym is) own))

  -- the order of this cycle is there
  pub cycle-there : (old new : Chain F T) (first number : ℕ) (orders : List (List ℕ)) (order line : List ℕ) (ready : Bool) → Some order ≡ slice_get orders number → line ≡ order →
      ((ts : List Transfer) (s : ChainState) (base total : ℕ) → StandsFor rest old ts s → s.acted ≡ [] → first ≡ min base (2 ^ 64 - 1) → base + suc (length old.stages) ≤ total → IsOrder total line →
      StandsFor rest new ts (acts_of old.params ts old.gaps old.stages (own_order base (suc (length old.stages)) line) ready s)) →
      (ts : List Transfer) (s : ChainState) (base total : ℕ) → StandsFor rest old ts s → s.acted ≡ [] → first ≡ min base (2 ^ 64 - 1) → base + suc (length old.stages) ≤ total →
      ((order : List ℕ) → slice_get orders number ≡ Some order → IsOrder total order) →
      StandsFor rest new ts (next_cycle_of (acts_of old.params ts old.gaps old.stages (order_in (suc (length old.stages)) (map (own_order base (suc (length old.stages))) orders) number) ready s))
  cycle-there old new first number orders order line ready there same call ts s base total stands fresh at fit are =
      let is : order_in (suc (length old.stages)) (map (own_order base (suc (length old.stages))) orders) number ≡ own_order base (suc (length old.stages)) order =
      map-get (own_order base (suc (length old.stages))) orders number order (count_from 0 (suc (length old.stages))) (sym there) in
      let o : IsOrder total order = are order (sym there) in
      let own : IsOrder (suc (length old.stages)) (own_order base (suc (length old.stages)) order) = own-is_order base (suc (length old.stages)) total order fit o in
      let made : StandsFor rest new ts (acts_of old.params ts old.gaps old.stages (own_order base (suc (length old.stages)) order) ready s) =
      subst (λ (l : List ℕ). StandsFor rest new ts (acts_of old.params ts old.gaps old.stages (own_order base (suc (length old.stages)) l) ready s)) same
      (call ts s base total stands fresh at fit (subst (IsOrder total) (sym same) o)) in
      subst (λ (l : List ℕ). StandsFor rest new ts (next_cycle_of (acts_of old.params ts old.gaps old.stages l ready s))) (sym is)
      (cycle-ends old new (own_order base (suc (length old.stages)) order) ready ts s (omega (arith, own.once 0 (omega arith))) made)

  -- or it is not
  pub cycle-past : (old new : Chain F T) (first number : ℕ) (orders : List (List ℕ)) (ready : Bool) → None ≡ slice_get orders number →
      ((ts : List Transfer) (s : ChainState) → StandsFor rest old ts s → s.acted ≡ [] → StandsFor rest new ts (acts_of old.params ts old.gaps old.stages (count_from 0 (suc (length old.stages))) ready s)) →
      (ts : List Transfer) (s : ChainState) → StandsFor rest old ts s → s.acted ≡ [] →
      StandsFor rest new ts (next_cycle_of (acts_of old.params ts old.gaps old.stages (order_in (suc (length old.stages)) (map (own_order first (suc (length old.stages))) orders) number) ready s))
  cycle-past old new first number orders ready none call ts s stands fresh =
      let is : order_in (suc (length old.stages)) (map (own_order first (suc (length old.stages))) orders) number ≡ count_from 0 (suc (length old.stages)) =
      map-past (own_order first (suc (length old.stages))) orders number (count_from 0 (suc (length old.stages))) (sym none) in
      subst (λ (l : List ℕ). StandsFor rest new ts (next_cycle_of (acts_of old.params ts old.gaps old.stages l ready s))) (sym is)
      (cycle-ends old new (count_from 0 (suc (length old.stages))) ready ts s (omega (arith, many-here 0 (count_from 1 (length old.stages)))) (call ts s stands fresh))
