-- Orders of components.
use Rattle.std.proofs.Common.{◌≡◌, ◌∙◌, ℕ, zero, suc, ◌+◌, ◌-◌, ◌<◌, ◌≤◌, ◌==◌, ◌&&◌, Bool, true, false, cond, nat_lt, nat_le, if◌then◌else◌, List, [], ◌∷◌, ◌++◌, length, map, take, get_or, refl, sym, ap, arith}
use Rattle.std.specs.Prelude.{filter}
use Rattle.std.proofs.lemmas.List.{map-append, take_more}
use Rattle.physical_stream.specs.Params.{Parameters}
use Rattle.physical_stream.specs.declared.transfer.Transfer.{Transfer}
use Rattle.elastic_net.specs.Orders.{IsOrder, count_from, how_many, is_among, own_order}
use Rattle.elastic_net.specs.Sinks.{acts_of}
use Rattle.elastic_net.specs.States.{ChainState, act_of, has_acted}
use Rattle.elastic_net.proofs.NumberLemmas.{Compared, above, below, same, compared, le_true, le_yes, lt_true, lt_yes, many-more, many-same}

-- ---- how often a component stands in an order

pub many-append : (i : ℕ) (xs ys : List ℕ) → how_many i (xs ++ ys) ≡ how_many i xs + how_many i ys
many-append i [] ys = omega arith
many-append i (x ∷ xs) ys = by_test (many-append i xs ys) (x == i)
  where
    by_test : how_many i (xs ++ ys) ≡ how_many i xs + how_many i ys → (b : Bool) → (if b then suc (how_many i (xs ++ ys)) else how_many i (xs ++ ys)) ≡ (if b then suc (how_many i xs) else how_many i xs) + how_many i ys
    by_test rest true = omega (arith, rest)
    by_test rest false = rest

pub many-here : (i : ℕ) (xs : List ℕ) → how_many i (i ∷ xs) ≡ suc (how_many i xs)
many-here i xs = many-more i i xs refl

-- the components from one on
pub count-more : (first many : ℕ) → count_from first (suc many) ≡ count_from first many ++ (first + many) ∷ []
count-more first zero = let e : first ≡ first + 0 = omega arith in ap (λ (n : ℕ). n ∷ []) e
count-more first (suc many) =
    let e : suc first + many ≡ first + suc many = omega arith in
    ap (λ (l : List ℕ). first ∷ l) (count-more (suc first) many ∙ ap (λ (n : ℕ). count_from (suc first) many ++ n ∷ []) e)

pub count-none : (i first many : ℕ) → i < first → how_many i (count_from first many) ≡ 0
count-none i first zero less = refl
count-none i first (suc many) less = many-same i first (count_from (suc first) many) (λ is. omega (arith, is, less)) ∙ count-none i (suc first) many (omega (arith, less))

pub count-past : (i first many : ℕ) → first + many ≤ i → how_many i (count_from first many) ≡ 0
count-past i first zero le = refl
count-past i first (suc many) le = many-same i first (count_from (suc first) many) (λ is. omega (arith, is, le)) ∙ count-past i (suc first) many (omega (arith, le))

-- ---- the own components of a stream

filter-append : (test : ℕ → Bool) (xs ys : List ℕ) → filter test (xs ++ ys) ≡ filter test xs ++ filter test ys
filter-append test [] ys = refl
filter-append test (x ∷ xs) ys = by_test (filter-append test xs ys) (test x)
  where
    by_test : filter test (xs ++ ys) ≡ filter test xs ++ filter test ys → (b : Bool) → cond b (x ∷ filter test (xs ++ ys)) (filter test (xs ++ ys)) ≡ cond b (x ∷ filter test xs) (filter test xs) ++ filter test ys
    by_test rest true = ap (λ (l : List ℕ). x ∷ l) rest
    by_test rest false = rest

pub own-append : (first many : ℕ) (xs ys : List ℕ) → own_order first many (xs ++ ys) ≡ own_order first many xs ++ own_order first many ys
own-append first many xs ys = ap (map (λ (n : ℕ). n - first)) (filter-append (is_among first many) xs ys) ∙ map-append (λ (n : ℕ). n - first) (filter (is_among first many) xs) (filter (is_among first many) ys)

pub own-one : (first many x : ℕ) → own_order first many (x ∷ []) ≡ (if is_among first many x then (x - first) ∷ [] else [])
own-one first many x = by_test (is_among first many x)
  where
    by_test : (b : Bool) → map (λ (n : ℕ). n - first) (cond b (x ∷ []) []) ≡ (if b then (x - first) ∷ [] else [])
    by_test true = refl
    by_test false = refl

pub split-at : (order : List ℕ) (index x : ℕ) → index < length order → x ≡ get_or order index x → (rest : List ℕ) × (order ≡ take index order ++ x ∷ rest)
split-at [] index x less is = absurd (omega (arith, less))
split-at (y ∷ order) zero x less is = (order, ap (λ (n : ℕ). n ∷ order) (sym is))
split-at (y ∷ order) (suc index) x less is = let more = split-at order index x (omega (arith, less)) is in (more.0, ap (λ (l : List ℕ). y ∷ l) more.1)

-- ---- components that act one after another

module _ (p : Parameters) (ts : List Transfer) (gaps stages : List ℕ) (ready : Bool) where
  pub acts-append : (xs ys : List ℕ) (s : ChainState) → acts_of p ts gaps stages (xs ++ ys) ready s ≡ acts_of p ts gaps stages ys ready (acts_of p ts gaps stages xs ready s)
  acts-append [] ys s = refl
  acts-append (x ∷ xs) ys s = acts-append xs ys (act_of p ts gaps stages x ready s)

  pub acted-many : (i : ℕ) (order : List ℕ) (s : ChainState) → how_many i (acts_of p ts gaps stages order ready s).acted ≡ how_many i order + how_many i s.acted
  acted-many i [] s = omega arith
  acted-many i (x ∷ order) s = by_order (acted-many i order (act_of p ts gaps stages x ready s)) (compared x i)
    where
      by_order : how_many i (acts_of p ts gaps stages order ready (act_of p ts gaps stages x ready s)).acted ≡ how_many i order + how_many i (x ∷ s.acted) → Compared x i →
          how_many i (acts_of p ts gaps stages order ready (act_of p ts gaps stages x ready s)).acted ≡ how_many i (x ∷ order) + how_many i s.acted
      by_order more (below less) = omega (arith, more, many-same i x s.acted (λ is. omega (arith, is, less)), many-same i x order (λ is. omega (arith, is, less)))
      by_order more (above less) = omega (arith, more, many-same i x s.acted (λ is. omega (arith, is, less)), many-same i x order (λ is. omega (arith, is, less)))
      by_order more (same is) = omega (arith, more, many-more i x s.acted is, many-more i x order is)

  pub not-acted : (i : ℕ) (order : List ℕ) (s : ChainState) → s.acted ≡ [] → how_many i order ≡ 0 → has_acted i (acts_of p ts gaps stages order ready s) ≡ false
  not-acted i order s fresh none =
      let many : how_many i (acts_of p ts gaps stages order ready s).acted ≡ 0 = acted-many i order s ∙ omega (arith, none, ap (how_many i) fresh) in
      ap (nat_lt 0) many

  pub has-acted : (i : ℕ) (order : List ℕ) (s : ChainState) → 0 < how_many i order → has_acted i (acts_of p ts gaps stages order ready s) ≡ true
  has-acted i order s some = lt_yes 0 (how_many i (acts_of p ts gaps stages order ready s).acted) (omega (arith, some, acted-many i order s))

  -- one more component of an order acts
  pub acts-own : (first many : ℕ) (order : List ℕ) (index x : ℕ) (s : ChainState) → index < length order → x ≡ get_or order index x →
      acts_of p ts gaps stages (own_order first many (take (index + 1) order)) ready s
      ≡ (if is_among first many x then act_of p ts gaps stages (x - first) ready (acts_of p ts gaps stages (own_order first many (take index order)) ready s) else acts_of p ts gaps stages (own_order first many (take index order)) ready s)
  acts-own first many order index x s less is =
      let longer : take (index + 1) order ≡ take index order ++ x ∷ [] = take_more order index x less ∙ ap (λ (n : ℕ). take index order ++ n ∷ []) (sym is) in
      let own : own_order first many (take (index + 1) order) ≡ own_order first many (take index order) ++ (if is_among first many x then (x - first) ∷ [] else []) =
      ap (own_order first many) longer ∙ own-append first many (take index order) (x ∷ []) ∙ ap (λ (l : List ℕ). own_order first many (take index order) ++ l) (own-one first many x) in
      ap (λ (l : List ℕ). acts_of p ts gaps stages l ready s) own ∙ acts-append (own_order first many (take index order)) (if is_among first many x then (x - first) ∷ [] else []) s ∙ by_test (is_among first many x)
    where
      by_test : (b : Bool) → acts_of p ts gaps stages (if b then (x - first) ∷ [] else []) ready (acts_of p ts gaps stages (own_order first many (take index order)) ready s)
          ≡ (if b then act_of p ts gaps stages (x - first) ready (acts_of p ts gaps stages (own_order first many (take index order)) ready s) else acts_of p ts gaps stages (own_order first many (take index order)) ready s)
      by_test true = refl
      by_test false = refl

-- a component of an order has not acted before its turn
pub own-fresh : (first many : ℕ) (order : List ℕ) (index x : ℕ) → IsOrder many (own_order first many order) → index < length order → x ≡ get_or order index x → is_among first many x ≡ true → x - first < many → how_many (x - first) (own_order first many (take index order)) ≡ 0
own-fresh first many order index x o less is own within =
    let parts = split-at order index x less is in
    let all : own_order first many order ≡ own_order first many (take index order) ++ own_order first many (x ∷ parts.0) = ap (own_order first many) parts.1 ∙ own-append first many (take index order) (x ∷ parts.0) in
    let here : own_order first many (x ∷ parts.0) ≡ (x - first) ∷ own_order first many parts.0 = ap (λ (b : Bool). map (λ (n : ℕ). n - first) (cond b (x ∷ filter (is_among first many) parts.0) (filter (is_among first many) parts.0))) own in
    let once : how_many (x - first) (own_order first many order) ≡ 1 = o.once (x - first) within in
    omega (arith, once, ap (how_many (x - first)) all, many-append (x - first) (own_order first many (take index order)) (own_order first many (x ∷ parts.0)), ap (how_many (x - first)) here, many-here (x - first) (own_order first many parts.0))

both-parts : (a b : Bool) → (a && b) ≡ true → (a ≡ true) × (b ≡ true)
both-parts true b is = (refl, is)
both-parts false b is = cc

pub among-within : (first many x : ℕ) → is_among first many x ≡ true → x - first < many
among-within first many x is =
    let parts = both-parts (nat_le first x) (nat_lt x (first + many)) is in
    let less : x < first + many = lt_true x (first + many) parts.1 in
    let lower : first ≤ x = le_true first x parts.0 in
    omega (arith, less, lower)

-- ---- the own order of a stream is one of its components

not-among : (first many x i : ℕ) → i < many → is_among first many x ≡ false → x ≡ first + i → ⊥
not-among first many x i less off is =
    let lower : nat_le first x ≡ true = le_yes first x (omega (arith, is)) in
    let upper : nat_lt x (first + many) ≡ true = lt_yes x (first + many) (omega (arith, is, less)) in
    let clash : false ≡ true = sym off ∙ ap (λ (b : Bool). b && nat_lt x (first + many)) lower ∙ upper in cc

among-lower : (first many x : ℕ) → is_among first many x ≡ true → first ≤ x
among-lower first many x is = le_true first x (both-parts (nat_le first x) (nat_lt x (first + many)) is).0

pub own-many : (first many i : ℕ) (order : List ℕ) → i < many → how_many i (own_order first many order) ≡ how_many (first + i) order
own-many first many i [] less = refl
own-many first many i (x ∷ order) less = by_test (own-many first many i order less) (is_among first many x) refl
  where
    by_test : how_many i (own_order first many order) ≡ how_many (first + i) order → (b : Bool) → is_among first many x ≡ b →
        how_many i (map (λ (n : ℕ). n - first) (cond b (x ∷ filter (is_among first many) order) (filter (is_among first many) order))) ≡ how_many (first + i) (x ∷ order)
    by_test rest false off = rest ∙ sym (many-same (first + i) x order (not-among first many x i less off))
    by_test rest true on = by_order (compared (x - first) i)
      where
        lower : first ≤ x
        lower = among-lower first many x on

        by_order : Compared (x - first) i → how_many i ((x - first) ∷ own_order first many order) ≡ how_many (first + i) (x ∷ order)
        by_order (same is) = many-more i (x - first) (own_order first many order) is ∙ ap suc rest ∙ sym (many-more (first + i) x order (omega (arith, is, lower)))
        by_order (below smaller) = many-same i (x - first) (own_order first many order) (λ is. omega (arith, is, smaller)) ∙ rest ∙ sym (many-same (first + i) x order (λ is. omega (arith, is, smaller)))
        by_order (above larger) = many-same i (x - first) (own_order first many order) (λ is. omega (arith, is, larger)) ∙ rest ∙ sym (many-same (first + i) x order (λ is. omega (arith, is, larger)))

own-below : (first many : ℕ) (order : List ℕ) (k d : ℕ) → k < length (own_order first many order) → get_or (own_order first many order) k d < many
own-below first many [] k d less = absurd (omega (arith, less))
own-below first many (x ∷ order) k d less = by_test (λ (j : ℕ) below_it. own-below first many order j d below_it) (is_among first many x) refl less
  where
    by_test : ((j : ℕ) → j < length (own_order first many order) → get_or (own_order first many order) j d < many) → (b : Bool) → is_among first many x ≡ b →
        k < length (map (λ (n : ℕ). n - first) (cond b (x ∷ filter (is_among first many) order) (filter (is_among first many) order))) →
        get_or (map (λ (n : ℕ). n - first) (cond b (x ∷ filter (is_among first many) order) (filter (is_among first many) order))) k d < many
    by_test rest false off here = rest k here
    by_test rest true on here = by_place k here
      where
        by_place : (j : ℕ) → j < suc (length (own_order first many order)) → get_or ((x - first) ∷ own_order first many order) j d < many
        by_place zero small = among-within first many x on
        by_place (suc j) small = rest j (omega (arith, small))

pub own-is_order : (first many total : ℕ) (order : List ℕ) → first + many ≤ total → IsOrder total order → IsOrder many (own_order first many order)
own-is_order first many total order fit o = record {
  within = λ k d less. own-below first many order k d less;
  once = λ component less. own-many first many component order less ∙ o.once (first + component) (omega (arith, less, fit));
}

-- ---- an order of numbers of 32 bits has no more than 2^32 components

found : (i : ℕ) (order : List ℕ) → 0 < how_many i order → (k : ℕ) × ((k < length order) × (get_or order k 0 ≡ i))
found i [] some = absurd (omega (arith, some))
found i (x ∷ order) some = by_order (λ more. found i order more) (compared x i)
  where
    later : (x ≡ i → ⊥) → (0 < how_many i order → (k : ℕ) × ((k < length order) × (get_or order k 0 ≡ i))) → (k : ℕ) × ((k < suc (length order)) × (get_or (x ∷ order) k 0 ≡ i))
    later apart rest = let more = rest (omega (arith, some, many-same i x order apart)) in (suc more.0, (omega (arith, more.1.0), more.1.1))

    by_order : (0 < how_many i order → (k : ℕ) × ((k < length order) × (get_or order k 0 ≡ i))) → Compared x i → (k : ℕ) × ((k < suc (length order)) × (get_or (x ∷ order) k 0 ≡ i))
    by_order rest (same is) = (0, (omega arith, is))
    by_order rest (below less) = later (λ is. omega (arith, is, less)) rest
    by_order rest (above less) = later (λ is. omega (arith, is, less)) rest

pub order-few : (total most : ℕ) (order : List ℕ) → IsOrder total order → ((k : ℕ) → k < length order → get_or order k 0 < most) → total ≤ most
order-few zero most order o fits = omega arith
order-few (suc total) most order o fits =
    let at = found total order (omega (arith, o.once total (omega arith))) in
    omega (arith, fits at.0 at.1.0, at.1.1)
