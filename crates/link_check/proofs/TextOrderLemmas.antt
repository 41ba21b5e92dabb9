-- Text order: a project has one list of its bodies in it.
use Rattle.std.proofs.Common.{◌≡◌, ◌⊎◌, inl, inr, ℕ, zero, suc, ◌+◌, ◌<◌, Bool, true, false, eqb, List, [], ◌∷◌, ◌++◌, Option, Some, None, Contains, IsPermutation, get_or, length, refl, sym, ap, ◌∙◌, subst, arith, if◌then◌else◌}
use Rattle.std.specs.Cmp.{IsTotalOrder}
use Rattle.std.specs.List.{AllByRecursion, IsDistinct}
use Rattle.std.specs.List.Sorted.{IsSortedByKey, IsStrictlySortedBy}
use Rattle.std.specs.Ordering.{is_lt, nat_cmp, ordering_reverse}
use Rattle.std.specs.declared.cmp.Ordering.{Ordering}
use Rattle.std.specs.declared.cmp.Ordering.TheVariants.{Less, Equal, Greater}
use Rattle.std.proofs.ByRecursion.{all_shuffled}
use Rattle.std.proofs.lemmas.Bool.{eq-eqb}
use Rattle.std.proofs.lemmas.Cmp.{nat_cmp_total, on_total, then_total}
use Rattle.std.proofs.lemmas.List.Sorted.{Contains-permutation, IsPermutation-cons, IsPermutation-middle, IsPermutation-refl, IsPermutation-sym, IsPermutation-trans}
use Rattle.std.proofs.lemmas.Map.Keys.{IsDistinct-IsPermutation, IsDistinct-head, IsDistinct-tail, apart_from_distinct, sorted_from_all_adjacent}
use Rattle.std.proofs.lemmas.Map.Lookups.{exact_pairs, exact_unsigned}
use Rattle.til_resolve.specs.PlainProject.{PlainStreamlet}
use Rattle.til_resolve.specs.declared.project.Impl.{Impl}
use Rattle.til_resolve.specs.declared.project.Impl.TheVariants as impls
use Rattle.link_check.specs.Laws.{TextOrderIsOne}
use Rattle.link_check.specs.Links.{Body}
use Rattle.link_check.specs.Order.{IsInTextOrder, bodies_from, bodies_in_text, body_of, by_text, in_text, ordered, placed, stands_at}
use Rattle.link_check.proofs.NetLemmas.{Contains-cons, Contains-none}
use Rattle.link_check.proofs.TestLemmas.{clash}

-- ---- the order of bodies

total : IsTotalOrder by_text
total = on_total stands_at (then_total (on_total (λ (p : ℕ × ℕ). p.0) nat_cmp_total) (on_total (λ (p : ℕ × ℕ). p.1) nat_cmp_total))

-- two bodies are of one streamlet
abbrev is_alike : Body → Body → Bool
is_alike one other = eqb one.streamlet other.streamlet

-- a body that does not come first, and is of another streamlet, comes last
less-back : (one other : Body) → is_lt (by_text one other) ≡ false → is_alike other one ≡ false → by_text other one ≡ Less
less-back one other late apart = total.antisymm other one ∙ ap ordering_reverse (by (by_text one other) refl)
  where
    by : (way : Ordering) → by_text one other ≡ way → by_text one other ≡ Greater
    by Less is = let no : false ≡ true = sym late ∙ ap is_lt is in clash no
    by Equal is =
        let same : stands_at one ≡ stands_at other = exact_pairs nat_cmp nat_cmp exact_unsigned exact_unsigned (stands_at one) (stands_at other) is in
        clash (sym apart ∙ eq-eqb other.streamlet one.streamlet (ap (λ (p : ℕ × ℕ). p.1) (sym same)))
    by Greater is = is

first-less : (one other : Body) → is_lt (by_text one other) ≡ true → by_text one other ≡ Less
first-less one other first = by (by_text one other) refl
  where
    by : (way : Ordering) → by_text one other ≡ way → by_text one other ≡ Less
    by Less is = is
    by Equal is = let no : false ≡ true = ap is_lt (sym is) ∙ first in clash no
    by Greater is = let no : false ≡ true = ap is_lt (sym is) ∙ first in clash no

-- ---- a body in its place

placed-moves : (body : Body) (bodies : List Body) → IsPermutation (body ∷ bodies) (placed body bodies)
placed-moves body [] = IsPermutation-refl (body ∷ [])
placed-moves body (first ∷ more) = by (is_lt (by_text first body)) (placed-moves body more)
  where
    by : (b : Bool) → IsPermutation (body ∷ more) (placed body more) → IsPermutation (body ∷ first ∷ more) (if b then first ∷ placed body more else body ∷ first ∷ more)
    by true rest = IsPermutation-trans (body ∷ first ∷ more) (first ∷ body ∷ more) (first ∷ placed body more) (IsPermutation-middle (body ∷ []) first more) (IsPermutation-cons first (body ∷ more) (placed body more) rest)
    by false rest = IsPermutation-refl (body ∷ first ∷ more)

pub ordered-moves : (bodies : List Body) → IsPermutation bodies (ordered bodies)
ordered-moves [] = IsPermutation-refl []
ordered-moves (body ∷ more) =
    IsPermutation-trans (body ∷ more) (body ∷ ordered more) (placed body (ordered more)) (IsPermutation-cons body more (ordered more) (ordered-moves more)) (placed-moves body (ordered more))

below-all : (one other : Body) (bodies : List Body) → by_text one other ≡ Less → AllByRecursion (λ body. by_text other body ≡ Less) bodies → AllByRecursion (λ body. by_text one body ≡ Less) bodies
below-all one other [] low all = tt
below-all one other (body ∷ more) low all = (total.trans one other body low all.0, below-all one other more low all.1)

placed-all : (P : Body → Type 0) (body : Body) (bodies : List Body) → P body → AllByRecursion P bodies → AllByRecursion P (placed body bodies)
placed-all P body bodies here all = all_shuffled P (body ∷ bodies) (placed body bodies) (placed-moves body bodies) (here, all)

placed-sorted : (body : Body) (bodies : List Body) → IsStrictlySortedBy by_text bodies → AllByRecursion (λ one. is_alike body one ≡ false) bodies → IsStrictlySortedBy by_text (placed body bodies)
unfolding IsStrictlySortedBy
placed-sorted body [] sorted apart = (tt, tt)
placed-sorted body (first ∷ more) sorted apart = by (is_lt (by_text first body)) refl (placed-sorted body more sorted.1 apart.1)
  where
    by : (b : Bool) → is_lt (by_text first body) ≡ b → IsStrictlySortedBy by_text (placed body more) → IsStrictlySortedBy by_text (if b then first ∷ placed body more else body ∷ first ∷ more)
    by true is rest = (placed-all (λ one. by_text first one ≡ Less) body more (first-less first body is) sorted.0, rest)
    by false is rest = let low = less-back first body is apart.0 in ((low, below-all body first more low sorted.0), sorted)

-- ---- bodies of different streamlets

ordered-sorted : (bodies : List Body) → IsDistinct is_alike bodies → IsStrictlySortedBy by_text (ordered bodies)
unfolding IsStrictlySortedBy
ordered-sorted [] apart = tt
ordered-sorted (body ∷ more) apart = placed-sorted body (ordered more) (ordered-sorted more (IsDistinct-tail is_alike body more apart))
    (all_shuffled (λ one. is_alike body one ≡ false) more (ordered more) (ordered-moves more) (IsDistinct-head is_alike body more apart))

strictly : (bodies : List Body) → IsSortedByKey stands_at in_text bodies → IsDistinct is_alike bodies → IsStrictlySortedBy by_text bodies
unfolding IsStrictlySortedBy
strictly [] sorted apart = tt
strictly (body ∷ more) sorted apart = sorted_from_all_adjacent total (body ∷ more) body
    (λ k low. less-back (get_or (body ∷ more) (k + 1) body) (get_or (body ∷ more) k body) (sorted k body (omega arith) low) (apart_from_distinct is_alike (body ∷ more) k (k + 1) body apart (omega arith) low))

-- a project has at most one body for each number
apart-above : (number first : ℕ) (streamlets : List PlainStreamlet) → number < first → AllByRecursion (λ (one : Body). eqb number one.streamlet ≡ false) (bodies_from first streamlets)
apart-above number first [] low = tt
apart-above number first (one ∷ more) low = by one.body (apart-above number (suc first) more (omega (arith, low)))
  where
    by : (impl : Option Impl) → AllByRecursion (λ (body : Body). eqb number body.streamlet ≡ false) (bodies_from (suc first) more)
        → AllByRecursion (λ (body : Body). eqb number body.streamlet ≡ false) (body_of first one.ports impl ++ bodies_from (suc first) more)
    by None rest = rest
    by (Some (impls.Linked text)) rest = rest
    by (Some (impls.Structural place instances links)) rest = (grind (arith, low), rest)

are-distinct : (first : ℕ) (streamlets : List PlainStreamlet) → IsDistinct is_alike (bodies_from first streamlets)
unfolding IsDistinct
are-distinct first [] = tt
are-distinct first (one ∷ more) = by one.body (are-distinct (suc first) more)
  where
    by : (impl : Option Impl) → IsDistinct is_alike (bodies_from (suc first) more) → IsDistinct is_alike (body_of first one.ports impl ++ bodies_from (suc first) more)
    by None rest = rest
    by (Some (impls.Linked text)) rest = rest
    by (Some (impls.Structural place instances links)) rest = (apart-above first (suc first) more (omega arith), rest)

-- ---- one list

at-each : (P : Body → Type 0) (bodies : List Body) (body : Body) → AllByRecursion P bodies → Contains bodies body → P body
at-each P [] body all there = absurd (Contains-none body there)
at-each P (first ∷ more) body all there = by (Contains-cons first more body there) (at-each P more body all.1)
  where
    by : (first ≡ body) ⊎ Contains more body → (Contains more body → P body) → P body
    by (inl is) rest = subst P is all.0
    by (inr later) rest = rest later

-- two sorted lists of the same bodies are one
same-lists : (xs ys : List Body) → IsStrictlySortedBy by_text xs → IsStrictlySortedBy by_text ys → ((body : Body) → Contains xs body → Contains ys body)
    → ((body : Body) → Contains ys body → Contains xs body) → xs ≡ ys
unfolding IsStrictlySortedBy
same-lists [] [] left right there back = refl
same-lists [] (y ∷ ys) left right there back = absurd (Contains-none y (back y (zero, omega arith, refl)))
same-lists (x ∷ xs) [] left right there back = absurd (Contains-none x (there x (zero, omega arith, refl)))
same-lists (x ∷ xs) (y ∷ ys) left right there back =
    let heads = by (Contains-cons y ys x (there x (zero, omega arith, refl))) (Contains-cons x xs y (back y (zero, omega arith, refl))) in
    ap (λ (h : Body). h ∷ xs) heads ∙ ap (λ (t : List Body). y ∷ t) (same-lists xs ys left.1 right.1
    (λ body inside. tail x y xs ys heads left.0 (λ b at. there b at) body inside) (λ body inside. tail y x ys xs (sym heads) right.0 (λ b at. back b at) body inside))
  where
    irreflexive : (body : Body) → by_text body body ≡ Less → ⊥
    irreflexive body less = let no : ◌≡◌ {A = Ordering} Less Greater = sym less ∙ total.antisymm body body ∙ ap ordering_reverse less in absurd cc

    by : (y ≡ x) ⊎ Contains ys x → (x ≡ y) ⊎ Contains xs y → x ≡ y
    by (inl is) other = sym is
    by (inr inside) (inl is) = is
    by (inr inside) (inr also) =
        absurd (irreflexive x (total.trans x y x (at-each (λ b. by_text x b ≡ Less) xs y left.0 also) (at-each (λ b. by_text y b ≡ Less) ys x right.0 inside)))

    tail : (h k : Body) (hs ks : List Body) → h ≡ k → AllByRecursion (λ b. by_text h b ≡ Less) hs → ((body : Body) → Contains (h ∷ hs) body → Contains (k ∷ ks) body)
        → (body : Body) → Contains hs body → Contains ks body
    tail h k hs ks same below to body inside = behind (Contains-cons k ks body (to body (suc inside.0, omega (arith, inside.1), inside.2)))
      where
        behind : (k ≡ body) ⊎ Contains ks body → Contains ks body
        behind (inl is) = absurd (irreflexive h (subst (λ (b : Body). by_text h b ≡ Less) (sym (same ∙ is)) (at-each (λ b. by_text h b ≡ Less) hs body below inside)))
        behind (inr later) = later

text_order_is_one : (streamlets : List PlainStreamlet) (bodies : List Body) → IsInTextOrder streamlets bodies → bodies ≡ bodies_in_text streamlets
text_order_is_one streamlets bodies is =
    let all = bodies_from 0 streamlets in
    let moved = IsPermutation-trans bodies all (ordered all) (IsPermutation-sym all bodies is.all) (ordered-moves all) in
    let apart = are-distinct 0 streamlets in
    same-lists bodies (ordered all) (strictly bodies is.sorted (IsDistinct-IsPermutation is_alike alike-back all bodies is.all apart)) (ordered-sorted all apart)
    (λ body. Contains-permutation bodies (ordered all) body moved) (λ body. Contains-permutation (ordered all) bodies body (IsPermutation-sym bodies (ordered all) moved))
  where
    alike-back : (one other : Body) → is_alike one other ≡ is_alike other one
    alike-back one other = grind arith

-- bodies that are sorted do not go down
sorted-rises : (bodies : List Body) → IsStrictlySortedBy by_text bodies → IsSortedByKey stands_at in_text bodies
unfolding IsStrictlySortedBy
sorted-rises [] sorted = λ k d low high. absurd (omega (arith, high))
sorted-rises (body ∷ []) sorted = λ k d low high. absurd (omega (arith, high))
sorted-rises (body ∷ next ∷ more) sorted = λ k d low high. by k d high (sorted-rises (next ∷ more) sorted.1)
  where
    late : is_lt (by_text next body) ≡ false
    late = ap is_lt (total.antisymm next body ∙ ap ordering_reverse sorted.0.0)

    by : (k : ℕ) (d : Body) → k + 1 < length (body ∷ next ∷ more) → IsSortedByKey stands_at in_text (next ∷ more)
        → is_lt (by_text (get_or (body ∷ next ∷ more) (k + 1) d) (get_or (body ∷ next ∷ more) k d)) ≡ false
    by zero d high rest = late
    by (suc k) d high rest =
        let next_is : suc k + 1 ≡ suc (k + 1) = omega arith in
        ap (λ n. is_lt (by_text (get_or (body ∷ next ∷ more) n d) (get_or (body ∷ next ∷ more) (suc k) d))) next_is ∙ rest k d (omega arith) (omega (arith, high))

pub text_order : TextOrderIsOne
text_order streamlets bodies = (
  text_order_is_one streamlets bodies,
  λ is. subst (IsInTextOrder streamlets) (sym is) (record { all = ordered-moves (bodies_from 0 streamlets); sorted = sorted-rises (bodies_in_text streamlets) (ordered-sorted (bodies_from 0 streamlets) (are-distinct 0 streamlets)) }),
)
