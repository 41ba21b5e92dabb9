-- The value of a port, filled from its last node on.
use Rattle.std.proofs.Common.{◌≡◌, ◌∙◌, ◌≤◌, ℕ, zero, suc, List, [], ◌∷◌, ◌++◌, length, map, drop, reverse, Option, Some, None, refl, sym, ap, subst, arith, append_assoc}
use Rattle.std.specs.Prelude.{MatchOption}
use Rattle.std.proofs.lemmas.List.{append-nil, map-append, reverse-append}
use Rattle.type_split.specs.Streams.{PlainSplit}
use Rattle.nest_shape.specs.Tree as nests
use Rattle.logical_value.specs.Tree.{Tree, plain}
use Rattle.logical_value.specs.declared.value.Value.{Value}
use Rattle.value_views.specs.Comparing.{disagreement_of}
use Rattle.value_views.specs.Filling.{AreFilled, IsFilling, root_series}
use Rattle.value_views.specs.Giving.{AreGiven, CanJoin, plain_series}
use Rattle.value_views.specs.Joining.{HasViews}
use Rattle.value_views.specs.Series.{NodeSeries, series_at, series_of_nodes}
use Rattle.value_views.proofs.CheckingLemmas.{given-whole}
use Rattle.value_views.proofs.GivenNodeLemmas.{found-within}
use Rattle.value_views.proofs.JoinLemmas.{agreeing-views-have_values}
use Rattle.value_views.proofs.RootLemmas.{are-filled, roots-collect}

none-behind : {A : Type 0} (l : List A) (at : ℕ) → length l ≤ at → drop at l ≡ []
none-behind [] zero past = refl
none-behind [] (suc at) past = refl
none-behind (x ∷ l) zero past = absurd (omega (arith, past))
none-behind (x ∷ l) (suc at) past = none-behind l at (omega (arith, past))

pub filling-start : (split : PlainSplit) (all : List NodeSeries) (number : ℕ) (queues : ℕ → List Tree) (roots : List (List Tree)) → length split.nodes ≤ number → roots ≡ []
    → IsFilling split all number queues roots
filling-start split all number queues roots past none = record {
  queued = λ k node one found low parents not_root there. (let less = found-within split.nodes k node found in absurd (omega (arith, less, low, past)));
  roots_are = ap (λ l. root_series l (drop number all)) (none-behind split.nodes number past) ∙ ap reverse (sym none);
}

plain-reverse : (roots : List (List Value)) → plain_series (reverse roots) ≡ reverse (plain_series roots)
plain-reverse [] = refl
plain-reverse (one ∷ roots) =
    ap plain_series (reverse-append (one ∷ []) roots) ∙ map-append (λ (s : List Value). map plain s) (reverse roots) (one ∷ [])
    ∙ ap (λ l. l ++ map plain one ∷ []) (plain-reverse roots) ∙ sym (reverse-append (map plain one ∷ []) (plain_series roots))

-- these series are the first of those given
pub record IsFront (rest given : List (List Value)) : Type 0 where
  pub behind : List (List Value)
  pub is : rest ++ behind ≡ given

pub front-whole : (given : List (List Value)) → IsFront given given
front-whole given = record { behind = []; is = append-nil given }

pub front-shorter : (rest new given : List (List Value)) (one : List Value) → rest ≡ new ++ one ∷ [] → IsFront rest given → IsFront new given
front-shorter rest new given one is front =
    record { behind = one ∷ front.behind; is = sym (append_assoc new (one ∷ []) front.behind) ∙ ap (λ (l : List (List Value)). l ++ front.behind) (sym is) ∙ front.is }

pub length-shorter : (rest new : List (List Value)) (one : List Value) → rest ≡ new ++ one ∷ [] → length rest ≡ suc (length new)
length-shorter rest new one is = ap length is ∙ longer new one
  where
    longer : (l : List (List Value)) (x : List Value) → length (l ++ x ∷ []) ≡ suc (length l)
    longer [] x = refl
    longer (y ∷ l) x = ap suc (longer l x)

series-behind : (new behind : List (List Value)) (one : List Value) → series_at (length new) (plain_series (new ++ one ∷ behind)) ≡ map plain one
series-behind [] behind one = refl
series-behind (first ∷ new) behind one = series-behind new behind one

-- the last of the first series stands at its number
pub front-last : (rest new given : List (List Value)) (one : List Value) → rest ≡ new ++ one ∷ [] → IsFront rest given → series_at (length new) (plain_series given) ≡ map plain one
unfolding front-shorter
front-last rest new given one is front =
    let shorter = front-shorter rest new given one is front in
    ap (λ (l : List (List Value)). series_at (length new) (plain_series l)) (sym shorter.is) ∙ series-behind new front.behind one

pub filling-done : (split : PlainSplit) (views : List (List nests.Tree)) (given : List (List Tree)) (number : ℕ) (queues : ℕ → List Tree) (roots value : List (List Value)) → CanJoin split views
    → AreGiven split views 0 given → disagreement_of split views ≡ None → number ≡ 0 → value ≡ reverse roots
    → ((all : List NodeSeries) → AreFilled split given all → IsFilling split all number queues (plain_series roots)) → HasViews split (plain_series value) views
filling-done split views given number queues roots value can are agree none is fills =
    let some = agreeing-views-have_values split can.port can.carried views can.are agree in
    let all = series_of_nodes split.nodes some.roots in
    let filled = fills all (are-filled split views given some.roots can (given-whole split views given can are) are.long some.has) in
    let start = subst (λ (n : ℕ). IsFilling split all n queues (plain_series roots)) none filled in
    subst (λ (l : List (List Tree)). HasViews split l views)
    (sym (roots-collect split can.port some.roots some.has.fits) ∙ start.roots_are ∙ sym (plain-reverse roots) ∙ ap plain_series (sym is)) some.has

pub reverse-next : {A : Type 0} (some pushed rest new : List A) (one : A) (all : List A) → pushed ≡ some ++ one ∷ [] → rest ≡ new ++ one ∷ [] → some ++ reverse rest ≡ all → pushed ++ reverse new ≡ all
reverse-next some pushed rest new one all added is done =
    ap (λ l. l ++ reverse new) added ∙ append_assoc some (one ∷ []) (reverse new) ∙ ap (λ l. some ++ l) (sym (reverse-append new (one ∷ [])) ∙ ap reverse (sym is)) ∙ done

pub reverse-done : {A : Type 0} (popped : Option A) (some rest new all : List A) → MatchOption popped ((rest ≡ []) × (new ≡ [])) (λ last. rest ≡ new ++ last ∷ []) → ((x : A) → popped ≡ Some x → ⊥)
    → some ++ reverse rest ≡ all → some ≡ all
reverse-done None some rest new all is not done = sym (append-nil some) ∙ ap (λ l. some ++ reverse l) (sym is.0) ∙ done
reverse-done (Some x) some rest new all is not done = absurd (not x refl)
