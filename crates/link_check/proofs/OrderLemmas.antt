-- Implementations in the order of streamlets, and in text order.
use Rattle.std.proofs.Common.{◌≡◌, ℕ, zero, suc, ◌+◌, ◌<◌, ◌≤◌, List, [], ◌∷◌, ◌++◌, map, length, get_or, take, IsPermutation, refl, sym, ap, ◌∙◌, subst, arith, append_assoc}
use Rattle.std.specs.List.Sorted.{IsSortedByKey}
use Rattle.std.specs.Ordering.{is_lt}
use Rattle.std.proofs.lemmas.List.{take_more, get_or_default, length-map}
use Rattle.std.proofs.lemmas.List.Sorted.{IsPermutation-map}
use Rattle.std.proofs.Math.ListN.{get_or-map}
use Rattle.til_resolve.specs.PlainProject.{PlainStreamlet, plain_port, plain_streamlet}
use Rattle.til_resolve.specs.declared.project.Streamlet.{Streamlet}
use Rattle.link_check.specs.Bodies.{body_lent, bodies_lent, body_there}
use Rattle.link_check.specs.Links as links
use Rattle.link_check.specs.Order.{body_of, bodies_from, stands_at, in_text, bodies_in_text}
use Rattle.link_check.specs.declared.order.Body.{Body}
use Rattle.link_check.proofs.TextOrderLemmas.{text_order}

nil-right : {A : Type 0} (xs : List A) → xs ++ [] ≡ xs
nil-right [] = refl
nil-right (x ∷ xs) = ap (λ l. x ∷ l) (nil-right xs)

plus_zero : (n : ℕ) → n ≡ n + 0
plus_zero n = omega arith

bodies_from-push : (first : ℕ) (streamlets : List Streamlet) (one : Streamlet)
    → bodies_from first (map plain_streamlet (streamlets ++ one ∷ [])) ≡ bodies_from first (map plain_streamlet streamlets) ++ body_there (first + length streamlets) one
bodies_from-push first [] one = nil-right (body_there first one) ∙ ap (λ n. body_there n one) (plus_zero first)
bodies_from-push first (next ∷ more) one =
    let here = body_of first (map plain_port next.ports) next.body in
    ap (λ (rest : List links.Body). here ++ rest) (bodies_from-push (suc first) more one ∙ ap (λ n. bodies_from (suc first) (map plain_streamlet more) ++ body_there n one) (omega arith))
    ∙ sym (append_assoc here (bodies_from (suc first) (map plain_streamlet more)) (body_there (first + length (next ∷ more)) one))

-- the bodies of one streamlet more
pub bodies-more : (streamlets : List Streamlet) (number : ℕ) (one : Streamlet) (old new : List links.Body) → number < length streamlets → one ≡ get_or streamlets number one
    → old ≡ bodies_from 0 (map plain_streamlet (take number streamlets)) → new ≡ old ++ body_there number one
    → new ≡ bodies_from 0 (map plain_streamlet (take (number + 1) streamlets))
bodies-more streamlets number one old new within is before added =
    added ∙ ap (λ (bodies : List links.Body). bodies ++ body_there number one) before
    ∙ ap (λ n. bodies_from 0 (map plain_streamlet (take number streamlets)) ++ body_there n one) (sym (zero_plus (length (take number streamlets)) ∙ long streamlets number (omega (arith, within))))
    ∙ sym (bodies_from-push 0 (take number streamlets) one)
    ∙ ap (λ (those : List Streamlet). bodies_from 0 (map plain_streamlet those)) (sym (take_more streamlets number one within ∙ ap (λ s. take number streamlets ++ s ∷ []) (sym is)))
  where
    zero_plus : (n : ℕ) → 0 + n ≡ n
    zero_plus n = omega arith

    long : (l : List Streamlet) (n : ℕ) → n ≤ length l → length (take n l) ≡ n
    long l zero enough = refl
    long [] (suc n) enough = absurd (omega (arith, enough))
    long (x ∷ xs) (suc n) enough = ap (λ k. suc k) (long xs n (omega (arith, enough)))

-- ---- text order

sorted-lent : (all : List PlainStreamlet) (bodies : List Body) → IsSortedByKey (λ (body : Body). stands_at (body_lent all body)) in_text bodies
    → IsSortedByKey stands_at in_text (bodies_lent all bodies)
sorted-lent all [] sorted = λ k d low high. absurd (omega (arith, high))
sorted-lent all (first ∷ more) sorted = λ k d low high.
    let bodies = first ∷ more in
    let lent = bodies_lent all bodies in
    let long : length lent ≡ length bodies = length-map bodies (body_lent all) in
    let here : get_or lent k d ≡ body_lent all (get_or bodies k first) = get_or_default lent k d (body_lent all first) (omega (arith, high)) ∙ get_or-map (body_lent all) bodies k first in
    let next : get_or lent (k + 1) d ≡ body_lent all (get_or bodies (k + 1) first) =
    get_or_default lent (k + 1) d (body_lent all first) (omega (arith, high)) ∙ get_or-map (body_lent all) bodies (k + 1) first in
    ap (λ x. is_lt (in_text (stands_at x) (stands_at (get_or lent k d)))) next
    ∙ ap (λ y. is_lt (in_text (stands_at (body_lent all (get_or bodies (k + 1) first))) (stands_at y))) here
    ∙ sorted k first low (omega (arith, high, long))

pub sorted-is : (streamlets : List PlainStreamlet) (old new : List Body) → bodies_lent streamlets old ≡ bodies_from 0 streamlets → IsPermutation old new
    → IsSortedByKey (λ (body : Body). stands_at (body_lent streamlets body)) in_text new → bodies_lent streamlets new ≡ bodies_in_text streamlets
sorted-is streamlets old new is moved sorted = (text_order streamlets (bodies_lent streamlets new)).0 (record {
  all = subst (λ (bodies : List links.Body). IsPermutation bodies (bodies_lent streamlets new)) is (IsPermutation-map (body_lent streamlets) old new moved);
  sorted = sorted-lent streamlets new sorted;
})
