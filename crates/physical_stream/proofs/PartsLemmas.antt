-- Lists for each number below a bound, one after another.
use Rattle.std.proofs.Common.{◌≡◌, ◌∙◌, ℕ, zero, suc, ◌+◌, ◌<◌, ◌≤◌, List, [], ◌++◌, length, refl, ap, arith}
use Rattle.std.proofs.lemmas.List.{length-append, append-nil}
use Rattle.physical_stream.specs.Items.{parts_below}

-- the same parts, joined
pub parts_below-same : {A : Type 0} (f g : ℕ → List A) (n : ℕ) → ((i : ℕ) → i < n → f i ≡ g i) → parts_below f n ≡ parts_below g n
parts_below-same f g zero same = refl
parts_below-same {A} f g (suc n) same =
    ap (λ (xs : List A). xs ++ f n) (parts_below-same f g n (λ i less. same i (omega arith))) ∙ ap (λ (xs : List A). parts_below g n ++ xs) (same n (omega arith))

-- parts that are empty from here on
pub parts_below-tail : {A : Type 0} (f : ℕ → List A) (n more : ℕ) → ((i : ℕ) → n ≤ i → f i ≡ []) → parts_below f (n + more) ≡ parts_below f n
parts_below-tail f n zero none = let here : n + 0 ≡ n = omega arith in ap (parts_below f) here
parts_below-tail {A} f n (suc more) none =
    let next : n + suc more ≡ suc (n + more) = omega arith in
    ap (parts_below f) next ∙ ap (λ (xs : List A). parts_below f (n + more) ++ xs) (none (n + more) (omega arith)) ∙ append-nil (parts_below f (n + more)) ∙ parts_below-tail f n more none

-- parts of one element each
pub length-parts_below : {A : Type 0} (f : ℕ → List A) (n : ℕ) → ((i : ℕ) → i < n → length (f i) ≡ 1) → length (parts_below f n) ≡ n
length-parts_below f zero one = refl
length-parts_below f (suc n) one = omega (arith, length-append (parts_below f n) (f n), one n (omega arith), length-parts_below f n (λ i less. one i (omega arith)))
