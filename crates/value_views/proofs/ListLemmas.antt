-- Lists from a place on.
use Rattle.std.proofs.Common.{◌≡◌, ◌∙◌, ◌<◌, ◌≤◌, ℕ, zero, suc, ◌+◌, List, [], ◌∷◌, length, map, drop, get_or, refl, sym, ap, arith}

-- the element at a place, and those behind it
pub from-at : {A : Type 0} (l : List A) (at : ℕ) (x : A) → at < length l → x ≡ get_or l at x → drop at l ≡ x ∷ drop (at + 1) l
from-at [] at x less is = absurd (omega (arith, less))
from-at (y ∷ l) zero x less is = ap (λ z. z ∷ l) (sym is)
from-at (y ∷ l) (suc at) x less is = (let next : suc at + 1 ≡ suc (at + 1) = omega arith in from-at l at x (omega (arith, less)) is ∙ ap (λ (n : ℕ). x ∷ drop n (y ∷ l)) (sym next))

pub map_from-at : {A B : Type 0} (f : A → B) (l : List A) (at : ℕ) (x : A) → at < length l → x ≡ get_or l at x → map f (drop at l) ≡ f x ∷ map f (drop (at + 1) l)
map_from-at f l at x less is = ap (map f) (from-at l at x less is)

-- there are none behind the last
pub map_from-past : {A B : Type 0} (f : A → B) (l : List A) (at : ℕ) → length l ≤ at → map f (drop at l) ≡ []
map_from-past f [] zero past = refl
map_from-past f [] (suc at) past = refl
map_from-past f (y ∷ l) zero past = absurd (omega (arith, past))
map_from-past f (y ∷ l) (suc at) past = map_from-past f l at (omega (arith, past))
