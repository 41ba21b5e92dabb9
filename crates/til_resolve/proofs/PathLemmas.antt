-- Paths with a name at their end.
use Rattle.std.proofs.Common.{◌≡◌, ℕ, Bool, true, false, ◌&&◌, List, [], ◌∷◌, ◌++◌, refl, ap, ◌∙◌}
use Rattle.std.specs.Str.{bytes_eq}
use Rattle.til_resolve.specs.Paths.{is_same_path}

and_false : (a : Bool) → (a && false) ≡ false
and_false true = refl
and_false false = refl

and_true : (a : Bool) → (a && true) ≡ a
and_true true = refl
and_true false = refl

and_assoc : (a b c : Bool) → (a && (b && c)) ≡ ((a && b) && c)
and_assoc true b c = refl
and_assoc false b c = refl

-- no path with a name is the empty one
pub is_same_path-none : (front : List (List ℕ)) (last : List ℕ) → is_same_path (front ++ last ∷ []) [] ≡ false
is_same_path-none [] last = refl
is_same_path-none (first ∷ more) last = refl

longer : (more : List (List ℕ)) (last first : List ℕ) → is_same_path (more ++ last ∷ []) [] ≡ false
longer [] last first = refl
longer (one ∷ more) last first = refl

-- paths with a name at their ends are the same where these names are, and the names before
pub is_same_path-ends : (one other : List (List ℕ)) (last end : List ℕ) → is_same_path (one ++ last ∷ []) (other ++ end ∷ []) ≡ (is_same_path one other && bytes_eq last end)
is_same_path-ends [] [] last end = and_true (bytes_eq last end)
is_same_path-ends [] (first ∷ more) last end = ap (λ b. bytes_eq last first && b) (shorter more end) ∙ and_false (bytes_eq last first)
  where
    shorter : (more : List (List ℕ)) (end : List ℕ) → is_same_path [] (more ++ end ∷ []) ≡ false
    shorter [] end = refl
    shorter (next ∷ rest) end = refl
is_same_path-ends (first ∷ more) [] last end = ap (λ b. bytes_eq first end && b) (longer more last first) ∙ and_false (bytes_eq first end)
is_same_path-ends (first ∷ more) (next ∷ rest) last end = ap (λ b. bytes_eq first next && b) (is_same_path-ends more rest last end)
    ∙ and_assoc (bytes_eq first next) (is_same_path more rest) (bytes_eq last end)
