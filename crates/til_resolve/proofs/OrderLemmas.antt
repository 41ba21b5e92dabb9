-- Paths in their order, name by name, and their words.
use Rattle.std.proofs.Common.{◌≡◌, ℕ, zero, suc, arith, ◌+◌, ◌<◌, ◌≤◌, List, [], ◌∷◌, ◌++◌, length, map, take, drop, get_or, refl, sym, ap, ◌∙◌}
use Rattle.std.specs.Hash.FoldHasher as hashed
use Rattle.std.specs.List.{fold}
use Rattle.std.specs.declared.cmp.Ordering.TheVariants.{Less}
use Rattle.std.proofs.lemmas.List.{take_more, drop_all}
use Rattle.til_parser.specs.declared.tree.AstName.{AstName}
use Rattle.til_resolve.specs.Ordered.{by_letters}
use Rattle.til_resolve.specs.Paths.{texts_of}

-- ---- paths, name by name

-- an empty path stands before one that has names
pub by_letters-before : (other : List AstName) (i : ℕ) → i < length other → by_letters [] (drop i other) ≡ Less
by_letters-before [] i below = absurd (omega (arith, below))
by_letters-before (y ∷ ys) zero below = refl
by_letters-before (y ∷ ys) (suc i) below = by_letters-before ys i (omega arith)

pub by_letters-shorter : (one other : List AstName) (i : ℕ) → length one ≤ i → i < length other → by_letters (drop i one) (drop i other) ≡ Less
by_letters-shorter one other i done below = ap (λ (l : List AstName). by_letters l (drop i other)) (drop_all i one done) ∙ by_letters-before other i below

-- ---- hashes of paths

fold-push : {A B C : Type 0} (step : B → C → B) (each : A → C) (start : B) (front : List A) (last : A) → fold step start (map each (front ++ last ∷ [])) ≡ step (fold step start (map each front)) (each last)
fold-push step each start [] last = refl
fold-push step each start (x ∷ xs) last = fold-push step each (step start (each x)) xs last

pub hashed-more : (names : List AstName) (i : ℕ) (x : AstName) → i < length names → x ≡ get_or names i x
    → fold hashed.write hashed.initial (texts_of (take (i + 1) names)) ≡ hashed.write (fold hashed.write hashed.initial (texts_of (take i names))) x.name
hashed-more names i x within is =
    ap (λ (l : List AstName). fold hashed.write hashed.initial (texts_of l)) (take_more names i x within ∙ ap (λ (z : AstName). take i names ++ z ∷ []) (sym is))
    ∙ fold-push hashed.write (λ (one : AstName). one.name) hashed.initial (take i names) x
