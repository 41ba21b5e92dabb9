-- Names that stand twice, in a list that grows at its end.
use Rattle.std.proofs.Common.{◌≡◌, ℕ, zero, suc, ◌+◌, ◌<◌, ◌≤◌, Bool, true, false, ◌||◌, List, [], ◌∷◌, ◌++◌, length, get_or, map, take, drop, refl, sym, ap, ◌∙◌, arith}
use Rattle.std.proofs.lemmas.List.{take_more, take_all, take-append-drop}
use Rattle.std.proofs.lemmas.Slice.Eq.{bytes_eq-Decides}
use Rattle.std.specs.Char.{to_ascii_lowercase}
use Rattle.std.specs.List.{list_any}
use Rattle.logical_types.specs.Names.{is_same_name, has_name_twice}

-- ---- truths

or_false : (a : Bool) → (a || false) ≡ a
or_false true = refl
or_false false = refl

or_assoc : (a b c : Bool) → (a || (b || c)) ≡ ((a || b) || c)
or_assoc true b c = refl
or_assoc false b c = refl

crossed : (a b c d : Bool) → ((a || b) || (c || d)) ≡ ((a || c) || (b || d))
crossed true b c d = refl
crossed false true true d = refl
crossed false true false d = refl
crossed false false c d = refl

or_right : (a b : Bool) → b ≡ true → (a || b) ≡ true
or_right true b e = refl
or_right false b e = e

either_stays : (a b c d : Bool) → (a ≡ true → c ≡ true) → (b ≡ true → d ≡ true) → (a || b) ≡ true → (c || d) ≡ true
either_stays true b c d left right e = ap (λ x. x || d) (left refl)
either_stays false b c d left right e = or_right c d (right e)

-- ---- one name more

pub list_any-more : {X : Type 0} (test : X → Bool) (xs : List X) (x : X) → list_any test (xs ++ x ∷ []) ≡ (list_any test xs || test x)
list_any-more test [] x = or_false (test x)
list_any-more test (y ∷ ys) x = ap (λ b. test y || b) (list_any-more test ys x) ∙ or_assoc (test y) (list_any test ys) (test x)

has_name_twice-more : (names : List (List ℕ)) (name : List ℕ) → has_name_twice (names ++ name ∷ []) ≡ (has_name_twice names || list_any (λ other. is_same_name other name) names)
has_name_twice-more [] name = refl
has_name_twice-more (first ∷ more) name =
    ap (λ b. b || has_name_twice (more ++ name ∷ [])) (list_any-more (is_same_name first) more name)
    ∙ ap (λ b. (list_any (is_same_name first) more || is_same_name first name) || b) (has_name_twice-more more name)
    ∙ crossed (list_any (is_same_name first) more) (is_same_name first name) (has_name_twice more) (list_any (λ other. is_same_name other name) more)

list_any-front : {X : Type 0} (test : X → Bool) (xs ys : List X) → list_any test xs ≡ true → list_any test (xs ++ ys) ≡ true
list_any-front test [] ys e = absurd (cc e)
list_any-front test (x ∷ xs) ys e = either_stays (test x) (list_any test xs) (test x) (list_any test (xs ++ ys)) (λ t. t) (list_any-front test xs ys) e

has_name_twice-front : (front back : List (List ℕ)) → has_name_twice front ≡ true → has_name_twice (front ++ back) ≡ true
has_name_twice-front [] back e = absurd (cc e)
has_name_twice-front (first ∷ more) back e = either_stays (list_any (is_same_name first) more) (has_name_twice more)
    (list_any (is_same_name first) (more ++ back)) (has_name_twice (more ++ back)) (list_any-front (is_same_name first) more back) (has_name_twice-front more back) e

-- ---- names up to an index

pub names-more : (names : List (List ℕ)) (at : ℕ) (name : List ℕ) → at < length names → name ≡ get_or names at [] → take (at + 1) names ≡ take at names ++ name ∷ []
names-more names at name within is = take_more names at [] within ∙ ap (λ n. take at names ++ n ∷ []) (sym is)

-- no name stands twice up to an index, and the next is not among those before
pub none_twice-more : (names : List (List ℕ)) (at : ℕ) (name : List ℕ) → at < length names → name ≡ get_or names at []
    → has_name_twice (take at names) ≡ false → list_any (λ other. is_same_name other name) (take at names) ≡ false → has_name_twice (take (at + 1) names) ≡ false
none_twice-more names at name within is none new =
    ap has_name_twice (names-more names at name within is) ∙ has_name_twice-more (take at names) name
    ∙ ap (λ b. b || list_any (λ other. is_same_name other name) (take at names)) none ∙ new

-- the next is among those before
pub twice-found : (names : List (List ℕ)) (at : ℕ) (name : List ℕ) → at < length names → name ≡ get_or names at []
    → list_any (λ other. is_same_name other name) (take at names) ≡ true → has_name_twice names ≡ true
twice-found names at name within is found =
    let here : has_name_twice (take (at + 1) names) ≡ true =
    ap has_name_twice (names-more names at name within is) ∙ has_name_twice-more (take at names) name ∙ or_right (has_name_twice (take at names)) _ found in
    ap has_name_twice (sym (take-append-drop (at + 1) names)) ∙ has_name_twice-front (take (at + 1) names) (drop (at + 1) names) here

pub none_twice-past : (names : List (List ℕ)) (at : ℕ) → length names ≤ at → has_name_twice (take at names) ≡ false → has_name_twice names ≡ false
none_twice-past names at done none = ap has_name_twice (sym (take_all at names done)) ∙ none

-- whether one of the names up to an index passes
pub any-more : (test : List ℕ → Bool) (names : List (List ℕ)) (at : ℕ) (name : List ℕ) → at < length names → name ≡ get_or names at [] → list_any test (take at names) ≡ false → test name ≡ false
    → list_any test (take (at + 1) names) ≡ false
any-more test names at name within is none new =
    ap (list_any test) (names-more names at name within is) ∙ list_any-more test (take at names) name ∙ ap (λ b. b || test name) none ∙ new

pub any-found : (test : List ℕ → Bool) (names : List (List ℕ)) (at end : ℕ) (name : List ℕ) → at < end → end ≤ length names → name ≡ get_or names at [] → test name ≡ true → list_any test (take end names) ≡ true
any-found test names at zero name within whole is found = absurd (omega arith)
any-found test [] at (suc end) name within whole is found = absurd (omega arith)
any-found test (first ∷ names) zero (suc end) name within whole is found = ap (λ n. test n || list_any test (take end names)) (sym is) ∙ ap (λ b. b || list_any test (take end names)) found
any-found test (first ∷ names) (suc at) (suc end) name within whole is found = or_right (test first) _ (any-found test names at end name (omega arith) (omega arith) is found)

-- the test of two names in the code
pub same_name : (found : Bool) (one other : List ℕ) → (found ≡ true → map to_ascii_lowercase one ≡ map to_ascii_lowercase other) → (map to_ascii_lowercase one ≡ map to_ascii_lowercase other → found ≡ true)
    → is_same_name one other ≡ found
same_name true one other there back = (bytes_eq-Decides (map to_ascii_lowercase one) (map to_ascii_lowercase other)).1 (there refl)
same_name false one other there back = by (is_same_name one other) refl
  where
    by : (b : Bool) → is_same_name one other ≡ b → b ≡ false
    by false is = refl
    by true is = sym (back ((bytes_eq-Decides (map to_ascii_lowercase one) (map to_ascii_lowercase other)).0 is))
