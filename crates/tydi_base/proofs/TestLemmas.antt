-- Tests and results, taken apart.
use Rattle.std.proofs.Common.{◌≡◌, ℕ, Bool, true, false, ◌↔◌, IsTrue, not, cond, eqb, List, [], ◌∷◌, length, Result, Ok, Err, OnOk, is_ok, refl, arith}
use Rattle.std.specs.Str.{bytes_eq}
use Rattle.std.proofs.lemmas.Bool.Decides.{nat_tests}
use Rattle.std.proofs.lemmas.Slice.Eq.{bytes_eq-Decides}

-- a reading that stands under a test, and did not fail
pub kept : {A F : Type 0} (b : Bool) (read : Result A F) (d : F) (y : A) → cond b read (Err d) ≡ Ok y → (b ≡ true) × (read ≡ Ok y)
kept true read d y e = (refl, e)
kept false read d y e = absurd cc

-- a word that is read as a bit is the one of two
pub two-some : {F : Type 0} (text : Bool → List ℕ) (first : Bool) (d : F) (word : List ℕ) (bit : Bool)
    → ◌≡◌ {A = Result Bool F} (cond (bytes_eq word (text first)) (Ok first) (cond (bytes_eq word (text (not first))) (Ok (not first)) (Err d))) (Ok bit) → word ≡ text bit
two-some {F} text first d word bit e = by_tests (bytes_eq word (text first)) (bytes_eq word (text (not first))) refl refl e
  where
    by_tests : (one other : Bool) → bytes_eq word (text first) ≡ one → bytes_eq word (text (not first)) ≡ other → ◌≡◌ {A = Result Bool F} (cond one (Ok first) (cond other (Ok (not first)) (Err d))) (Ok bit) → word ≡ text bit
    by_tests true other is isnt e = let same : first ≡ bit = cc in rw (← same) ((bytes_eq-Decides word (text first)).0 is)
    by_tests false true is isnt e = let same : not first ≡ bit = cc in rw (← same) ((bytes_eq-Decides word (text (not first))).0 isnt)
    by_tests false false is isnt e = absurd cc

-- a call that went well
pub on_ok : {A E : Type 0} (r : Result A E) (P Q : Type 0) → (P → Q) → OnOk r P → OnOk r Q
on_ok (Ok x) P Q f h = f h
on_ok (Err e) P Q f h = tt

pub on_ok_is : {A E : Type 0} (r : Result A E) (P : Type 0) → is_ok r ≡ true → OnOk r P → P
on_ok_is (Ok x) P is h = h
on_ok_is (Err e) P is h = absurd cc

-- whether a text is empty
pub empty_is : (text : List ℕ) → true ≡ eqb (length text) 0 → text ≡ []
empty_is [] same = refl
empty_is (byte ∷ text) same = absurd (grind (arith, nat_tests))

pub some_is_not : (text : List ℕ) → false ≡ eqb (length text) 0 → text ≡ [] → ⊥
some_is_not [] same none = cc
some_is_not (byte ∷ text) same none = cc

pub empty_iff : (text : List ℕ) (is_empty : Bool) → is_empty ≡ eqb (length text) 0 → IsTrue is_empty ↔ (text ≡ [])
empty_iff text true is = (λ _. empty_is text is, λ _. refl)
empty_iff text false is = (λ no. absurd cc, λ none. absurd (some_is_not text is none))
