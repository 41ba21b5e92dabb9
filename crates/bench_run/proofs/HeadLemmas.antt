-- The heads of a bench can stand in one trace.
use Rattle.std.proofs.Common.{◌≡◌, ℕ, suc, Bool, true, false, not, ◌&&◌, ◌||◌, nat_le, if◌then◌else◌, List, [], ◌∷◌, length, map, slice_get, Some, refl, arith}
use Rattle.std.specs.List.{list_any}
use Rattle.std.specs.Str.{bytes_eq}
use Rattle.std.proofs.lemmas.Bool.Decides.{nat_tests}
use Rattle.std.proofs.lemmas.Slice.Eq.{bytes_eq-Decides}
use Rattle.tydi_base.specs.Path.{path_text}
use Rattle.physical_stream.specs.declared.head.Head.{Head}
use Rattle.cycle_trace.specs.Trace.{all_distinct, are_heads}
use Rattle.cycle_trace.specs.Version.{may_have, version_of}
use Rattle.cycle_trace.specs.declared.version.Version.TheVariants.{One, Two}
use Rattle.vhdl_text.specs.WellFormed.{AreApart, AreHeads}

abbrev texts_of : List Head → List (List ℕ)
texts_of heads = map (λ (head : Head). path_text head.path) heads

neither : (a b : Bool) → a ≡ false → b ≡ false → (a || b) ≡ false
neither a b is_a is_b = rw (is_a, is_b) refl

both : (a b : Bool) → a ≡ false → b ≡ true → (not a && b) ≡ true
both a b is_a is_b = rw (is_a, is_b) refl

-- a text that none of these streams has as its path
none-has : (text : List ℕ) (heads : List Head) → ((b : ℕ) (other : Head) → slice_get heads b ≡ Some other → text ≡ path_text other.path → ⊥) → list_any (bytes_eq text) (texts_of heads) ≡ false
none-has text [] none = refl
none-has text (head ∷ heads) none = neither (bytes_eq text (path_text head.path)) (list_any (bytes_eq text) (texts_of heads)) (by_test (bytes_eq text (path_text head.path)) refl) (none-has text heads (λ b. none (suc b)))
  where
    by_test : (test : Bool) → bytes_eq text (path_text head.path) ≡ test → test ≡ false
    by_test false is = refl
    by_test true is = absurd (none 0 head refl ((bytes_eq-Decides text (path_text head.path)).0 is))

distinct : (heads : List Head) → AreApart heads → all_distinct (texts_of heads) ≡ true
distinct [] apart = refl
distinct (head ∷ heads) apart =
    both (list_any (bytes_eq (path_text head.path)) (texts_of heads)) (all_distinct (texts_of heads))
    (none-has (path_text head.path) heads (λ b other there same. let e = apart 0 (suc b) head other refl there same in absurd (omega (arith, e))))
    (distinct heads (λ a b one other is_a is_b same. let e = apart (suc a) (suc b) one other is_a is_b same in omega (arith, e)))

pub heads-together : (heads : List Head) → AreHeads heads → are_heads heads ≡ true
heads-together heads are =
    let few : nat_le (length heads) 65536 ≡ true = let f = are.few in grind (arith, nat_tests, f) in
    rw (few, distinct heads are.apart) refl

-- ---- the version of their trace

any-level : (heads : List Head) → may_have Two heads ≡ true
any-level [] = refl
any-level (head ∷ heads) = any-level heads

pub version-fits : (heads : List Head) → may_have (version_of heads) heads ≡ true
version-fits heads = by_test (may_have One heads) refl
  where
    by_test : (test : Bool) → may_have One heads ≡ test → may_have (if test then One else Two) heads ≡ true
    by_test true is = is
    by_test false is = any-level heads
