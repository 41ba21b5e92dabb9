-- The count of instances down to few levels misses none.
use Rattle.std.proofs.Common.{◌≡◌, ◌↔◌, ℕ, zero, suc, ◌+◌, ◌<◌, ◌≤◌, Bool, true, false, ◌||◌, IsTrue, ltb, List, [], ◌∷◌, Option, Some, None, refl, sym, ap, arith}
use Rattle.std.specs.List.{list_any, slice_get}
use Rattle.std.proofs.lemmas.Bool.{ltb-true, ltb-false, lt-ltb}
use Rattle.std.proofs.lemmas.List.Sums.{sum_by-cons}
use Rattle.til_resolve.specs.PlainProject.{PlainStreamlet}
use Rattle.til_resolve.specs.SoundProject.{instances_inside}
use Rattle.til_resolve.specs.declared.project.Instance.{Instance}
use Rattle.link_check.specs.Laws.{SizesAreCountedWhole}
use Rattle.link_check.specs.Sizes.{IsTooLarge, has_over, instances_at, instances_below, instances_down, instances_found, is_too_large}
use Rattle.link_check.proofs.TestLemmas.{clash}

module _ (streamlets : List PlainStreamlet) where
  -- where there are fewer instances than levels, no deeper level has more
  sums : (levels more : ℕ) (instances : List Instance) → ((number : ℕ) → instances_down streamlets levels number < levels → instances_down streamlets more number ≤ instances_down streamlets levels number)
      → instances_below streamlets levels instances ≤ levels → instances_below streamlets more instances ≤ instances_below streamlets levels instances
  sums levels more [] each few = omega arith
  sums levels more (one ∷ rest) each few =
      let here = sum_by-cons (λ (i : Instance). 1 + instances_down streamlets levels i.streamlet) one rest in
      let there = sum_by-cons (λ (i : Instance). 1 + instances_down streamlets more i.streamlet) one rest in
      omega (arith, here, there, few, each one.streamlet (omega (arith, here, few)), sums levels more rest each (omega (arith, here, few)))

  deep-enough : (levels number : ℕ) → instances_down streamlets levels number < levels → (more : ℕ) → instances_down streamlets more number ≤ instances_down streamlets levels number
  deep-enough zero number few more = absurd (omega (arith, few))
  deep-enough (suc levels) number few zero = omega arith
  deep-enough (suc levels) number few (suc more) = sums levels more (instances_at streamlets number) (λ one low. deep-enough levels one low more) (omega (arith, few))

  -- some streamlet that is there passes a test
  passed : (test : PlainStreamlet → Bool) (those : List PlainStreamlet) (number : ℕ) (one : PlainStreamlet) → slice_get those number ≡ Some one → test one ≡ true → list_any test those ≡ true
  passed test [] number one there holds = absurd cc
  passed test (first ∷ more) zero one there holds = let same : first ≡ one = cc in rw (same, holds) refl
  passed test (first ∷ more) (suc number) one there holds = by (test first) (passed test more number one there holds)
    where
      by : (b : Bool) → list_any test more ≡ true → (b || list_any test more) ≡ true
      by true rest = refl
      by false rest = rest

  passing : (test : PlainStreamlet → Bool) (those : List PlainStreamlet) → list_any test those ≡ true → (number : ℕ) × ((one : PlainStreamlet) × ((slice_get those number ≡ Some one) × (test one ≡ true)))
  passing test [] some = clash some
  passing test (first ∷ more) some = by (test first) refl some (passing test more)
    where
      by : (b : Bool) → test first ≡ b → (b || list_any test more) ≡ true → (list_any test more ≡ true → (number : ℕ) × ((one : PlainStreamlet) × ((slice_get more number ≡ Some one) × (test one ≡ true))))
          → (number : ℕ) × ((one : PlainStreamlet) × ((slice_get (first ∷ more) number ≡ Some one) × (test one ≡ true)))
      by true is here rest = (zero, (first, (refl, is)))
      by false is later rest = let found = rest later in (suc found.0, (found.1.0, found.1.1))

  abbrev over : ℕ → PlainStreamlet → Bool
  over limit one = ltb limit (instances_below streamlets limit (instances_inside one.body))

  -- a count over a limit is seen
  over-seen : (limit levels number : ℕ) → limit < instances_down streamlets levels number → has_over limit streamlets ≡ true
  over-seen limit levels number many = by (ltb limit (instances_down streamlets (suc limit) number)) refl
    where
      found : (o : Option PlainStreamlet) → slice_get streamlets number ≡ o → limit < instances_down streamlets (suc limit) number → has_over limit streamlets ≡ true
      found None e low =
          let none : instances_down streamlets (suc limit) number ≡ 0 = ap (instances_below streamlets limit) (ap instances_found e) in
          absurd (omega (arith, low, none))
      found (Some one) e low =
          let is : instances_down streamlets (suc limit) number ≡ instances_below streamlets limit (instances_inside one.body) = ap (instances_below streamlets limit) (ap instances_found e) in
          passed (over limit) streamlets number one e (lt-ltb limit (instances_below streamlets limit (instances_inside one.body)) (omega (arith, low, is)))

      by : (b : Bool) → ltb limit (instances_down streamlets (suc limit) number) ≡ b → has_over limit streamlets ≡ true
      by true is = found (slice_get streamlets number) refl (ltb-true limit (instances_down streamlets (suc limit) number) is)
      by false is =
          let small = ltb-false limit (instances_down streamlets (suc limit) number) is in
          absurd (omega (arith, many, small, deep-enough (suc limit) number (omega (arith, small)) levels))

  over-is : (limit : ℕ) → has_over limit streamlets ≡ true → (levels : ℕ) × ((number : ℕ) × (limit < instances_down streamlets levels number))
  over-is limit some =
      let found = passing (over limit) streamlets some in
      let is : instances_down streamlets (suc limit) found.0 ≡ instances_below streamlets limit (instances_inside found.1.0.body) = ap (instances_below streamlets limit) (ap instances_found found.1.1.0) in
      (suc limit, (found.0, omega (arith, is, ltb-true limit (instances_below streamlets limit (instances_inside found.1.0.body)) found.1.1.1)))

  too-large : has_over 65536 streamlets ≡ true → IsTooLarge streamlets
  too-large some = let found = over-is 65536 some in record { levels = found.0; number = found.1.0; many = found.1.1 }

pub sizes_are_counted_whole : SizesAreCountedWhole
unfolding is_too_large
sizes_are_counted_whole streamlets = (too-large streamlets, λ large. over-seen streamlets 65536 large.levels large.number large.many)

-- a test that decides whether a project is too large gives the answer of the definition
pub too_large-is : (streamlets : List PlainStreamlet) (large : Bool) → IsTrue large ↔ IsTooLarge streamlets → large ≡ is_too_large streamlets
too_large-is streamlets large tells = by large (is_too_large streamlets) (λ e. (sizes_are_counted_whole streamlets).1 (tells.0 e)) (λ e. tells.1 ((sizes_are_counted_whole streamlets).0 e))
  where
    by : (one other : Bool) → (one ≡ true → other ≡ true) → (other ≡ true → one ≡ true) → one ≡ other
    by true other to back = sym (to refl)
    by false true to back = back refl
    by false false to back = refl
