-- The first of such places at the numbers below an end, one number after another.
use Rattle.std.proofs.Common.{◌≡◌, ℕ, ◌+◌, ◌<◌, ◌≤◌, ◌⊎◌, inl, inr, Bool, true, false, Option, Some, None, sym, subst, ◌∙◌, arith}
use Rattle.std.proofs.lemmas.Bool.{cases_lt, leb-true, leb-false}
use Rattle.tydi_base.specs.declared.place.Place.{Place}
use Rattle.til_resolve.specs.Earliest.{IsEarliest, IsBelow, stands_first}
use Rattle.til_resolve.proofs.EarliestLemmas.{IsEarliest-same}

-- the place that was found, if any, stands behind a place
abbrev AreLater : Place → Option Place → Type 0
AreLater place None = Unit {0}
AreLater place (Some one) = place.offset < one.offset

module _ (At : ℕ → Place → Type 0) (n : ℕ) where
  below-cases : (place : Place) → IsBelow At (n + 1) place → IsBelow At n place ⊎ At n place
  below-cases place is = by (cases_lt is.one n)
    where
      by : (is.one < n) ⊎ (n ≤ is.one) → IsBelow At n place ⊎ At n place
      by (inl below) = inl (record { one = is.one; within = below; at = is.at })
      by (inr above) =
          let same : is.one ≡ n = omega (arith, is.within) in
          inr (subst (λ k. At k place) same is.at)

  below-keep : (place : Place) → IsBelow At n place → IsBelow At (n + 1) place
  below-keep place is = record { one = is.one; within = omega (arith, is.within); at = is.at }

  -- nothing stands at the number itself
  pub below-not : (found : Option Place) → ((place : Place) → ¬ At n place) → IsEarliest (IsBelow At n) found → IsEarliest (IsBelow At (n + 1)) found
  below-not found never so = IsEarliest-same (IsBelow At n) (IsBelow At (n + 1)) found below-keep (λ place there. by place (below-cases place there)) so
    where
      by : (place : Place) → IsBelow At n place ⊎ At n place → IsBelow At n place
      by place (inl there) = there
      by place (inr here) = absurd (never place here)

  -- the place of the number stands no earlier than what was found
  pub below-later : (found : Option Place) (place : Place) (first : Bool) → first ≡ stands_first found place → first ≡ true → ((other : Place) → At n other → place ≡ other)
      → IsEarliest (IsBelow At n) found → IsEarliest (IsBelow At (n + 1)) found
  below-later None place first is before own so = cc
  below-later (Some one) place first is before own so = record { told = record { there = below-keep one so.told.there; first = λ other there. by other (below-cases other there) } }
    where
      below : one.offset ≤ place.offset
      below = leb-true one.offset place.offset (sym is ∙ before)

      by : (other : Place) → IsBelow At n other ⊎ At n other → one.offset ≤ other.offset
      by other (inl there) = so.told.first other there
      by other (inr here) = subst (λ (p : Place). one.offset ≤ p.offset) (own other here) below

  -- the place of the number stands before what was found
  pub below-taken : (found : Option Place) (place : Place) (first : Bool) → first ≡ stands_first found place → first ≡ false → At n place → ((other : Place) → At n other → place ≡ other)
      → IsEarliest (IsBelow At n) found → IsEarliest (IsBelow At (n + 1)) (Some place)
  below-taken found place first is before here own so =
      record { told = record { there = record { one = n; within = omega arith; at = here }; first = λ other there. by found so (is_first found (sym is ∙ before)) other (below-cases other there) } }
    where
      is_first : (o : Option Place) → stands_first o place ≡ false → AreLater place o
      is_first None test = tt
      is_first (Some one) test = leb-false one.offset place.offset test

      by : (o : Option Place) → IsEarliest (IsBelow At n) o → AreLater place o → (other : Place) → IsBelow At n other ⊎ At n other → place.offset ≤ other.offset
      by None told later other (inl there) = absurd (told.told other there)
      by None told later other (inr at) = subst (λ (p : Place). place.offset ≤ p.offset) (own other at) (omega arith)
      by (Some one) told later other (inl there) = omega (arith, later, told.told.first other there)
      by (Some one) told later other (inr at) = subst (λ (p : Place). place.offset ≤ p.offset) (own other at) (omega arith)
