-- The first of some places in a text. This project's own.
use Rattle.std.specs.Prelude.{ℕ, ◌<◌, ◌≤◌, nat_lt, nat_le, Bool, false, Option, Some, None, MatchOption, if◌then◌else◌}
use Rattle.tydi_base.specs.declared.place.Place.{Place}

-- a place is such a place, and none of the others stands before it
pub record IsFirst (Is : Place → Type 0) (one : Place) : Type 0 where
  pub there : Is one
  pub first : (other : Place) → Is other → one.offset ≤ other.offset

-- the first of such places is found, or none where there is none
pub record IsEarliest (Is : Place → Type 0) (found : Option Place) : Type 0 where
  pub told : MatchOption found ((place : Place) → ¬ Is place) (IsFirst Is)

-- the one of two places that stands before the other
abbrev pub earlier : Option Place → Option Place → Option Place
earlier None other = other
earlier (Some first) None = Some first
earlier (Some first) (Some second) = if nat_lt second.offset first.offset then Some second else Some first

-- a place that was found stands no later than another
abbrev pub stands_first : Option Place → Place → Bool
stands_first None place = false
stands_first (Some found) place = nat_le found.offset place.offset

-- such a place at one of the numbers below an end
pub record IsBelow (At : ℕ → Place → Type 0) (end : ℕ) (place : Place) : Type 0 where
  pub one : ℕ
  pub within : one < end
  pub at : At one place
