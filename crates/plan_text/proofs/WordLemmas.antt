-- Words that are read one after another.
use Rattle.std.proofs.Common.{◌≡◌, ◌<◌, ◌≤◌, ℕ, Bool, true, false, cond, nat_le, nat_lt, List, [], ◌∷◌, ◌++◌, Option, Some, None, Result, Ok, Err, refl, ap, sym, append_assoc, arith}
use Rattle.std.proofs.lemmas.Bool.Decides.{nat_tests}
use Rattle.std.proofs.lemmas.Option.{cond_some}
use Rattle.tydi_base.specs.Decimal.{below}
use Rattle.tydi_base.specs.Reading.{◌>>=◌, or_fault}
use Rattle.tydi_base.specs.declared.place.Place.{Place}
use Rattle.plan_text.specs.Words.{most_cycles}
use Rattle.plan_text.specs.declared.fault.PlanFault.{PlanFault}
use Rattle.plan_text.specs.declared.fault.PlanFault.TheVariants.{Syntax}

-- the values that are read, behind those that were found
abbrev pub behind : {A : Type 0} → List A → Result (List A) PlanFault → Result (List A) PlanFault
behind found read = read >>= λ more. Ok (found ++ more)

pub behind-none : {A : Type 0} (read : Result (List A) PlanFault) → behind [] read ≡ read
behind-none (Ok more) = refl
behind-none (Err fault) = refl

pub behind-more : {A : Type 0} (found : List A) (x : A) (read : Result (List A) PlanFault) → behind found (read >>= λ more. Ok (x ∷ more)) ≡ behind (found ++ x ∷ []) read
behind-more {A} found x (Ok more) = ap (λ (l : List A). Ok l) (sym (append_assoc found (x ∷ []) more))
behind-more found x (Err fault) = refl

-- ---- gaps

-- a number that is read as a gap
abbrev pub gap_in : Place → Option ℕ → Result ℕ PlanFault
gap_in place number = or_fault (Syntax place) number >>= λ gap. cond (nat_le gap most_cycles) (Ok gap) (Err (Syntax place))

pub gap_in-none : (place : Place) (limit : ℕ) (number : Option ℕ) → most_cycles < limit → below limit number ≡ None → gap_in place number ≡ Err (Syntax place)
gap_in-none place limit None large none = refl
gap_in-none place limit (Some n) large none = by_test (nat_lt n limit) refl none
  where
    by_test : (fits : Bool) → nat_lt n limit ≡ fits → ◌≡◌ {A = Option ℕ} (cond fits (Some n) None) None → gap_in place (Some n) ≡ Err (Syntax place)
    by_test true is none = absurd cc
    by_test false is none = let past : nat_le n most_cycles ≡ false = grind (arith, nat_tests) in rw past refl

pub below-some : (limit : ℕ) (number : Option ℕ) (n : ℕ) → below limit number ≡ Some n → number ≡ Some n
below-some limit None n some = absurd cc
below-some limit (Some m) n some = let same = cond_some (nat_lt m limit) m n some in ap (λ (k : ℕ). Some k) same.1

pub gap_in-large : (place : Place) (limit : ℕ) (number : Option ℕ) (n : ℕ) → below limit number ≡ Some n → most_cycles < n → gap_in place number ≡ Err (Syntax place)
gap_in-large place limit number n some large =
    let past : nat_le n most_cycles ≡ false = grind (arith, nat_tests) in
    rw (below-some limit number n some, past) refl

pub gap_in-small : (place : Place) (limit : ℕ) (number : Option ℕ) (n : ℕ) → below limit number ≡ Some n → n ≤ most_cycles → gap_in place number ≡ Ok n
gap_in-small place limit number n some small =
    let fits : nat_le n most_cycles ≡ true = grind (arith, nat_tests) in
    rw (below-some limit number n some, fits) refl
