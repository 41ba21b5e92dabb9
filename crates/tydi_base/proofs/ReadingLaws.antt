-- Steps of a reader, taken apart.
use Rattle.std.proofs.Common.{◌≡◌, Bool, true, false, cond, Option, Some, None, Result, Ok, Err, IfErr, refl, ◌⊎◌, inl, inr}
use Rattle.std.specs.Prelude.{MatchOption}
use Rattle.tydi_base.specs.Reading.{◌>>=◌, or_fault}

-- the value of a step that did not fail
pub bind_ok : {A B F : Type 0} (read : Result A F) (f : A → Result B F) (y : B) → (read >>= f) ≡ Ok y → (x : A) × (read ≡ Ok x) × (f x ≡ Ok y)
bind_ok (Ok x) f y e = (x, refl, e)
bind_ok (Err d) f y e = absurd cc

-- the step that failed
pub bind_err : {A B F : Type 0} (read : Result A F) (f : A → Result B F) (d : F) → (read >>= f) ≡ Err d → (read ≡ Err d) ⊎ ((x : A) × (read ≡ Ok x) × (f x ≡ Err d))
bind_err (Ok x) f d e = inr (x, refl, e)
bind_err (Err c) f d e = inl cc

pub bind-at_ok : {A B F : Type 0} (read : Result A F) (f : A → Result B F) (x : A) → read ≡ Ok x → (read >>= f) ≡ f x
bind-at_ok (Ok y) f x e = let same : y ≡ x = cc in rw same refl
bind-at_ok (Err d) f x e = absurd cc

pub bind-at_err : {A B F : Type 0} (read : Result A F) (f : A → Result B F) (d : F) → read ≡ Err d → (read >>= f) ≡ Err d
bind-at_err (Ok y) f d e = absurd cc
bind-at_err (Err c) f d e = cc

-- the exit by `?`: what a step's error says of the step, it says of the reader that goes on from it
pub fails_then : {A B F : Type 0} (fault : Option F) (read : Result A F) (f : A → Result B F) → MatchOption fault (Unit {0}) (λ d. read ≡ Err d) → MatchOption fault (Unit {0}) (λ d. (read >>= f) ≡ Err d)
fails_then None read f h = tt
fails_then (Some d) read f h = bind-at_err read f d h

-- the value of an option that was there
pub or_fault_ok : {A F : Type 0} (fault : F) (o : Option A) (x : A) → or_fault fault o ≡ Ok x → o ≡ Some x
or_fault_ok fault None x e = absurd cc
or_fault_ok fault (Some y) x e = cc

pub or_fault_err : {A F : Type 0} (fault : F) (o : Option A) (d : F) → or_fault fault o ≡ Err d → (o ≡ None) × (d ≡ fault)
or_fault_err fault None d e = (refl, cc)
or_fault_err fault (Some y) d e = absurd cc

-- a test that did not fail
pub guard_ok : {A F : Type 0} (b : Bool) (d : F) (x y : A) → cond b (Err d) (Ok x) ≡ Ok y → (b ≡ false) × (x ≡ y)
guard_ok true d x y e = absurd cc
guard_ok false d x y e = (refl, cc)

-- which side a test chose
pub chosen : {A : Type 0} (b : Bool) (x y z : A) → cond b x y ≡ z → ((b ≡ true) × (x ≡ z)) ⊎ ((b ≡ false) × (y ≡ z))
chosen true x y z e = inl (refl, e)
chosen false x y z e = inr (refl, e)

-- `Ok` has one value
pub ok_is : {A F : Type 0} (x y : A) → ◌≡◌ {A = Result A F} (Ok x) (Ok y) → x ≡ y
ok_is x y e = cc

-- ---- the errors of a reading

-- each error of a reading is such
pub record FaultsAre {A F : Type 0} (P : F → Type 0) (read : Result A F) : Type 0 where
  pub are : IfErr read P

pub FaultsAre-ok : {A F : Type 0} {P : F → Type 0} (x : A) → FaultsAre {A = A} P (Ok x)
FaultsAre-ok x = record { are = tt }

pub FaultsAre-err : {A F : Type 0} {P : F → Type 0} (fault : F) → P fault → FaultsAre {A = A} P (Err fault)
FaultsAre-err fault holds = record { are = holds }

-- those of a step, and of what goes on from its value
pub FaultsAre-bind : {A B F : Type 0} {P : F → Type 0} (read : Result A F) (f : A → Result B F) → FaultsAre P read → ((x : A) → FaultsAre P (f x)) → FaultsAre P (read >>= f)
FaultsAre-bind (Ok x) f first later = later x
FaultsAre-bind (Err fault) f first later = record { are = first.are }

pub FaultsAre-cond : {A F : Type 0} {P : F → Type 0} (b : Bool) (one other : Result A F) → FaultsAre P one → FaultsAre P other → FaultsAre P (cond b one other)
FaultsAre-cond true one other first second = first
FaultsAre-cond false one other first second = second

-- for the errors of a reader, by those of its steps
pub ruleset faults_are = (FaultsAre-ok, FaultsAre-err, FaultsAre-bind, FaultsAre-cond)
