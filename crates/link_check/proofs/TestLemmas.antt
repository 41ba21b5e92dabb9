-- Tests, alternatives and searches that find nothing, taken apart and put together.
use Rattle.std.proofs.Common.{◌≡◌, Bool, true, false, not, ◌&&◌, cond, Option, Some, None, option_map, refl}
use Rattle.std.specs.Option.{option_or}

pub clash : {A : Type 0} → false ≡ true → A
clash e = absurd cc

-- both of two tests hold
pub both : (one other : Bool) → (one && other) ≡ true → (one ≡ true) × (other ≡ true)
both true other e = (refl, e)
both false other e = clash e

pub and : (one other : Bool) → one ≡ true → other ≡ true → (one && other) ≡ true
and one other e f = rw (e, f) refl

pub held : (test : Bool) → not test ≡ false → test ≡ true
held true e = refl
held false e = absurd cc

-- a search whose first test finds nothing
pub searched : {A : Type 0} (test : Bool) (one : A) (rest : Option A) → cond test (Some one) rest ≡ None → (test ≡ false) × (rest ≡ None)
searched true one rest e = absurd cc
searched false one rest e = (refl, e)

-- neither of two is there
pub neither : {A : Type 0} (one other : Option A) → option_or one other ≡ None → (one ≡ None) × (other ≡ None)
neither None other e = (refl, e)
neither (Some one) other e = absurd cc

pub none-both : {A : Type 0} (one other : Option A) → one ≡ None → other ≡ None → option_or one other ≡ None
none-both one other e f = rw (e) f

pub none-mapped : {A B : Type 0} (change : A → B) (found : Option A) → option_map change found ≡ None → found ≡ None
none-mapped change None e = refl
none-mapped change (Some one) e = absurd cc

pub none-map : {A B : Type 0} (change : A → B) (found : Option A) → found ≡ None → option_map change found ≡ None
none-map change found e = rw (e) refl
