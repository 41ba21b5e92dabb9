-- The steps of which readers are made, over things of any type. This project's own.
use Rattle.std.specs.Prelude.{◌≡◌, ◌≢◌, ◌<◌, ℕ, zero, suc, Bool, true, false, List, [], ◌∷◌, length, Option, Some, None, option_and_then, Result, Ok, Err, if◌then◌else◌}
use Rattle.tydi_reading.specs.declared.fault.Fault.{Fault}
use Rattle.tydi_reading.specs.declared.fault.Fault.TheVariants as faults

-- the value that is read, or why there is none; and the things that are left, which begin with the one at which reading stopped. E
-- is the type of a text's own refusals, T that of the things
pub data Outcome (E T A : Type 0) : Type 0 where
  took : A → List T → Outcome E T A
  stopped : Fault E → List T → Outcome E T A

-- from the things that are left to what is read of them
abbrev pub Reader : Type 0 → Type 0 → Type 0 → Type 0
Reader E T A = List T → Outcome E T A

-- a function did what the reader does, unless memory ran out
abbrev pub Reads : {E T A : Type 0} → Outcome E T A → Result A (Fault E) → List T → Type 0
Reads outcome (Ok x) new = outcome ≡ took x new
Reads outcome (Err e) new = e ≢ faults.Memory → outcome ≡ stopped e new

-- a function that needs no memory did what the reader does
abbrev pub ReadsAlways : {E T A : Type 0} → Outcome E T A → Result A (Fault E) → List T → Type 0
ReadsAlways outcome (Ok x) new = outcome ≡ took x new
ReadsAlways outcome (Err e) new = (e ≢ faults.Memory) × (outcome ≡ stopped e new)

-- a reading takes a thing at least
pub record Shrinks {E T A : Type 0} (read : Reader E T A) : Type 0 where
  pub less : (ts rest : List T) (x : A) → read ts ≡ took x rest → length rest < length ts

-- ---- the next thing

-- nothing is left
abbrev pub at_end : {T : Type 0} → List T → Bool
at_end [] = true
at_end (_ ∷ _) = false

-- the next thing
abbrev pub first : {T : Type 0} → List T → Option T
first [] = None
first (next ∷ _) = Some next

-- the things after the next
abbrev pub rest_of : {T : Type 0} → List T → List T
rest_of [] = []
rest_of (_ ∷ rest) = rest

-- the answer of a test of the next thing, and the answer where none is left
abbrev pub tells : {T : Type 0} → (T → Bool) → Bool → List T → Bool
tells test last [] = last
tells test last (next ∷ _) = test next

-- there is a next thing, and it is such a one
abbrev pub sees : {T : Type 0} → (T → Bool) → List T → Bool
sees test = tells test false

-- the next thing is such a one, or none is left
abbrev pub stops : {T : Type 0} → (T → Bool) → List T → Bool
stops test = tells test true

-- the things without the next, where that is such a one
abbrev pub after_eating : {T : Type 0} → (T → Bool) → List T → List T
after_eating test [] = []
after_eating test (next ∷ rest) = if test next then rest else next ∷ rest

-- ---- steps

-- takes nothing
abbrev pub pure : {E T A : Type 0} → A → Reader E T A
pure x = λ ts. took x ts

-- nothing goes on
abbrev pub refuse : {E T A : Type 0} → Reader E T A
refuse = λ ts. stopped faults.Refused ts

-- the next reader gets the value that is read, and the things after it; a fault stays
abbrev pub and_then : {E T A B : Type 0} → Outcome E T A → (A → Reader E T B) → Outcome E T B
and_then (took x rest) f = f x rest
and_then (stopped e rest) f = stopped e rest

-- one reader, and then the reader that what is read asks for
infixl 10 ◌>>=◌
abbrev pub ◌>>=◌ : {E T A B : Type 0} → Reader E T A → (A → Reader E T B) → Reader E T B
p >>= f = λ ts. and_then (p ts) f

-- one reader, and then another
infixl 10 ◌>>◌
abbrev pub ◌>>◌ : {E T A B : Type 0} → Reader E T A → Reader E T B → Reader E T B
p >> q = p >>= (λ _. q)

-- a function of what is read
infixr 11 ◌<$>◌
abbrev pub ◌<$>◌ : {E T A B : Type 0} → (A → B) → Reader E T A → Reader E T B
f <$> p = p >>= (λ x. pure (f x))

-- one after another: both values
infixr 12 ◌<&>◌
abbrev pub ◌<&>◌ : {E T A B : Type 0} → Reader E T A → Reader E T B → Reader E T (A × B)
p <&> q = p >>= (λ x. (λ y. (x, y)) <$> q)

-- one reader, and then another: the value of the first
infixl 12 ◌<<◌
abbrev pub ◌<<◌ : {E T A B : Type 0} → Reader E T A → Reader E T B → Reader E T A
p << q = p >>= (λ x. (λ _. x) <$> q)

-- the one reader where a test of the next thing holds, and else the other
abbrev pub choose : {E T A : Type 0} → (T → Bool) → Bool → Reader E T A → Reader E T A → Reader E T A
choose test last p q = λ ts. (if tells test last ts then p else q) ts

-- an optional value: it is read where a test of the next thing holds
abbrev pub optional : {E T A : Type 0} → (T → Bool) → Reader E T A → Reader E T (Option A)
optional test p = choose test false (Some <$> p) (pure None)

-- a value that is read where a test of the next thing holds; else nothing goes on
abbrev pub beginning : {E T A : Type 0} → (T → Bool) → Reader E T A → Reader E T A
beginning test p = choose test false p refuse

-- the next thing, which is to have a meaning
abbrev pub meant : {E T A : Type 0} → Option A → List T → List T → Outcome E T A
meant (Some x) rest all = took x rest
meant None rest all = stopped faults.Refused all

-- a value that needs a meaning; else nothing goes on after it
abbrev pub checked : {E T A B : Type 0} → (A → Option B) → Reader E T A → Reader E T B
checked meaning p = p >>= (λ x. λ rest. meant (meaning x) rest rest)

-- takes the next thing, which is to have a meaning, and gives the meaning
abbrev pub leaf : {E T A : Type 0} → (T → Option A) → Reader E T A
leaf meaning = λ ts. meant (option_and_then meaning (first ts)) (rest_of ts) ts

-- the meaning of the next thing, where it has one
abbrev pub told_by : {T K : Type 0} → (T → Option K) → List T → Option K
told_by meaning ts = option_and_then meaning (first ts)

-- the reader that the meaning of the next thing asks for, after that thing, or the other reader where it has none
abbrev pub led_by : {E T K A : Type 0} → Option K → (K → Reader E T A) → Reader E T A → Reader E T A
led_by (Some k) p q = λ ts. p k (rest_of ts)
led_by None p q = q

-- a next thing with a meaning is taken, and what that asks for follows; without one, the other reader
abbrev pub led : {E T K A : Type 0} → (T → Option K) → (K → Reader E T A) → Reader E T A → Reader E T A
led meaning p q = λ ts. led_by (told_by meaning ts) p q ts

-- things that may not stand here: the error comes where they begin, and says why
abbrev pub unfit : {E T A : Type 0} → E → (T → Bool) → Reader E T A
unfit why begins [] = refuse []
unfit why begins (next ∷ rest) = stopped (if begins next then faults.Unfit why else faults.Refused) (next ∷ rest)

-- ---- loops

-- the result of a turn of a loop: the value so far, with which the loop goes on or ends
pub data Turn (S : Type 0) : Type 0 where
  again : S → Turn S
  done : S → Turn S

-- goes on with the loop, or ends it
abbrev pub turned : {E T S : Type 0} → (S → Reader E T S) → Turn S → Reader E T S
turned more (again s) = more s
turned more (done s) = pure s

-- so many turns at most
unfoldable pub loop_from : {E T S : Type 0} → (S → Reader E T (Turn S)) → ℕ → S → Reader E T S
loop_from turn zero s = refuse
loop_from turn (suc turns) s = turn s >>= turned (loop_from turn turns)

-- each turn that goes on takes a thing, so there are no more turns than things, and one
unfoldable pub loop : {E T S : Type 0} → (S → Reader E T (Turn S)) → S → Reader E T S
loop turn s = λ ts. loop_from turn (suc (length ts)) s ts
