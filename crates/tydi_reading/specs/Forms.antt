-- Which lists of things have a form. No reader is in it. This project's own.
use Rattle.std.specs.Prelude.{◌≡◌, ℕ, zero, suc, ◌⊎◌, List, [], ◌∷◌, ◌++◌, All, Option, Some, None}
use Rattle.tydi_reading.specs.Reading.{Turn, again, done}

-- which lists have a form
abbrev pub Form : Type 0 → Type 1
Form T = List T → Type 0

-- the one form and then the other
infixr 6 ◌⋯◌
pub record ◌⋯◌ {T : Type 0} (First Second : Form T) (ts : List T) : Type 0 where
  pub front : List T
  pub back : List T
  pub all : ts ≡ front ++ back
  pub begins : First front
  pub ends : Second back

-- the one form of some value, and then what leads on
abbrev pub Past : {T A : Type 0} → (A → Form T) → Form T → Form T
Past {T} {A} Spelled To ts = (x : A) × ((Spelled x ⋯ To) ts)

-- nothing
abbrev pub Nothing : {T : Type 0} → Form T
Nothing ts = ts ≡ []

-- no list has this form
abbrev pub Never : {T : Type 0} → Form T
Never ts = ⊥

-- each list has this form
abbrev pub Anything : {T : Type 0} → Form T
Anything ts = Unit {0}

-- one thing of this meaning
pub record One {T A : Type 0} (meaning : T → Option A) (x : A) (ts : List T) : Type 0 where
  pub thing : T
  pub all : ts ≡ thing ∷ []
  pub is : meaning thing ≡ Some x

-- the form of a value, or nothing where there is none
abbrev pub Optional : {T A : Type 0} → (A → Form T) → Option A → Form T
Optional Spelled None = Nothing
Optional Spelled (Some x) = Spelled x

-- turns of a loop up to where this form follows, so many at most
abbrev pub RunsTo : {T S : Type 0} → (S → Turn S → Form T) → (S → Form T) → ℕ → S → Form T
RunsTo Spelled Last zero s ts = ⊥
RunsTo {T} {S} Spelled Last (suc n) s ts = Last s ts ⊎ ((next : S) × ((Spelled s (again next) ⋯ RunsTo Spelled Last n next) ts))

-- turns of a loop up to where this form follows
abbrev pub LoopTo : {T S : Type 0} → (S → Turn S → Form T) → (S → Form T) → S → Form T
LoopTo Spelled Last s ts = (n : ℕ) × RunsTo Spelled Last n s ts

-- turns of a loop from one state to another, so many at most
abbrev pub Runs : {T S : Type 0} → (S → Turn S → Form T) → ℕ → S → S → Form T
Runs Spelled n s end = RunsTo Spelled (λ s. Spelled s (done end)) n s

-- turns of a loop from one state to another
abbrev pub Loop : {T S : Type 0} → (S → Turn S → Form T) → S → S → Form T
Loop Spelled s end = LoopTo Spelled (λ s. Spelled s (done end)) s

-- things with which a form can go on after what stands: good ones, as texts have them
pub record GoesOn {T A : Type 0} (Good : T → Type 0) (Spelled : A → Form T) (front : List T) : Type 0 where
  pub value : A
  pub more : List T
  pub good : All Good more
  pub spelled : Spelled value (front ++ more)
