-- A reader is a rule where it reads exactly the texts of its form, and nothing of the form goes on where it stops. This project's
-- own.
use Rattle.std.specs.Prelude.{◌≡◌, ◌≤◌, ◌⊎◌, List, [], ◌∷◌, ◌++◌, length, All}
use Rattle.tydi_reading.specs.declared.fault.Fault.{Fault}
use Rattle.tydi_reading.specs.declared.fault.Fault.TheVariants as faults
use Rattle.tydi_reading.specs.Forms.{Form, GoesOn}
use Rattle.tydi_reading.specs.Reading.{Outcome, took, stopped, Reader}

-- the things that are left
abbrev pub left : {E T A : Type 0} → Outcome E T A → List T
left (took x rest) = rest
left (stopped e rest) = rest

-- the same outcome with other things left
abbrev pub leaving : {E T A : Type 0} → Outcome E T A → List T → Outcome E T A
leaving (took x rest) other = took x other
leaving (stopped e rest) other = stopped e other

-- the value or the refusal of the front stays, whatever follows the next thing
pub record Local {E T A : Type 0} (read : Reader E T A) (ts : List T) (outcome : Outcome E T A) : Type 0 where
  pub front : List T
  pub split : ts ≡ front ++ left outcome
  pub stays : (next : T) (after more : List T) → left outcome ≡ next ∷ after → read (front ++ next ∷ more) ≡ leaving outcome (next ∷ more)

-- the things that were taken spell the value
pub record Found {T A : Type 0} (Spelled : A → Form T) (Within : A → Type 0) (ts rest : List T) (x : A) : Type 0 where
  pub front : List T
  pub split : ts ≡ front ++ rest
  pub spelled : Spelled x front
  pub within : Within x

-- reading stopped at something unfit, before the rest or at its begin; what is spelled has something unfit
pub record TooFar {E T A : Type 0} (Within : Type 0) (rest : List T) (outcome : Outcome E T A) : Type 0 where
  pub why : E
  pub at : List T
  pub is : outcome ≡ stopped (faults.Unfit why) at
  pub before : length rest ≤ length at
  pub beyond : Within → ⊥

-- a spelled value is read, or has something unfit
abbrev pub Reached : {E T A : Type 0} → (A → Type 0) → List T → A → Outcome E T A → Type 0
Reached Within rest x outcome = (outcome ≡ took x rest) ⊎ TooFar (Within x) rest outcome

-- the form can go on after what was taken
pub record Cut {T A : Type 0} (Good : T → Type 0) (Spelled : A → Form T) (ts rest : List T) : Type 0 where
  pub front : List T
  pub split : ts ≡ front ++ rest
  pub goes : GoesOn Good Spelled front

-- the form can go on after the thing at which something unfit begins
pub record CutUnfit {T A : Type 0} (Good : T → Type 0) (Spelled : A → Form T) (Unfit : Form T) (ts rest : List T) : Type 0 where
  pub front : List T
  pub next : T
  pub after : List T
  pub split : ts ≡ front ++ rest
  pub begins : rest ≡ next ∷ after
  pub unfit : Unfit front
  pub goes : GoesOn Good Spelled (front ++ next ∷ [])

-- the things that were taken before a fault can go on
abbrev pub Finishes : {E T A : Type 0} → (T → Type 0) → (A → Form T) → Form T → List T → List T → Fault E → Type 0
Finishes Good Spelled Unfit ts rest faults.Refused = Cut Good Spelled ts rest
Finishes Good Spelled Unfit ts rest (faults.Unfit _) = CutUnfit Good Spelled Unfit ts rest
Finishes Good Spelled Unfit ts rest faults.Memory = ⊥

-- reading stopped before the rest, or at its begin
pub record Stops {E T A : Type 0} (rest : List T) (outcome : Outcome E T A) : Type 0 where
  pub fault : Fault E
  pub at : List T
  pub is : outcome ≡ stopped fault at
  pub before : length rest ≤ length at

-- a reader is a rule: its form, what may follow, what is within its bounds, and what leads to something unfit
pub record IsRule (E : Type 0) {T A : Type 0} (Good : T → Type 0) (read : Reader E T A) (Spelled : A → Form T) (Next : A → Form T) (Within : A → Type 0)
    (Unfit : Form T) : Type 0 where
  pub example : GoesOn Good Spelled []
  pub local : (ts : List T) → Local read ts (read ts)
  pub sound : (ts rest : List T) (x : A) → read ts ≡ took x rest → Found Spelled Within ts rest x
  pub complete : (front rest : List T) (x : A) → All Good front → Spelled x front → Next x rest → Reached Within rest x (read (front ++ rest))
  pub finishes : (ts rest : List T) (e : Fault E) → read ts ≡ stopped e rest → Finishes Good Spelled Unfit ts rest e
  pub stops : (front rest : List T) → All Good front → Unfit front → Stops rest (read (front ++ rest))
