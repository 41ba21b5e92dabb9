-- The meaning of each error of a reader, stated by the texts of a form alone. Things are counted from 0. This project's own.
use Rattle.std.specs.Prelude.{◌<◌, ◌-◌, ℕ, zero, suc, List, ◌++◌, take, length, All}
use Rattle.tydi_reading.specs.Forms.{Form, GoesOn}
use Rattle.tydi_reading.specs.declared.fault.Fault.{Fault}
use Rattle.tydi_reading.specs.declared.fault.Fault.TheVariants as faults

-- nothing among the first so many things begins that is unfit
abbrev pub AreFit : {T : Type 0} → Form T → ℕ → List T → Type 0
AreFit Unfit k ts = (j : ℕ) → j < k → Unfit (take j ts) → ⊥

-- the things before this one can go on to a text of the form, and with this one they cannot, whatever good things follow
pub record IsRefusedAt {T A : Type 0} (Good : T → Type 0) (Spelled : A → Form T) (Unfit : Form T) (k : ℕ) (ts : List T) : Type 0 where
  pub there : k < length ts
  pub goes : GoesOn Good Spelled (take k ts)
  pub ends : (x : A) (more : List T) → All Good more → Spelled x (take (suc k) ts ++ more) → ⊥
  pub fit : AreFit Unfit k ts

-- at this one the first begins that is unfit; with it the things can go on to a text of the form
pub record IsUnfitAt {T A : Type 0} (Good : T → Type 0) (Spelled : A → Form T) (Unfit : Form T) (k : ℕ) (ts : List T) : Type 0 where
  pub there : k < length ts
  pub unfit : Unfit (take k ts)
  pub goes : GoesOn Good Spelled (take (suc k) ts)
  pub fit : AreFit Unfit k ts

-- all things can go on to a text of the form, and are none
pub record IsCutOff {T A : Type 0} (Good : T → Type 0) (Spelled : A → Form T) (Unfit : Form T) (ts : List T) : Type 0 where
  pub goes : GoesOn Good Spelled ts
  pub none : (x : A) → Spelled x ts → ⊥
  pub fit : AreFit Unfit (length ts) ts

-- where things stop: at a refused one, at their end, or at one that stands unfit
pub data Stop : Type 0 where
  refused : ℕ → Stop
  cut_off : Stop
  unfit : ℕ → Stop

-- the things stop so
abbrev pub IsStop : {T A : Type 0} → (T → Type 0) → (A → Form T) → Form T → List T → Stop → Type 0
IsStop Good Spelled Unfit ts (refused k) = IsRefusedAt Good Spelled Unfit k ts
IsStop Good Spelled Unfit ts cut_off = IsCutOff Good Spelled Unfit ts
IsStop Good Spelled Unfit ts (unfit k) = IsUnfitAt Good Spelled Unfit k ts

-- nothing is left, or this one is refused
abbrev pub refused_or : ℕ → ℕ → Stop
refused_or zero index = cut_off
refused_or (suc left) index = refused index

-- where so many things stop by a fault, with so many left
abbrev pub stop_at : {E : Type 0} → Fault E → ℕ → ℕ → Stop
stop_at faults.Refused count left = refused_or left (count - left)
stop_at (faults.Unfit _) count left = unfit (count - left)
stop_at faults.Memory count left = cut_off
