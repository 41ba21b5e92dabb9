-- One thing that a test holds of.
use Rattle.std.proofs.Common.{◌≡◌, ◌<◌, Bool, true, false, cond, List, [], ◌∷◌, ◌++◌, length, Option, Some, None, refl, ap, arith}
use Rattle.tydi_reading.specs.Forms.{Form, Never, Anything}
use Rattle.tydi_reading.specs.Lists.{mark}
use Rattle.tydi_reading.specs.declared.fault.Fault.TheVariants as faults
use Rattle.tydi_reading.specs.Reading.{Outcome, took, stopped, meant, tells, leaf}
use Rattle.tydi_reading.specs.Rules.{IsRule}
use Rattle.tydi_reading.proofs.StepRules.{leaf-rule, read-rule}

-- a form is that of one thing that the test holds of
pub record IsMark {T : Type 0} (Good : T → Type 0) (is : T → Bool) (Mark : Form T) : Type 0 where
  pub thing : T
  pub good : Good thing
  pub holds : is thing ≡ true
  pub there : (t : T) → is t ≡ true → Mark (t ∷ [])
  pub back : (ts : List T) → Mark ts → (t : T) × (ts ≡ t ∷ []) × (is t ≡ true)

-- such a thing, and no other, has a meaning
abbrev pub mark_of : {T : Type 0} → (T → Bool) → T → Option (Unit {0})
mark_of is thing = cond (is thing) (Some tt) None

pub leaf-mark : {E T : Type 0} (is : T → Bool) (ts : List T) → leaf {E = E} (mark_of is) ts ≡ mark is ts
unfolding mark
leaf-mark is [] = refl
leaf-mark {E} {T} is (t ∷ ts) = of_test (is t)
  where
    of_test : (b : Bool) → meant (cond {A = Option (Unit {0})} b (Some tt) None) ts (t ∷ ts) ≡ cond {A = Outcome E T (Unit {0})} b (took tt ts) (stopped faults.Refused (t ∷ ts))
    of_test true = refl
    of_test false = refl

marked : (b : Bool) → cond {A = Option (Unit {0})} b (Some tt) None ≡ Some tt → b ≡ true
marked true is = refl
marked false is = absurd cc

module _ {T : Type 0} (Good : T → Type 0) (is : T → Bool) (Mark : Form T) (m : IsMark Good is Mark) where
  pub Mark-tells : (ts rest : List T) → Mark ts → tells is false (ts ++ rest) ≡ true
  Mark-tells ts rest s = let o = m.back ts s in rw o.1 o.2

  pub Mark-filled : (ts : List T) → Mark ts → 0 < length ts
  Mark-filled ts s = let one = ap length (m.back ts s).1 in omega arith

  mark_of-is : (t : T) → is t ≡ true → mark_of is t ≡ Some tt
  mark_of-is t test = ap (λ b. cond {A = Option (Unit {0})} b (Some tt) None) test

  pub mark-rule : {E : Type 0} → IsRule E Good (mark is) (λ _. Mark) (λ _. Anything) (λ _. Unit {0}) Never
  mark-rule = read-rule Good (leaf (mark_of is)) (mark is) (λ _. Mark) (λ _. Anything) (λ _. Unit {0}) Never (leaf-mark is)
      (leaf-rule Good (mark_of is) (λ _. Mark) m.thing tt m.good (mark_of-is m.thing m.holds)
      (record {
        there = λ _ t means. m.there t (marked (is t) means);
        back = λ _ ts each s. let o = m.back ts s in (o.0, o.1, mark_of-is o.0 o.2);
      }))
