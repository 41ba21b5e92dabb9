-- Things that are read and need a meaning.
use Rattle.std.proofs.Common.{◌≡◌, ℕ, ◌≤◌, ◌⊎◌, inl, inr, ⊎_elim, List, [], ◌∷◌, ◌++◌, All, length, Option, Some, None, refl, sym, ap, ◌∙◌, subst, arith, append_assoc}
use Rattle.std.proofs.lemmas.List.Elements.{All-append}
use Rattle.tydi_reading.specs.declared.fault.Fault.{Fault}
use Rattle.tydi_reading.specs.declared.fault.Fault.TheVariants as faults
use Rattle.tydi_reading.specs.Forms.{Form, GoesOn}
use Rattle.tydi_reading.specs.Reading.{Outcome, took, stopped, Reader, and_then, meant, checked}
use Rattle.tydi_reading.specs.Rules.{Local, Found, Reached, Finishes, IsRule}
use Rattle.tydi_reading.proofs.StepLemmas.{local-then, stops-first}

-- how the whole is of the part; what lacks a meaning can go on to what has one
pub record Checks {T A B : Type 0} (Good : T → Type 0) (meaning : A → Option B) (Spelled : A → Form T) (Follow : A → Form T) (Within : A → Type 0)
    (Whole : B → Form T) (Next : B → Form T) (All : B → Type 0) : Type 0 where
  pub there : (x : A) (y : B) (ts : List T) → meaning x ≡ Some y → Spelled x ts → Whole y ts
  pub back : (y : B) (ts : List T) → Whole y ts → (x : A) × (meaning x ≡ Some y) × Spelled x ts
  pub follow : (x : A) (y : B) (rest : List T) → meaning x ≡ Some y → Next y rest → Follow x rest
  pub within : (x : A) (y : B) → meaning x ≡ Some y → Within x → All y
  pub apart : (x : A) (y : B) → meaning x ≡ Some y → All y → Within x
  pub mends : (x : A) (ts : List T) → meaning x ≡ None → Spelled x ts → GoesOn Good Whole ts

module _ {E T A B : Type 0} (Good : T → Type 0) (meaning : A → Option B) (p : Reader E T A) (Spelled : A → Form T) (Follow : A → Form T) (Within : A → Type 0) (Unfit : Form T)
    (Whole : B → Form T) (Next : B → Form T) (All : B → Type 0) (checks : Checks Good meaning Spelled Follow Within Whole Next All)
    (rule : IsRule E Good p Spelled Follow Within Unfit) where
  ended : (x : A) (made : Option B) → meaning x ≡ made → (rest : List T) → Local {E = E} (λ us. meant (meaning x) us us) rest (meant made rest rest)
  ended x (Some y) is rest = record { front = []; split = refl; stays = λ next after more _. ap (λ m. meant m (next ∷ more) (next ∷ more)) is }
  ended x None is rest = record { front = []; split = refl; stays = λ next after more _. ap (λ m. meant m (next ∷ more) (next ∷ more)) is }

  goes-by : (front more : List T) (x : A) (made : Option B) → meaning x ≡ made → Rattle.std.proofs.Common.All Good more → Spelled x (front ++ more) → GoesOn Good Whole front
  goes-by front more x (Some y) is good s = record { value = y; more = more; good = good; spelled = checks.there x y (front ++ more) is s }
  goes-by front more x None is good s =
      let g = checks.mends x (front ++ more) is s in
      record { value = g.value; more = more ++ g.more; good = All-append Good more g.more good g.good; spelled = subst (Whole g.value) (append_assoc front more g.more) g.spelled }

  goes : (front : List T) → GoesOn Good Spelled front → GoesOn Good Whole front
  goes front g = goes-by front g.more g.value (meaning g.value) refl g.good g.spelled

  sound-made : (ts rest : List T) (y : B) (made : Outcome E T A) → p ts ≡ made → and_then made (λ x. λ us. meant (meaning x) us us) ≡ took y rest → Found Whole All ts rest y
  sound-made ts rest y (stopped e middle) made is = absurd cc
  sound-made ts rest y (took x middle) made is = of_meaning (meaning x) refl is
    where
      of_meaning : (m : Option B) → meaning x ≡ m → meant {E = E} m middle middle ≡ took y rest → Found Whole All ts rest y
      of_meaning None means is = absurd cc
      of_meaning (Some z) means is =
          let same : z ≡ y = cc in
          let place : middle ≡ rest = cc in
          let means_it = means ∙ ap Some same in
          let f = rule.sound ts middle x made in
          record { front = f.front; split = f.split ∙ ap (λ r. f.front ++ r) place; spelled = checks.there x y f.front means_it f.spelled; within = checks.within x y means_it f.within }

  finishes-first : (ts rest : List T) (e : Fault E) → Finishes Good Spelled Unfit ts rest e → Finishes Good Whole Unfit ts rest e
  finishes-first ts rest faults.Refused c = record { front = c.front; split = c.split; goes = goes c.front c.goes }
  finishes-first ts rest (faults.Unfit why) c = record {
    front = c.front;
    next = c.next;
    after = c.after;
    split = c.split;
    begins = c.begins;
    unfit = c.unfit;
    goes = goes (c.front ++ c.next ∷ []) c.goes;
  }
  finishes-first ts rest faults.Memory c = c

  finishes-made : (ts rest : List T) (e : Fault E) (made : Outcome E T A) → p ts ≡ made → and_then made (λ x. λ us. meant (meaning x) us us) ≡ stopped e rest
      → Finishes Good Whole Unfit ts rest e
  finishes-made ts rest e (stopped a middle) made is =
      let same : a ≡ e = cc in
      let place : middle ≡ rest = cc in
      finishes-first ts rest e (rule.finishes ts rest e (made ∙ ap (λ b. stopped b middle) same ∙ ap (λ r. stopped e r) place))
  finishes-made ts rest e (took x middle) made is = of_meaning (meaning x) refl is
    where
      of_meaning : (m : Option B) → meaning x ≡ m → ◌≡◌ {A = Outcome E T B} (meant m middle middle) (stopped e rest) → Finishes Good Whole Unfit ts rest e
      of_meaning (Some z) means is = absurd cc
      of_meaning None means is =
          let same : faults.Refused ≡ e = cc in
          let place : middle ≡ rest = cc in
          let f = rule.sound ts middle x made in
          subst (Finishes Good Whole Unfit ts rest) same
          (record { front = f.front; split = f.split ∙ ap (λ r. f.front ++ r) place; goes = checks.mends x f.front means f.spelled })

  complete-at : (front rest : List T) (y : B) → Rattle.std.proofs.Common.All Good front → Next y rest → (x : A) × (meaning x ≡ Some y) × Spelled x front → Reached All rest y (checked meaning p (front ++ rest))
  complete-at front rest y good next b =
      ⊎_elim
      (λ is. inl (ap (λ o. and_then o (λ x. λ us. meant (meaning x) us us)) is ∙ ap (λ m. meant m rest rest) b.1))
      (λ far. inr (record {
        why = far.why;
        at = far.at;
        is = ap (λ o. and_then o (λ x. λ us. meant (meaning x) us us)) far.is;
        before = far.before;
        beyond = λ all. far.beyond (checks.apart b.0 y b.1 all);
      }))
      (rule.complete front rest b.0 good b.2 (checks.follow b.0 y rest b.1 next))

  pub checked-rule : IsRule E Good (checked meaning p) Whole Next All Unfit
  checked-rule = record {
    example = goes [] rule.example;
    local = λ ts. local-then p (λ x. λ us. meant (meaning x) us us) ts (p ts) (rule.local ts) (λ x rest is. ended x (meaning x) refl rest);
    sound = λ ts rest y is. sound-made ts rest y (p ts) refl is;
    complete = λ front rest y good s next. complete-at front rest y good next (checks.back y front s);
    finishes = λ ts rest e is. finishes-made ts rest e (p ts) refl is;
    stops = λ front rest good d. stops-first (λ x. λ us. meant (meaning x) us us) rest (p (front ++ rest)) (rule.stops front rest good d);
  }
