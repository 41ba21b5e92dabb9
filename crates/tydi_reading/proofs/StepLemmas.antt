-- One reader and then another: each fact of the whole at given things, from those of the parts.
use Rattle.std.proofs.Common.{◌≡◌, inl, inr, ⊎_elim, List, [], ◌∷◌, ◌++◌, All, refl, sym, ap, ◌∙◌, subst, arith, append_assoc}
use Rattle.std.proofs.lemmas.List.{length-append}
use Rattle.std.proofs.lemmas.List.Elements.{All-append, All-nil, All-cons, All-head, All-tail}
use Rattle.tydi_reading.specs.declared.fault.Fault.{Fault}
use Rattle.tydi_reading.specs.declared.fault.Fault.TheVariants as faults
use Rattle.tydi_reading.specs.Forms.{Form, GoesOn}
use Rattle.tydi_reading.specs.Reading.{Outcome, took, stopped, Reader, and_then, ◌>>=◌}
use Rattle.tydi_reading.specs.Rules.{left, leaving, Local, Found, Reached, Finishes, Stops}

-- a property of all elements of a list holds for those of each of its parts
pub All-front : {X : Type 0} (P : X → Type 0) (all front back : List X) → all ≡ front ++ back → All P all → All P front
All-front P all [] back is each = All-nil P
All-front P all (x ∷ front) back is each =
    let whole = subst (All P) is each in
    All-cons P x front (All-head P x (front ++ back) whole) (All-front P (front ++ back) front back refl (All-tail P x (front ++ back) whole))

pub All-back : {X : Type 0} (P : X → Type 0) (all front back : List X) → all ≡ front ++ back → All P all → All P back
All-back P all [] back is each = subst (All P) is each
All-back P all (x ∷ front) back is each = All-back P (front ++ back) front back refl (All-tail P x (front ++ back) (subst (All P) is each))

-- the value that was read stays where the next thing stays
pub lookahead : {E T A : Type 0} (p : Reader E T A) (ts rest : List T) (x : A) (l : Local p ts (took x rest)) (front after more : List T) (next : T)
    → rest ≡ front ++ next ∷ after → p (l.front ++ (front ++ next ∷ more)) ≡ took x (front ++ next ∷ more)
lookahead p ts rest x l [] after more next is = l.stays next after more is
lookahead p ts rest x l (v ∷ front) after more next is = l.stays v (front ++ next ∷ after) (front ++ next ∷ more) is

pub local-then : {E T A B : Type 0} (p : Reader E T A) (f : A → Reader E T B) (ts : List T) (made : Outcome E T A) → Local p ts made
    → ((x : A) (rest : List T) → made ≡ took x rest → Local (f x) rest (f x rest)) → Local (p >>= f) ts (and_then made f)
local-then p f ts (stopped e rest) l next = record {
  front = l.front;
  split = l.split;
  stays = λ u after more is. ap (λ o. and_then o f) (l.stays u after more is);
}
local-then p f ts (took x rest) l next =
    let m = next x rest refl in
    record {
      front = l.front ++ m.front;
      split = l.split ∙ ap (λ r. l.front ++ r) m.split ∙ sym (append_assoc l.front m.front (left (f x rest)));
      stays = λ u after more is.
          let all : rest ≡ m.front ++ u ∷ after = m.split ∙ ap (λ r. m.front ++ r) is in
          let one = lookahead p ts rest x l m.front after more u all in
          ap (p >>= f) (append_assoc l.front m.front (u ∷ more)) ∙ ap (λ o. and_then o f) one ∙ m.stays u after more is;
    }

pub local-same : {E T A : Type 0} (p q : Reader E T A) (ts : List T) → ((us : List T) → p us ≡ q us) → Local p ts (p ts) → Local q ts (q ts)
local-same p q ts same l = record {
  front = l.front;
  split = l.split ∙ ap (λ o. l.front ++ left o) (same ts);
  stays = λ u after more is. sym (same (l.front ++ u ∷ more)) ∙ l.stays u after more (ap left (same ts) ∙ is) ∙ ap (λ o. leaving o (u ∷ more)) (same ts);
}

-- a fault is a fault, whatever was to be read
pub stopped-same : {E T A B : Type 0} (a e : Fault E) (ts rest : List T) → ◌≡◌ {A = Outcome E T A} (stopped a ts) (stopped e rest)
    → ◌≡◌ {A = Outcome E T B} (stopped a ts) (stopped e rest)
stopped-same a e ts rest is = cc

module _ {T A B : Type 0} (Spelled : A → Form T) (Second : A → B → Form T) (Whole : B → Form T)
    (join : (x : A) (y : B) (front back : List T) → Spelled x front → Second x y back → Whole y (front ++ back)) where
  pub sound-then : {E : Type 0} → (Within : A → Type 0) (Inside : A → B → Type 0) (All : B → Type 0)
      → ((x : A) (y : B) (back : List T) → Second x y back → Within x → Inside x y → All y) → (f : A → Reader E T B) (ts : List T) (made : Outcome E T A)
      → ((rest : List T) (x : A) → made ≡ took x rest → Found Spelled Within ts rest x)
      → ((middle rest : List T) (x : A) (y : B) → made ≡ took x middle → f x middle ≡ took y rest → Found (Second x) (Inside x) middle rest y)
      → (rest : List T) (y : B) → and_then made f ≡ took y rest → Found Whole All ts rest y
  sound-then Within Inside All within f ts (stopped e middle) one two rest y is = absurd cc
  sound-then Within Inside All within f ts (took x middle) one two rest y is =
      let a = one middle x refl in
      let b = two middle rest x y refl is in
      record {
        front = a.front ++ b.front;
        split = a.split ∙ ap (λ r. a.front ++ r) b.split ∙ sym (append_assoc a.front b.front rest);
        spelled = join x y a.front b.front a.spelled b.spelled;
        within = within x y b.front b.spelled a.within b.within;
      }

  module _ (Good : T → Type 0) where
    pub goes-first : (front : List T) → ((x : A) → GoesOn Good (Second x) []) → GoesOn Good Spelled front → GoesOn Good Whole front
    goes-first front examples goes =
        let example = examples goes.value in
        record {
          value = example.value;
          more = goes.more ++ example.more;
          good = All-append Good goes.more example.more goes.good example.good;
          spelled = subst (Whole example.value) (append_assoc front goes.more example.more)
              (join goes.value example.value (front ++ goes.more) example.more goes.spelled example.spelled);
        }

    pub goes-second : (x : A) (front back : List T) → Spelled x front → GoesOn Good (Second x) back → GoesOn Good Whole (front ++ back)
    goes-second x front back spelled goes = record {
      value = goes.value;
      more = goes.more;
      good = goes.good;
      spelled = subst (Whole goes.value) (sym (append_assoc front back goes.more)) (join x goes.value front (back ++ goes.more) spelled goes.spelled);
    }

    finishes-first : {E : Type 0} → (First Unfit : Form T) → ((front : List T) → First front → Unfit front) → ((x : A) → GoesOn Good (Second x) [])
        → (ts rest : List T) (e : Fault E) → Finishes Good Spelled First ts rest e → Finishes Good Whole Unfit ts rest e
    finishes-first First Unfit unfit examples ts rest faults.Refused c = record { front = c.front; split = c.split; goes = goes-first c.front examples c.goes }
    finishes-first First Unfit unfit examples ts rest (faults.Unfit why) c = record {
      front = c.front;
      next = c.next;
      after = c.after;
      split = c.split;
      begins = c.begins;
      unfit = unfit c.front c.unfit;
      goes = goes-first (c.front ++ c.next ∷ []) examples c.goes;
    }
    finishes-first First Unfit unfit examples ts rest faults.Memory c = c

    finishes-second : {E : Type 0} → (Last : A → Form T) (Unfit : Form T) → ((x : A) (front back : List T) → Spelled x front → Last x back → Unfit (front ++ back))
        → (x : A) (ts front middle rest : List T) (e : Fault E) → ts ≡ front ++ middle → Spelled x front
        → Finishes Good (Second x) (Last x) middle rest e → Finishes Good Whole Unfit ts rest e
    finishes-second Last Unfit unfit x ts front middle rest faults.Refused split spelled c = record {
      front = front ++ c.front;
      split = split ∙ ap (λ r. front ++ r) c.split ∙ sym (append_assoc front c.front rest);
      goes = goes-second x front c.front spelled c.goes;
    }
    finishes-second Last Unfit unfit x ts front middle rest (faults.Unfit why) split spelled c = record {
      front = front ++ c.front;
      next = c.next;
      after = c.after;
      split = split ∙ ap (λ r. front ++ r) c.split ∙ sym (append_assoc front c.front rest);
      begins = c.begins;
      unfit = unfit x front c.front spelled c.unfit;
      goes = subst (GoesOn Good Whole) (sym (append_assoc front c.front (c.next ∷ []))) (goes-second x front (c.front ++ c.next ∷ []) spelled c.goes);
    }
    finishes-second Last Unfit unfit x ts front middle rest faults.Memory split spelled c = c

    pub finishes-then : {E : Type 0} → (Within : A → Type 0) (First : Form T) (Last : A → Form T) (Unfit : Form T)
        → ((front : List T) → First front → Unfit front)
        → ((x : A) (front back : List T) → Spelled x front → Last x back → Unfit (front ++ back))
        → ((x : A) → GoesOn Good (Second x) [])
        → (f : A → Reader E T B) (ts : List T) (made : Outcome E T A)
        → ((rest : List T) (x : A) → made ≡ took x rest → Found Spelled Within ts rest x)
        → ((rest : List T) (e : Fault E) → made ≡ stopped e rest → Finishes Good Spelled First ts rest e)
        → ((middle rest : List T) (x : A) (e : Fault E) → made ≡ took x middle → f x middle ≡ stopped e rest → Finishes Good (Second x) (Last x) middle rest e)
        → (rest : List T) (e : Fault E) → and_then made f ≡ stopped e rest → Finishes Good Whole Unfit ts rest e
    finishes-then Within First Last Unfit first last examples f ts (stopped a middle) found one two rest e is =
        finishes-first First Unfit first examples ts rest e (one rest e (stopped-same a e middle rest is))
    finishes-then Within First Last Unfit first last examples f ts (took x middle) found one two rest e is =
        let a = found middle x refl in
        finishes-second Last Unfit last x ts a.front middle rest e a.split a.spelled (two middle rest x e refl is)

module _ {E T A B : Type 0} (p : Reader E T A) (f : A → Reader E T B) (x : A) (front back rest : List T) where
  pub complete-then : (Within : A → Type 0) (Inside : B → Type 0) (All : B → Type 0) (y : B) → (All y → Within x × Inside y)
      → Reached Within (back ++ rest) x (p (front ++ (back ++ rest))) → Reached Inside rest y (f x (back ++ rest))
      → Reached All rest y ((p >>= f) ((front ++ back) ++ rest))
  complete-then Within Inside All y apart one two =
      subst (λ ts. Reached All rest y ((p >>= f) ts)) (sym (append_assoc front back rest))
      (⊎_elim
      (λ is. ⊎_elim
      (λ other. inl (ap (λ o. and_then o f) is ∙ other))
      (λ far. inr (record { why = far.why; at = far.at; is = ap (λ o. and_then o f) is ∙ far.is; before = far.before; beyond = λ all. far.beyond (apart all).1 }))
      two)
      (λ far. inr (record {
        why = far.why;
        at = far.at;
        is = ap (λ o. and_then o f) far.is;
        before = let sum = length-append back rest in let much = far.before in omega arith;
        beyond = λ all. far.beyond (apart all).0;
      }))
      one)

  pub stops-second : (Within : A → Type 0) → Reached Within (back ++ rest) x (p (front ++ (back ++ rest))) → Stops rest (f x (back ++ rest))
      → Stops rest ((p >>= f) ((front ++ back) ++ rest))
  stops-second Within one two =
      subst (λ ts. Stops rest ((p >>= f) ts)) (sym (append_assoc front back rest))
      (⊎_elim
      (λ is. record { fault = two.fault; at = two.at; is = ap (λ o. and_then o f) is ∙ two.is; before = two.before })
      (λ far. record {
        fault = faults.Unfit far.why;
        at = far.at;
        is = ap (λ o. and_then o f) far.is;
        before = let sum = length-append back rest in let much = far.before in omega arith;
      })
      one)

pub stops-first : {E T A B : Type 0} (f : A → Reader E T B) (rest : List T) (made : Outcome E T A) → Stops rest made → Stops rest (and_then made f)
stops-first f rest made s = record { fault = s.fault; at = s.at; is = ap (λ o. and_then o f) s.is; before = s.before }
