-- Rules of a choice by the next thing, of both of two, and of what is unfit.
use Rattle.std.proofs.Common.{◌≡◌, ◌⊎◌, inl, inr, ⊎_elim, Bool, true, false, cond, List, [], ◌∷◌, ◌++◌, All, refl, sym, ap, ◌∙◌, subst, arith}
use Rattle.std.proofs.lemmas.List.{length-append}
use Rattle.tydi_reading.specs.declared.fault.Fault.{Fault}
use Rattle.tydi_reading.specs.declared.fault.Fault.TheVariants as faults
use Rattle.tydi_reading.specs.Forms.{Form, ◌⋯◌, Nothing, One, GoesOn}
use Rattle.tydi_reading.specs.Reading.{Outcome, took, stopped, Reader, ◌<$>◌, ◌<&>◌, choose, tells, unfit}
use Rattle.tydi_reading.specs.Rules.{Local, Found, Reached, Finishes, Stops, IsRule}
use Rattle.tydi_reading.proofs.FormLemmas.{goes_as}
use Rattle.tydi_reading.proofs.StepRules.{then-rule, map-rule}

-- ---- a choice by the next thing

-- how the whole is of the two
pub record Chooses {T A : Type 0} (test : T → Bool) (last : Bool) (One : A → Form T) (OneNext : A → Form T) (OneUnfit : Form T)
    (Other : A → Form T) (OtherNext : A → Form T) (OtherUnfit : Form T) (Whole : A → Form T) (Next : A → Form T) (Unfit : Form T) : Type 0 where
  pub one : (x : A) (ts : List T) → One x ts → Whole x ts
  pub other : (x : A) (ts : List T) → Other x ts → Whole x ts
  pub which : (x : A) (ts : List T) → Whole x ts → One x ts ⊎ Other x ts
  pub one_next : (x : A) (front rest : List T) → One x front → Next x rest → OneNext x rest
  pub other_next : (x : A) (front rest : List T) → Other x front → Next x rest → OtherNext x rest
  pub one_begins : (x : A) (front rest : List T) → One x front → Next x rest → tells test last (front ++ rest) ≡ true
  pub other_begins : (x : A) (front rest : List T) → Other x front → Next x rest → tells test last (front ++ rest) ≡ false
  pub one_unfit : (ts : List T) → OneUnfit ts → Unfit ts
  pub other_unfit : (ts : List T) → OtherUnfit ts → Unfit ts
  pub which_unfit : (ts : List T) → Unfit ts → OneUnfit ts ⊎ OtherUnfit ts
  pub one_unfit_begins : (front rest : List T) → OneUnfit front → tells test last (front ++ rest) ≡ true
  pub other_unfit_begins : (front rest : List T) → OtherUnfit front → tells test last (front ++ rest) ≡ false

-- a test gives the same answer about the next thing, whatever follows it
tells-same : {T : Type 0} (test : T → Bool) (last : Bool) (front after more : List T) (next : T) (ts : List T) → ts ≡ front ++ next ∷ after
    → tells test last (front ++ next ∷ more) ≡ tells test last ts
tells-same test last [] after more next ts is = ap (tells test last) (sym is)
tells-same test last (t ∷ front) after more next ts is = ap (tells test last) (sym is)

module _ {E T A : Type 0} (test : T → Bool) (last : Bool) (p q : Reader E T A) where
  pub chosen : (ts : List T) (b : Bool) → tells test last ts ≡ b → choose test last p q ts ≡ (cond b p q) ts
  chosen ts b is = ap (λ c. (cond {A = Reader E T A} c p q) ts) is

  pub local-choose : (ts : List T) (b : Bool) → tells test last ts ≡ b → Local (cond {A = Reader E T A} b p q) ts ((cond b p q) ts)
      → Local (choose test last p q) ts (choose test last p q ts)
  local-choose ts b is l = rw (chosen ts b is) (record {
    front = l.front;
    split = l.split;
    stays = λ next after more same.
        let begins = tells-same test last l.front after more next ts (l.split ∙ ap (λ r. l.front ++ r) same) in
        chosen (l.front ++ next ∷ more) b (begins ∙ is) ∙ l.stays next after more same;
  })

pub choose-rule : {E T A : Type 0} (Good : T → Type 0) (test : T → Bool) (last : Bool) (p q : Reader E T A) (One : A → Form T) (OneNext : A → Form T) (OneUnfit : Form T)
    (Other : A → Form T) (OtherNext : A → Form T) (OtherUnfit : Form T) (Whole : A → Form T) (Next : A → Form T) (Within : A → Type 0) (Unfit : Form T)
    → Chooses test last One OneNext OneUnfit Other OtherNext OtherUnfit Whole Next Unfit
    → IsRule E Good p One OneNext Within OneUnfit → IsRule E Good q Other OtherNext Within OtherUnfit
    → IsRule E Good (choose test last p q) Whole Next Within Unfit
choose-rule {E} {T} {A} Good test last p q One OneNext OneUnfit Other OtherNext OtherUnfit Whole Next Within Unfit c a b = record {
  example = goes_as (λ x. x) c.one a.example;
  local = λ ts. local ts (tells test last ts) refl;
  sound = λ ts rest x is. sound ts rest x (tells test last ts) refl is;
  complete = λ front rest x good s next. complete front rest x good next (c.which x front s);
  finishes = λ ts rest e is. finishes ts rest e (tells test last ts) refl is;
  stops = λ front rest good d. stops front rest good (c.which_unfit front d);
}
  where
    local : (ts : List T) (v : Bool) → tells test last ts ≡ v → Local (choose test last p q) ts (choose test last p q ts)
    local ts true is = local-choose test last p q ts true is (a.local ts)
    local ts false is = local-choose test last p q ts false is (b.local ts)

    sound : (ts rest : List T) (x : A) (v : Bool) → tells test last ts ≡ v → choose test last p q ts ≡ took x rest → Found Whole Within ts rest x
    sound ts rest x true is read =
        let f = a.sound ts rest x (sym (chosen test last p q ts true is) ∙ read) in
        record { front = f.front; split = f.split; spelled = c.one x f.front f.spelled; within = f.within }
    sound ts rest x false is read =
        let f = b.sound ts rest x (sym (chosen test last p q ts false is) ∙ read) in
        record { front = f.front; split = f.split; spelled = c.other x f.front f.spelled; within = f.within }

    complete : (front rest : List T) (x : A) → All Good front → Next x rest → One x front ⊎ Other x front → Reached Within rest x (choose test last p q (front ++ rest))
    complete front rest x good next =
        ⊎_elim
        (λ s. rw (chosen test last p q (front ++ rest) true (c.one_begins x front rest s next)) (a.complete front rest x good s (c.one_next x front rest s next)))
        (λ s. rw (chosen test last p q (front ++ rest) false (c.other_begins x front rest s next)) (b.complete front rest x good s (c.other_next x front rest s next)))

    of-one : (ts rest : List T) (e : Fault E) → Finishes Good One OneUnfit ts rest e → Finishes Good Whole Unfit ts rest e
    of-one ts rest faults.Refused f = record { front = f.front; split = f.split; goes = goes_as (λ x. x) c.one f.goes }
    of-one ts rest (faults.Unfit why) f = record {
      front = f.front;
      next = f.next;
      after = f.after;
      split = f.split;
      begins = f.begins;
      unfit = c.one_unfit f.front f.unfit;
      goes = goes_as (λ x. x) c.one f.goes;
    }
    of-one ts rest faults.Memory f = f

    of-other : (ts rest : List T) (e : Fault E) → Finishes Good Other OtherUnfit ts rest e → Finishes Good Whole Unfit ts rest e
    of-other ts rest faults.Refused f = record { front = f.front; split = f.split; goes = goes_as (λ x. x) c.other f.goes }
    of-other ts rest (faults.Unfit why) f = record {
      front = f.front;
      next = f.next;
      after = f.after;
      split = f.split;
      begins = f.begins;
      unfit = c.other_unfit f.front f.unfit;
      goes = goes_as (λ x. x) c.other f.goes;
    }
    of-other ts rest faults.Memory f = f

    finishes : (ts rest : List T) (e : Fault E) (v : Bool) → tells test last ts ≡ v → choose test last p q ts ≡ stopped e rest → Finishes Good Whole Unfit ts rest e
    finishes ts rest e true is read = of-one ts rest e (a.finishes ts rest e (sym (chosen test last p q ts true is) ∙ read))
    finishes ts rest e false is read = of-other ts rest e (b.finishes ts rest e (sym (chosen test last p q ts false is) ∙ read))

    stops : (front rest : List T) → All Good front → OneUnfit front ⊎ OtherUnfit front → Stops rest (choose test last p q (front ++ rest))
    stops front rest good =
        ⊎_elim
        (λ d. rw (chosen test last p q (front ++ rest) true (c.one_unfit_begins front rest d)) (a.stops front rest good d))
        (λ d. rw (chosen test last p q (front ++ rest) false (c.other_unfit_begins front rest d)) (b.stops front rest good d))

-- a choice of a rule, or of what refuses all
pub stop-rule : {E T A : Type 0} (Good : T → Type 0) (test : T → Bool) (last : Bool) (p q : Reader E T A) (One : A → Form T) (OneNext Next : A → Form T) (Within : A → Type 0) (Unfit : Form T)
    → ((ts : List T) → q ts ≡ stopped faults.Refused ts)
    → ((x : A) (front rest : List T) → One x front → Next x rest → OneNext x rest)
    → ((x : A) (front rest : List T) → One x front → Next x rest → tells test last (front ++ rest) ≡ true)
    → ((front rest : List T) → Unfit front → tells test last (front ++ rest) ≡ true)
    → IsRule E Good p One OneNext Within Unfit → IsRule E Good (choose test last p q) One Next Within Unfit
stop-rule {E} {T} {A} Good test last p q One OneNext Next Within Unfit refuses next begins begins_unfit a = record {
  example = a.example;
  local = λ ts. local ts (tells test last ts) refl;
  sound = λ ts rest x is. sound ts rest x (tells test last ts) refl is;
  complete = λ front rest x good s after.
      rw (chosen test last p q (front ++ rest) true (begins x front rest s after)) (a.complete front rest x good s (next x front rest s after));
  finishes = λ ts rest e is. finishes ts rest e (tells test last ts) refl is;
  stops = λ front rest good d. rw (chosen test last p q (front ++ rest) true (begins_unfit front rest d)) (a.stops front rest good d);
}
  where
    refused : (ts : List T) → Local q ts (q ts)
    refused ts = rw (refuses ts) (record { front = []; split = refl; stays = λ u after more is. refuses (u ∷ more) })

    local : (ts : List T) (v : Bool) → tells test last ts ≡ v → Local (choose test last p q) ts (choose test last p q ts)
    local ts true is = local-choose test last p q ts true is (a.local ts)
    local ts false is = local-choose test last p q ts false is (refused ts)

    never : (ts rest : List T) (x : A) → q ts ≡ took x rest → ⊥
    never ts rest x is = let no : ◌≡◌ {A = Outcome E T A} (stopped faults.Refused ts) (took x rest) = sym (refuses ts) ∙ is in cc

    sound : (ts rest : List T) (x : A) (v : Bool) → tells test last ts ≡ v → choose test last p q ts ≡ took x rest → Found One Within ts rest x
    sound ts rest x true is read = a.sound ts rest x (sym (chosen test last p q ts true is) ∙ read)
    sound ts rest x false is read = absurd (never ts rest x (sym (chosen test last p q ts false is) ∙ read))

    cut : (ts rest : List T) (e : Fault E) → ◌≡◌ {A = Outcome E T A} (stopped faults.Refused ts) (stopped e rest) → Finishes Good One Unfit ts rest e
    cut ts rest e is =
        let same : faults.Refused ≡ e = cc in
        let place : ts ≡ rest = cc in
        subst (Finishes Good One Unfit ts rest) same (record { front = []; split = place; goes = a.example })

    finishes : (ts rest : List T) (e : Fault E) (v : Bool) → tells test last ts ≡ v → choose test last p q ts ≡ stopped e rest → Finishes Good One Unfit ts rest e
    finishes ts rest e true is read = a.finishes ts rest e (sym (chosen test last p q ts true is) ∙ read)
    finishes ts rest e false is read = cut ts rest e (sym (refuses ts) ∙ sym (chosen test last p q ts false is) ∙ read)

-- ---- both of two

pub both-rule : {E T A B : Type 0} (Good : T → Type 0) (p : Reader E T A) (q : Reader E T B) (One : A → Form T) (OneNext : A → Form T) (OneWithin : A → Type 0) (OneUnfit : Form T)
    (Other : B → Form T) (OtherNext : B → Form T) (OtherWithin : B → Type 0) (OtherUnfit : Form T)
    → ((x : A) (y : B) (back rest : List T) → Other y back → OtherNext y rest → OneNext x (back ++ rest))
    → ((x : A) (back rest : List T) → OtherUnfit back → OneNext x (back ++ rest))
    → IsRule E Good p One OneNext OneWithin OneUnfit → IsRule E Good q Other OtherNext OtherWithin OtherUnfit
    → IsRule E Good (p <&> q) (λ (z : A × B). One z.0 ⋯ Other z.1) (λ z. OtherNext z.1) (λ z. OneWithin z.0 × OtherWithin z.1)
    (λ ts. OneUnfit ts ⊎ ((x : A) × ((One x ⋯ OtherUnfit) ts)))
both-rule {E} {T} {A} {B} Good p q One OneNext OneWithin OneUnfit Other OtherNext OtherWithin OtherUnfit follow follow_unfit a b =
    then-rule Good p (λ x. (λ y. (x, y)) <$> q) One OneNext OneWithin OneUnfit Second (λ x z. OtherNext z.1) (λ x z. OtherWithin z.1) (λ x. OtherUnfit)
    (λ z. One z.0 ⋯ Other z.1) (λ z. OtherNext z.1) (λ z. OneWithin z.0 × OtherWithin z.1) (λ ts. OneUnfit ts ⊎ ((x : A) × ((One x ⋯ OtherUnfit) ts)))
    (record {
      join = λ x z front back s o. record { front = front; back = back; all = refl; begins = subst (λ w. One w front) o.0 s; ends = o.1 };
      part = λ z ts s. (z.0, record { front = s.front; back = s.back; all = s.all; begins = s.begins; ends = (refl, s.ends) });
      follow = λ x z back rest s next. follow x z.1 back rest s.1 next;
      follows = λ x z back rest s next. next;
      within = λ x z back s w v. (subst OneWithin s.0 w, v);
      apart = λ x z front back _ s all. (subst OneWithin (sym s.0) all.0, all.1);
      first = λ ts d. inl d;
      last = λ x front back s d. inr (x, record { front = front; back = back; all = refl; begins = s; ends = d });
      unfit = λ ts d. d;
      follow_unfit = follow_unfit;
    })
    a (λ x. map-rule Good (λ y. (x, y)) q Other OtherNext OtherWithin OtherUnfit (Second x) (λ z. OtherNext z.1) (λ z. OtherWithin z.1) OtherUnfit
    (record {
      there = λ y ts s. (refl, s);
      back = λ z ts s. (z.1, ap (λ (w : A). (w, z.1)) (sym s.0), s.1);
      follow = λ y rest next. next;
      within = λ y w. w;
      apart = λ y w. w;
      first = λ ts d. d;
      unfit = λ ts d. d;
    }) b)
  where
    Second : A → A × B → Form T
    Second x z ts = (x ≡ z.0) × Other z.1 ts

-- ---- things that may not stand here

pub unfit-rule : {E T A : Type 0} (Good : T → Type 0) (why : E) (begins : T → Bool) (Spelled : A → Form T) (Next : A → Form T) (Within : A → Type 0)
    → ((x : A) → Within x → ⊥) → GoesOn Good Spelled [] → ((t : T) → begins t ≡ true → GoesOn Good Spelled (t ∷ []))
    → ((x : A) (front : List T) → All Good front → Spelled x front → tells begins false front ≡ true)
    → IsRule E Good (unfit why begins) Spelled Next Within Nothing
unfit-rule {E} {T} {A} Good why begins Spelled Next Within none example begun starts = record {
  example = example;
  local = local;
  sound = λ ts rest x is. absurd (never ts rest x is);
  complete = λ front rest x good s next. complete x front rest (starts x front good s);
  finishes = finishes;
  stops = λ front rest _ d. stops front rest d;
}
  where
    local : (ts : List T) → Local {A = A} (unfit why begins) ts (unfit {A = A} why begins ts)
    local [] = record { front = []; split = refl; stays = λ next after more is. absurd (let no : ◌≡◌ {A = List T} [] (next ∷ after) = is in cc) }
    local (t ∷ ts) = record {
      front = [];
      split = refl;
      stays = λ next after more same. let head : t ≡ next = cc in ap (λ u. stopped (cond (begins u) (faults.Unfit why) faults.Refused) (next ∷ more)) (sym head);
    }

    never : (ts rest : List T) (x : A) → unfit {A = A} why begins ts ≡ took x rest → ⊥
    never [] rest x is = cc
    never (t ∷ ts) rest x is = cc

    complete : (x : A) (front rest : List T) → tells begins false front ≡ true → Reached Within rest x (unfit why begins (front ++ rest))
    complete x [] rest s = absurd cc
    complete x (t ∷ more) rest s = inr (record {
      why = why;
      at = (t ∷ more) ++ rest;
      is = ap (λ b. stopped (cond b (faults.Unfit why) faults.Refused) ((t ∷ more) ++ rest)) s;
      before = let sum = length-append (t ∷ more) rest in omega arith;
      beyond = none x;
    })

    told : (t : T) (ts rest : List T) (e : Fault E) (b : Bool) → begins t ≡ b → ◌≡◌ {A = Outcome E T A} (stopped (cond b (faults.Unfit why) faults.Refused) (t ∷ ts)) (stopped e rest)
        → Finishes Good Spelled Nothing (t ∷ ts) rest e
    told t ts rest e true test is =
        let same : (faults.Unfit why) ≡ e = cc in
        let place : t ∷ ts ≡ rest = cc in
        subst (Finishes Good Spelled Nothing (t ∷ ts) rest) same
        (record { front = []; next = t; after = ts; split = place; begins = sym place; unfit = refl; goes = begun t test })
    told t ts rest e false test is =
        let same : faults.Refused ≡ e = cc in
        let place : t ∷ ts ≡ rest = cc in
        subst (Finishes Good Spelled Nothing (t ∷ ts) rest) same (record { front = []; split = place; goes = example })

    finishes : (ts rest : List T) (e : Fault E) → unfit {A = A} why begins ts ≡ stopped e rest → Finishes Good Spelled Nothing ts rest e
    finishes [] rest e is =
        let same : faults.Refused ≡ e = cc in
        let place : ◌≡◌ {A = List T} [] rest = cc in
        subst (Finishes Good Spelled Nothing [] rest) same (record { front = []; split = place; goes = example })
    finishes (t ∷ ts) rest e is = told t ts rest e (begins t) refl is

    stopped-at : (rest : List T) → Stops {A = A} rest (unfit why begins rest)
    stopped-at [] = record { fault = faults.Refused; at = []; is = refl; before = omega arith }
    stopped-at (t ∷ rest) = record { fault = cond (begins t) (faults.Unfit why) faults.Refused; at = t ∷ rest; is = refl; before = omega arith }

    stops : (front rest : List T) → Nothing front → Stops {A = A} rest (unfit why begins (front ++ rest))
    stops front rest all = rw all (stopped-at rest)
