-- A rule as one thing: what only puts rules together is said by these, and its reader, form and bounds follow.
use Rattle.std.proofs.Common.{◌≡◌, ◌⊎◌, inl, inr, ⊎_elim, Bool, true, false, List, [], ◌++◌, Option, Some, None, refl, sym, subst}
use Rattle.tydi_reading.specs.Forms.{Form, ◌⋯◌, Never, Anything, Optional, Past}
use Rattle.tydi_reading.specs.Lists.{mark}
use Rattle.tydi_reading.specs.Reading.{Reader, Shrinks, tells, choose, optional, ◌>>◌, ◌<<◌, ◌<$>◌, ◌<&>◌}
use Rattle.tydi_reading.specs.Rules.{IsRule}
use Rattle.tydi_reading.proofs.ChoiceRules.{choose-rule, both-rule}
use Rattle.tydi_reading.proofs.FilledLemmas.{shrinks-rule}
use Rattle.tydi_reading.proofs.FormLemmas.{follows-front, front-tells}
use Rattle.tydi_reading.proofs.MarkLemmas.{IsMark, mark-rule, Mark-tells}
use Rattle.tydi_reading.proofs.MarkRules.{skip-rule, close-rule}
use Rattle.tydi_reading.proofs.RepeatedRule.{Begins, begins-filled}
use Rattle.tydi_reading.proofs.StepRules.{Only, pure-rule, Maps, map-rule, same-rule}

-- a reader with its form, what may follow, what is within its bounds, what leads to something unfit, and that it is a rule of these
pub record Rule (E : Type 0) {T : Type 0} (Good : T → Type 0) (A : Type 0) : Type 1 where
  pub read : Reader E T A
  pub Spelled : A → Form T
  pub Next : A → Form T
  pub Within : A → Type 0
  pub Unfit : Form T
  pub is : IsRule E Good read Spelled Next Within Unfit

-- a rule of which nothing can stand unfit
pub record Flat (E : Type 0) {T : Type 0} (Good : T → Type 0) (A : Type 0) : Type 1 where
  pub read : Reader E T A
  pub Spelled : A → Form T
  pub Next : A → Form T
  pub is : IsRule E Good read Spelled Next (λ _. Unit {0}) Never

-- one thing that a test holds of, with its form
pub record Mark {T : Type 0} (Good : T → Type 0) : Type 1 where
  pub test : T → Bool
  pub Spelled : Form T
  pub is : IsMark Good test Spelled

-- the facts that make a rule, as one value
abbrev pub as_rule : {E T A : Type 0} {Good : T → Type 0} {read : Reader E T A} {Spelled Next : A → Form T} {Within : A → Type 0} {Unfit : Form T}
    → IsRule E Good read Spelled Next Within Unfit → Rule E Good A
as_rule {read = read} {Spelled = Spelled} {Next = Next} {Within = Within} {Unfit = Unfit} one =
    record { read = read; Spelled = Spelled; Next = Next; Within = Within; Unfit = Unfit; is = one }

abbrev pub as_flat : {E T A : Type 0} {Good : T → Type 0} {read : Reader E T A} {Spelled Next : A → Form T}
    → IsRule E Good read Spelled Next (λ _. Unit {0}) Never → Flat E Good A
as_flat {read = read} {Spelled = Spelled} {Next = Next} one = record { read = read; Spelled = Spelled; Next = Next; is = one }

abbrev pub of_flat : {E T A : Type 0} {Good : T → Type 0} → Flat E Good A → Rule E Good A
of_flat r = record { read = r.read; Spelled = r.Spelled; Next = r.Next; Within = λ _. Unit {0}; Unfit = Never; is = r.is }

-- a rule that is flat after all
abbrev pub flat : {E T A : Type 0} {Good : T → Type 0} (r : Rule E Good A) → ((ts : List T) → r.Unfit ts → ⊥) → ((x : A) → r.Within x) → Flat E Good A
flat {Good = Good} r none each = record {
  read = r.read;
  Spelled = r.Spelled;
  Next = r.Next;
  is = same-rule Good r.read r.Spelled r.Next r.Within r.Unfit r.Spelled r.Next (λ _. Unit {0}) Never
      (record { there = λ x ts s. s; back = λ x ts s. s; follow = λ x rest next. next; within = λ x w. tt; apart = λ x w. each x; first = none; unfit = λ ts d. absurd d })
      r.is;
}

-- a mark is a flat rule
abbrev pub of_mark : {E T : Type 0} {Good : T → Type 0} → Mark Good → Flat E Good (Unit {0})
of_mark {Good = Good} m = record { read = mark m.test; Spelled = λ _. m.Spelled; Next = λ _. Anything; is = mark-rule Good m.test m.Spelled m.is }

-- ---- one after another

pub mark-tells : {T : Type 0} {Good : T → Type 0} (m : Mark Good) (front rest : List T) → m.Spelled front → tells m.test false (front ++ rest) ≡ true
mark-tells {Good = Good} m = Mark-tells Good m.test m.Spelled m.is

pub front-marked : {T : Type 0} {Good : T → Type 0} (m : Mark Good) (Second : Form T) (front rest : List T) → (m.Spelled ⋯ Second) front → tells m.test false (front ++ rest) ≡ true
front-marked m Second front rest = front-tells m.test true m.Spelled Second front rest (mark-tells m)

-- a mark, and then the rule
abbrev pub skip : {E T A : Type 0} {Good : T → Type 0} → Mark Good → Rule E Good A → Rule E Good A
skip {Good = Good} m r = record {
  read = mark m.test >> r.read;
  Spelled = λ x. m.Spelled ⋯ r.Spelled x;
  Next = r.Next;
  Within = r.Within;
  Unfit = m.Spelled ⋯ r.Unfit;
  is = skip-rule Good (mark m.test) r.read m.Spelled r.Spelled r.Next r.Within r.Unfit (mark-rule Good m.test m.Spelled m.is) r.is;
}

abbrev pub flat_skip : {E T A : Type 0} {Good : T → Type 0} → Mark Good → Flat E Good A → Flat E Good A
flat_skip m r = flat (skip m (of_flat r)) (λ ts d. d.ends) (λ x. tt)

-- the rule, and then a mark
abbrev pub close : {E T A : Type 0} {Good : T → Type 0} (r : Rule E Good A) (m : Mark Good) → ((x : A) (front rest : List T) → m.Spelled front → r.Next x (front ++ rest)) → Rule E Good A
close {Good = Good} r m follow = record {
  read = r.read << mark m.test;
  Spelled = λ x. r.Spelled x ⋯ m.Spelled;
  Next = λ _. Anything;
  Within = r.Within;
  Unfit = r.Unfit;
  is = close-rule Good r.read (mark m.test) r.Spelled r.Next r.Within r.Unfit m.Spelled follow r.is (mark-rule Good m.test m.Spelled m.is);
}

abbrev pub flat_close : {E T A : Type 0} {Good : T → Type 0} (r : Flat E Good A) (m : Mark Good) → ((x : A) (front rest : List T) → m.Spelled front → r.Next x (front ++ rest)) → Flat E Good A
flat_close r m follow = flat (close (of_flat r) m follow) (λ ts d. d) (λ x. tt)

-- a flat rule, and then a rule
abbrev pub both : {E T A B : Type 0} {Good : T → Type 0} (a : Flat E Good A) (b : Rule E Good B)
    → ((x : A) (y : B) (back rest : List T) → b.Spelled y back → b.Next y rest → a.Next x (back ++ rest))
    → ((x : A) (back rest : List T) → b.Unfit back → a.Next x (back ++ rest)) → Rule E Good (A × B)
both {E} {T} {A} {B} {Good} a b follow follow_unfit = record {
  read = a.read <&> b.read;
  Spelled = λ (z : A × B). a.Spelled z.0 ⋯ b.Spelled z.1;
  Next = λ (z : A × B). b.Next z.1;
  Within = λ (z : A × B). b.Within z.1;
  Unfit = Past a.Spelled b.Unfit;
  is = same-rule Good (a.read <&> b.read) (λ (z : A × B). a.Spelled z.0 ⋯ b.Spelled z.1) (λ z. b.Next z.1) (λ z. Unit {0} × b.Within z.1)
      (λ ts. Never ts ⊎ Past a.Spelled b.Unfit ts)
      (λ (z : A × B). a.Spelled z.0 ⋯ b.Spelled z.1) (λ z. b.Next z.1) (λ z. b.Within z.1) (Past a.Spelled b.Unfit)
      (record {
        there = λ x ts s. s;
        back = λ x ts s. s;
        follow = λ x rest next. next;
        within = λ x w. w.1;
        apart = λ x w. (tt, w);
        first = λ ts. ⊎_elim (λ d. absurd d) (λ d. d);
        unfit = λ ts d. inr d;
      })
      (both-rule Good a.read b.read a.Spelled a.Next (λ _. Unit {0}) Never b.Spelled b.Next b.Within b.Unfit follow follow_unfit a.is b.is);
}

-- a flat rule, a mark, and then a rule
abbrev pub parted : {E T A B : Type 0} {Good : T → Type 0} (a : Flat E Good A) (m : Mark Good) (b : Rule E Good B)
    → ((x : A) (front rest : List T) → m.Spelled front → a.Next x (front ++ rest)) → Rule E Good (A × B)
parted a m b follow = both a (skip m b)
    (λ x y back rest s next. follows-front (a.Next x) m.Spelled (b.Spelled y) back rest (follow x) s)
    (λ x back rest d. follows-front (a.Next x) m.Spelled b.Unfit back rest (follow x) d)

abbrev pub flat_parted : {E T A B : Type 0} {Good : T → Type 0} (a : Flat E Good A) (m : Mark Good) (b : Flat E Good B)
    → ((x : A) (front rest : List T) → m.Spelled front → a.Next x (front ++ rest)) → Flat E Good (A × B)
flat_parted a m b follow = flat (parted a m (of_flat b) follow) (λ ts d. d.1.ends.ends) (λ x. tt)

-- ---- values

-- a function of what is read
pub mapped : {E T A B : Type 0} {Good : T → Type 0} (f : A → B) (r : Rule E Good A) (Whole Next : B → Form T) (Within : B → Type 0) (Unfit : Form T)
    → Maps f r.Spelled r.Next r.Within r.Unfit Whole Next Within Unfit → IsRule E Good (f <$> r.read) Whole Next Within Unfit
mapped {Good = Good} f r Whole Next Within Unfit maps = map-rule Good f r.read r.Spelled r.Next r.Within r.Unfit Whole Next Within Unfit maps r.is

-- a rule for the same things under another view, which loses nothing
pub viewed : {E T A B : Type 0} {Good : T → Type 0} (f : A → B) (g : B → A) (r : Rule E Good A) → ((x : A) → g (f x) ≡ x) → ((y : B) → y ≡ f (g y))
    → IsRule E Good (f <$> r.read) (λ y. r.Spelled (g y)) (λ y. r.Next (g y)) (λ y. r.Within (g y)) r.Unfit
viewed f g r same back = mapped f r (λ y. r.Spelled (g y)) (λ y. r.Next (g y)) (λ y. r.Within (g y)) r.Unfit (record {
  there = λ x ts s. subst (λ z. r.Spelled z ts) (sym (same x)) s;
  back = λ y ts s. (g y, back y, s);
  follow = λ x rest next. subst (λ z. r.Next z rest) (same x) next;
  within = λ x w. subst r.Within (sym (same x)) w;
  apart = λ x w. subst r.Within (same x) w;
  first = λ ts d. d;
  unfit = λ ts d. d;
})

-- the form of what is made of what a rule spells
abbrev pub Made : {T A B : Type 0} → (A → B) → (A → Form T) → B → Form T
Made {A = A} f Spelled y ts = (x : A) × (y ≡ f x) × Spelled x ts

-- a rule for a value that is made of the one that is read
pub made-rule : {E T A B : Type 0} {Good : T → Type 0} (f : A → B) (r : Rule E Good A) (Next : B → Form T) (Within : B → Type 0)
    → ((x : A) (rest : List T) → Next (f x) rest → r.Next x rest) → ((x : A) → r.Within x → Within (f x)) → ((x : A) → Within (f x) → r.Within x)
    → IsRule E Good (f <$> r.read) (Made f r.Spelled) Next Within r.Unfit
made-rule f r Next Within follow to from = mapped f r (Made f r.Spelled) Next Within r.Unfit (record {
  there = λ x ts s. (x, refl, s);
  back = λ y ts s. s;
  follow = follow;
  within = to;
  apart = from;
  first = λ ts d. d;
  unfit = λ ts d. d;
})

-- ---- a choice

-- how the whole is what is made of the one or of the other: a test of the next thing decides which
pub record IsEither {E T A B C : Type 0} {Good : T → Type 0} (test : T → Bool) (f : A → C) (a : Rule E Good A) (g : B → C) (b : Flat E Good B)
    (Whole Next : C → Form T) (Within : C → Type 0) : Type 0 where
  pub one : (x : A) (ts : List T) → a.Spelled x ts → Whole (f x) ts
  pub other : (y : B) (ts : List T) → b.Spelled y ts → Whole (g y) ts
  pub which : (z : C) (ts : List T) → Whole z ts → Made f a.Spelled z ts ⊎ Made g b.Spelled z ts
  pub one_next : (x : A) (rest : List T) → Next (f x) rest → a.Next x rest
  pub other_next : (y : B) (rest : List T) → Next (g y) rest → b.Next y rest
  pub one_begins : (x : A) (front rest : List T) → a.Spelled x front → tells test false (front ++ rest) ≡ true
  pub unfit_begins : (front rest : List T) → a.Unfit front → tells test false (front ++ rest) ≡ true
  pub other_begins : (y : B) (front rest : List T) → b.Spelled y front → Next (g y) rest → tells test false (front ++ rest) ≡ false
  pub within_one : (x : A) → Within (f x) → a.Within x
  pub one_within : (x : A) → a.Within x → Within (f x)
  pub other_within : (y : B) → Within (g y)

-- a rule by the one rule where a test of the next thing holds, and else by the other
pub either-rule : {E T A B C : Type 0} {Good : T → Type 0} (test : T → Bool) (f : A → C) (a : Rule E Good A) (g : B → C) (b : Flat E Good B)
    (Whole Next : C → Form T) (Within : C → Type 0) → IsEither test f a g b Whole Next Within
    → IsRule E Good (choose test false (f <$> a.read) (g <$> b.read)) Whole Next Within a.Unfit
either-rule {E} {T} {A} {B} {C} {Good} test f a g b Whole Next Within is =
    choose-rule Good test false (f <$> a.read) (g <$> b.read) (Made f a.Spelled) Next a.Unfit (Made g b.Spelled) Next Never Whole Next Within a.Unfit
    (record {
      one = λ z ts s. subst (λ y. Whole y ts) (sym s.1) (is.one s.0 ts s.2);
      other = λ z ts s. subst (λ y. Whole y ts) (sym s.1) (is.other s.0 ts s.2);
      which = is.which;
      one_next = λ z front rest s next. next;
      other_next = λ z front rest s next. next;
      one_begins = λ z front rest s next. is.one_begins s.0 front rest s.2;
      other_begins = λ z front rest s next. is.other_begins s.0 front rest s.2 (subst (λ y. Next y rest) s.1 next);
      one_unfit = λ ts d. d;
      other_unfit = λ ts d. absurd d;
      which_unfit = λ ts d. inl d;
      one_unfit_begins = is.unfit_begins;
      other_unfit_begins = λ front rest d. absurd d;
    })
    (made-rule f a Next Within is.one_next is.one_within is.within_one)
    (made-rule g (of_flat b) Next Within is.other_next (λ y w. is.other_within y) (λ y w. tt))

-- a rule for the value of a flat rule, where a test of the next thing holds
pub optional-rule : {E T A : Type 0} {Good : T → Type 0} (test : T → Bool) (a : Flat E Good A)
    → ((x : A) (front rest : List T) → a.Spelled x front → tells test false (front ++ rest) ≡ true) → ((x : A) (rest : List T) → a.Next x rest)
    → IsRule E Good (optional test a.read) (Optional a.Spelled) (λ _ rest. tells test false rest ≡ false) (λ _. Unit {0}) Never
optional-rule {E} {T} {A} {Good} test a begins next =
    either-rule test Some (of_flat a) (λ _. None) (as_flat (pure-rule {A = Unit {0}} Good (λ _. Unit {0}) tt tt)) (Optional a.Spelled) (λ _ rest. tells test false rest ≡ false) (λ _. Unit {0})
    (record {
      one = λ x ts s. s;
      other = λ u ts s. s.1;
      which = which;
      one_next = λ x rest _. next x rest;
      other_next = λ u rest _. tt;
      one_begins = begins;
      unfit_begins = λ front rest d. absurd d;
      other_begins = λ u front rest s after. subst (λ l. tells test false (l ++ rest) ≡ false) (sym s.1) after;
      within_one = λ x w. tt;
      one_within = λ x w. tt;
      other_within = λ u. tt;
    })
  where
    which : (z : Option A) (ts : List T) → Optional a.Spelled z ts → Made Some a.Spelled z ts ⊎ Made (λ (u : Unit {0}). None) (Only tt) z ts
    which None ts s = inr (tt, refl, (refl, s))
    which (Some x) ts s = inl (x, refl, s)

-- ---- readers that take a thing at least

pub shrinks : {E T A : Type 0} {Good : T → Type 0} {lead : T → Bool} {Unfit : Form T} (r : Rule E Good A) → Begins lead r.Spelled Unfit → Shrinks r.read
shrinks {Good = Good} {lead = lead} r begins =
    shrinks-rule Good r.read r.Spelled r.Next r.Within r.Unfit (λ x front s. begins-filled lead front (begins.item x front [] s)) r.is

-- a rule where less may follow, and one with another form of the same
pub fewer : {E T A : Type 0} {Good : T → Type 0} (r : Rule E Good A) (Next : A → Form T) → ((x : A) (rest : List T) → Next x rest → r.Next x rest)
    → IsRule E Good r.read r.Spelled Next r.Within r.Unfit
fewer {Good = Good} r Next follow =
    same-rule Good r.read r.Spelled r.Next r.Within r.Unfit r.Spelled Next r.Within r.Unfit
    (record { there = λ x ts s. s; back = λ x ts s. s; follow = follow; within = λ x w. w; apart = λ x w. w; first = λ ts d. d; unfit = λ ts d. d })
    r.is

pub respelled : {E T A : Type 0} {Good : T → Type 0} (r : Rule E Good A) (Whole : A → Form T) → ((x : A) (ts : List T) → r.Spelled x ts → Whole x ts)
    → ((x : A) (ts : List T) → Whole x ts → r.Spelled x ts) → IsRule E Good r.read Whole r.Next r.Within r.Unfit
respelled {Good = Good} r Whole there back =
    same-rule Good r.read r.Spelled r.Next r.Within r.Unfit Whole r.Next r.Within r.Unfit
    (record { there = there; back = back; follow = λ x rest next. next; within = λ x w. w; apart = λ x w. w; first = λ ts d. d; unfit = λ ts d. d })
    r.is
