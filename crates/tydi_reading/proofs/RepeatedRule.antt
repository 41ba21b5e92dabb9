-- Items one after another are a rule.
use Rattle.std.proofs.Common.{◌≡◌, ℕ, zero, suc, ◌<◌, ◌⊎◌, inl, inr, ⊎_elim, Bool, true, false, List, [], ◌∷◌, ◌++◌, length, refl, sym, ap, ◌∙◌, subst, arith, append_assoc}
use Rattle.std.proofs.lemmas.List.{append-nil}
use Rattle.std.proofs.lemmas.List.Elements.{All-nil}
use Rattle.tydi_reading.specs.Forms.{Form, Never, Anything, Runs, Loop, RunsTo, LoopTo}
use Rattle.tydi_reading.specs.Lists.{Each, EachTo, EachIs, repeated_turn, repeated}
use Rattle.tydi_reading.specs.Reading.{Reader, Turn, again, done, tells, pure, ◌<$>◌, loop}
use Rattle.tydi_reading.specs.Rules.{IsRule}
use Rattle.tydi_reading.proofs.ChoiceRules.{choose-rule}
use Rattle.tydi_reading.proofs.LoopRules.{Turns, loop-rule}
use Rattle.tydi_reading.proofs.StepRules.{Only, pure-rule, map-rule, same-rule}

-- ---- one item more

pub last-same : {A : Type 0} (found : List A) (x y : A) → found ++ x ∷ [] ≡ found ++ y ∷ [] → x ≡ y
last-same [] x y is = cc
last-same (v ∷ found) x y is = last-same found x y (let tails : found ++ x ∷ [] ≡ found ++ y ∷ [] = cc in tails)

pub EachIs-push : {A : Type 0} (Is : A → Type 0) (found : List A) (x : A) → EachIs Is found → Is x → EachIs Is (found ++ x ∷ [])
EachIs-push Is [] x each is = (is, tt)
EachIs-push Is (v ∷ found) x each is = (each.0, EachIs-push Is found x each.1 is)

pub EachIs-pop : {A : Type 0} (Is : A → Type 0) (found : List A) (x : A) → EachIs Is (found ++ x ∷ []) → EachIs Is found × Is x
EachIs-pop Is [] x each = (tt, each.0)
EachIs-pop Is (v ∷ found) x each = let more = EachIs-pop Is found x each.1 in ((each.0, more.0), more.1)

pub each_unit : {A : Type 0} (items : List A) → EachIs (λ _. Unit {0}) items
each_unit [] = tt
each_unit (x ∷ items) = (tt, each_unit items)

-- so many items are added by what is spelled
pub record Adds {T A : Type 0} (Items : List A → Form T) (found end : List A) (ts : List T) : Type 0 where
  pub items : List A
  pub added : end ≡ found ++ items
  pub spelled : Items items ts

-- ---- turns that add an item each, up to something that leads on

-- a turn that goes on adds one item
pub record AddsOne {T A : Type 0} (Turned : List A → Turn (List A) → Form T) (One : A → Form T) : Type 0 where
  pub item : (found next : List A) (ts : List T) → Turned found (again next) ts → (x : A) × (next ≡ found ++ x ∷ []) × One x ts
  pub turn : (found : List A) (x : A) (ts : List T) → One x ts → Turned found (again (found ++ x ∷ [])) ts

module _ {T A : Type 0} {Turned : List A → Turn (List A) → Form T} {One : A → Form T} {Unfit : Form T} (one : AddsOne Turned One) where
  pub adds_unfit : (n : ℕ) (found : List A) (ts : List T) → RunsTo Turned (λ _. Unfit) n found ts → EachTo One Unfit ts
  adds_unfit zero found ts walk = absurd walk
  adds_unfit (suc n) found ts walk =
      ⊎_elim
      (λ d. ([], record { front = []; back = ts; all = refl; begins = refl; ends = d }))
      (λ more.
      let b = more.1 in
      let x = one.item found more.0 b.front b.begins in
      let others = adds_unfit n more.0 b.back b.ends in
      let o = others.1 in (
        x.0 ∷ others.0,
        record {
          front = b.front ++ o.front;
          back = o.back;
          all = b.all ∙ ap (λ l. b.front ++ l) o.all ∙ sym (append_assoc b.front o.front o.back);
          begins = record { front = b.front; back = o.front; all = refl; begins = x.2; ends = o.begins };
          ends = o.ends;
        },
      ))
      walk

  pub runs_unfit : (items found : List A) (front back ts : List T) → ts ≡ front ++ back → Each One items front → Unfit back → LoopTo Turned (λ _. Unfit) found ts
  runs_unfit [] found front back ts is s d = (1, inl (subst Unfit (sym (is ∙ ap (λ l. l ++ back) s)) d))
  runs_unfit (x ∷ items) found front back ts is s d =
      let more = runs_unfit items (found ++ x ∷ []) s.back back (s.back ++ back) refl s.ends d in (
        suc more.0,
        inr (
          found ++ x ∷ [],
          record {
            front = s.front;
            back = s.back ++ back;
            all = is ∙ ap (λ l. l ++ back) s.all ∙ append_assoc s.front s.back back;
            begins = one.turn found x s.front s.begins;
            ends = more.1;
          },
        ),
      )

-- ---- the rule

-- items of the rule may stand one after another up to where the test holds
pub record Repeats {T A : Type 0} (test : T → Bool) (last : Bool) (Item : A → Form T) (Unfit : Form T) : Type 0 where
  pub filled : (x : A) (front : List T) → Item x front → 0 < length front
  pub starts : (x : A) (front rest : List T) → Item x front → tells test last (front ++ rest) ≡ false
  pub starts_unfit : (front rest : List T) → Unfit front → tells test last (front ++ rest) ≡ false

-- the spelled things, and those that lead to something unfit, begin with such a thing
pub record Begins {T A : Type 0} (lead : T → Bool) (Item : A → Form T) (Unfit : Form T) : Type 0 where
  pub item : (x : A) (front rest : List T) → Item x front → tells lead false (front ++ rest) ≡ true
  pub unfit : (front rest : List T) → Unfit front → tells lead false (front ++ rest) ≡ true

-- a test that no such thing passes answers no about it
pub begins-apart : {T : Type 0} (lead test : T → Bool) (last : Bool) → ((t : T) → lead t ≡ true → test t ≡ false) → (ts : List T) → tells lead false ts ≡ true → tells test last ts ≡ false
begins-apart lead test last apart [] is = absurd cc
begins-apart lead test last apart (t ∷ ts) is = apart t is

pub begins-filled : {T : Type 0} (lead : T → Bool) (front : List T) → tells lead false (front ++ []) ≡ true → 0 < length front
begins-filled lead [] is = absurd cc
begins-filled lead (t ∷ front) is = omega arith

pub begins-repeats : {T A : Type 0} {lead test : T → Bool} {last : Bool} {Item : A → Form T} {Unfit : Form T} → ((t : T) → lead t ≡ true → test t ≡ false)
    → Begins lead Item Unfit → Repeats test last Item Unfit
begins-repeats {lead = lead} {test = test} {last = last} apart begins = record {
  filled = λ x front s. begins-filled lead front (begins.item x front [] s);
  starts = λ x front rest s. begins-apart lead test last apart (front ++ rest) (begins.item x front rest s);
  starts_unfit = λ front rest d. begins-apart lead test last apart (front ++ rest) (begins.unfit front rest d);
}

module _ {E T A : Type 0} (Good : T → Type 0) (test : T → Bool) (last : Bool) (item : Reader E T A) (Item : A → Form T) (Within : A → Type 0) (Unfit : Form T)
    (repeats : Repeats test last Item Unfit) (rule : IsRule E Good item Item (λ _. Anything) Within Unfit) where
  Adding : List A → Turn (List A) → Form T
  Adding found t ts = (x : A) × (t ≡ again (found ++ x ∷ [])) × Item x ts

  abbrev TurnOf : List A → Turn (List A) → Form T
  TurnOf found (done end) ts = (end ≡ found) × (ts ≡ [])
  TurnOf found (again next) ts = (x : A) × (next ≡ found ++ x ∷ []) × Item x ts

  abbrev Inside : List A → Turn (List A) → Type 0
  Inside found (done end) = Unit {0}
  Inside found (again next) = (x : A) → next ≡ found ++ x ∷ [] → Within x

  abbrev Follow : List A → Turn (List A) → Form T
  Follow found (done end) rest = tells test last rest ≡ true
  Follow found (again next) rest = Unit {0}

  of_only : (found : List A) (t : Turn (List A)) (ts : List T) → Only (done found) t ts → TurnOf found t ts
  of_only found (done end) ts s = (let is : done end ≡ done found = s.0 in cc, s.1)
  of_only found (again next) ts s = absurd (let is : again next ≡ done found = s.0 in cc)

  of_adding : (found : List A) (t : Turn (List A)) (ts : List T) → Adding found t ts → TurnOf found t ts
  unfolding Adding
  of_adding found (done end) ts s = absurd (let is : done end ≡ again (found ++ s.0 ∷ []) = s.1 in cc)
  of_adding found (again next) ts s = (s.0, (let is : again next ≡ again (found ++ s.0 ∷ []) = s.1 in cc), s.2)

  which : (found : List A) (t : Turn (List A)) (ts : List T) → TurnOf found t ts → Only (done found) t ts ⊎ Adding found t ts
  unfolding Adding
  which found (done end) ts s = inl (ap done s.0, s.1)
  which found (again next) ts s = inr (s.0, ap again s.1, s.2)

  begins : (found : List A) (t : Turn (List A)) (front rest : List T) → Only (done found) t front → Follow found t rest → tells test last (front ++ rest) ≡ true
  begins found (done end) front rest s next = rw s.1 next
  begins found (again next) front rest s _ = absurd (let is : again next ≡ done found = s.0 in cc)

  turn-rule : (found : List A) → IsRule E Good (repeated_turn test last item found) (TurnOf found) (Follow found) (Inside found) Unfit
  unfolding repeated_turn Adding
  turn-rule found =
      choose-rule Good test last (pure (done found)) ((λ x. again (found ++ x ∷ [])) <$> item) (Only (done found)) (λ _. Anything) Never
      (Adding found) (λ _. Anything) Unfit (TurnOf found) (Follow found) (Inside found) Unfit
      (record {
        one = of_only found;
        other = of_adding found;
        which = which found;
        one_next = λ t front rest s next. tt;
        other_next = λ t front rest s next. tt;
        one_begins = begins found;
        other_begins = λ t front rest s next. repeats.starts s.0 front rest s.2;
        one_unfit = λ ts d. absurd d;
        other_unfit = λ ts d. d;
        which_unfit = λ ts d. inr d;
        one_unfit_begins = λ front rest d. absurd d;
        other_unfit_begins = repeats.starts_unfit;
      })
      (pure-rule Good (Inside found) (done found) tt)
      (map-rule Good (λ x. again (found ++ x ∷ [])) item Item (λ _. Anything) Within Unfit (Adding found) (λ _. Anything) (Inside found) Unfit
      (record {
        there = λ x ts s. (x, refl, s);
        back = λ t ts s. s;
        follow = λ x rest next. tt;
        within = λ x w. λ y is. subst Within (last-same found x y is) w;
        apart = λ x w. w x refl;
        first = λ ts d. d;
        unfit = λ ts d. d;
      })
      rule)

  adds : (n : ℕ) (found end : List A) (ts : List T) → Runs TurnOf n found end ts → Adds (Each Item) found end ts
  adds zero found end ts walk = absurd walk
  adds (suc n) found end ts walk =
      ⊎_elim
      (λ s. record { items = []; added = s.0 ∙ sym (append-nil found); spelled = s.1 })
      (λ more.
      let b = more.1 in
      let others = adds n more.0 end b.back b.ends in
      record {
        items = b.begins.0 ∷ others.items;
        added = others.added ∙ ap (λ l. l ++ others.items) b.begins.1 ∙ append_assoc found (b.begins.0 ∷ []) others.items;
        spelled = record { front = b.front; back = b.back; all = b.all; begins = b.begins.2; ends = others.spelled };
      })
      walk

  runs : (found items : List A) (ts : List T) → Each Item items ts → Loop TurnOf found (found ++ items) ts
  runs found [] ts s = (1, inl (append-nil found, s))
  runs found (x ∷ items) ts s =
      let more = runs (found ++ x ∷ []) items s.back s.ends in
      subst (λ end. Loop TurnOf found end ts) (append_assoc found (x ∷ []) items)
      (suc more.0, inr (found ++ x ∷ [], record { front = s.front; back = s.back; all = s.all; begins = (x, refl, s.begins); ends = more.1 }))

  adds_one : AddsOne TurnOf Item
  adds_one = record { item = λ found next ts s. s; turn = λ found x ts s. (x, refl, s) }

  turns : Turns Good (repeated_turn test last item) TurnOf Follow Inside (λ _. Unfit) (λ _ rest. tells test last rest ≡ true) (EachIs Within)
  turns = record {
    rule = turn-rule;
    filled = λ found next front s. repeats.filled s.0 front s.2;
    closes = λ found. record { value = found; more = []; good = All-nil Good; spelled = (1, inl (refl, refl)) };
    ends = λ found end front rest s next. next;
    goes = λ found next end front back rest s more stop. tt;
    goes_unfit = λ found next front back rest s more. tt;
    within_again = λ found next front s inside each. subst (EachIs Within) (sym s.1) (EachIs-push Within found s.0 each (inside s.0 s.1));
    within_done = λ found end front s inside each. subst (EachIs Within) (sym s.0) each;
    apart_again = λ found next front s each.
        let both = EachIs-pop Within found s.0 (subst (EachIs Within) s.1 each) in
        ((λ y is. subst Within (last-same found s.0 y (sym s.1 ∙ is)) both.1), both.0);
    apart_done = λ found end front s each. (tt, subst (EachIs Within) s.0 each);
  }

  -- more items one after another up to where the test holds
  pub repeated_from-rule : (found : List A) → EachIs Within found
      → IsRule E Good (loop (repeated_turn test last item) found) (Adds (Each Item) found) (λ _ rest. tells test last rest ≡ true) (EachIs Within) (EachTo Item Unfit)
  repeated_from-rule found within =
      same-rule Good (loop (repeated_turn test last item) found) (Loop TurnOf found) (λ _ rest. tells test last rest ≡ true) (EachIs Within)
      (LoopTo TurnOf (λ _. Unfit) found) (Adds (Each Item) found) (λ _ rest. tells test last rest ≡ true) (EachIs Within) (EachTo Item Unfit)
      (record {
        there = λ end ts s. adds s.0 found end ts s.1;
        back = λ end ts s. subst (λ l. Loop TurnOf found l ts) (sym s.added) (runs found s.items ts s.spelled);
        follow = λ items rest next. next;
        within = λ items each. each;
        apart = λ items each. each;
        first = λ ts d. adds_unfit adds_one d.0 found ts d.1;
        unfit = λ ts d. runs_unfit adds_one d.0 found d.1.front d.1.back ts d.1.all d.1.begins d.1.ends;
      })
      (loop-rule Good (repeated_turn test last item) TurnOf Follow Inside (λ _. Unfit) (λ _ rest. tells test last rest ≡ true) (EachIs Within) turns found within)

  -- items one after another up to where the test holds
  pub repeated-rule : IsRule E Good (repeated test last item) (Each Item) (λ _ rest. tells test last rest ≡ true) (EachIs Within) (EachTo Item Unfit)
  unfolding repeated
  repeated-rule =
      same-rule Good (loop (repeated_turn test last item) []) (Adds (Each Item) []) (λ _ rest. tells test last rest ≡ true) (EachIs Within) (EachTo Item Unfit)
      (Each Item) (λ _ rest. tells test last rest ≡ true) (EachIs Within) (EachTo Item Unfit)
      (record {
        there = λ items ts a. subst (λ l. Each Item l ts) (sym a.added) a.spelled;
        back = λ items ts s. record { items = items; added = refl; spelled = s };
        follow = λ items rest next. next;
        within = λ items each. each;
        apart = λ items each. each;
        first = λ ts d. d;
        unfit = λ ts d. d;
      })
      (repeated_from-rule [] tt)
