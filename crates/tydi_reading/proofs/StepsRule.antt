-- Steps from one state to the next, with separators between them, are a rule.
use Rattle.std.proofs.Common.{◌≡◌, ◌<◌, ◌⊎◌, inl, inr, ⊎_elim, Bool, true, false, List, [], ◌∷◌, ◌++◌, length, refl, sym, ap, ◌∙◌, subst, arith, append_assoc}
use Rattle.std.proofs.lemmas.List.{append-nil, length-append}
use Rattle.std.proofs.lemmas.List.Elements.{All-nil}
use Rattle.tydi_reading.specs.Forms.{Form, ◌⋯◌, Never, Anything, Loop, LoopTo}
use Rattle.tydi_reading.specs.Lists.{mark, separator_turn, steps_turn, steps}
use Rattle.tydi_reading.specs.declared.fault.Fault.TheVariants as faults
use Rattle.tydi_reading.specs.Reading.{Reader, stopped, and_then, Turn, again, done, tells, pure, ◌<$>◌, ◌>>=◌, choose}
use Rattle.tydi_reading.specs.Rules.{IsRule}
use Rattle.tydi_reading.proofs.ChoiceRules.{choose-rule, stop-rule}
use Rattle.tydi_reading.proofs.LoopRules.{Turns, loop-rule}
use Rattle.tydi_reading.proofs.MarkLemmas.{IsMark, Mark-tells, mark-rule}
use Rattle.tydi_reading.proofs.StepRules.{Only, pure-rule, map-rule, same-rule, then-rule}

-- the steps may stand with such separators between them up to where the test holds
pub record Separates {T S : Type 0} (Good : T → Type 0) (test : T → Bool) (last : Bool) (separates : T → Bool) (Separator : Form T) (Step : S → S → Form T) (StepNext : S → Form T)
    (StepWithin : S → S → Type 0) (Unfit : S → Form T) (Within : S → Type 0) : Type 0 where
  pub mark : IsMark Good separates Separator
  pub filled : (s next : S) (front : List T) → Step s next front → 0 < length front
  pub starts : (s next : S) (front rest : List T) → Step s next front → tells test last (front ++ rest) ≡ false
  pub starts_unfit : (s : S) (front rest : List T) → Unfit s front → tells test last (front ++ rest) ≡ false
  pub before_end : (next : S) (rest : List T) → tells test last rest ≡ true → StepNext next rest
  pub before_separator : (next : S) (t : T) (rest : List T) → separates t ≡ true → StepNext next (t ∷ rest)
  pub apart : (rest : List T) → tells test last rest ≡ true → tells separates false rest ≡ false
  pub idle : (s : S) → StepWithin s s
  pub within : (s next : S) (front : List T) → Step s next front → StepWithin s next → Within s → Within next
  pub unwithin : (s next : S) (front : List T) → Step s next front → Within next → StepWithin s next × Within s

-- no step goes on from this state
pub record IsStuck {E T S : Type 0} (step : Reader E T S) (Step : S → Form T) (Unfit : Form T) : Type 0 where
  pub refuses : (ts : List T) → step ts ≡ stopped faults.Refused ts
  pub none : (next : S) (ts : List T) → Step next ts → ⊥
  pub none_unfit : (ts : List T) → Unfit ts → ⊥

module _ {E T S : Type 0} (Good : T → Type 0) (test : T → Bool) (last : Bool) (separates : T → Bool) (Separator : Form T) (step : S → Reader E T S) (Step : S → S → Form T) (StepNext : S → Form T)
    (StepWithin : S → S → Type 0) (Unfit : S → Form T) (Within : S → Type 0) (between : Separates Good test last separates Separator Step StepNext StepWithin Unfit Within)
    (rule : (s : S) → IsRule E Good (step s) (Step s) StepNext (StepWithin s) (Unfit s) ⊎ IsStuck (step s) (Step s) (Unfit s)) where
  -- ---- after a step

  abbrev After : S → Turn (S) → Form T
  After found (done end) ts = (end ≡ found) × (ts ≡ [])
  After found (again next) ts = (next ≡ found) × Separator ts

  abbrev AfterNext : Turn (S) → Form T
  AfterNext (done end) rest = tells separates false rest ≡ false
  AfterNext (again next) rest = Unit {0}

  Marked : S → Turn (S) → Form T
  Marked found t ts = (t ≡ again found) × Separator ts

  of_marked : (found : S) (t : Turn (S)) (ts : List T) → Marked found t ts → After found t ts
  unfolding Marked
  of_marked found (done end) ts s = absurd (let is : done end ≡ again found = s.0 in cc)
  of_marked found (again next) ts s = (let is : again next ≡ again found = s.0 in cc, s.1)

  of_end : (found : S) (t : Turn (S)) (ts : List T) → Only (done found) t ts → After found t ts
  of_end found (done end) ts s = (let is : done end ≡ done found = s.0 in cc, s.1)
  of_end found (again next) ts s = absurd (let is : again next ≡ done found = s.0 in cc)

  which_after : (found : S) (t : Turn (S)) (ts : List T) → After found t ts → Marked found t ts ⊎ Only (done found) t ts
  unfolding Marked
  which_after found (done end) ts s = inr (ap done s.0, s.1)
  which_after found (again next) ts s = inl (ap again s.0, s.1)

  end_begins : (found : S) (t : Turn (S)) (front rest : List T) → Only (done found) t front → AfterNext t rest → tells separates false (front ++ rest) ≡ false
  end_begins found (done end) front rest s next = rw s.1 next
  end_begins found (again next) front rest s _ = absurd (let is : again next ≡ done found = s.0 in cc)

  after-rule : (found : S) → IsRule E Good (separator_turn separates found) (After found) AfterNext (λ _. Unit {0}) Never
  unfolding separator_turn Marked
  after-rule found =
      choose-rule Good separates false ((λ _. again found) <$> mark separates) (pure (done found)) (Marked found) (λ _. Anything) Never
      (Only (done found)) (λ _. Anything) Never (After found) AfterNext (λ _. Unit {0}) Never
      (record {
        one = of_marked found;
        other = of_end found;
        which = which_after found;
        one_next = λ t front rest s next. tt;
        other_next = λ t front rest s next. tt;
        one_begins = λ t front rest s next. Mark-tells Good separates Separator between.mark front rest s.1;
        other_begins = end_begins found;
        one_unfit = λ ts d. d;
        other_unfit = λ ts d. d;
        which_unfit = λ ts d. absurd d;
        one_unfit_begins = λ front rest d. absurd d;
        other_unfit_begins = λ front rest d. absurd d;
      })
      (map-rule Good (λ _. again found) (mark separates) (λ _. Separator) (λ _. Anything) (λ _. Unit {0}) Never
      (Marked found) (λ _. Anything) (λ _. Unit {0}) Never
      (record {
        there = λ x ts s. (refl, s);
        back = λ t ts s. (tt, s.0, s.1);
        follow = λ x rest next. tt;
        within = λ x w. tt;
        apart = λ x w. tt;
        first = λ ts d. d;
        unfit = λ ts d. d;
      })
      (mark-rule Good separates Separator between.mark))
      (pure-rule Good (λ _. Unit {0}) (done found) tt)

  -- ---- a step and what follows it

  abbrev Part : S → Turn S → Form T
  Part s (done end) ts = Step s end ts
  Part s (again next) ts = (Step s next ⋯ Separator) ts

  abbrev Follow : Turn S → Form T
  Follow (done end) rest = tells test last rest ≡ true
  Follow (again next) rest = Unit {0}

  abbrev Inside : S → Turn S → Type 0
  Inside s (done end) = StepWithin s end
  Inside s (again next) = StepWithin s next

  join : (s x : S) (t : Turn S) (front back : List T) → Step s x front → After x t back → Part s t (front ++ back)
  join s x (done end) front back one a =
      subst (λ y. Step s y (front ++ back)) (sym a.0) (subst (Step s x) (sym (ap (λ l. front ++ l) a.1 ∙ append-nil front)) one)
  join s x (again next) front back one a = record { front = front; back = back; all = refl; begins = subst (λ y. Step s y front) (sym a.0) one; ends = a.1 }

  apart_part : (s : S) (t : Turn S) (ts : List T) → Part s t ts → (x : S) × ((Step s x ⋯ After x t) ts)
  apart_part s (done end) ts one = (end, record { front = ts; back = []; all = sym (append-nil ts); begins = one; ends = (refl, refl) })
  apart_part s (again next) ts one = (next, record { front = one.front; back = one.back; all = one.all; begins = one.begins; ends = (refl, one.ends) })

  follow : (x : S) (t : Turn S) (back rest : List T) → After x t back → Follow t rest → StepNext x (back ++ rest)
  follow x (done end) back rest a next = rw a.1 (between.before_end x rest next)
  follow x (again next) back rest a _ =
      let o = between.mark.back back a.1 in rw o.1 (between.before_separator x o.0 rest o.2)

  follows : (x : S) (t : Turn S) (back rest : List T) → After x t back → Follow t rest → AfterNext t rest
  follows x (done end) back rest a next = between.apart rest next
  follows x (again next) back rest a _ = tt

  within_part : (s x : S) (t : Turn S) (back : List T) → After x t back → StepWithin s x → Unit {0} → Inside s t
  within_part s x (done end) back a w _ = subst (StepWithin s) (sym a.0) w
  within_part s x (again next) back a w _ = subst (StepWithin s) (sym a.0) w

  step_within : (s x : S) (t : Turn S) (back : List T) → After x t back → Inside s t → StepWithin s x × Unit {0}
  step_within s x (done end) back a inside = (subst (StepWithin s) a.0 inside, tt)
  step_within s x (again next) back a inside = (subst (StepWithin s) a.0 inside, tt)

  part-rule : (s : S) → IsRule E Good (step s) (Step s) StepNext (StepWithin s) (Unfit s) → IsRule E Good (step s >>= separator_turn separates) (Part s) Follow (Inside s) (Unfit s)
  part-rule s one =
      then-rule Good (step s) (separator_turn separates) (Step s) StepNext (StepWithin s) (Unfit s)
      After (λ x. AfterNext) (λ x t. Unit {0}) (λ x. Never) (Part s) Follow (Inside s) (Unfit s)
      (record {
        join = join s;
        part = apart_part s;
        follow = follow;
        follows = follows;
        within = within_part s;
        apart = λ x t front back _ a inside. step_within s x t back a inside;
        first = λ ts d. d;
        last = λ x front back s d. absurd d;
        unfit = λ ts d. inl d;
        follow_unfit = λ x back rest d. absurd d;
      })
      one after-rule

  -- ---- a turn

  abbrev pub TurnOf : S → Turn S → Form T
  TurnOf s (done end) ts = Only s end ts ⊎ Step s end ts
  TurnOf s (again next) ts = (Step s next ⋯ Separator) ts

  of_only : (s : S) (t : Turn S) (ts : List T) → Only (done s) t ts → TurnOf s t ts
  of_only s (done end) ts o = inl (let is : done end ≡ done s = o.0 in cc, o.1)
  of_only s (again next) ts o = absurd (let is : again next ≡ done s = o.0 in cc)

  of_part : (s : S) (t : Turn S) (ts : List T) → Part s t ts → TurnOf s t ts
  of_part s (done end) ts p = inr p
  of_part s (again next) ts p = p

  which : (s : S) (t : Turn S) (ts : List T) → TurnOf s t ts → Only (done s) t ts ⊎ Part s t ts
  which s (done end) ts = ⊎_elim (λ o. inl (ap done o.0, o.1)) (λ p. inr p)
  which s (again next) ts = λ p. inr p

  begins : (s : S) (t : Turn S) (front rest : List T) → Only (done s) t front → Follow t rest → tells test last (front ++ rest) ≡ true
  begins s (done end) front rest o next = rw o.1 next
  begins s (again next) front rest o _ = absurd (let is : again next ≡ done s = o.0 in cc)

  part_begins : (s : S) (t : Turn S) (front rest : List T) → Part s t front → Follow t rest → tells test last (front ++ rest) ≡ false
  part_begins s (done end) front rest p next = between.starts s end front rest p
  part_begins s (again next) front rest b _ = rw (b.all, append_assoc b.front b.back rest) (between.starts s next b.front (b.back ++ rest) b.begins)

  no_part : (s : S) → IsStuck (step s) (Step s) (Unfit s) → (t : Turn S) (ts : List T) → Part s t ts → ⊥
  no_part s stuck (done end) ts p = stuck.none end ts p
  no_part s stuck (again next) ts p = stuck.none next p.front p.begins

  stuck-rule : (s : S) → IsStuck (step s) (Step s) (Unfit s) → IsRule E Good (steps_turn test last separates step s) (TurnOf s) Follow (Inside s) (Unfit s)
  unfolding steps_turn
  stuck-rule s stuck =
      same-rule Good (choose test last (pure (done s)) (step s >>= separator_turn separates)) (Only (done s)) Follow (Inside s) Never
      (TurnOf s) Follow (Inside s) (Unfit s)
      (record {
        there = of_only s;
        back = λ t ts one. ⊎_elim (λ o. o) (λ p. absurd (no_part s stuck t ts p)) (which s t ts one);
        follow = λ t rest next. next;
        within = λ t w. w;
        apart = λ t w. w;
        first = λ ts d. absurd d;
        unfit = λ ts d. stuck.none_unfit ts d;
      })
      (stop-rule Good test last (pure (done s)) (step s >>= separator_turn separates) (Only (done s)) (λ _. Anything) Follow (Inside s) Never
      (λ ts. ap (λ o. and_then o (separator_turn separates)) (stuck.refuses ts))
      (λ t front rest o next. tt) (begins s) (λ front rest d. absurd d)
      (pure-rule Good (Inside s) (done s) (between.idle s)))

  go-rule : (s : S) → IsRule E Good (step s) (Step s) StepNext (StepWithin s) (Unfit s) → IsRule E Good (steps_turn test last separates step s) (TurnOf s) Follow (Inside s) (Unfit s)
  unfolding steps_turn
  go-rule s one =
      choose-rule Good test last (pure (done s)) (step s >>= separator_turn separates) (Only (done s)) (λ _. Anything) Never
      (Part s) Follow (Unfit s) (TurnOf s) Follow (Inside s) (Unfit s)
      (record {
        one = of_only s;
        other = of_part s;
        which = which s;
        one_next = λ t front rest o next. tt;
        other_next = λ t front rest o next. next;
        one_begins = begins s;
        other_begins = part_begins s;
        one_unfit = λ ts d. absurd d;
        other_unfit = λ ts d. d;
        which_unfit = λ ts d. inr d;
        one_unfit_begins = λ front rest d. absurd d;
        other_unfit_begins = between.starts_unfit s;
      })
      (pure-rule Good (Inside s) (done s) (between.idle s))
      (part-rule s one)

  turn-rule : (s : S) → IsRule E Good (steps_turn test last separates step s) (TurnOf s) Follow (Inside s) (Unfit s)
  turn-rule s = ⊎_elim (go-rule s) (stuck-rule s) (rule s)

  -- ---- the loop

  again_filled : (s next : S) (front : List T) → TurnOf s (again next) front → 0 < length front
  again_filled s next front b =
      let some = between.filled s next b.front b.begins in
      let whole = ap length b.all ∙ length-append b.front b.back in
      omega arith

  kept_done : (s end : S) (front : List T) → TurnOf s (done end) front → Inside s (done end) → Within s → Within end
  kept_done s end front one inside w =
      ⊎_elim
      (λ o. subst Within (sym o.0) w)
      (λ p. between.within s end front p inside w)
      one

  apart_done : (s end : S) (front : List T) → TurnOf s (done end) front → Within end → Inside s (done end) × Within s
  apart_done s end front one w =
      ⊎_elim
      (λ o. (subst (StepWithin s) (sym o.0) (between.idle s), subst Within o.0 w))
      (λ p. between.unwithin s end front p w)
      one

  turns : Turns Good (steps_turn test last separates step) TurnOf (λ _. Follow) Inside Unfit (λ _ rest. tells test last rest ≡ true) Within
  turns = record {
    rule = turn-rule;
    filled = again_filled;
    closes = λ s. record { value = s; more = []; good = All-nil Good; spelled = (1, inl (inl (refl, refl))) };
    ends = λ s end front rest one next. next;
    goes = λ s next end front back rest one more stop. tt;
    goes_unfit = λ s next front back rest one more. tt;
    within_again = λ s next front one inside w. between.within s next one.front one.begins inside w;
    within_done = kept_done;
    apart_again = λ s next front one w. between.unwithin s next one.front one.begins w;
    apart_done = apart_done;
  }

  -- steps with separators up to where the test holds
  pub steps-rule : (s : S) → Within s → IsRule E Good (steps test last separates step s) (Loop TurnOf s) (λ _ rest. tells test last rest ≡ true) Within (LoopTo TurnOf Unfit s)
  unfolding steps
  steps-rule s within =
      loop-rule Good (steps_turn test last separates step) TurnOf (λ _. Follow) Inside Unfit (λ _ rest. tells test last rest ≡ true) Within turns s within
