-- Items with separators are a rule.
use Rattle.std.proofs.Common.{◌≡◌, ℕ, zero, suc, inl, inr, ⊎_elim, Bool, true, false, List, [], ◌∷◌, ◌++◌, length, refl, sym, ap, ◌∙◌, subst, arith, append_assoc}
use Rattle.std.proofs.lemmas.List.{append-nil, length-append}
use Rattle.tydi_reading.specs.Forms.{Form, ◌⋯◌, Runs, Loop, LoopTo}
use Rattle.tydi_reading.specs.Lists.{EachIs, Separated, SeparatedTo, LastSeparator, steps, separated}
use Rattle.tydi_reading.specs.Reading.{Reader, Turn, tells, ◌<$>◌}
use Rattle.tydi_reading.specs.Rules.{IsRule}
use Rattle.tydi_reading.proofs.MarkLemmas.{IsMark}
use Rattle.tydi_reading.proofs.RepeatedRule.{Adds, AddsOne, Repeats, adds_unfit, runs_unfit, last-same, EachIs-push, EachIs-pop}
use Rattle.tydi_reading.proofs.StepsRule.{Separates, TurnOf, steps-rule}
use Rattle.tydi_reading.proofs.StepRules.{map-rule, same-rule}

-- items of the rule may stand with such separators between them up to where the test holds
pub record Between {T A : Type 0} (Good : T → Type 0) (test : T → Bool) (last : Bool) (separates : T → Bool) (Separator : Form T) (Item : A → Form T) (ItemNext : Form T) (Unfit : Form T) : Type 0 where
  pub mark : IsMark Good separates Separator
  pub repeats : Repeats test last Item Unfit
  pub before_end : (rest : List T) → tells test last rest ≡ true → ItemNext rest
  pub before_separator : (t : T) (rest : List T) → separates t ≡ true → ItemNext (t ∷ rest)
  pub apart : (rest : List T) → tells test last rest ≡ true → tells separates false rest ≡ false

module _ {E T A : Type 0} (Good : T → Type 0) (test : T → Bool) (last : Bool) (separates : T → Bool) (Separator : Form T) (item : Reader E T A) (Item : A → Form T) (ItemNext : Form T)
    (Within : A → Type 0) (Unfit : Form T) (between : Between Good test last separates Separator Item ItemNext Unfit) (rule : IsRule E Good item Item (λ _. ItemNext) Within Unfit) where
  abbrev Push : List A → List A → Form T
  Push found next ts = (x : A) × (next ≡ found ++ x ∷ []) × Item x ts

  abbrev PushWithin : List A → List A → Type 0
  PushWithin found next = (x : A) → next ≡ found ++ x ∷ [] → Within x

  push-rule : (found : List A) → IsRule E Good ((λ x. found ++ x ∷ []) <$> item) (Push found) (λ _. ItemNext) (PushWithin found) Unfit
  push-rule found =
      map-rule Good (λ x. found ++ x ∷ []) item Item (λ _. ItemNext) Within Unfit (Push found) (λ _. ItemNext) (PushWithin found) Unfit
      (record {
        there = λ x ts s. (x, refl, s);
        back = λ t ts s. s;
        follow = λ x rest next. next;
        within = λ x w. λ y is. subst Within (last-same found x y is) w;
        apart = λ x w. w x refl;
        first = λ ts d. d;
        unfit = λ ts d. d;
      })
      rule

  shorter : (found : List A) (x : A) → found ≡ found ++ x ∷ [] → ⊥
  shorter found x is = let lengths = ap length is in let sum = length-append found (x ∷ []) in omega arith

  popped : (found next : List A) (front : List T) → Push found next front → EachIs Within next → PushWithin found next × EachIs Within found
  popped found next front p each =
      let both = EachIs-pop Within found p.0 (subst (EachIs Within) p.1 each) in
      ((λ y same. subst Within (last-same found p.0 y (sym p.1 ∙ same)) both.1), both.0)

  separates-items : Separates Good test last separates Separator Push (λ _. ItemNext) PushWithin (λ _. Unfit) (EachIs Within)
  separates-items = record {
    mark = between.mark;
    filled = λ found next front p. between.repeats.filled p.0 front p.2;
    starts = λ found next front rest p. between.repeats.starts p.0 front rest p.2;
    starts_unfit = λ found front rest d. between.repeats.starts_unfit front rest d;
    before_end = λ next rest stop. between.before_end rest stop;
    before_separator = λ next t rest is. between.before_separator t rest is;
    apart = between.apart;
    idle = λ found x is. absurd (shorter found x is);
    within = λ found next front p inside each. subst (EachIs Within) (sym p.1) (EachIs-push Within found p.0 each (inside p.0 p.1));
    unwithin = popped;
  }

  abbrev Turning : List A → Turn (List A) → Form T
  Turning = TurnOf Good test last separates Separator (λ found. (λ x. found ++ x ∷ []) <$> item) Push (λ _. ItemNext) PushWithin (λ _. Unfit) (EachIs Within) separates-items (λ found. inl (push-rule found))

  -- ---- the list

  more_apart : (x : A) (items : List A) (front comma back ts : List T) → ts ≡ front ++ (comma ++ back) → Item x front → Separator comma
      → Separated Separator Item items back → Separated Separator Item (x ∷ items) ts
  more_apart x [] front comma back ts is s m none =
      record { front = front; back = comma ++ back; all = is; begins = s; ends = inr (subst (Separator) (sym (ap (λ l. comma ++ l) none ∙ append-nil comma)) m) }
  more_apart x (next ∷ items) front comma back ts is s m others =
      record { front = front; back = comma ++ back; all = is; begins = s; ends = record { front = comma; back = back; all = refl; begins = m; ends = others } }

  adds : (n : ℕ) (found end : List A) (ts : List T) → Runs Turning n found end ts → Adds (Separated Separator Item) found end ts
  adds zero found end ts walk = absurd walk
  adds (suc n) found end ts walk =
      ⊎_elim
      (λ stop. ⊎_elim
      (λ s. record { items = []; added = s.0 ∙ sym (append-nil found); spelled = s.1 })
      (λ s. record {
        items = s.0 ∷ [];
        added = s.1;
        spelled = record { front = ts; back = []; all = sym (append-nil ts); begins = s.2; ends = inl refl };
      })
      stop)
      (λ more.
      let b = more.1 in
      let m = b.begins in
      let x = m.begins.0 in
      let others = adds n more.0 end b.back b.ends in
      record {
        items = x ∷ others.items;
        added = others.added ∙ ap (λ l. l ++ others.items) m.begins.1 ∙ append_assoc found (x ∷ []) others.items;
        spelled = more_apart x others.items m.front m.back b.back ts (b.all ∙ ap (λ l. l ++ b.back) m.all ∙ append_assoc m.front m.back b.back) m.begins.2 m.ends others.spelled;
      })
      walk

  one_more : (found items : List A) (x : A) (front comma back ts : List T) → ts ≡ front ++ (comma ++ back) → Item x front → Separator comma
      → Loop Turning (found ++ x ∷ []) ((found ++ x ∷ []) ++ items) back → Loop Turning found (found ++ x ∷ items) ts
  one_more found items x front comma back ts is s m more =
      subst (λ end. Loop Turning found end ts) (append_assoc found (x ∷ []) items) (
        suc more.0,
        inr (
          found ++ x ∷ [],
          record {
            front = front ++ comma;
            back = back;
            all = is ∙ sym (append_assoc front comma back);
            begins = record { front = front; back = comma; all = refl; begins = (x, refl, s); ends = m };
            ends = more.1;
          },
        ),
      )

  last_one : (found : List A) (x : A) (front back ts : List T) → ts ≡ front ++ back → Item x front → LastSeparator Separator back → Loop Turning found (found ++ x ∷ []) ts
  last_one found x front back ts is s =
      ⊎_elim
      (λ none. (1, inl (inr (x, refl, subst (Item x) (sym (is ∙ ap (λ l. front ++ l) none ∙ append-nil front)) s))))
      (λ m. one_more found [] x front back [] ts (is ∙ ap (λ l. front ++ l) (sym (append-nil back))) s m
      (1, inl (inl (append-nil (found ++ x ∷ []), refl))))

  runs : (items found : List A) (ts : List T) → Separated Separator Item items ts → Loop Turning found (found ++ items) ts
  runs [] found ts s = (1, inl (inl (append-nil found, s)))
  runs (x ∷ []) found ts s = last_one found x s.front s.back ts s.all s.begins s.ends
  runs (x ∷ next ∷ items) found ts s =
      let o = s.ends in
      one_more found (next ∷ items) x s.front o.front o.back ts (s.all ∙ ap (λ l. s.front ++ l) o.all) s.begins o.begins
      (runs (next ∷ items) (found ++ x ∷ []) o.back o.ends)

  adds_one : AddsOne Turning (λ x. Item x ⋯ Separator)
  adds_one = record {
    item = λ found next ts m. (m.begins.0, m.begins.1, record { front = m.front; back = m.back; all = m.all; begins = m.begins.2; ends = m.ends });
    turn = λ found x ts m. record { front = m.front; back = m.back; all = m.all; begins = (x, refl, m.begins); ends = m.ends };
  }

  -- items with separators up to where the test holds
  pub separated-rule : IsRule E Good (separated test last separates item) (Separated Separator Item) (λ _ rest. tells test last rest ≡ true) (EachIs Within) (SeparatedTo Separator Item Unfit)
  unfolding separated
  separated-rule =
      same-rule Good (steps test last separates (λ found. (λ x. found ++ x ∷ []) <$> item) []) (Loop Turning []) (λ _ rest. tells test last rest ≡ true) (EachIs Within)
      (LoopTo Turning (λ _. Unfit) []) (Separated Separator Item) (λ _ rest. tells test last rest ≡ true) (EachIs Within) (SeparatedTo Separator Item Unfit)
      (record {
        there = λ items ts s. let a = adds s.0 [] items ts s.1 in subst (λ l. Separated Separator Item l ts) (sym a.added) a.spelled;
        back = λ items ts s. runs items [] ts s;
        follow = λ items rest next. next;
        within = λ items each. each;
        apart = λ items each. each;
        first = λ ts d. adds_unfit adds_one d.0 [] ts d.1;
        unfit = λ ts d. runs_unfit adds_one d.0 [] d.1.front d.1.back ts d.1.all d.1.begins d.1.ends;
      })
      (steps-rule Good test last separates Separator (λ found. (λ x. found ++ x ∷ []) <$> item) Push (λ _. ItemNext) PushWithin (λ _. Unfit) (EachIs Within) separates-items (λ found. inl (push-rule found)) [] tt)
