-- An item with a given first thing is a rule, and so is a list of items of which each but the first begins so.
use Rattle.std.proofs.Common.{◌≡◌, ◌⊎◌, inl, inr, ◌<◌, Bool, true, false, List, [], ◌∷◌, ◌++◌, length, refl, sym, ap, ◌∙◌, subst, append_assoc, arith}
use Rattle.tydi_reading.specs.declared.fault.Fault.{Fault}
use Rattle.tydi_reading.specs.declared.fault.Fault.TheVariants as faults
use Rattle.tydi_reading.specs.Forms.{Form, ◌⋯◌, Never, Anything, GoesOn}
use Rattle.tydi_reading.specs.Lists.{Each, EachTo, EachIs, Beginning, Followed, repeated_turn, followed, followed_from}
use Rattle.tydi_reading.specs.Reading.{Outcome, took, stopped, Reader, tells, refuse, beginning, pure, loop}
use Rattle.tydi_reading.specs.Rules.{Local, Found, Finishes, IsRule}
use Rattle.tydi_reading.proofs.ChoiceRules.{chosen, choose-rule, local-choose}
use Rattle.tydi_reading.proofs.RepeatedRule.{Adds, Repeats, each_unit, repeated_from-rule}
use Rattle.tydi_reading.proofs.StepRules.{Only, pure-rule, then-rule}

-- a list that begins so does, whatever follows it
pub tells-front : {T : Type 0} (test : T → Bool) (front rest : List T) → tells test false front ≡ true → tells test false (front ++ rest) ≡ true
tells-front test [] rest is = absurd cc
tells-front test (t ∷ front) rest is = is

module _ {E T A : Type 0} (Good : T → Type 0) (lead : T → Bool) (item : Reader E T A) (Item : A → Form T) (example : GoesOn Good (Beginning lead Item) [])
    (filled : (x : A) (front : List T) → Item x front → 0 < length front) (rule : IsRule E Good item Item (λ _. Anything) (λ _. Unit {0}) Never) where
  goes : (ts front rest : List T) → ts ≡ front ++ rest → tells lead false ts ≡ true → GoesOn Good Item front → GoesOn Good (Beginning lead Item) front
  goes ts [] rest split is g = example
  goes ts (t ∷ front) rest split is g =
      record { value = g.value; more = g.more; good = g.good; spelled = (g.spelled, ap (tells lead false) (sym split) ∙ is) }

  begun : (ts front rest : List T) → ts ≡ front ++ rest → tells lead false ts ≡ true → 0 < length front → tells lead false front ≡ true
  begun ts [] rest split is some = absurd (omega arith)
  begun ts (t ∷ front) rest split is some = ap (tells lead false) (sym split) ∙ is

  local : (ts : List T) (b : Bool) → tells lead false ts ≡ b → Local (beginning lead item) ts (beginning lead item ts)
  local ts true is = local-choose lead false item refuse ts true is (rule.local ts)
  local ts false is = local-choose lead false item refuse ts false is (record { front = []; split = refl; stays = λ next after more same. refl })

  sound : (ts rest : List T) (x : A) (b : Bool) → tells lead false ts ≡ b → beginning lead item ts ≡ took x rest → Found (Beginning lead Item) (λ _. Unit {0}) ts rest x
  sound ts rest x true is read =
      let f = rule.sound ts rest x (sym (chosen lead false item refuse ts true is) ∙ read) in
      record { front = f.front; split = f.split; spelled = (f.spelled, begun ts f.front rest f.split is (filled x f.front f.spelled)); within = tt }
  sound ts rest x false is read = absurd (let no : ◌≡◌ {A = Outcome E T A} (stopped faults.Refused ts) (took x rest) = sym (chosen lead false item refuse ts false is) ∙ read in cc)

  cut : (ts rest : List T) (e : Fault E) → ◌≡◌ {A = Outcome E T A} (stopped faults.Refused ts) (stopped e rest) → Finishes Good (Beginning lead Item) Never ts rest e
  cut ts rest e is =
      let same : faults.Refused ≡ e = cc in
      let place : ts ≡ rest = cc in
      subst (Finishes Good (Beginning lead Item) Never ts rest) same (record { front = []; split = place; goes = example })

  of_item : (ts rest : List T) (e : Fault E) → tells lead false ts ≡ true → Finishes Good Item Never ts rest e → Finishes Good (Beginning lead Item) Never ts rest e
  of_item ts rest faults.Refused is c = record { front = c.front; split = c.split; goes = goes ts c.front rest c.split is c.goes }
  of_item ts rest (faults.Unfit why) is c = absurd c.unfit
  of_item ts rest faults.Memory is c = c

  finishes : (ts rest : List T) (e : Fault E) (b : Bool) → tells lead false ts ≡ b → beginning lead item ts ≡ stopped e rest → Finishes Good (Beginning lead Item) Never ts rest e
  finishes ts rest e true is read = of_item ts rest e is (rule.finishes ts rest e (sym (chosen lead false item refuse ts true is) ∙ read))
  finishes ts rest e false is read = cut ts rest e (sym (chosen lead false item refuse ts false is) ∙ read)

  -- an item that begins so
  pub beginning-rule : IsRule E Good (beginning lead item) (Beginning lead Item) (λ _. Anything) (λ _. Unit {0}) Never
  beginning-rule = record {
    example = example;
    local = λ ts. local ts (tells lead false ts) refl;
    sound = λ ts rest x is. sound ts rest x (tells lead false ts) refl is;
    complete = λ front rest x good s next.
        rw (chosen lead false item refuse (front ++ rest) true (tells-front lead front rest s.1)) (rule.complete front rest x good s.0 tt);
    finishes = λ ts rest e is. finishes ts rest e (tells lead false ts) refl is;
    stops = λ front rest good d. absurd d;
  }

  -- ---- one after another

  module _ (test : T → Bool) (last : Bool) (starts : (x : A) (front rest : List T) → Item x front → tells test last (front ++ rest) ≡ false) where
    repeats : Repeats test last (Beginning lead Item) Never
    repeats = record {
      filled = λ x front s. filled x front s.0;
      starts = λ x front rest s. starts x front rest s.0;
      starts_unfit = λ front rest d. absurd d;
    }

    more-rule : (x : A) → IsRule E Good (loop (repeated_turn test last (beginning lead item)) (x ∷ [])) (Adds (Each (Beginning lead Item)) (x ∷ []))
        (λ _ rest. tells test last rest ≡ true) (EachIs (λ _. Unit {0})) (EachTo (Beginning lead Item) Never)
    more-rule x = repeated_from-rule Good test last (beginning lead item) (Beginning lead Item) (λ _. Unit {0}) Never repeats beginning-rule (x ∷ []) (each_unit (x ∷ []))

    abbrev Some : List A → Form T
    Some all ts = (x : A) × ((Item x ⋯ Adds (Each (Beginning lead Item)) (x ∷ []) all) ts)

    some-rule : IsRule E Good (followed_from test last lead item) Some (λ _ rest. tells test last rest ≡ true) (λ _. Unit {0}) Never
    some-rule =
        then-rule Good item (λ x. loop (repeated_turn test last (beginning lead item)) (x ∷ [])) Item (λ _. Anything) (λ _. Unit {0}) Never
        (λ x. Adds (Each (Beginning lead Item)) (x ∷ [])) (λ _ _ rest. tells test last rest ≡ true) (λ _. EachIs (λ _. Unit {0}))
        (λ _. EachTo (Beginning lead Item) Never) Some (λ _ rest. tells test last rest ≡ true) (λ _. Unit {0}) Never
        (record {
          join = λ x all front back s a. (x, record { front = front; back = back; all = refl; begins = s; ends = a });
          part = λ all ts s. s;
          follow = λ x all back rest a next. tt;
          follows = λ x all back rest a next. next;
          within = λ x all back a w v. tt;
          apart = λ x all front back _ a w. (tt, each_unit all);
          first = λ ts d. d;
          last = λ x front back s d. d.1.ends;
          unfit = λ ts d. absurd d;
          follow_unfit = λ x back rest d. tt;
        })
        rule more-rule

    to_followed : (all : List A) (ts : List T) → Some all ts → Followed lead Item all ts
    to_followed all ts s =
        let a = s.1.ends in
        subst (λ l. Followed lead Item l ts) (sym a.added) (record { front = s.1.front; back = s.1.back; all = s.1.all; begins = s.1.begins; ends = a.spelled })

    of_none : (all : List A) (ts : List T) → Only [] all ts → Followed lead Item all ts
    of_none all ts s = subst (λ l. Followed lead Item l ts) (sym s.0) s.1

    which : (all : List A) (ts : List T) → Followed lead Item all ts → Only [] all ts ⊎ Some all ts
    which [] ts s = inl (refl, s)
    which (x ∷ items) ts s =
        inr (x, record { front = s.front; back = s.back; all = s.all; begins = s.begins; ends = record { items = items; added = refl; spelled = s.ends } })

    some_begins : (all : List A) (front rest : List T) → Some all front → tells test last (front ++ rest) ≡ false
    some_begins all front rest s = starts_front (s.1.front) (s.1.back) front rest s.1.all (starts s.0 s.1.front (s.1.back ++ rest) s.1.begins)
      where
        starts_front : (one two front rest : List T) → front ≡ one ++ two → tells test last (one ++ (two ++ rest)) ≡ false → tells test last (front ++ rest) ≡ false
        starts_front one two front rest split is = ap (λ l. tells test last (l ++ rest)) split ∙ ap (tells test last) (append_assoc one two rest) ∙ is

    -- items one after another up to where the test holds, each but the first beginning so
    pub followed-rule : IsRule E Good (followed test last lead item) (Followed lead Item) (λ _ rest. tells test last rest ≡ true) (λ _. Unit {0}) Never
    unfolding followed
    followed-rule =
        choose-rule Good test last (pure []) (followed_from test last lead item) (Only []) (λ _. Anything) Never Some (λ _ rest. tells test last rest ≡ true) Never
        (Followed lead Item) (λ _ rest. tells test last rest ≡ true) (λ _. Unit {0}) Never
        (record {
          one = of_none;
          other = to_followed;
          which = which;
          one_next = λ all front rest s next. tt;
          other_next = λ all front rest s next. next;
          one_begins = λ all front rest s next. rw s.1 next;
          other_begins = λ all front rest s next. some_begins all front rest s;
          one_unfit = λ ts d. d;
          other_unfit = λ ts d. d;
          which_unfit = λ ts d. absurd d;
          one_unfit_begins = λ front rest d. absurd d;
          other_unfit_begins = λ front rest d. absurd d;
        })
        (pure-rule Good (λ _. Unit {0}) [] tt) some-rule
