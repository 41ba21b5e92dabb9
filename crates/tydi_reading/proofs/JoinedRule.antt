-- Items with a joint between each two are a rule.
use Rattle.std.proofs.Common.{◌≡◌, Bool, true, false, List, [], ◌∷◌, ◌++◌, length, refl, sym, ap, ◌∙◌, subst, arith, append_assoc}
use Rattle.std.specs.Prelude.{not}
use Rattle.std.proofs.lemmas.List.{append-nil, length-append}
use Rattle.tydi_reading.specs.Forms.{Form, ◌⋯◌, Never, Anything}
use Rattle.tydi_reading.specs.Lists.{Each, EachTo, EachIs, mark, Joined, repeated_turn, joined}
use Rattle.tydi_reading.specs.Reading.{Reader, tells, ◌>>◌, loop}
use Rattle.tydi_reading.specs.Rules.{IsRule}
use Rattle.tydi_reading.proofs.MarkLemmas.{IsMark, Mark-filled, mark-rule}
use Rattle.tydi_reading.proofs.MarkRules.{skip-rule}
use Rattle.tydi_reading.proofs.RepeatedRule.{Adds, Repeats, each_unit, repeated_from-rule}
use Rattle.tydi_reading.proofs.StepRules.{then-rule}

module _ {E T A : Type 0} (Good : T → Type 0) (joins : T → Bool) (Joint : Form T) (item : Reader E T A) (Item : A → Form T) (m : IsMark Good joins Joint)
    (rule : IsRule E Good item Item (λ _. Anything) (λ _. Unit {0}) Never) where
  -- a joint, and an item
  abbrev More : A → Form T
  More x = Joint ⋯ Item x

  begins : (front rest : List T) → Joint front → tells (λ t. not (joins t)) true (front ++ rest) ≡ false
  begins front rest s = let o = m.back front s in rw o.1 (ap not o.2)

  begins_more : (First Second : Form T) (front rest : List T) → ((ts : List T) → First ts → Joint ts) → (First ⋯ Second) front
      → tells (λ t. not (joins t)) true (front ++ rest) ≡ false
  begins_more First Second front rest marks b = rw (b.all, append_assoc b.front b.back rest) (begins b.front (b.back ++ rest) (marks b.front b.begins))

  repeats : Repeats (λ t. not (joins t)) true More (Joint ⋯ Never)
  repeats = record {
    filled = λ x front b.
        let some = Mark-filled Good joins Joint m b.front b.begins in
        let whole = ap length b.all ∙ length-append b.front b.back in
        omega arith;
    starts = λ x front rest b. begins_more (Joint) (Item x) front rest (λ ts s. s) b;
    starts_unfit = λ front rest b. absurd b.ends;
  }

  more-rule : IsRule E Good (mark joins >> item) More (λ _. Anything) (λ _. Unit {0}) (Joint ⋯ Never)
  more-rule = skip-rule Good (mark joins) item (Joint) Item (λ _. Anything) (λ _. Unit {0}) Never (mark-rule Good joins Joint m) rule

  joined-of : (items : List A) (x : A) (front back ts : List T) → ts ≡ front ++ back → Item x front → Each More items back → Joined Joint Item (x ∷ items) ts
  joined-of [] x front back ts split s none = subst (Item x) (sym (split ∙ ap (λ l. front ++ l) none ∙ append-nil front)) s
  joined-of (next ∷ items) x front back ts split s more =
      let j = more.begins in
      let flat = more.all ∙ ap (λ l. l ++ more.back) j.all ∙ append_assoc j.front j.back more.back in
      record {
        front = front;
        back = back;
        all = split;
        begins = s;
        ends = record { front = j.front; back = j.back ++ more.back; all = flat; begins = j.begins; ends = joined-of items next j.back more.back (j.back ++ more.back) refl j.ends more.ends };
      }

  more-of : (items : List A) (x : A) (ts : List T) → Joined Joint Item (x ∷ items) ts → (Item x ⋯ Each More items) ts
  more-of [] x ts s = record { front = ts; back = []; all = sym (append-nil ts); begins = s; ends = refl }
  more-of (next ∷ items) x ts s =
      let o = s.ends in
      let r = more-of items next o.back o.ends in
      record {
        front = s.front;
        back = s.back;
        all = s.all;
        begins = s.begins;
        ends = record {
          front = o.front ++ r.front;
          back = r.back;
          all = o.all ∙ ap (λ l. o.front ++ l) r.all ∙ sym (append_assoc o.front r.front r.back);
          begins = record { front = o.front; back = r.front; all = refl; begins = o.begins; ends = r.begins };
          ends = r.ends;
        };
      }

  of_list : (all : List A) (ts : List T) → Joined Joint Item all ts → (x : A) × ((Item x ⋯ Adds (Each More) (x ∷ []) all) ts)
  of_list [] ts s = absurd s
  of_list (x ∷ items) ts s =
      let b = more-of items x ts s in
      (x, record { front = b.front; back = b.back; all = b.all; begins = b.begins; ends = record { items = items; added = refl; spelled = b.ends } })

  no_unfit : (items : List A) (ts : List T) → (Each More items ⋯ Joint ⋯ Never) ts → ⊥
  no_unfit items ts b = b.ends.ends

  -- items with a joint between each two, up to where no joint stands
  pub joined-rule : IsRule E Good (joined joins item) (Joined Joint Item) (λ _ rest. tells (λ t. not (joins t)) true rest ≡ true) (λ _. Unit {0}) Never
  unfolding joined
  joined-rule =
      then-rule Good item (λ x. loop (repeated_turn (λ t. not (joins t)) true (mark joins >> item)) (x ∷ [])) Item (λ _. Anything) (λ _. Unit {0}) Never
      (λ x. Adds (Each More) (x ∷ [])) (λ _ _ rest. tells (λ t. not (joins t)) true rest ≡ true) (λ _. EachIs (λ _. Unit {0}))
      (λ _. EachTo More (Joint ⋯ Never))
      (Joined Joint Item) (λ _ rest. tells (λ t. not (joins t)) true rest ≡ true) (λ _. Unit {0}) Never
      (record {
        join = λ x all front back s a. subst (λ l. Joined Joint Item l (front ++ back)) (sym a.added) (joined-of a.items x front back (front ++ back) refl s a.spelled);
        part = of_list;
        follow = λ x all back rest a next. tt;
        follows = λ x all back rest a next. next;
        within = λ x all back a w v. tt;
        apart = λ x all front back _ a w. (tt, each_unit all);
        first = λ ts d. d;
        last = λ x front back s d. no_unfit d.0 back d.1;
        unfit = λ ts d. absurd d;
        follow_unfit = λ x back rest d. tt;
      })
      rule
      (λ x. repeated_from-rule Good (λ t. not (joins t)) true (mark joins >> item) More (λ _. Unit {0}) (Joint ⋯ Never) repeats more-rule (x ∷ []) (each_unit (x ∷ [])))
