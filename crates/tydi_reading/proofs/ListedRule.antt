-- Items with a separator between each two, and none after the last, are a rule.
use Rattle.std.proofs.Common.{◌≡◌, ◌⊎◌, inl, inr, Bool, true, false, List, [], ◌∷◌, ◌++◌, refl, sym, ap, ◌∙◌, subst, append_assoc}
use Rattle.std.specs.Prelude.{not}
use Rattle.tydi_reading.specs.Forms.{Form, Never, Anything}
use Rattle.tydi_reading.specs.Lists.{Joined, Listed, joined, listed}
use Rattle.tydi_reading.specs.Reading.{Reader, tells, pure}
use Rattle.tydi_reading.specs.Rules.{IsRule}
use Rattle.tydi_reading.proofs.ChoiceRules.{choose-rule}
use Rattle.tydi_reading.proofs.JoinedRule.{joined-rule}
use Rattle.tydi_reading.proofs.MarkLemmas.{IsMark}
use Rattle.tydi_reading.proofs.StepRules.{Only, pure-rule}

-- items of the rule may stand with such separators between them up to where the test holds
pub record Lists {T A : Type 0} (Good : T → Type 0) (test : T → Bool) (last : Bool) (separates : T → Bool) (Separator : Form T) (Item : A → Form T) : Type 0 where
  pub mark : IsMark Good separates Separator
  pub starts : (x : A) (front rest : List T) → Item x front → tells test last (front ++ rest) ≡ false
  pub apart : (rest : List T) → tells test last rest ≡ true → tells (λ t. not (separates t)) true rest ≡ true

module _ {E T A : Type 0} (Good : T → Type 0) (test : T → Bool) (last : Bool) (separates : T → Bool) (Separator : Form T) (item : Reader E T A) (Item : A → Form T)
    (lists : Lists Good test last separates Separator Item) (rule : IsRule E Good item Item (λ _. Anything) (λ _. Unit {0}) Never) where
  of_none : (items : List A) (ts : List T) → Only [] items ts → Listed Separator Item items ts
  of_none items ts s = subst (λ l. Listed Separator Item l ts) (sym s.0) s.1

  of_joined : (items : List A) (ts : List T) → Joined Separator Item items ts → Listed Separator Item items ts
  of_joined [] ts s = absurd s
  of_joined (x ∷ items) ts s = s

  which : (items : List A) (ts : List T) → Listed Separator Item items ts → Only [] items ts ⊎ Joined Separator Item items ts
  which [] ts s = inl (refl, s)
  which (x ∷ items) ts s = inr s

  begins : (items : List A) (front rest : List T) → Joined Separator Item items front → tells test last (front ++ rest) ≡ false
  begins [] front rest s = absurd s
  begins (x ∷ []) front rest s = lists.starts x front rest s
  begins (x ∷ next ∷ items) front rest s =
      ap (λ l. tells test last (l ++ rest)) s.all ∙ ap (tells test last) (append_assoc s.front s.back rest) ∙ lists.starts x s.front (s.back ++ rest) s.begins

  -- items with separators between them up to where the test holds
  pub listed-rule : IsRule E Good (listed test last separates item) (Listed Separator Item) (λ _ rest. tells test last rest ≡ true) (λ _. Unit {0}) Never
  unfolding listed
  listed-rule =
      choose-rule Good test last (pure []) (joined separates item) (Only []) (λ _. Anything) Never
      (Joined Separator Item) (λ _ rest. tells (λ t. not (separates t)) true rest ≡ true) Never
      (Listed Separator Item) (λ _ rest. tells test last rest ≡ true) (λ _. Unit {0}) Never
      (record {
        one = of_none;
        other = of_joined;
        which = which;
        one_next = λ items front rest s next. tt;
        other_next = λ items front rest s next. lists.apart rest next;
        one_begins = λ items front rest s next. rw s.1 next;
        other_begins = λ items front rest s next. begins items front rest s;
        one_unfit = λ ts d. d;
        other_unfit = λ ts d. d;
        which_unfit = λ ts d. absurd d;
        one_unfit_begins = λ front rest d. absurd d;
        other_unfit_begins = λ front rest d. absurd d;
      })
      (pure-rule Good (λ _. Unit {0}) [] tt) (joined-rule Good separates Separator item Item lists.mark rule)
