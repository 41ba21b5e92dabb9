-- A next thing with a meaning leads on by it, or another rule follows, in which nothing can stand unfit.
use Rattle.std.proofs.Common.{◌≡◌, ◌⊎◌, inl, inr, Bool, true, false, List, [], ◌∷◌, ◌++◌, Option, Some, None, refl, sym, ap, ◌∙◌, append_assoc}
use Rattle.std.specs.Option.{is_some}
use Rattle.tydi_reading.specs.Forms.{Form, ◌⋯◌, Never, Anything}
use Rattle.tydi_reading.specs.Reading.{Reader, ◌>>=◌, and_then, meant, leaf, choose, tells, led_by, led}
use Rattle.tydi_reading.specs.Rules.{IsRule}
use Rattle.tydi_reading.proofs.ChoiceRules.{chosen, choose-rule}
use Rattle.tydi_reading.proofs.StepRules.{Chained, ChainedTo, chain-rule, read-rule}

module _ {E T K A : Type 0} (Good : T → Type 0) (meaning : T → Option K) (p : K → Reader E T A) (q : Reader E T A) where
  abbrev is_told : T → Bool
  is_told t = is_some (meaning t)

  of_meaning : (t : T) (ts : List T) (o : Option K) → meaning t ≡ o → choose is_told false (leaf meaning >>= p) q (t ∷ ts) ≡ led meaning p q (t ∷ ts)
  of_meaning t ts (Some k) is =
      chosen is_told false (leaf meaning >>= p) q (t ∷ ts) true (ap is_some is)
      ∙ ap (λ (m : Option K). and_then (meant m ts (t ∷ ts)) p) is ∙ sym (ap (λ (m : Option K). led_by m p q (t ∷ ts)) is)
  of_meaning t ts None is =
      chosen is_told false (leaf meaning >>= p) q (t ∷ ts) false (ap is_some is) ∙ sym (ap (λ (m : Option K). led_by m p q (t ∷ ts)) is)

  led-same : (ts : List T) → choose is_told false (leaf meaning >>= p) q ts ≡ led meaning p q ts
  led-same [] = refl
  led-same (t ∷ ts) = of_meaning t ts (meaning t) refl

  module _ (Lead : K → Form T) (After : K → A → Form T) (Other Next : A → Form T) (Within : A → Type 0) (To : K → Form T)
      (there : (k : K) (ts : List T) → Lead k ts → (t : T) × (ts ≡ t ∷ []) × (meaning t ≡ Some k))
      (apart : (x : A) (front rest : List T) → Other x front → tells is_told false (front ++ rest) ≡ false) where
    -- a leading thing, and what its meaning asks for
    abbrev pub Led : A → Form T
    Led = Chained Lead After

    abbrev pub LedTo : Form T
    LedTo = ChainedTo Lead After To

    leads : (k : K) (ts rest : List T) → Lead k ts → tells is_told false (ts ++ rest) ≡ true
    leads k ts rest s = let o = there k ts s in rw o.1 (ap is_some o.2)

    leads_on : (k : K) (Second : Form T) (front rest : List T) → (Lead k ⋯ Second) front → tells is_told false (front ++ rest) ≡ true
    leads_on k Second front rest b = rw (b.all, append_assoc b.front b.back rest) (leads k b.front (b.back ++ rest) b.begins)

    pub led-rule : IsRule E Good (leaf meaning) Lead (λ _. Anything) (λ _. Unit {0}) Never → ((k : K) → IsRule E Good (p k) (After k) Next Within (To k))
        → IsRule E Good q Other Next Within Never → IsRule E Good (led meaning p q) (λ x ts. Led x ts ⊎ Other x ts) Next Within LedTo
    led-rule first after other =
        read-rule Good (choose is_told false (leaf meaning >>= p) q) (led meaning p q) (λ x ts. Led x ts ⊎ Other x ts) Next Within LedTo led-same
        (choose-rule Good is_told false (leaf meaning >>= p) q Led Next LedTo Other Next Never (λ x ts. Led x ts ⊎ Other x ts) Next Within LedTo
        (record {
          one = λ x ts s. inl s;
          other = λ x ts s. inr s;
          which = λ x ts s. s;
          one_next = λ x front rest s next. next;
          other_next = λ x front rest s next. next;
          one_begins = λ x front rest s next. leads_on s.0 (After s.0 x) front rest s.1;
          other_begins = λ x front rest s next. apart x front rest s;
          one_unfit = λ ts d. d;
          other_unfit = λ ts d. absurd d;
          which_unfit = λ ts d. inl d;
          one_unfit_begins = λ front rest d. leads_on d.0 (To d.0) front rest d.1;
          other_unfit_begins = λ front rest d. absurd d;
        })
        (chain-rule Lead After Good (leaf meaning) p (λ _. Anything) Next Within To (λ k x back rest s next. tt) (λ k back rest d. tt) first after)
        other)
