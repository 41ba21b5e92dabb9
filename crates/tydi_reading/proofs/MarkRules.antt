-- Rules before and after a mark.
use Rattle.std.proofs.Common.{◌≡◌, inl, inr, List, ◌++◌, refl, sym, subst}
use Rattle.tydi_reading.specs.Forms.{Form, ◌⋯◌, Never, Anything}
use Rattle.tydi_reading.specs.Reading.{Reader, ◌>>◌, ◌<<◌, ◌<$>◌}
use Rattle.tydi_reading.specs.Rules.{IsRule}
use Rattle.tydi_reading.proofs.StepRules.{then-rule, map-rule}

-- a mark, and then the rule
pub skip-rule : {E T A : Type 0} (Good : T → Type 0) (p : Reader E T (Unit {0})) (q : Reader E T A) (One : Form T)
    (Other : A → Form T) (Next : A → Form T) (Within : A → Type 0) (Unfit : Form T)
    → IsRule E Good p (λ _. One) (λ _. Anything) (λ _. Unit {0}) Never → IsRule E Good q Other Next Within Unfit
    → IsRule E Good (p >> q) (λ x. One ⋯ Other x) Next Within (One ⋯ Unfit)
skip-rule Good p q One Other Next Within Unfit a b =
    then-rule Good p (λ _. q) (λ _. One) (λ _. Anything) (λ _. Unit {0}) Never (λ _. Other) (λ _. Next) (λ _. Within) (λ _. Unfit)
    (λ x. One ⋯ Other x) Next Within (One ⋯ Unfit)
    (record {
      join = λ u x front back s o. record { front = front; back = back; all = refl; begins = s; ends = o };
      part = λ x ts s. (tt, s);
      follow = λ u x back rest o next. tt;
      follows = λ u x back rest o next. next;
      within = λ u x back o w v. v;
      apart = λ u x front back _ o all. (tt, all);
      first = λ ts d. absurd d;
      last = λ u front back s d. record { front = front; back = back; all = refl; begins = s; ends = d };
      unfit = λ ts d. inr (tt, d);
      follow_unfit = λ u back rest d. tt;
    })
    a (λ _. b)

-- the rule, and then a mark
pub close-rule : {E T A : Type 0} (Good : T → Type 0) (p : Reader E T A) (q : Reader E T (Unit {0})) (One : A → Form T) (OneNext : A → Form T) (Within : A → Type 0) (Unfit : Form T)
    (Other : Form T) → ((x : A) (back rest : List T) → Other back → OneNext x (back ++ rest))
    → IsRule E Good p One OneNext Within Unfit → IsRule E Good q (λ _. Other) (λ _. Anything) (λ _. Unit {0}) Never
    → IsRule E Good (p << q) (λ x. One x ⋯ Other) (λ _. Anything) Within Unfit
close-rule {E} {T} {A} Good p q One OneNext Within Unfit Other follow a b =
    then-rule Good p (λ x. (λ _. x) <$> q) One OneNext Within Unfit Second (λ _ _. Anything) (λ _ _. Unit {0}) (λ _. Never)
    (λ x. One x ⋯ Other) (λ _. Anything) Within Unfit
    (record {
      join = λ x y front back s o. record { front = front; back = back; all = refl; begins = subst (λ z. One z front) o.0 s; ends = o.1 };
      part = λ y ts s. (y, record { front = s.front; back = s.back; all = s.all; begins = s.begins; ends = (refl, s.ends) });
      follow = λ x y back rest o next. follow x back rest o.1;
      follows = λ x y back rest o next. tt;
      within = λ x y back o w v. subst Within o.0 w;
      apart = λ x y front back _ o all. (subst Within (sym o.0) all, tt);
      first = λ ts d. d;
      last = λ x front back s d. absurd d;
      unfit = λ ts d. inl d;
      follow_unfit = λ x back rest d. absurd d;
    })
    a (λ x. map-rule Good (λ _. x) q (λ _. Other) (λ _. Anything) (λ _. Unit {0}) Never (Second x) (λ _. Anything) (λ _. Unit {0}) Never
    (record {
      there = λ u ts s. (refl, s);
      back = λ y ts s. (tt, sym s.0, s.1);
      follow = λ u rest next. tt;
      within = λ u w. tt;
      apart = λ u w. tt;
      first = λ ts d. d;
      unfit = λ ts d. d;
    }) b)
  where
    Second : A → A → Form T
    Second x y ts = (x ≡ y) × Other ts
