-- A line of words, read by rules that are made of rules: a word, and numbers after it, one space between each two, as `gaps 1 2 3`. Nothing
-- cites it.
use Rattle.std.proofs.Common.{◌≡◌, ℕ, ◌+◌, Bool, true, false, List, [], ◌∷◌, All, length, refl, ap, arith, codes, bytes_eq}
use Rattle.std.proofs.lemmas.Slice.Eq.{bytes_eq-Decides}
use Rattle.tydi_base.specs.Decimal.{decimal_of}
use Rattle.tydi_base.specs.Pieces.{words_of}
use Rattle.tydi_reading.specs.declared.fault.Fault.TheVariants as faults
use Rattle.tydi_reading.specs.Faults.{IsRefusedAt}
use Rattle.tydi_reading.specs.Forms.{Form, ◌⋯◌, One, Never, Anything}
use Rattle.tydi_reading.specs.Lists.{Each, EachIs, EachTo, mark, repeated}
use Rattle.tydi_reading.specs.Reading.{Reader, stopped, leaf, tells, ◌>>◌}
use Rattle.tydi_reading.specs.Rules.{IsRule}
use Rattle.tydi_reading.proofs.ExactLemmas.{refused-exact}
use Rattle.tydi_reading.proofs.MarkLemmas.{IsMark}
use Rattle.tydi_reading.proofs.RepeatedRule.{Repeats, repeated-rule}
use Rattle.tydi_reading.proofs.Rule.{Mark, as_rule, skip}
use Rattle.tydi_reading.proofs.StepRules.{leaf-rule}

-- a word
abbrev Word : Type 0
Word = List ℕ

abbrev Good : Word → Type 0
Good w = Unit {0}

-- ---- the form

abbrev Is : Word → Form Word
Is word ts = ts ≡ word ∷ []

abbrev Gaps : List ℕ → Form Word
Gaps numbers = Is (codes "gaps") ⋯ Each (One decimal_of) numbers

-- ---- the reader

abbrev is : Word → Word → Bool
is word w = bytes_eq w word

abbrev gaps : {E : Type 0} → Reader E Word (List ℕ)
gaps = mark (is (codes "gaps")) >> repeated (λ _. false) true (leaf decimal_of)

-- ---- it is a rule of the form

word-mark : (word : Word) → IsMark Good (is word) (Is word)
word-mark word = record {
  thing = word;
  good = tt;
  holds = (bytes_eq-Decides word word).1 refl;
  there = λ w test. ap (λ x. x ∷ []) ((bytes_eq-Decides w word).0 test);
  back = λ ts s. (word, s, (bytes_eq-Decides word word).1 refl);
}

abbrev word : Word → Mark Good
word w = record { test = is w; Spelled = Is w; is = word-mark w }

number-rule : {E : Type 0} → IsRule E Good (leaf decimal_of) (One decimal_of) (λ _. Anything) (λ _. Unit {0}) Never
number-rule = leaf-rule Good decimal_of (One decimal_of) (codes "1") 1 tt refl (record {
  there = λ n w means. record { thing = w; all = refl; is = means };
  back = λ n ws each s. (s.thing, s.all, s.is);
})

repeats : Repeats (λ _. false) true (One decimal_of) Never
repeats = record {
  filled = λ n front s. let one = ap length s.all in omega arith;
  starts = λ n front rest s. rw (s.all) refl;
  starts_unfit = λ front rest d. absurd d;
}

pub gaps-rule : {E : Type 0} → IsRule E Good gaps Gaps (λ _ rest. tells (λ _. false) true rest ≡ true) (EachIs (λ _. Unit {0})) (Is (codes "gaps") ⋯ EachTo (One decimal_of) Never)
gaps-rule = (skip (word (codes "gaps")) (as_rule (repeated-rule Good (λ _. false) true (leaf decimal_of) (One decimal_of) (λ _. Unit {0}) Never repeats number-rule))).is

-- so a word of a line at which reading stops is the first with which no such line goes on
pub gaps-exact : {E : Type 0} (line : List ℕ) (w : Word) (ws : List Word) → All Good (words_of line) → gaps {E = E} (words_of line) ≡ stopped faults.Refused (w ∷ ws)
    → (k : ℕ) → k + length (w ∷ ws) ≡ length (words_of line) → IsRefusedAt Good Gaps (Is (codes "gaps") ⋯ EachTo (One decimal_of) Never) k (words_of line)
gaps-exact {E} line w ws = refused-exact Good (gaps {E = E}) Gaps (λ _ rest. tells (λ _. false) true rest ≡ true) (EachIs (λ _. Unit {0}))
    (Is (codes "gaps") ⋯ EachTo (One decimal_of) Never) gaps-rule (λ x. refl) (words_of line) ws w
