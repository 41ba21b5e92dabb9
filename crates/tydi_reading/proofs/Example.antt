-- A small text, read by rules that are made of rules: digits with commas between them, in brackets, as `(1,2)`. Nothing cites it.
use Rattle.std.proofs.Common.{◌≡◌, ℕ, ◌==◌, ◌+◌, Bool, true, false, cond, List, [], ◌∷◌, All, length, Option, Some, None, refl, sym, ap, ◌∙◌, arith}
use Rattle.std.specs.Char.{is_ascii_digit}
use Rattle.std.proofs.lemmas.Bool.Decides.{nat_tests}
use Rattle.std.proofs.lemmas.Option.{cond_some}
use Rattle.tydi_reading.specs.declared.fault.Fault.TheVariants as faults
use Rattle.tydi_reading.specs.Faults.{IsRefusedAt}
use Rattle.tydi_reading.specs.Forms.{Form, ◌⋯◌, Never, Anything}
use Rattle.tydi_reading.specs.Lists.{EachIs, Separated, SeparatedTo, mark, separated}
use Rattle.tydi_reading.specs.Reading.{Reader, stopped, leaf, tells, ◌>>◌, ◌<<◌}
use Rattle.tydi_reading.specs.Rules.{IsRule}
use Rattle.tydi_reading.proofs.ExactLemmas.{refused-exact}
use Rattle.tydi_reading.proofs.MarkLemmas.{IsMark}
use Rattle.tydi_reading.proofs.RepeatedRule.{begins-repeats}
use Rattle.tydi_reading.proofs.Rule.{Mark, as_rule, skip, close, mark-tells}
use Rattle.tydi_reading.proofs.SeparatedRule.{Between, separated-rule}
use Rattle.tydi_reading.proofs.StepRules.{leaf-rule}

-- ---- the form

abbrev Byte : ℕ → Form ℕ
Byte b ts = ts ≡ b ∷ []

abbrev Digit : ℕ → Form ℕ
Digit b ts = (ts ≡ b ∷ []) × (is_ascii_digit b ≡ true)

abbrev Digits : List ℕ → Form ℕ
Digits digits = Byte 40 ⋯ Separated (Byte 44) Digit digits ⋯ Byte 41

-- ---- the reader

abbrev is : ℕ → ℕ → Bool
is b t = t == b

abbrev digit_of : ℕ → Option ℕ
digit_of t = cond (is_ascii_digit t) (Some t) None

abbrev digits : {E : Type 0} → Reader E ℕ (List ℕ)
digits = mark (is 40) >> (separated (is 41) false (is 44) (leaf digit_of) << mark (is 41))

-- ---- it is a rule of the form

abbrev Good : ℕ → Type 0
Good t = Unit {0}

byte-mark : (b : ℕ) → IsMark Good (is b) (Byte b)
byte-mark b = record {
  thing = b;
  good = tt;
  holds = grind (arith, nat_tests);
  there = λ t test. let same : t ≡ b = grind (arith, nat_tests) in ap (λ x. x ∷ []) same;
  back = λ ts s. (b, s, grind (arith, nat_tests));
}

abbrev byte : ℕ → Mark Good
byte b = record { test = is b; Spelled = Byte b; is = byte-mark b }

digit-rule : {E : Type 0} → IsRule E Good (leaf digit_of) Digit (λ _. Anything) (λ _. Unit {0}) Never
digit-rule = leaf-rule Good digit_of Digit 48 48 tt refl (record {
  there = λ x t means. let both = cond_some (is_ascii_digit t) t x means in (ap (λ y. y ∷ []) both.1, ap is_ascii_digit (sym both.1) ∙ both.0);
  back = λ x ts each s. (x, s.0, ap (λ b. cond b (Some x) None) s.1);
})

not_digit : (b x : ℕ) → is_ascii_digit b ≡ false → is_ascii_digit x ≡ true → is b x ≡ false
not_digit b x none some = other (x == b) refl
  where
    other : (test : Bool) → (x == b) ≡ test → test ≡ false
    other false same = refl
    other true same = let equal : x ≡ b = grind (arith, nat_tests) in
        let no : false ≡ true = sym none ∙ ap is_ascii_digit (sym equal) ∙ some in absurd cc

between : Between Good (is 41) false (is 44) (Byte 44) Digit Anything Never
between = record {
  mark = byte-mark 44;
  repeats = begins-repeats (λ t some. not_digit 41 t refl some) (record { item = λ x front rest s. rw (s.0) s.1; unfit = λ front rest d. absurd d });
  before_end = λ rest stop. tt;
  before_separator = λ t rest comma. tt;
  apart = apart;
}
  where
    apart : (rest : List ℕ) → tells (is 41) false rest ≡ true → tells (is 44) false rest ≡ false
    apart [] stop = absurd cc
    apart (t ∷ rest) stop = let same : t ≡ 41 = grind (arith, nat_tests) in rw same refl

pub digits-rule : {E : Type 0} → IsRule E Good digits Digits (λ _. Anything) (EachIs (λ _. Unit {0})) (Byte 40 ⋯ SeparatedTo (Byte 44) Digit Never)
digits-rule =
    (skip (byte 40) (close (as_rule (separated-rule Good (is 41) false (is 44) (Byte 44) (leaf digit_of) Digit Anything (λ _. Unit {0}) Never between digit-rule)) (byte 41)
    (λ x. mark-tells (byte 41)))).is

-- so a byte at which reading stops is the first with which no such text goes on
pub digits-exact : {E : Type 0} (ts after : List ℕ) (t : ℕ) → All Good ts → digits {E = E} ts ≡ stopped faults.Refused (t ∷ after) → (k : ℕ) → k + length (t ∷ after) ≡ length ts
    → IsRefusedAt Good Digits (Byte 40 ⋯ SeparatedTo (Byte 44) Digit Never) k ts
digits-exact = refused-exact Good digits Digits (λ _. Anything) (EachIs (λ _. Unit {0})) (Byte 40 ⋯ SeparatedTo (Byte 44) Digit Never) digits-rule (λ x. tt)
