-- The rule of a level: a number, or two with a point between them.
use Rattle.til_parser.proofs.rules.Common.{◌≡◌, ◌≤◌, nat_lt, ℕ, true, ◌&&◌, List, [], ◌∷◌, Option, Some, None, refl, sym, ap, subst, ◌∙◌, option_map}
use Rattle.til_parser.proofs.rules.Common.{option_and_then, arith, none-some, same_Some, cond_some, Never, Anything, ◌⋯◌, IsRule, Form, One, Of, Level, Lexeme, IsFormed}
use Rattle.til_parser.proofs.rules.Common.{is_kind, token, both, of_flat, flat, flat_skip, as_flat, as_rule, optional-rule, front-marked}
use Rattle.std.proofs.lemmas.Bool.Decides.{nat_tests}
use Rattle.tydi_base.specs.Decimal.{read_on, below}
use Rattle.tydi_base.specs.Level.{IsLevel, IsFirst}
use Rattle.tydi_reading.proofs.Rule.{Flat, mapped}
use Rattle.tydi_reading.specs.Forms.{Optional}
use Rattle.til_lexer.specs.declared.token.TokenKind.TheVariants as kinds
use Rattle.til_parser.proofs.rules.LeafRules.{one_token, one_formed}
use Rattle.til_parser.proofs.rules.TokenRules.{NoneNext, kind_mark, token-rule}
use Rattle.til_parser.specs.Grammar.{IsRuns, Runs}
use Rattle.til_parser.specs.Numbers.{digits_before, digits_behind, digit_runs, value_behind}
use Rattle.til_parser.specs.ReadTypes.{byte_of, second_run, runs_of, if_first, first_runs, level_of}
unfoldable use Rattle.til_parser.specs.ReadTypes.{later_runs, level}
use Rattle.til_parser.specs.declared.refusal.TooDeep.{TooDeep}

-- ---- the runs of digits of one number

-- a second number of at most 255, if there is one
abbrev Small : Option ℕ → Type 0
Small None = Unit {0}
Small (Some n) = n ≤ 255

-- runs of at most 255, and those with which a level begins
abbrev AreSmall : Runs → Type 0
AreSmall runs = (runs.0 ≤ 255) × Small runs.1

abbrev AreFirst : Runs → Type 0
AreFirst runs = IsFirst runs.0 × Small runs.1

byte-there : (n y : ℕ) → below 256 (Some n) ≡ Some y → (n ≡ y) × (y ≤ 255)
byte-there n y is = let parts = cond_some (nat_lt n 256) n y is in (parts.1, grind (arith, nat_tests, parts.0, parts.1))

byte-back : (n : ℕ) → n ≤ 255 → below 256 (Some n) ≡ Some n
byte-back n small = let test : nat_lt n 256 ≡ true = grind (arith, nat_tests) in rw test refl

second-there : (digits : List ℕ) (second : Option ℕ) → second_run digits ≡ Some second → (second ≡ value_behind digits) × Small second
second-there [] second is = let same : None ≡ second = same_Some None second is in (sym same, subst Small same tt)
second-there (digit ∷ digits) second is = of_byte (below 256 (Some (read_on 0 (digit ∷ digits)))) refl is
  where
    of_byte : (o : Option ℕ) → below 256 (Some (read_on 0 (digit ∷ digits))) ≡ o → option_map Some o ≡ Some second
        → (second ≡ value_behind (digit ∷ digits)) × Small second
    of_byte None byte is = absurd (none-some second is)
    of_byte (Some y) byte is =
        let found = byte-there (read_on 0 (digit ∷ digits)) y byte in
        let same : Some y ≡ second = same_Some (Some y) second is in
        (sym same ∙ ap Some (sym found.0), subst Small same found.1)

second-back : (digits : List ℕ) → Small (value_behind digits) → second_run digits ≡ Some (value_behind digits)
second-back [] small = refl
second-back (digit ∷ digits) small = ap (option_map Some) (byte-back (read_on 0 (digit ∷ digits)) small)

runs-there : (runs : Runs) (t : Lexeme) → t.kind ≡ kinds.Number → runs_of t.spelling ≡ Some runs → IsRuns runs t × AreSmall runs
runs-there runs t is means = of_both (byte_of (digits_before t.spelling)) (second_run (digits_behind t.spelling)) refl refl means
  where
    of_both : (one : Option ℕ) (two : Option (Option ℕ)) → byte_of (digits_before t.spelling) ≡ one → second_run (digits_behind t.spelling) ≡ two
        → option_and_then (λ first. option_map (λ second. (first, second)) two) one ≡ Some runs → IsRuns runs t × AreSmall runs
    of_both None two first second means = absurd (none-some runs means)
    of_both (Some a) None first second means = absurd (none-some runs means)
    of_both (Some a) (Some b) first second means =
        let same : (a, b) ≡ runs = same_Some (a, b) runs means in
        let one = byte-there (read_on 0 (digits_before t.spelling)) a first in
        let two = second-there (digits_behind t.spelling) b second in
        let value : (a, b) ≡ digit_runs t.spelling = ap (λ (n : ℕ). (n, b)) (sym one.0) ∙ ap (λ (o : Option ℕ). (read_on 0 (digits_before t.spelling), o)) two.0 in
        (record { kind = is; runs = sym same ∙ value }, subst AreSmall same (one.1, two.1))

abbrev pair_of : Option (Option ℕ) → Option ℕ → Option Runs
pair_of two one = option_and_then (λ (first : ℕ). option_map (λ (second : Option ℕ). (first, second)) two) one

runs-back : (runs : Runs) (t : Lexeme) → IsRuns runs t → AreSmall runs → runs_of t.spelling ≡ Some runs
runs-back runs t is small =
    let these = subst AreSmall is.runs small in
    let behind = second-back (digits_behind t.spelling) these.1 in
    ap (pair_of (second_run (digits_behind t.spelling))) (byte-back (read_on 0 (digits_before t.spelling)) these.0)
    ∙ ap (λ (o : Option (Option ℕ)). pair_of o (Some (read_on 0 (digits_before t.spelling)))) behind ∙ ap Some (sym is.runs)

first-there : (o : Option Runs) (runs : Runs) → option_and_then if_first o ≡ Some runs → (o ≡ Some runs) × IsFirst runs.0
first-there None runs is = absurd (none-some runs is)
first-there (Some found) runs is =
    let parts = cond_some (nat_lt 0 found.0 && nat_lt found.0 9) found runs is in
    let low : 1 ≤ found.0 = grind (arith, nat_tests, parts.0) in
    let high : found.0 ≤ 8 = grind (arith, nat_tests, parts.0) in
    (ap Some parts.1, subst (λ (r : Runs). IsFirst r.0) parts.1 (low, high))

if_first-is : (runs : Runs) → IsFirst runs.0 → if_first runs ≡ Some runs
if_first-is runs first =
    let low : nat_lt 0 runs.0 ≡ true = grind (arith, nat_tests, first.0) in
    let high : nat_lt runs.0 9 ≡ true = grind (arith, nat_tests, first.1) in
    rw (low, high) refl

pub first-rule : IsRule TooDeep IsFormed first_runs (λ runs. One (λ t. IsRuns runs t × AreFirst runs)) (λ _. Anything) (λ _. Unit {0}) Never
first-rule = token-rule kinds.Number (λ place spelling. option_and_then if_first (runs_of spelling)) (λ runs t. IsRuns runs t × AreFirst runs) (record {
  there = λ runs t is means.
      let parts = first-there (runs_of t.spelling) runs means in
      let found = runs-there runs t is parts.0 in
      (found.0, (parts.1, found.1.1));
  back = λ runs t formed s.
      let few : runs.0 ≤ 255 = let high = s.1.0.1 in omega arith in
      (s.0.kind, ap (option_and_then if_first) (runs-back runs t s.0 (few, s.1.1)) ∙ if_first-is runs s.1.0);
}) one_token (1, None) one_formed refl refl

runs-rule : IsRule TooDeep IsFormed (token kinds.Number (λ place spelling. runs_of spelling)) (λ runs. One (λ t. IsRuns runs t × AreSmall runs)) (λ _. Anything) (λ _. Unit {0}) Never
runs-rule = token-rule kinds.Number (λ place spelling. runs_of spelling) (λ runs t. IsRuns runs t × AreSmall runs) (record {
  there = runs-there;
  back = λ runs t formed s. (s.0.kind, runs-back runs t s.0 s.1);
}) one_token (1, None) one_formed refl refl

-- ---- a point and a second number, if there is one

abbrev Later : Option Runs → Form
Later = Optional (λ (runs : Runs). Of kinds.Point ⋯ One (λ t. IsRuns runs t × AreSmall runs))

later-rule : IsRule TooDeep IsFormed later_runs Later (λ _. NoneNext kinds.Point) (λ _. Unit {0}) Never
unfolding later_runs
later-rule = optional-rule (is_kind kinds.Point) (flat_skip (kind_mark kinds.Point _ refl) (as_flat runs-rule))
    (λ runs. front-marked (kind_mark kinds.Point _ refl) (One (λ t. IsRuns runs t × AreSmall runs))) (λ runs rest. tt)

-- ---- the level

-- the runs of a second number, if there is one, are of at most 255
abbrev IsSmall : Option Runs → Type 0
IsSmall None = Unit {0}
IsSmall (Some runs) = AreSmall runs

is_level : (a : ℕ) (b : Option ℕ) (later : Option Runs) → IsFirst a → Small b → IsSmall later → IsLevel (level_of ((a, b), later))
is_level a None None first small rest = record { first = first; second = omega arith; third = omega arith; fourth = omega arith }
is_level a (Some b) None first small rest = record { first = first; second = small; third = omega arith; fourth = omega arith }
is_level a None (Some runs) first small rest = of_second runs.1 rest.1
  where
    of_second : (d : Option ℕ) → Small d → IsLevel (level_of ((a, None), Some (runs.0, d)))
    of_second None small = record { first = first; second = rest.0; third = omega arith; fourth = omega arith }
    of_second (Some d) small = record { first = first; second = rest.0; third = small; fourth = omega arith }
is_level a (Some b) (Some runs) first small rest = of_second runs.1 rest.1
  where
    of_second : (d : Option ℕ) → Small d → IsLevel (level_of ((a, Some b), Some (runs.0, d)))
    of_second None tiny = record { first = first; second = small; third = rest.0; fourth = omega arith }
    of_second (Some d) tiny = record { first = first; second = small; third = rest.0; fourth = tiny }

are_small : (a : ℕ) (b : Option ℕ) (later : Option Runs) → IsLevel (level_of ((a, b), later)) → IsFirst a × Small b × IsSmall later
are_small a None None is = (is.first, tt, tt)
are_small a (Some b) None is = (is.first, is.second, tt)
are_small a None (Some runs) is = (is.first, tt, of_second runs.1 is)
  where
    of_second : (d : Option ℕ) → IsLevel (level_of ((a, None), Some (runs.0, d))) → (runs.0 ≤ 255) × Small d
    of_second None is = (is.second, tt)
    of_second (Some d) is = (is.second, is.third)
are_small a (Some b) (Some runs) is = (is.first, is.second, of_second runs.1 is)
  where
    of_second : (d : Option ℕ) → IsLevel (level_of ((a, Some b), Some (runs.0, d))) → (runs.0 ≤ 255) × Small d
    of_second None is = (is.third, tt)
    of_second (Some d) is = (is.third, is.fourth)

-- a second number, with the bounds of its runs and without
abbrev Plain : Option Runs → Form
Plain = Optional (λ (runs : Runs). Of kinds.Point ⋯ One (IsRuns runs))

later_small : (later : Option Runs) (ts : List Lexeme) → Later later ts → IsSmall later
later_small None ts s = tt
later_small (Some runs) ts s = s.ends.is.1

without : (later : Option Runs) (ts : List Lexeme) → Later later ts → Plain later ts
without None ts s = s
without (Some runs) ts s =
    record { front = s.front; back = s.back; all = s.all; begins = s.begins; ends = record { lexeme = s.ends.lexeme; all = s.ends.all; is = s.ends.is.0 } }

with_small : (later : Option Runs) (ts : List Lexeme) → IsSmall later → Plain later ts → Later later ts
with_small None ts small s = s
with_small (Some runs) ts small s =
    record { front = s.front; back = s.back; all = s.all; begins = s.begins; ends = record { lexeme = s.ends.lexeme; all = s.ends.all; is = (s.ends.is, small) } }

abbrev both_parts : Flat TooDeep IsFormed (Runs × Option Runs)
both_parts = flat (both (as_flat first-rule) (as_rule later-rule) (λ x y back rest s next. tt) (λ x back rest d. tt)) (λ ts d. d.1.ends) (λ x. tt)

pub level-rule : IsRule TooDeep IsFormed level Level (λ _. NoneNext kinds.Point) (λ _. Unit {0}) Never
unfolding level
level-rule = mapped level_of (of_flat both_parts) Level (λ _. NoneNext kinds.Point) (λ _. Unit {0}) Never (record {
  there = λ z ts s. record {
    first = z.0;
    later = z.1;
    spelled = record {
      front = s.front;
      back = s.back;
      all = s.all;
      begins = record { lexeme = s.begins.lexeme; all = s.begins.all; is = s.begins.is.0 };
      ends = without z.1 s.back s.ends;
    };
    numbers = refl;
    within = is_level z.0.0 z.0.1 z.1 s.begins.is.1.0 s.begins.is.1.1 (later_small z.1 s.back s.ends);
  };
  back = λ found ts s.
      let small = are_small s.first.0 s.first.1 s.later (subst IsLevel s.numbers s.within) in
      let b = s.spelled in (
        (s.first, s.later),
        s.numbers,
        record {
          front = b.front;
          back = b.back;
          all = b.all;
          begins = record { lexeme = b.begins.lexeme; all = b.begins.all; is = (b.begins.is, (small.0, small.1)) };
          ends = with_small s.later b.back small.2 b.ends;
        },
      );
  follow = λ z rest next. next;
  within = λ z w. tt;
  apart = λ z w. tt;
  first = λ ts d. d;
  unfit = λ ts d. d;
})
