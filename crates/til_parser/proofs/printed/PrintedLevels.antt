-- The text of a level is printed so that it is read again.
use Rattle.til_parser.proofs.rules.Common.{◌≡◌, ℕ, zero, suc, ◌≤◌, inl, inr, false, List, [], ◌∷◌, ◌++◌, length, Some, None, codes, refl, sym, ap, subst, ◌∙◌}
use Rattle.til_parser.proofs.rules.Common.{arith, append-nil, list_all, TokenKind, ◌⋯◌, Form, Of, One, Nothing, Level, Lexeme}
use Rattle.std.proofs.Common.{append_assoc, decimal}
use Rattle.std.proofs.lemmas.{Bool.Decides.nat_tests, List.Folds.list_all-append}
use Rattle.std.specs.Char.{is_ascii_digit}
use Rattle.tydi_base.specs.{Decimal.read_on, Level.IsLevel, Level.LevelNumbers, Level.level_text, Name.is_name_byte}
use Rattle.tydi_base.proofs.LevelLaws.{text-four, text-one, text-three, text-two}
use Rattle.til_lexer.specs.Spelling.{AreDigits, goes_on, runs_on}
use Rattle.til_lexer.proofs.SpelledPieces.{goes-less}
use Rattle.til_lexer.specs.declared.token.TokenKind.TheVariants as kinds
use Rattle.til_parser.specs.{Grammar.IsRuns, Numbers.digit_runs, Numbers.value_behind}
use Rattle.til_parser.proofs.printed.PrintedForms.{Fixed, led, made, one_token, prefixed, symbol}
use Rattle.til_parser.proofs.{numbers.NumberLemmas.cut_at, texts.NumberTextLemmas.decimal-are}

-- a number of a level, as its digits
byte_are : (n : ℕ) → n ≤ 255 → AreDigits (decimal n) × (length (decimal n) ≤ 3) × (read_on 0 (decimal n) ≡ n)
byte_are n small = decimal-are 3 n (omega arith) (omega arith) (omega arith)

value_behind-some : (digits : List ℕ) → AreDigits digits → value_behind digits ≡ Some (read_on 0 digits)
value_behind-some [] are = absurd (let some = are.some in omega arith)
value_behind-some (digit ∷ digits) are = refl

-- the runs of one number, and of two with a point between them
runs-one : (n : ℕ) → n ≤ 255 → digit_runs (decimal n) ≡ (n, None)
runs-one n small =
    let shown = byte_are n small in
    let cut = cut_at (decimal n) [] shown.0.each refl in
    ap digit_runs (sym (append-nil (decimal n))) ∙ rw (cut.0, cut.1) (ap (λ (m : ℕ). (m, None)) shown.2)

runs-two : (n m : ℕ) → n ≤ 255 → m ≤ 255 → digit_runs (decimal n ++ 46 ∷ decimal m) ≡ (n, Some m)
runs-two n m small little =
    let shown = byte_are n small in
    let behind = byte_are m little in
    let cut = cut_at (decimal n) (46 ∷ decimal m) shown.0.each refl in
    rw (cut.0, cut.1, shown.2, value_behind-some (decimal m) behind.0, behind.2) refl

-- a number with a point goes on with no more than a word does
point_stops : (n m byte : ℕ) → n ≤ 255 → runs_on kinds.Word byte ≡ false → goes_on kinds.Number (decimal n ++ 46 ∷ decimal m) byte ≡ false
point_stops n m byte small stops =
    let digits = (byte_are n small).0.each in
    let point : list_all is_ascii_digit (decimal n ++ 46 ∷ decimal m) ≡ false = list_all-append is_ascii_digit (decimal n) (46 ∷ decimal m) ∙ rw digits refl in
    let digit : is_ascii_digit byte ≡ false = no_digit byte stops in
    rw (digit, point) refl
  where
    no_digit : (byte : ℕ) → is_name_byte byte ≡ false → is_ascii_digit byte ≡ false
    no_digit byte stops = grind (arith, nat_tests)

printed_one : (n : ℕ) → n ≤ 255 → Fixed kinds.Number (decimal n) (One (IsRuns (n, None)))
printed_one n small =
    let shown = byte_are n small in
    one_token kinds.Number (decimal n) (inl (record { digits = shown.0; few = omega (arith, shown.1) })) (goes-less kinds.Number (decimal n))
    (λ lexeme kind_is text_is. (tt, record { kind = kind_is; runs = sym (ap digit_runs text_is ∙ runs-one n small) }))

printed_two : (last : TokenKind) (n m : ℕ) → n ≤ 255 → m ≤ 255 → ((byte : ℕ) → runs_on last byte ≡ false → goes_on kinds.Number (decimal n ++ 46 ∷ decimal m) byte ≡ false)
    → Fixed last (decimal n ++ 46 ∷ decimal m) (One (IsRuns (n, Some m)))
printed_two last n m small little less =
    let shown = byte_are n small in
    let behind = byte_are m little in
    one_token kinds.Number (decimal n ++ 46 ∷ decimal m)
    (inr (record { before = decimal n; behind = decimal m; parts = refl; digits_before = shown.0; digits_behind = behind.0; few = omega (arith, shown.1, behind.1) })) less
    (λ lexeme kind_is text_is. (tt, record { kind = kind_is; runs = sym (ap digit_runs text_is ∙ runs-two n m small little) }))

-- with no second number
alone : (P : Form) (ts : List Lexeme) → P ts → (P ⋯ Nothing) ts
alone P ts is = record { front = ts; back = []; all = sym (append-nil ts); begins = is; ends = refl }

-- a point, and a second number
point : Fixed kinds.Comma (codes ".") (Of kinds.Point)
point = symbol kinds.Point (codes ".") refl (λ _. refl)

module _ (level : LevelNumbers) (within : IsLevel level) where
  first_small : level.first ≤ 255
  first_small = let first = within.first in omega arith

  one_number : level.second ≡ 0 → level.third ≡ 0 → level.fourth ≡ 0 → Fixed kinds.Number (level_text level) (Level level)
  one_number b c d = subst (λ text. Fixed kinds.Number text (Level level)) (sym (text-one level d c b)) (made (λ u. u) (λ u ts s. record {
    first = (level.first, None);
    later = None;
    spelled = alone (One (IsRuns (level.first, None))) ts s;
    numbers = ap (λ n. record { first = level.first; second = n; third = level.third; fourth = level.fourth }) b
        ∙ ap (λ n. record { first = level.first; second = 0; third = n; fourth = level.fourth }) c
        ∙ ap (λ n. record { first = level.first; second = 0; third = 0; fourth = n }) d;
    within = within;
  }) (printed_one level.first first_small))

  two_numbers : (level.second ≡ 0 → ⊥) → level.third ≡ 0 → level.fourth ≡ 0 → Fixed kinds.Number (level_text level) (Level level)
  two_numbers some c d = subst (λ text. Fixed kinds.Number text (Level level)) (sym (text-two level d c some)) (made (λ u. u) (λ u ts s. record {
    first = (level.first, Some level.second);
    later = None;
    spelled = alone (One (IsRuns (level.first, Some level.second))) ts s;
    numbers = ap (λ n. record { first = level.first; second = level.second; third = n; fourth = level.fourth }) c
        ∙ ap (λ n. record { first = level.first; second = level.second; third = 0; fourth = n }) d;
    within = within;
  }) (printed_two kinds.Number level.first level.second first_small within.second (goes-less kinds.Number (decimal level.first ++ 46 ∷ decimal level.second))))

  -- the first two, before a point
  front : Fixed kinds.Word (decimal level.first ++ 46 ∷ decimal level.second) (One (IsRuns (level.first, Some level.second)))
  front = printed_two kinds.Word level.first level.second first_small within.second (λ byte stops. point_stops level.first level.second byte first_small stops)

  three_numbers : (level.third ≡ 0 → ⊥) → level.fourth ≡ 0 → Fixed kinds.Number (level_text level) (Level level)
  three_numbers some d =
      subst (λ text. Fixed kinds.Number text (Level level))
      (append_assoc (decimal level.first) (46 ∷ decimal level.second) (46 ∷ decimal level.third) ∙ sym (text-three level d some)) (made (λ u. u) (λ u ts s. record {
        first = (level.first, Some level.second);
        later = Some (level.third, None);
        spelled = s;
        numbers = ap (λ n. record { first = level.first; second = level.second; third = level.third; fourth = n }) d;
        within = within;
      }) (led front (prefixed point (printed_one level.third within.third)) refl))

  four_numbers : (level.fourth ≡ 0 → ⊥) → Fixed kinds.Number (level_text level) (Level level)
  four_numbers some =
      subst (λ text. Fixed kinds.Number text (Level level))
      (append_assoc (decimal level.first) (46 ∷ decimal level.second) (46 ∷ (decimal level.third ++ 46 ∷ decimal level.fourth)) ∙ sym (text-four level some)) (made (λ u. u) (λ u ts s. record {
        first = (level.first, Some level.second);
        later = Some (level.third, Some level.fourth);
        spelled = s;
        numbers = refl;
        within = within;
      }) (led front (prefixed point (printed_two kinds.Number level.third level.fourth within.third within.fourth (goes-less kinds.Number (decimal level.third ++ 46 ∷ decimal level.fourth)))) refl))

  by_numbers : (b c d : ℕ) → level.second ≡ b → level.third ≡ c → level.fourth ≡ d → Fixed kinds.Number (level_text level) (Level level)
  by_numbers b c (suc d) second third fourth = four_numbers (λ none. let no : suc d ≡ 0 = sym fourth ∙ none in omega arith)
  by_numbers b (suc c) zero second third fourth = three_numbers (λ none. let no : suc c ≡ 0 = sym third ∙ none in omega arith) fourth
  by_numbers (suc b) zero zero second third fourth = two_numbers (λ none. let no : suc b ≡ 0 = sym second ∙ none in omega arith) third fourth
  by_numbers zero zero zero second third fourth = one_number second third fourth

pub printed_level : (level : LevelNumbers) → IsLevel level → Fixed kinds.Number (level_text level) (Level level)
printed_level level within = by_numbers level within level.second level.third level.fourth refl refl refl
