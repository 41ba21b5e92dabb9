-- Decimal numbers: each spelling is read, and each text that is read is a spelling.
use Rattle.std.proofs.Math.ListN.{get_or-append}
use Rattle.std.proofs.Math.Seq.{drop-cons}
use Rattle.std.proofs.lemmas.List.{drop_all}
use Rattle.std.proofs.Common.{add-one, ◌≡◌, ℕ, ◌+◌, ◌-◌, ◌*◌, ◌^◌, ◌<◌, ◌≤◌, ◌/◌, ◌%◌, ◌==◌, ◌&&◌, zero, suc, Bool, true, false, nat_lt, List, [], ◌∷◌, ◌++◌, append_assoc, append-nil, replicate, length, length-append, get_or, drop, Option, Some, None, IfSome, IfNone, refl, sym, ap, ◌∙◌, arith, rules, inl, inr}
use Rattle.std.specs.List.{list_all}
use Rattle.std.specs.Char.{is_ascii_digit}
use Rattle.std.specs.Fmt.{decimal}
use Rattle.std.proofs.lemmas.Bool.{cases_lt}
use Rattle.std.proofs.lemmas.Bool.Decides.{nat_tests}
use Rattle.std.proofs.lemmas.Option.{cond_some}
use Rattle.std.proofs.lemmas.Fmt.{decimal_by_steps_wide, decimal_digit, decimal_is_IsNumeral_wide, decimal_step_wide}
use Rattle.std.proofs.lemmas.Grind.{common_steps}
use Rattle.std.proofs.lemmas.Str.Parse.{IsNumeralModel, numerals_by_fold}
use Rattle.tydi_base.specs.Decimal.{read_on, is_decimal, decimal_of, below, padded_decimal_of, DecimalsAreReadAsSpelled, DecimalsAreSpelledAsRead, PaddedDecimalsAreReadAsSpelled, PaddedDecimalsAreSpelledAsRead}

-- the words of this crate are std's
pub own : IsNumeralModel (λ digits. list_all is_ascii_digit digits ≡ true) (read_on 0)
own = numerals_by_fold _ (search rules) read_on (search rules)

-- the meaning of the test of digits
pub record IsDecimal (digits : List ℕ) : Type 0 where
  pub some : 0 < length digits
  pub each : list_all is_ascii_digit digits ≡ true
  pub alone : get_or digits 0 0 ≡ 48 → length digits ≡ 1

pub is_decimal-to : (digits : List ℕ) → is_decimal digits ≡ true → IsDecimal digits
is_decimal-to digits e = record { some = grind (arith, common_steps); each = grind (arith, common_steps); alone = grind (arith, common_steps) }

pub is_decimal-from : (digits : List ℕ) → IsDecimal digits → is_decimal digits ≡ true
is_decimal-from digits h = grind (arith, common_steps)

-- reading goes on from the number so far, which only grows
read_on-le : (n : ℕ) (digits : List ℕ) → n ≤ read_on n digits
read_on-le n [] = omega arith
read_on-le n (digit ∷ digits) = omega (arith, read_on-le (10 * n + (digit - 48)) digits)

-- ---- numbers of up to 64 digits

module _ (n : ℕ) (lt : n < 10 ^ 64) where
  pub decimal-digits : list_all is_ascii_digit (decimal n) ≡ true
  decimal-digits = own.from (decimal n) (decimal_is_IsNumeral_wide n lt).0.1

  decimal-value : read_on 0 (decimal n) ≡ n
  decimal-value = own.same (decimal n) (decimal_is_IsNumeral_wide n lt).0.1 ∙ (decimal_is_IsNumeral_wide n lt).1

  decimal-some : 0 < length (decimal n)
  decimal-some = (decimal_is_IsNumeral_wide n lt).0.0

  decimal-first : 0 < n → 48 < get_or (decimal n) 0 0
  decimal-first some = (decimal_by_steps_wide (λ m ds. (0 < length ds) × (0 < m → 48 < get_or ds 0 0)) (λ m l. (omega arith, λ a. omega arith))
      (λ m ds l h. (omega (arith, length-append ds ((48 + m % 10) ∷ [])), λ a. omega (arith, get_or-append ds ((48 + m % 10) ∷ []) 0 0 h.0, h.1 (omega arith)))) n lt).1 some

is_decimal-decimal : (n : ℕ) → n < 10 ^ 64 → IsDecimal (decimal n)
is_decimal-decimal n lt = record {
  some = decimal-some n lt;
  each = decimal-digits n lt;
  alone = λ first. elim (cases_lt 0 n) [
    | inl more ↦ absurd (omega (arith, decimal-first n lt more))
    | inr none ↦ (let zero-is : n ≡ 0 = omega arith in rw (zero-is, decimal_digit 0 (omega arith)) refl)
  ];
}

pub decimal_of-decimal_wide : (n : ℕ) → n < 10 ^ 64 → decimal_of (decimal n) ≡ Some n
decimal_of-decimal_wide n lt = rw (is_decimal-from (decimal n) (is_decimal-decimal n lt), decimal-value n lt) refl

pub decimal_of-decimal : (n : ℕ) → n < 2 ^ 64 → decimal_of (decimal n) ≡ Some n
decimal_of-decimal n lt = decimal_of-decimal_wide n (omega arith)

-- digits after those of a number
decimal-read_on : (n : ℕ) (digits : List ℕ) → 0 < n → list_all is_ascii_digit digits ≡ true → read_on n digits < 10 ^ 64 → decimal (read_on n digits) ≡ decimal n ++ digits
decimal-read_on n [] some each lt = sym (append-nil (decimal n))
decimal-read_on n (digit ∷ digits) some each lt =
    let here : (48 ≤ digit) × (digit ≤ 57) = (grind (arith, common_steps), grind (arith, common_steps)) in
    let rest : list_all is_ascii_digit digits ≡ true = grind (arith, common_steps) in
    let m = 10 * n + (digit - 48) in
    let low = here.0 in
    let high = here.1 in
    let front : m / 10 ≡ n = omega arith in
    let end : 48 + m % 10 ≡ digit = omega arith in
    let small : m < 10 ^ 64 = (let grows = read_on-le m digits in omega arith) in
    decimal-read_on m digits (omega arith) rest lt
    ∙ ap (λ (text : List ℕ). text ++ digits) (decimal_step_wide m (omega arith) small ∙ (λ i. decimal (front i) ++ (end i ∷ [])))
    ∙ append_assoc (decimal n) (digit ∷ []) digits

pub decimal-spelled : (digits : List ℕ) → IsDecimal digits → read_on 0 digits < 10 ^ 64 → decimal (read_on 0 digits) ≡ digits
decimal-spelled [] is lt = absurd (let some = is.some in omega arith)
decimal-spelled (digit ∷ []) is lt =
    let each = is.each in
    let here : (48 ≤ digit) × (digit ≤ 57) = (grind (arith, common_steps), grind (arith, common_steps)) in
    let low = here.0 in let high = here.1 in
    decimal_digit (10 * 0 + (digit - 48)) (omega arith) ∙ ap (λ byte. byte ∷ []) (omega arith)
decimal-spelled (digit ∷ next ∷ digits) is lt =
    let each = is.each in
    let here : (48 ≤ digit) × (digit ≤ 57) = (grind (arith, common_steps), grind (arith, common_steps)) in
    let rest : list_all is_ascii_digit (next ∷ digits) ≡ true = grind (arith, common_steps) in
    let low = here.0 in let high = here.1 in
    let first : digit ≡ 48 → ⊥ = λ zero_is. omega (arith, is.alone zero_is) in
    let same : 48 + (10 * 0 + (digit - 48)) ≡ digit = omega arith in
    decimal-read_on (10 * 0 + (digit - 48)) (next ∷ digits) (omega arith) rest lt
    ∙ ap (λ (text : List ℕ). text ++ (next ∷ digits)) (decimal_digit (10 * 0 + (digit - 48)) (omega arith) ∙ ap (λ byte. byte ∷ []) same)

pub decimal_of-some_wide : (digits : List ℕ) (n : ℕ) → n < 10 ^ 64 → decimal_of digits ≡ Some n → digits ≡ decimal n
decimal_of-some_wide digits n lt e =
    let parts = cond_some (is_decimal digits) (read_on 0 digits) n e in
    let h = is_decimal-to digits parts.0 in
    let fits : read_on 0 digits < 10 ^ 64 = omega (arith, parts.1) in
    rw (← parts.1) (sym (decimal-spelled digits h fits))

pub decimal_of-some : (digits : List ℕ) (n : ℕ) → n < 2 ^ 64 → decimal_of digits ≡ Some n → digits ≡ decimal n
decimal_of-some digits n lt e = decimal_of-some_wide digits n (omega arith) e

pub decimals_spelled : DecimalsAreReadAsSpelled
decimals_spelled n lt = decimal_of-decimal_wide n (omega arith)

pub decimals_read : DecimalsAreSpelledAsRead
decimals_read digits n lt e = decimal_of-some_wide digits n (omega arith) e

-- ---- leading zeros

pub padded-is : (digits : List ℕ) → 0 < length digits → list_all is_ascii_digit digits ≡ true → padded_decimal_of digits ≡ Some (read_on 0 digits)
padded-is digits some each = let test : (nat_lt 0 (length digits) && list_all is_ascii_digit digits) ≡ true = grind (arith, common_steps) in rw test refl

pub padded-none : (digits : List ℕ) → list_all is_ascii_digit digits ≡ false → padded_decimal_of digits ≡ None
padded-none digits other = by_test (nat_lt 0 (length digits)) refl
  where
    by_test : (test : Bool) → nat_lt 0 (length digits) ≡ test → padded_decimal_of digits ≡ None
    by_test true is = rw (is, other) refl
    by_test false is = rw is refl

zeros-digits : (zeros : ℕ) (digits : List ℕ) → list_all is_ascii_digit digits ≡ true → list_all is_ascii_digit (replicate zeros 48 ++ digits) ≡ true
zeros-digits zero digits each = each
zeros-digits (suc zeros) digits each = zeros-digits zeros digits each

zeros-value : (zeros : ℕ) (digits : List ℕ) → read_on 0 (replicate zeros 48 ++ digits) ≡ read_on 0 digits
zeros-value zero digits = refl
zeros-value (suc zeros) digits = zeros-value zeros digits

pub padded_spelled : PaddedDecimalsAreReadAsSpelled
padded_spelled zeros n lt =
    let wide : n < 10 ^ 64 = omega arith in
    let long : 0 < length (replicate zeros 48 ++ decimal n) = omega (arith, length-append (replicate zeros 48) (decimal n), decimal-some n wide) in
    padded-is (replicate zeros 48 ++ decimal n) long (zeros-digits zeros (decimal n) (decimal-digits n wide))
    ∙ ap Some (zeros-value zeros (decimal n) ∙ decimal-value n wide)

unpadded : (digits : List ℕ) → 0 < length digits → list_all is_ascii_digit digits ≡ true → read_on 0 digits < 10 ^ 64 → (zeros : ℕ) × (digits ≡ replicate zeros 48 ++ decimal (read_on 0 digits))
unpadded [] some each lt = absurd (omega arith)
unpadded (digit ∷ []) some each lt =
    (0, sym (decimal-spelled (digit ∷ []) (record { some = omega arith; each = each; alone = λ _. refl }) lt))
unpadded (digit ∷ next ∷ digits) some each lt = by_test (unpadded (next ∷ digits)) (digit == 48) refl
  where
    by_test : (0 < length (next ∷ digits) → list_all is_ascii_digit (next ∷ digits) ≡ true → read_on 0 (next ∷ digits) < 10 ^ 64 → (zeros : ℕ) × (next ∷ digits ≡ replicate zeros 48 ++ decimal (read_on 0 (next ∷ digits))))
        → (test : Bool) → (digit == 48) ≡ test → (zeros : ℕ) × (digit ∷ next ∷ digits ≡ replicate zeros 48 ++ decimal (read_on 0 (digit ∷ next ∷ digits)))
    by_test again true is =
        let zero_is : digit ≡ 48 = grind (arith, common_steps) in
        let rest : list_all is_ascii_digit (next ∷ digits) ≡ true = grind (arith, common_steps) in
        let value : read_on 0 (digit ∷ next ∷ digits) ≡ read_on 0 (next ∷ digits) = ap (λ byte. read_on (10 * 0 + (byte - 48)) (next ∷ digits)) zero_is in
        let found = again (omega arith) rest (omega (arith, value)) in
        (suc found.0, ap (λ byte. byte ∷ next ∷ digits) zero_is ∙ ap (λ (text : List ℕ). 48 ∷ text) found.1 ∙ ap (λ m. 48 ∷ (replicate found.0 48 ++ decimal m)) (sym value))
    by_test again false other =
        (0, sym (decimal-spelled (digit ∷ next ∷ digits) (record { some = omega arith; each = each; alone = λ same. absurd (grind (arith, common_steps)) }) lt))

pub padded_read : PaddedDecimalsAreSpelledAsRead
padded_read digits n lt e =
    let parts = cond_some (nat_lt 0 (length digits) && list_all is_ascii_digit digits) (read_on 0 digits) n e in
    let some : 0 < length digits = (let test = parts.0 in grind (arith, common_steps)) in
    let each : list_all is_ascii_digit digits ≡ true = (let test = parts.0 in grind (arith, common_steps)) in
    let value = parts.1 in
    let found = unpadded digits some each (omega arith) in
    (found.0, found.1 ∙ ap (λ m. replicate found.0 48 ++ decimal m) value)

pub read_on-drop : (n : ℕ) (digits : List ℕ) (i : ℕ) → i < length digits → read_on n (drop i digits) ≡ read_on (10 * n + (get_or digits i 0 - 48)) (drop (i + 1) digits)
read_on-drop n digits i lt = rw (add-one, drop-cons digits i 0) refl

-- a number that no longer fits is too large however the digits go on
pub below-none : (limit n : ℕ) (digits : List ℕ) (whole : ℕ) → below limit (Some n) ≡ None → read_on n digits ≡ whole → below limit (Some whole) ≡ None
below-none limit n digits whole none e = let grows = read_on-le n digits in grind (arith, nat_tests)

pub below-some : (limit n whole : ℕ) → n < limit → n ≡ whole → Some n ≡ below limit (Some whole)
below-some limit n whole lt e = grind (arith, nat_tests)

pub read_on-done : (n : ℕ) (digits : List ℕ) (i : ℕ) → length digits ≤ i → read_on n (drop i digits) ≡ n
read_on-done n digits i le = rw drop_all refl

-- ---- one digit and two

pub one_of : (digits : List ℕ) → length digits ≡ 1 → digits ≡ get_or digits 0 0 ∷ []
one_of [] one = absurd (omega arith)
one_of (digit ∷ []) one = refl
one_of (digit ∷ more ∷ digits) one = absurd (omega arith)

pub two_of : (digits : List ℕ) → length digits ≡ 2 → digits ≡ get_or digits 0 0 ∷ get_or digits 1 0 ∷ []
two_of [] two = absurd (omega arith)
two_of (tens ∷ []) two = absurd (omega arith)
two_of (tens ∷ ones ∷ []) two = refl
two_of (tens ∷ ones ∷ more ∷ digits) two = absurd (omega arith)

pub decimal-is : (digits : List ℕ) (n : ℕ) → IsDecimal digits → n < 2 ^ 64 → n ≡ read_on 0 digits → Some n ≡ below (2 ^ 64) (decimal_of digits)
decimal-is digits n h lt is = rw (is_decimal-from digits h) (below-some (2 ^ 64) n (read_on 0 digits) lt is)

pub one_digit-some : (digit : ℕ) → is_ascii_digit digit ≡ true → Some (digit - 48) ≡ below (2 ^ 64) (decimal_of (digit ∷ []))
one_digit-some digit is =
    let h : IsDecimal (digit ∷ []) = record { some = omega arith; each = rw is refl; alone = λ _. refl } in
    let small : digit ≤ 57 = grind (arith, nat_tests) in
    decimal-is (digit ∷ []) (digit - 48) h (omega arith) (omega arith)

-- ---- a number that was read, or is too great

pub as_below : (limit whole : ℕ) (number : Option ℕ) → IfSome number (λ n. (n ≡ whole) × (n < limit)) → IfNone number (limit ≤ whole) → number ≡ below limit (Some whole)
as_below limit whole None some none = let test : nat_lt whole limit ≡ false = grind (arith, nat_tests) in rw test refl
as_below limit whole (Some n) some none = below-some limit n whole some.1 some.0

pub too_great : (limit n : ℕ) (digits : List ℕ) (whole : ℕ) → limit ≤ n → read_on n digits ≡ whole → limit ≤ whole
too_great limit n digits whole great is = let grows = read_on-le n digits in omega arith
