-- The text of a number: the digits of a division, their count and their value, and that the text is read as the number again.
use Rattle.til_parser.proofs.rules.Common.{◌≡◌, ◌⊎◌, rules, ℕ, zero, suc, ◌+◌, ◌-◌, ◌*◌, ◌^◌, ◌<◌, ◌≤◌, true, inl, inr, List, [], ◌∷◌, ◌++◌, length, refl, sym, ap, subst, ◌∙◌}
use Rattle.til_parser.proofs.rules.Common.{arith, append-nil, length-append, list_all, HasForm, codes}
use Rattle.std.proofs.Common.{◌/◌, ◌%◌, decimal, pow-add, pow-suc, mod-lt, div-add-mod', div-lt_iff_lt-mul, lt_of_mul-lt-mul_right, mul-lt-mul_of_pos_right}
use Rattle.std.proofs.Math.Nat.{div-add-mod, mod-eq_of_lt, mul-mod_left, mul-one, pow-le-pow_right, one-dvd}
use Rattle.std.proofs.lemmas.Fmt.{decimal_nonempty, digits_decimal, digits_value-decimal, length-decimal-le}
use Rattle.std.proofs.{lemmas.Bool.Decides.nat_tests, lemmas.List.Folds.list_all-append, lemmas.Nat.mul-mod_first}
use Rattle.std.specs.Char.{is_ascii_digit}
use Rattle.tydi_base.specs.{Decimal.read_on, Frac.Fraction, Frac.IsReduced}
use Rattle.tydi_base.proofs.DecimalLaws.{own}
use Rattle.til_lexer.specs.Spelling.{AreDigits}
use Rattle.til_parser.specs.{Canonical.behind_point, Canonical.digits_of_rest, Canonical.number_text, Numbers.digits_before, Numbers.digits_behind, Trees.IsNumberText}
use Rattle.til_parser.specs.Trees.{IsSpelledNumber}
use Rattle.til_parser.proofs.numbers.NumberLemmas.{AreParts-number, cut_at, read_on-append, read_on-below, tens_fit}
use Rattle.til_lexer.specs.declared.token.TokenKind.TheVariants as kinds

-- ---- the digits of a division

-- no digit more, where no more are allowed, or nothing is left
pub digits_none : (turns rest den : ℕ) → (turns ≡ 0) ⊎ (rest ≡ 0) → digits_of_rest turns rest den ≡ []
unfolding digits_of_rest
digits_none zero rest den done = refl
digits_none (suc turns) rest den (inl none) = absurd (omega arith)
digits_none (suc turns) rest den (inr none) = rw none refl

-- one more, where something is left
pub digits_more : (turns rest den : ℕ) → (rest ≡ 0 → ⊥)
    → digits_of_rest (suc turns) rest den ≡ (48 + 10 * rest / den) ∷ digits_of_rest turns (10 * rest % den) den
unfolding digits_of_rest
digits_more turns rest den some = search (rules, some)

-- digits of what is left of a division, until nothing is left: at most so many, and together with a number so far they are the value
record AreRest (digits : List ℕ) (count rest den : ℕ) : Type 0 where
  few : length digits ≤ count
  each : list_all is_ascii_digit digits ≡ true
  value : (whole : ℕ) → read_on whole digits * den ≡ (whole * den + rest) * 10 ^ length digits

digits_of_rest-are : (most count rest den : ℕ) → count ≤ most → rest < den → rest * 10 ^ count % den ≡ 0
    → AreRest (digits_of_rest most rest den) count rest den
digits_of_rest-are most count zero den within below divides =
    rw (digits_none most 0 den (inr refl)) (record { few = omega arith; each = refl; value = λ whole. omega arith })
digits_of_rest-are most zero (suc rest) den within below divides =
    absurd (let none : suc rest ≡ 0 = sym (mod-eq_of_lt below) ∙ rw mul-one at divides in omega arith)
digits_of_rest-are zero (suc count) (suc rest) den within below divides = absurd (omega arith)
digits_of_rest-are (suc most) (suc count) (suc rest) den within below divides =
    let next : ℕ = 10 * suc rest / den in
    let left : ℕ = 10 * suc rest % den in
    let parts : den * next + left ≡ 10 * suc rest = div-add-mod (10 * suc rest) den in
    let small : next < 10 = (div-lt_iff_lt-mul {k = den} {x = 10 * suc rest} {y = 10} (omega arith)).1 (omega arith) in
    let digit : is_ascii_digit (48 + next) ≡ true = grind (arith, nat_tests) in
    let power : suc rest * 10 ^ suc count ≡ 10 * suc rest * 10 ^ count = rw (pow-suc 10 count) (omega arith) in
    let further : left * 10 ^ count % den ≡ 0 = mul-mod_first (10 * suc rest) (10 ^ count) den ∙ ap (λ n. n % den) (sym power) ∙ divides in
    let are = digits_of_rest-are most count left den (omega arith) (mod-lt (10 * suc rest) (omega arith)) further in
    let digits : List ℕ = digits_of_rest most left den in
    let back : 48 + next - 48 ≡ next = omega arith in
    let times : (den * next + left) * 10 ^ length digits ≡ 10 * suc rest * 10 ^ length digits = ap (λ n. n * 10 ^ length digits) parts in
    rw (digits_more most (suc rest) den (λ none. omega arith)) (record {
      few = omega (arith, are.few);
      each = rw digit are.each;
      value = λ whole. ap (λ n. read_on (10 * whole + n) digits * den) back ∙ are.value (10 * whole + next) ∙ rw (pow-suc 10 (length digits)) (omega (arith, times));
    })

-- ---- the digits of a number before and behind its point

-- these digits with a point between them are a number, of the value of all of them
digits_cut : (number : Fraction) (before behind : List ℕ) → AreDigits before → list_all is_ascii_digit behind ≡ true → length before + length behind ≤ 18
    → IsReduced (read_on 0 (before ++ behind)) (10 ^ length behind) number → IsNumberText number (before ++ behind_point behind)
digits_cut number before [] digits each few reduced =
    let cut = cut_at before [] digits.each refl in
    record { form = subst (HasForm kinds.Number) (sym (append-nil before)) (inl (record { digits = digits; few = omega arith })); value = rw (cut.0, cut.1) reduced }
digits_cut number before (digit ∷ behind) digits each few reduced =
    let cut = cut_at before (46 ∷ digit ∷ behind) digits.each refl in
    let after : AreDigits (digit ∷ behind) = record { some = omega arith; each = each } in
    record {
      form = inr (record { before = before; behind = digit ∷ behind; parts = refl; digits_before = digits; digits_behind = after; few = few });
      value = rw (cut.0, cut.1) reduced;
    }

-- a whole number of so many digits at most, as its digits
pub decimal-are : (count whole : ℕ) → 0 < count → count ≤ 18 → whole < 10 ^ count
    → AreDigits (decimal whole) × (length (decimal whole) ≤ count) × (read_on 0 (decimal whole) ≡ whole)
decimal-are count whole some few below =
    let power = tens_fit count few in
    let fits : whole < 2 ^ 64 = omega arith in
    let digits : AreDigits (decimal whole) = record { some = decimal_nonempty whole fits; each = digits_decimal own whole fits } in
    (digits, length-decimal-le count whole some below fits, digits_value-decimal own whole fits)

-- a number without a point has at most 18 digits
pub whole-short : (text : List ℕ) → HasForm kinds.Number text → list_all is_ascii_digit text ≡ true → read_on 0 text < 10 ^ 18
whole-short text form each =
    let all : digits_before text ≡ text = rw append-nil at (cut_at text [] each refl).0 in
    let few : length text ≤ 18 = omega (arith, (AreParts-number text form).few, ap length all) in
    let wide : 10 ^ length text ≤ 10 ^ 18 = pow-le-pow_right (omega arith) few in
    omega (arith, read_on-below text each)

-- ---- the text of a number

-- the text of a number that some text is read as, is read as the number again
pub number_text-is : (number : Fraction) (spelling : List ℕ) → IsNumberText number spelling → IsNumberText number (number_text number)
number_text-is number spelling is =
    let parts = AreParts-number spelling is.form in
    let before : List ℕ = digits_before spelling in
    let behind : List ℕ = digits_behind spelling in
    let whole : ℕ = number.num / number.den in
    let rest : ℕ = number.num % number.den in
    let digits : List ℕ = digits_of_rest 18 rest number.den in
    let some : 0 < number.den = let one = is.value.terms.some in omega arith in
    let each : list_all is_ascii_digit (before ++ behind) ≡ true = list_all-append is_ascii_digit before behind ∙ rw (parts.before, parts.behind) refl in
    let small = rw (length-append before behind) at (read_on-below (before ++ behind) each) in
    let times = rw (pow-add 10 (length before) (length behind)) at (mul-lt-mul_of_pos_right small some) in
    let below : whole < 10 ^ length before = (div-lt_iff_lt-mul some).1 (lt_of_mul-lt-mul_right (10 ^ length behind) (omega (arith, times, is.value.value))) in
    let divides = mul-mod_first number.num (10 ^ length behind) number.den ∙ ap (λ n. n % number.den) is.value.value ∙ mul-mod_left _ number.den in
    let are = digits_of_rest-are 18 (length behind) rest number.den (omega (arith, parts.few)) (mod-lt number.num some) divides in
    let shown = decimal-are (length before) whole parts.some (omega (arith, parts.few)) below in
    let value : number.num * 10 ^ length digits ≡ read_on whole digits * number.den =
    sym (are.value whole ∙ ap (λ n. n * 10 ^ length digits) (div-add-mod' number.num number.den)) in
    let num : read_on 0 (decimal whole ++ digits) ≡ read_on whole digits = sym (read_on-append 0 (decimal whole) digits) ∙ ap (λ n. read_on n digits) shown.2 in
    digits_cut number (decimal whole) digits shown.0 are.each (omega (arith, are.few, parts.few, shown.1)) (record { value = rw num value; terms = is.value.terms })

-- one is read as `1`
pub one-is : IsSpelledNumber (record { num = 1; den = 1 })
one-is = record {
  text = codes "1";
  spelled = record {
    form = inl (record { digits = record { some = omega arith; each = refl }; few = omega arith });
    value = record { value = refl; terms = record { some = omega arith; lowest = (one-dvd 1, one-dvd 1, λ d one other. one) } };
  };
}
