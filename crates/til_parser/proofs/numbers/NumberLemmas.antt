-- The digits of a number before its point and behind it.
use Rattle.std.proofs.Common.{◌≡◌, ℕ, suc, ◌+◌, ◌-◌, ◌*◌, ◌^◌, ◌<◌, ◌≤◌, ◌⊎◌, inl, inr, true, false, List, [], ◌∷◌, ◌++◌, length, drop}
use Rattle.std.proofs.Common.{get_or, append-nil, refl, subst, le_trans, mul-le-mul_right, le-mul_of_pos_right, mul_assoc, arith}
use Rattle.std.proofs.Math.Seq.{drop-append-add, take-append_seam}
use Rattle.std.proofs.Math.Nat.{pow-le-pow_right, pow-succ'}
use Rattle.std.proofs.lemmas.Bool.Decides.{nat_tests}
use Rattle.std.proofs.lemmas.Int.Digits.{digits_value-lt}
use Rattle.std.proofs.lemmas.List.Sums.{AllPass-from_list_all}
use Rattle.std.proofs.lemmas.Nat.{pow-add}
use Rattle.std.specs.{Char.is_ascii_digit, List.list_all}
use Rattle.tydi_base.{specs.Decimal.read_on, proofs.DecimalLaws.own}
use Rattle.til_lexer.specs.{Spans.digits_at, Spelling.AreDigits, Spelling.IsWholeNumber, Spelling.IsPointNumber}
use Rattle.til_lexer.proofs.SpelledPieces.{prefix_up_to}
use Rattle.til_parser.specs.Numbers.{digits_before, digits_behind}

-- the two parts of a number
pub record AreParts (number : List ℕ) : Type 0 where
  pub some : 0 < length (digits_before number)
  pub before : list_all is_ascii_digit (digits_before number) ≡ true
  pub behind : list_all is_ascii_digit (digits_behind number) ≡ true
  pub few : length (digits_before number) + length (digits_behind number) ≤ 18

-- digits before something that is none, as a point or the end
pub cut_at : (before rest : List ℕ) → list_all is_ascii_digit before ≡ true → is_ascii_digit (get_or rest 0 0) ≡ false
    → (digits_before (before ++ rest) ≡ before) × (digits_behind (before ++ rest) ≡ drop 1 rest)
cut_at before rest each stops =
    let at : digits_at (before ++ rest) ≡ length before = prefix_up_to is_ascii_digit before rest each stops in
    (rw at (take-append_seam before rest), rw at (drop-append-add before rest 1))

AreParts-at : (before rest : List ℕ) → AreDigits before → is_ascii_digit (get_or rest 0 0) ≡ false → list_all is_ascii_digit (drop 1 rest) ≡ true
    → length before + length (drop 1 rest) ≤ 18 → AreParts (before ++ rest)
AreParts-at before rest digits stops behind few =
    let cut = cut_at before rest digits.each stops in
    record { some = rw cut.0 digits.some; before = rw cut.0 digits.each; behind = rw cut.1 behind; few = rw (cut.0, cut.1) few }

pub AreParts-number : (number : List ℕ) → IsWholeNumber number ⊎ IsPointNumber number → AreParts number
AreParts-number number (inl whole) = subst AreParts (append-nil number) (AreParts-at number [] whole.digits refl refl (omega (arith, whole.few)))
AreParts-number number (inr point) =
    rw point.parts (AreParts-at point.before (46 ∷ point.behind) point.digits_before refl point.digits_behind.each point.few)

-- ---- numbers fit

pub tens_pos : (n : ℕ) → 0 < 10 ^ n
tens_pos n = pow-le-pow_right {n = 10} (omega arith) {i = 0} {j = n} (omega arith)

pub tens_fit : (n : ℕ) → n ≤ 18 → 10 ^ n < 2 ^ 64
tens_fit n few = let most : 10 ^ n ≤ 10 ^ 18 = pow-le-pow_right (omega arith) few in omega arith

-- one more digit leaves room for one less
pub room-next : (value : ℕ) (digits : List ℕ) (i : ℕ) → list_all is_ascii_digit digits ≡ true → i < length digits
    → (value + 1) * 10 ^ (length digits - i) ≤ 2 ^ 64
    → (10 * value + (get_or digits i 0 - 48) + 1) * 10 ^ (length digits - (i + 1)) ≤ 2 ^ 64
room-next value digits i all less room =
    let one = AllPass-from_list_all is_ascii_digit digits all i 0 less in
    let grows : 10 * value + (get_or digits i 0 - 48) + 1 ≤ (value + 1) * 10 = grind (arith, nat_tests) in
    let left : length digits - i ≡ suc (length digits - (i + 1)) = omega arith in
    le_trans (mul-le-mul_right (10 ^ (length digits - (i + 1))) grows)
    (rw (mul_assoc (value + 1) 10 (10 ^ (length digits - (i + 1))), ← pow-succ' 10 (length digits - (i + 1)), ← left) room)

-- a number that has room fits
pub room-fits : (number left : ℕ) → (number + 1) * 10 ^ left ≤ 2 ^ 64 → number < 2 ^ 64
room-fits number left room = let some = tens_pos left in let grows = le-mul_of_pos_right (number + 1) some in omega arith

-- digits spell a number below ten to their count
pub read_on-below : (digits : List ℕ) → list_all is_ascii_digit digits ≡ true → read_on 0 digits < 10 ^ length digits
read_on-below digits each = let all = own.to digits each in rw (own.same digits all) (digits_value-lt 10 digits all)

pub room-whole : (number : List ℕ) → AreParts number → 1 * 10 ^ length (digits_before number) ≤ 2 ^ 64
room-whole number parts =
    let few = parts.few in let fits = tens_fit (length (digits_before number)) (omega arith) in omega arith

pub room-behind : (number : List ℕ) → AreParts number → (read_on 0 (digits_before number) + 1) * 10 ^ length (digits_behind number) ≤ 2 ^ 64
room-behind number parts =
    let whole : read_on 0 (digits_before number) + 1 ≤ 10 ^ length (digits_before number) = omega (arith, read_on-below (digits_before number) parts.before) in
    let most = mul-le-mul_right (10 ^ length (digits_behind number)) whole in
    let all = pow-add 10 (length (digits_before number)) (length (digits_behind number)) in
    let fits = tens_fit (length (digits_before number) + length (digits_behind number)) parts.few in
    le_trans most (omega arith)

pub read_on-append : (number : ℕ) (one other : List ℕ) → read_on (read_on number one) other ≡ read_on number (one ++ other)
read_on-append number [] other = refl
read_on-append number (digit ∷ one) other = read_on-append (10 * number + (digit - 48)) one other
