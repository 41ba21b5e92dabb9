-- Hexadecimal digits in the lanes of a vector, sixteen or eight.
use Rattle.std.proofs.Common.{◌≡◌, ◌∙◌, sym, subst, ℕ, ◌+◌, ◌-◌, ◌*◌, ◌%◌, ◌^◌, ◌<◌, ◌≤◌, Bool, cond, Option, Some, None, ltb, leb, List, [], ◌∷◌, ◌++◌, map, length, replicate, Fits, w8, refl, ap, arith}
use Rattle.std.proofs.lemmas.Bool.Decides.{nat_tests}
use Rattle.std.specs.Simd.Lanes.{zip2, sel_l, top, mask_l, pick_l, Each1}
use Rattle.std.proofs.lemmas.List.{length-map, length-replicate}
use Rattle.std.proofs.lemmas.Simd.{mask_l-mod, length-zip2, pick_l_whole}
use Rattle.tydi_base.specs.Bits.{unpack}
use Rattle.tydi_base.specs.Hex.{bits_of_digits, byte_of_digits, digit_of, marked_digit}
use Rattle.tydi_base.proofs.BitsLemmas.{unpack-nil, unpack-push}
use Rattle.tydi_base.proofs.HexLemmas.{bits_of_digits-nil, hex_digit-digit_of, parts}
use Rattle.tydi_base.proofs.HexBytes.{bits_of_digits-pair}

-- ---- the value of each digit

abbrev at_most : ℕ → ℕ → ℕ
at_most a b = cond (leb a b) 255 0

abbrev below : ℕ → ℕ → ℕ
below a b = cond (ltb a b) 255 0

abbrev less : ℕ → ℕ → ℕ
less a b = (a + (2 ^ 8 - b)) % 2 ^ 8

abbrev where_letter : ℕ → List ℕ → ℕ → ℕ → List ℕ
where_letter n digits letter other = sel_l (map (top 7) (zip2 at_most (replicate n 97) digits)) (replicate n letter) (replicate n other)

-- the results of the operations on vectors
abbrev pub marked_lanes : ℕ → List ℕ → List ℕ
marked_lanes n digits =
    sel_l (map (top 7) (zip2 below (zip2 less digits (where_letter n digits 87 48)) (where_letter n digits 16 10)))
    (zip2 less digits (where_letter n digits 87 48)) (replicate n 255)

marked_lane : (digit : ℕ) → digit < 256
    → cond (top 7 (below (less digit (cond (top 7 (at_most 97 digit)) 87 48)) (cond (top 7 (at_most 97 digit)) 16 10)))
    (less digit (cond (top 7 (at_most 97 digit)) 87 48)) 255
    ≡ marked_digit digit
unfolding marked_digit digit_of
marked_lane digit fits = grind (arith, nat_tests)

marked_lanes_by : (digits : List ℕ) → Each1 (Fits w8) digits → marked_lanes (length digits) digits ≡ map marked_digit digits
marked_lanes_by [] fit = refl
marked_lanes_by (digit ∷ digits) fit =
    let first = marked_lane digit fit.0.fits
    in let rest = marked_lanes_by digits fit.1
    in cc

pub marked_lanes_are : (n : ℕ) (digits : List ℕ) → length digits ≡ n → Each1 (Fits w8) digits → marked_lanes n digits ≡ map marked_digit digits
marked_lanes_are n digits long fit =
    ap (λ (n : ℕ). marked_lanes n digits) (sym long) ∙ marked_lanes_by digits fit

-- ---- whether each is a digit

abbrev high_mask : ℕ → List ℕ → ℕ
high_mask n values = mask_l (map (top 7) (zip2 at_most (replicate n 16) values))

pub marked_digit-some : (digit value : ℕ) → digit_of digit ≡ Some value → marked_digit digit ≡ value
unfolding marked_digit
marked_digit-some digit value is_value = rw is_value refl

low_lane : (value : ℕ) → value < 16 → ◌≡◌ {A = ℕ} (cond (top 7 (at_most 16 value)) 1 0) 0
low_lane value small = grind (arith, nat_tests)

lane_low : (value : ℕ) → ◌≡◌ {A = ℕ} (cond (top 7 (at_most 16 value)) 1 0) 0 → value < 16
lane_low value none = grind (arith, nat_tests)

high_mask-none : (digits : List ℕ) (bits : List Bool)
    → bits_of_digits digits ≡ Some bits
    → high_mask (length digits) (map marked_digit digits) ≡ 0
high_mask-none [] bits are = refl
high_mask-none (digit ∷ digits) bits are =
    let p = parts digit digits bits are
    in let value = marked_digit-some digit p.value p.value_is
    in let small = hex_digit-digit_of digit p.value p.value_is
    in let first = low_lane (marked_digit digit) (omega (arith, small.1))
    in omega (arith, high_mask-none digits p.low p.low_is)

low_values : (digits : List ℕ) → high_mask (length digits) (map marked_digit digits) ≡ 0 → Each1 (λ digit. marked_digit digit < 16) digits
low_values [] none = tt
low_values (digit ∷ digits) none = (lane_low (marked_digit digit) (omega arith), low_values digits (omega arith))

digit_of-marked_by : (digit : ℕ) (read : Option ℕ) → digit_of digit ≡ read → marked_digit digit < 16 → digit_of digit ≡ Some (marked_digit digit)
unfolding marked_digit
digit_of-marked_by digit None is_read small = let out : 255 < 16 = rw is_read at small in absurd (omega arith)
digit_of-marked_by digit (Some value) is_read small = rw is_read refl

pub digit_of-marked : (digit : ℕ) → marked_digit digit < 16 → digit_of digit ≡ Some (marked_digit digit)
digit_of-marked digit small = digit_of-marked_by digit (digit_of digit) refl small

mask_small : (n : ℕ) (values : List ℕ) → length values ≡ n → n ≤ 64 → high_mask n values % 2 ^ 64 ≡ high_mask n values
mask_small n values long few =
    mask_l-mod _ 64
    (omega (arith, length-map (zip2 at_most (replicate n 16) values) (top 7), length-zip2 at_most (replicate n 16) values (length-replicate {A = ℕ} n 16 ∙ sym long), length-replicate {A = ℕ} n 16))

-- ---- the bytes of pairs of digits

abbrev pairs_of : List ℕ → List ℕ
pairs_of [] = []
pairs_of (high ∷ []) = []
pairs_of (high ∷ low ∷ rest) = pairs_of rest ++ (high * 16 % 256 + low) % 256 ∷ []

pair_byte : (high low : ℕ) → marked_digit high < 16 → marked_digit low < 16
    → byte_of_digits high low ≡ Some ((marked_digit high * 16 % 256 + marked_digit low) % 256)
unfolding byte_of_digits
pair_byte high low small_high small_low =
    let number : (marked_digit high * 16 % 256 + marked_digit low) % 256 ≡ 16 * marked_digit high + marked_digit low = omega arith
    in rw (number, digit_of-marked high small_high, digit_of-marked low small_low) refl

pairs_packed : (digits : List ℕ) (count : ℕ) → length digits ≡ 2 * count → Each1 (λ digit. marked_digit digit < 16) digits
    → bits_of_digits digits ≡ Some (unpack (pairs_of (map marked_digit digits)))
pairs_packed [] count even small = rw unpack-nil bits_of_digits-nil
pairs_packed (digit ∷ []) count even small = absurd (omega arith)
pairs_packed (high ∷ low ∷ rest) count even small =
    rw unpack-push
    (bits_of_digits-pair high low _ rest _ (pairs_packed rest (count - 1) (omega arith) small.1.1) (pair_byte high low small.0 small.1.0))

abbrev pub block_bytes : List ℕ → List ℕ
block_bytes values =
    zip2 (λ a b. (a + b) % 256)
    (zip2 (λ a b. a * b % 256) (pick_l 0 (values ++ values) (14 ∷ 12 ∷ 10 ∷ 8 ∷ 6 ∷ 4 ∷ 2 ∷ 0 ∷ [])) (replicate 8 16))
    (pick_l 0 (values ++ values) (15 ∷ 13 ∷ 11 ∷ 9 ∷ 7 ∷ 5 ∷ 3 ∷ 1 ∷ []))

pairs_of-block : (values : List ℕ) → length values ≡ 16 → pairs_of values ≡ block_bytes values
pairs_of-block values long = subst (λ values. pairs_of values ≡ block_bytes values) (pick_l_whole 0 values 16 long) refl

abbrev pub half_block_bytes : List ℕ → List ℕ
half_block_bytes values =
    zip2 (λ a b. (a + b) % 256)
    (zip2 (λ a b. a * b % 256) (pick_l 0 (values ++ values) (6 ∷ 4 ∷ 2 ∷ 0 ∷ [])) (replicate 4 16))
    (pick_l 0 (values ++ values) (7 ∷ 5 ∷ 3 ∷ 1 ∷ []))

pairs_of-half_block : (values : List ℕ) → length values ≡ 8 → pairs_of values ≡ half_block_bytes values
pairs_of-half_block values long = subst (λ values. pairs_of values ≡ half_block_bytes values) (pick_l_whole 0 values 8 long) refl

-- ---- a block of digits, of which the mask says whether each is one

module _ (n : ℕ) (digits values : List ℕ) (few : n ≤ 64) (long : length digits ≡ n) (are : values ≡ map marked_digit digits) where
  many : length values ≡ n
  many = ap length are ∙ length-map digits marked_digit ∙ long

  mask_is : high_mask n values % 2 ^ 64 ≡ high_mask (length digits) (map marked_digit digits)
  mask_is = mask_small n values many few ∙ ap (high_mask n) are ∙ ap (λ (n : ℕ). high_mask n (map marked_digit digits)) (sym long)

  lanes_some : (count : ℕ) → n ≡ 2 * count → high_mask n values % 2 ^ 64 ≡ 0 → bits_of_digits digits ≡ Some (unpack (pairs_of values))
  lanes_some count even none =
      pairs_packed digits count (long ∙ even) (low_values digits (sym mask_is ∙ none))
      ∙ ap (λ (values : List ℕ). Some (unpack (pairs_of values))) (sym are)

  lanes_none_by : (bits : Option (List Bool)) → (high_mask n values % 2 ^ 64 ≡ 0 → ⊥) → bits_of_digits digits ≡ bits → bits_of_digits digits ≡ None
  lanes_none_by None some read = read
  lanes_none_by (Some bits) some read = absurd (some (mask_is ∙ high_mask-none digits bits read))

  lanes_none : (high_mask n values % 2 ^ 64 ≡ 0 → ⊥) → bits_of_digits digits ≡ None
  lanes_none some = lanes_none_by (bits_of_digits digits) some refl

module _ (digits values : List ℕ) (are : values ≡ map marked_digit digits) where
  pub block_some : length digits ≡ 16 → high_mask 16 values % 2 ^ 64 ≡ 0 → bits_of_digits digits ≡ Some (unpack (block_bytes values))
  block_some long none =
      lanes_some 16 digits values (omega arith) long are 8 refl none
      ∙ ap (λ (bytes : List ℕ). Some (unpack bytes)) (pairs_of-block values (many 16 digits values (omega arith) long are))

  pub block_none : length digits ≡ 16 → (high_mask 16 values % 2 ^ 64 ≡ 0 → ⊥) → bits_of_digits digits ≡ None
  block_none long some = lanes_none 16 digits values (omega arith) long are some

  pub half_block_some : length digits ≡ 8 → high_mask 8 values % 2 ^ 64 ≡ 0 → bits_of_digits digits ≡ Some (unpack (half_block_bytes values))
  half_block_some long none =
      lanes_some 8 digits values (omega arith) long are 4 refl none
      ∙ ap (λ (bytes : List ℕ). Some (unpack bytes)) (pairs_of-half_block values (many 8 digits values (omega arith) long are))

  pub half_block_none : length digits ≡ 8 → (high_mask 8 values % 2 ^ 64 ≡ 0 → ⊥) → bits_of_digits digits ≡ None
  half_block_none long some = lanes_none 8 digits values (omega arith) long are some
