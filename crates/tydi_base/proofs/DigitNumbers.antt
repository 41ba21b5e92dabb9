-- The number of hexadecimal digits, and the word that they spell.
use Rattle.std.proofs.Common.{◌≡◌, ℕ, ◌+◌, ◌-◌, ◌*◌, ◌/◌, ◌^◌, ◌<◌, ◌≤◌, Bool, true, false, eqb, ltb, List, [], ◌∷◌, ◌++◌, length, take, drop, Option, Some, None, option_map, refl, sym, ap, ◌∙◌, arith, add-one, get_or, option_and_then}
use Rattle.std.proofs.lemmas.Bool.{eq-eqb}
use Rattle.std.proofs.lemmas.Bool.Decides.{nat_tests}
use Rattle.std.proofs.lemmas.List.{take-append-drop, length-drop, length-take, take_all}
use Rattle.std.proofs.Math.Seq.{drop-cons, take-suc}
use Rattle.std.proofs.Math.Pow.{pow_mono}
use Rattle.tydi_base.specs.Bits.{bits_of, number_of_bits, zero_bits}
use Rattle.tydi_base.specs.Hex.{bits_of_digits, digit_of, digits_for, fitted, no_ones, word_at}
use Rattle.tydi_base.proofs.BitsLemmas.{length-bits_of, number_of_bits-below, number_of_bits-bits_of}
use Rattle.tydi_base.proofs.HexBytes.{fitted-none, fitted-some, none_from_end}
use Rattle.tydi_base.proofs.HexFilling.{bits_of_digits-append, none_from_front}
use Rattle.tydi_base.proofs.HexLemmas.{bits_of_digits-nil, bits_of_digits-push, hex_of-digits, zeros_from_no_ones}
use Rattle.tydi_base.proofs.NumberLemmas.{no_ones-drop, number_of_bits-append, number_of_bits-zeros}

-- the number of digits
abbrev pub number_in : List ℕ → Option ℕ
number_in digits = option_map number_of_bits (bits_of_digits digits)

pub number_in-nil : number_in [] ≡ Some 0
unfolding number_of_bits
number_in-nil = rw bits_of_digits-nil refl

bits_in : (digits : List ℕ) (n : ℕ) (read : Option (List Bool)) → bits_of_digits digits ≡ read → number_in digits ≡ Some n → (bits : List Bool) × (bits_of_digits digits ≡ Some bits) × (number_of_bits bits ≡ n)
bits_in digits n None is number = absurd (let none : ◌≡◌ {A = Option ℕ} None (Some n) = sym (ap (option_map number_of_bits) is) ∙ number in cc)
bits_in digits n (Some bits) is number = (bits, is, let some : ◌≡◌ {A = Option ℕ} (Some (number_of_bits bits)) (Some n) = sym (ap (option_map number_of_bits) is) ∙ number in cc)

pub number_in-push : (digits : List ℕ) (digit value n : ℕ) → value < 16 → digit_of digit ≡ Some value → number_in digits ≡ Some n → number_in (digits ++ digit ∷ []) ≡ Some (16 * n + value)
number_in-push digits digit value n small is number =
    let read = bits_in digits n (bits_of_digits digits) refl number in
    let more = bits_of_digits-push digits digit value read.0 is read.1 in
    let low : number_of_bits (bits_of 4 value) ≡ value = number_of_bits-bits_of 4 value (omega arith) in
    let sum : number_of_bits (bits_of 4 value ++ read.0) ≡ 16 * n + value = number_of_bits-append (bits_of 4 value) read.0 ∙ rw (low, length-bits_of, read.2) (omega arith) in
    rw more (ap (λ (m : ℕ). Some m) sum)

none_at : (digit : ℕ) (rest : List ℕ) (read : Option (List Bool)) → bits_of_digits rest ≡ read → digit_of digit ≡ None → bits_of_digits (digit ∷ rest) ≡ None
unfolding bits_of_digits
none_at digit rest None low is = rw low refl
none_at digit rest (Some bits) low is = rw (low, is) refl

none_within : (front : List ℕ) (digit : ℕ) (rest : List ℕ) → digit_of digit ≡ None → bits_of_digits (front ++ digit ∷ rest) ≡ None
unfolding bits_of_digits
none_within [] digit rest is = none_at digit rest (bits_of_digits rest) refl is
none_within (first ∷ front) digit rest is = rw (none_within front digit rest is) refl

-- a byte that is no digit leaves no number
pub number_in-none : (front : List ℕ) (digit : ℕ) (rest : List ℕ) → digit_of digit ≡ None → number_in (front ++ digit ∷ rest) ≡ None
number_in-none front digit rest is = rw (none_within front digit rest is) refl

-- a number of so many digits at most
pub number_in-below : (digits : List ℕ) (n k : ℕ) → length digits ≤ k → number_in digits ≡ Some n → n < 2 ^ (4 * k)
number_in-below digits n k few number =
    let read = bits_in digits n (bits_of_digits digits) refl number in
    let long = hex_of-digits digits read.0 read.1 in
    let below = number_of_bits-below read.0 in
    let most : 2 ^ length read.0 ≤ 2 ^ (4 * k) = pow_mono {j = 4 * k} (omega (arith, long.0)) in
    omega (arith, below, most, read.2)

-- ---- the digits one by one

pub number_in-more : (digits : List ℕ) (at n value : ℕ) → at < length digits → value < 16 → digit_of (get_or digits at 0) ≡ Some value → number_in (take at digits) ≡ Some n
    → number_in (take (at + 1) digits) ≡ Some (16 * n + value)
number_in-more digits at n value lt small is number = rw (add-one, take-suc digits at 0) (number_in-push (take at digits) (get_or digits at 0) value n small is number)

pub number_in-stops : (digits : List ℕ) (at : ℕ) → at < length digits → digit_of (get_or digits at 0) ≡ None → number_in digits ≡ None
number_in-stops digits at lt is =
    let next : drop at digits ≡ get_or digits at 0 ∷ drop (at + 1) digits = rw add-one (drop-cons digits at 0 lt) in
    let whole : take at digits ++ (get_or digits at 0 ∷ drop (at + 1) digits) ≡ digits = rw (← next) (take-append-drop at digits) in
    ap number_in (sym whole) ∙ number_in-none (take at digits) (get_or digits at 0) (drop (at + 1) digits) is

pub number_in-room : (digits : List ℕ) (at n : ℕ) → at < length digits → length digits ≤ 16 → number_in (take at digits) ≡ Some n → n < 2 ^ 60
number_in-room digits at n lt few number = number_in-below (take at digits) n 15 (omega (arith, length-take at digits)) number

pub number_in-all : (digits : List ℕ) (at n : ℕ) → length digits ≤ at → number_in (take at digits) ≡ Some n → Some n ≡ number_in digits
number_in-all digits at n le number = sym number ∙ ap number_in (take_all at digits le)

pub number_in-one : (digits : List ℕ) (value : ℕ) → length digits ≡ 1 → value < 16 → digit_of (get_or digits 0 0) ≡ Some value → Some value ≡ number_in digits
number_in-one digits value one small is =
    let first = number_in-more digits 0 0 value (omega (arith, one)) small is number_in-nil in
    number_in-all digits 1 value (omega (arith, one)) (first ∙ ap (λ (n : ℕ). Some n) (omega arith))

-- ---- digits in two parts

none_in : (digits : List ℕ) (read : Option (List Bool)) → bits_of_digits digits ≡ read → number_in digits ≡ None → bits_of_digits digits ≡ None
none_in digits None is none = is
none_in digits (Some bits) is none = absurd (let some : ◌≡◌ {A = Option ℕ} (Some (number_of_bits bits)) None = sym (ap (option_map number_of_bits) is) ∙ none in cc)

-- the digits from a place on, as contracts see a part of a slice
pub number_of_rest : (digits : List ℕ) (place : ℕ) → number_in (take (length digits - place) (drop place digits)) ≡ number_in (drop place digits)
number_of_rest digits place = ap number_in (take_all (length digits - place) (drop place digits) (omega (arith, length-drop place digits)))

module _ (digits : List ℕ) (place : ℕ) where
  whole : take place digits ++ drop place digits ≡ digits
  whole = take-append-drop place digits

  pub number_in-front : number_in (take place digits) ≡ None → number_in digits ≡ None
  number_in-front none = rw (← whole) (ap (option_map number_of_bits) (none_from_front (take place digits) (drop place digits) (none_in _ _ refl none)))

  pub number_in-back : number_in (drop place digits) ≡ None → number_in digits ≡ None
  number_in-back none = ap (option_map number_of_bits) (none_from_end digits place (none_in _ _ refl none))

  pub number_in-parts : (high low : ℕ) → place + 16 ≡ length digits → number_in (take place digits) ≡ Some high → number_in (drop place digits) ≡ Some low
      → number_in digits ≡ Some (high * 2 ^ 64 + low)
  number_in-parts high low long above below =
      let first = bits_in (take place digits) high (bits_of_digits (take place digits)) refl above in
      let last = bits_in (drop place digits) low (bits_of_digits (drop place digits)) refl below in
      let both = bits_of_digits-append (take place digits) (drop place digits) first.0 last.0 first.1 last.1 in
      let many : length last.0 ≡ 64 = omega (arith, (hex_of-digits (drop place digits) last.0 last.1).0, length-drop place digits) in
      let sum : number_of_bits (last.0 ++ first.0) ≡ high * 2 ^ 64 + low = number_of_bits-append last.0 first.0 ∙ rw (many, first.2, last.2) (omega arith) in
      rw (← whole) (rw both (ap (λ (n : ℕ). Some n) sum))

-- ---- the word of digits

module _ (lanes : ℕ) (digits : List ℕ) (long : length digits ≡ (lanes + 3) / 4) where
  at_word : word_at lanes digits ≡ option_and_then (fitted lanes) (bits_of_digits digits)
  unfolding word_at digits_for
  at_word = let many : eqb (length digits) ((lanes + 3) / 4) ≡ true = eq-eqb _ _ long in rw many refl

  without : number_in digits ≡ None → (read : Option (List Bool)) → bits_of_digits digits ≡ read → option_and_then (fitted lanes) (bits_of_digits digits) ≡ None
  without none None is = rw is refl
  without none (Some bits) is = absurd (let some : ◌≡◌ {A = Option ℕ} (Some (number_of_bits bits)) None = sym (ap (option_map number_of_bits) is) ∙ none in cc)

  pub word_at-no_number : number_in digits ≡ None → word_at lanes digits ≡ None
  word_at-no_number none = at_word ∙ without none (bits_of_digits digits) refl

  pub word_at-large : (n : ℕ) → number_in digits ≡ Some n → 2 ^ lanes ≤ n → word_at lanes digits ≡ None
  word_at-large n number large =
      let read = bits_in digits n (bits_of_digits digits) refl number in
      let past : ltb n (2 ^ lanes) ≡ false = grind (arith, nat_tests) in
      let ones : no_ones (drop lanes read.0) ≡ false = no_ones-drop lanes read.0 ∙ rw read.2 past in
      at_word ∙ rw read.1 (fitted-none lanes read.0 ones)

  module _ (n : ℕ) (fits : n < 2 ^ lanes) where
    bits_at : (bits : List Bool) → bits_of_digits digits ≡ Some bits → number_of_bits bits ≡ n → (word_at lanes digits ≡ Some (take lanes bits)) × (number_of_bits (take lanes bits) ≡ n)
    bits_at bits is number =
        let within : ltb n (2 ^ lanes) ≡ true = grind (arith, nat_tests) in
        let none : no_ones (drop lanes bits) ≡ true = no_ones-drop lanes bits ∙ rw number within in
        let whole : take lanes bits ++ zero_bits (length (drop lanes bits)) ≡ bits = rw (← zeros_from_no_ones (drop lanes bits) none) (take-append-drop lanes bits) in
        let same : number_of_bits (take lanes bits) ≡ n = sym (number_of_bits-zeros (take lanes bits) (length (drop lanes bits))) ∙ ap number_of_bits whole ∙ number in
        (at_word ∙ rw is (fitted-some lanes bits none), same)

    pub word_at-number : number_in digits ≡ Some n → (bits : List Bool) × (word_at lanes digits ≡ Some bits) × (number_of_bits bits ≡ n)
    word_at-number number =
        let read = bits_in digits n (bits_of_digits digits) refl number in
        let word = bits_at read.0 read.1 read.2 in
        (take lanes read.0, word.0, word.1)
