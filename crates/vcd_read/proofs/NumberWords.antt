-- Words that are made from the numbers that letters spell.
use Rattle.std.proofs.Common.{◌≡◌, ◌∙◌, ℕ, ◌+◌, ◌-◌, ◌*◌, ◌^◌, ◌%◌, ◌≤◌, ◌<◌, ◌==◌, Bool, true, false, cond, ltb, List, [], ◌∷◌, length, take, get_or, Option}
use Rattle.std.proofs.Common.{Some, None, option_map, refl, sym, ap, arith}
use Rattle.std.specs.List.{list_all}
use Rattle.std.proofs.Math.Pow.{pow_mono}
use Rattle.std.proofs.lemmas.Bool.Decides.{nat_tests}
use Rattle.std.proofs.lemmas.List.{length-take, take_all}
use Rattle.std.proofs.lemmas.List.Folds.{list_all_at, list_all_more}
use Rattle.tydi_base.specs.Binary.{binary_bits, binary_word, is_binary_digit}
use Rattle.tydi_base.specs.Bits.{bits_of, number_of_bits}
use Rattle.tydi_base.specs.Numbers.{word_of_number}
use Rattle.tydi_base.proofs.BinaryLemmas.{binary_read, bits-more, word-none, word-there}
use Rattle.tydi_base.proofs.BitsLemmas.{bits_of-number_of_bits, number_of_bits-below}
use Rattle.tydi_base.proofs.PlainWords.{both}
use Rattle.vcd_read.specs.Words.{bit_of, under, word_of}
use Rattle.vcd_read.specs.declared.state.State.TheVariants as states
use Rattle.vcd_read.proofs.WordLemmas.{above}

-- these letters are digits, and spell this number
pub record Spells (letters : List ℕ) (number : ℕ) : Type 0 where
  pub digits : list_all is_binary_digit letters ≡ true
  pub is : number ≡ number_of_bits (binary_bits letters)

pub spells-nothing : Spells [] 0
unfolding binary_bits number_of_bits
spells-nothing = record { digits = refl; is = refl }

digit-bit : (digit : ℕ) → is_binary_digit digit ≡ true → digit % 2 ≡ cond (digit == 49) 1 0
digit-bit digit is = grind (arith, nat_tests)

-- one letter more
pub spells-more : (letters : List ℕ) (at number : ℕ) → at < length letters → is_binary_digit (get_or letters at 0) ≡ true → Spells (take at letters) number
    → Spells (take (at + 1) letters) (2 * number + get_or letters at 0 % 2)
unfolding number_of_bits
spells-more letters at number within digit so_far = record {
  digits = list_all_more is_binary_digit letters at 0 within ∙ both (list_all is_binary_digit (take at letters)) (is_binary_digit (get_or letters at 0)) so_far.digits digit;
  is = let so = so_far.is in let bit = digit-bit (get_or letters at 0) digit in
      let more : number_of_bits (binary_bits (take (at + 1) letters)) ≡ cond (get_or letters at 0 == 49) 1 0 + 2 * number_of_bits (binary_bits (take at letters)) =
      ap number_of_bits (bits-more letters at within) in omega (arith, so, bit, more);
}

length-bits : (letters : List ℕ) → list_all is_binary_digit letters ≡ true → length (binary_bits letters) ≡ length letters
length-bits letters digits = (binary_read letters (binary_bits letters) (word-there letters digits)).1

-- the number of some of at most 64 letters
pub spells-room : (letters : List ℕ) (at number : ℕ) → at < length letters → length letters ≤ 64 → Spells (take at letters) number → number < 2 ^ 63
spells-room letters at number within few so_far =
    let so = so_far.is in
    let long = length-bits (take at letters) so_far.digits in
    let size = length-take at letters in
    let below = number_of_bits-below (binary_bits (take at letters)) in
    let most : length (binary_bits (take at letters)) ≤ 63 = omega (arith, long, size) in
    let bound : 2 ^ length (binary_bits (take at letters)) ≤ 2 ^ 63 = pow_mono most in
    omega (arith, so, below, bound)

-- all letters are read
pub spells-all : (letters : List ℕ) (at number : ℕ) → length letters ≤ at → Spells (take at letters) number
    → Some number ≡ option_map number_of_bits (binary_word letters)
spells-all letters at number all so_far =
    ap (λ (n : ℕ). Some n) so_far.is ∙ sym (ap (option_map number_of_bits) (word-there (take at letters) so_far.digits))
    ∙ ap (λ (l : List ℕ). option_map number_of_bits (binary_word l)) (take_all at letters all)

-- a letter is no digit
pub spells-stop : (letters : List ℕ) (at : ℕ) → at < length letters → is_binary_digit (get_or letters at 0) ≡ false
    → None ≡ option_map number_of_bits (binary_word letters)
spells-stop letters at within other = sym (ap (option_map number_of_bits) (word-none letters (list_all_at is_binary_digit letters at 0 within other)))

-- no number, no word
pub no-number : (word : Option (List Bool)) → None ≡ option_map number_of_bits word → word ≡ None
no-number None is = refl
no-number (Some bits) is = absurd (let none : ◌≡◌ {A = Option ℕ} None (Some (number_of_bits bits)) = is in cc)

word_of_number-fits : (width number : ℕ) → number < 2 ^ width → word_of_number width number ≡ Some (bits_of width number)
unfolding word_of_number
word_of_number-fits width number below = let test : ltb number (2 ^ width) ≡ true = grind (arith, nat_tests) in rw test refl

-- a word has zeros above the bits of its number
pub number-word : (width : ℕ) (letters : List ℕ) (number : ℕ) → length letters ≤ width → Some number ≡ option_map number_of_bits (binary_word letters)
    → word_of_number width number ≡ above (width - length letters) (binary_word letters)
number-word width letters number few is = by (binary_word letters) refl is
  where
    by : (word : Option (List Bool)) → binary_word letters ≡ word → Some number ≡ option_map number_of_bits word
        → word_of_number width number ≡ above (width - length letters) word
    by None word_is is = absurd (let none : ◌≡◌ {A = Option ℕ} (Some number) None = is in cc)
    by (Some bits) word_is is =
        let same : number ≡ number_of_bits bits = cc in
        let long = (binary_read letters bits word_is).1 in
        let whole : length bits + (width - length letters) ≡ width = omega (arith, long) in
        let below = number_of_bits-below bits in
        let bound : 2 ^ length bits ≤ 2 ^ width = pow_mono (omega (arith, long)) in
        word_of_number-fits width number (omega (arith, same, below, bound))
        ∙ ap (λ (l : List Bool). Some l) ((λ i. bits_of (sym whole i) (same i)) ∙ bits_of-number_of_bits bits (width - length letters))

-- the words of a bit
pub low-word : word_of_number 1 0 ≡ word_of (states.Low ∷ [])
unfolding word_of_number bits_of under bit_of
low-word = refl

pub high-word : word_of_number 1 1 ≡ word_of (states.High ∷ [])
unfolding word_of_number bits_of under bit_of
high-word = refl
