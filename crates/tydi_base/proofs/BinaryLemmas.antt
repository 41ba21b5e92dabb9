-- Words in binary: each spelling is read, and each text that is read is a spelling.
use Rattle.std.proofs.Common.{◌≡◌, ℕ, zero, suc, ◌+◌, ◌-◌, ◌<◌, ◌≤◌, Bool, true, false, ◌&&◌, ◌==◌, cond, List, [], ◌∷◌, ◌++◌, append_assoc, append-nil, length, length-append, get_or, take, drop, Option, Some, None, refl, sym, ap, ◌∙◌, arith}
use Rattle.std.specs.List.{list_all}
use Rattle.std.proofs.Math.ListN.{set}
use Rattle.std.proofs.Math.Seq.{drop-cons}
use Rattle.std.proofs.lemmas.Bool.Decides.{nat_tests}
use Rattle.std.proofs.lemmas.List.{take_more}
use Rattle.std.proofs.lemmas.List.Folds.{list_all-append}
use Rattle.tydi_base.specs.Binary.{binary_bits, binary_digit, binary_of, binary_word, is_binary_digit, BinaryIsReadAsSpelled, BinaryIsSpelledAsRead}
use Rattle.tydi_base.proofs.PlainWords.{and_parts, both}

bits-last : (digits : List ℕ) (digit : ℕ) → binary_bits (digits ++ digit ∷ []) ≡ (digit == 49) ∷ binary_bits digits
unfolding binary_bits
bits-last [] digit = refl
bits-last (first ∷ digits) digit = ap (λ (bits : List Bool). bits ++ (first == 49) ∷ []) (bits-last digits digit)

text-last : (bits : List Bool) (bit : Bool) → binary_of (bits ++ bit ∷ []) ≡ binary_digit bit ∷ binary_of bits
unfolding binary_of
text-last [] bit = refl
text-last (first ∷ bits) bit = ap (λ (text : List ℕ). text ++ binary_digit first ∷ []) (text-last bits bit)

digit-is : (bit : Bool) → (binary_digit bit == 49) ≡ bit
digit-is true = refl
digit-is false = refl

digit-binary : (bit : Bool) → is_binary_digit (binary_digit bit) ≡ true
digit-binary true = refl
digit-binary false = refl

text-binary : (bits : List Bool) → list_all is_binary_digit (binary_of bits) ≡ true
unfolding binary_of
text-binary [] = refl
text-binary (bit ∷ bits) =
    list_all-append is_binary_digit (binary_of bits) (binary_digit bit ∷ [])
    ∙ both (list_all is_binary_digit (binary_of bits)) (is_binary_digit (binary_digit bit) && true) (text-binary bits) (rw digit-binary refl)

text-bits : (bits : List Bool) → binary_bits (binary_of bits) ≡ bits
unfolding binary_of binary_bits
text-bits [] = refl
text-bits (bit ∷ bits) =
    bits-last (binary_of bits) (binary_digit bit)
    ∙ ap (λ (first : Bool). first ∷ binary_bits (binary_of bits)) (digit-is bit) ∙ ap (λ (rest : List Bool). bit ∷ rest) (text-bits bits)

pub binary_spelled : BinaryIsReadAsSpelled
unfolding binary_word
binary_spelled bits = rw (text-binary bits, text-bits bits) refl

digit-back : (digit : ℕ) → is_binary_digit digit ≡ true → binary_digit (digit == 49) ≡ digit
digit-back digit e = by_test (digit == 49) refl
  where
    by_test : (test : Bool) → (digit == 49) ≡ test → binary_digit test ≡ digit
    by_test true is = grind (arith, nat_tests)
    by_test false other = grind (arith, nat_tests)

bits-text : (digits : List ℕ) → list_all is_binary_digit digits ≡ true → binary_of (binary_bits digits) ≡ digits
unfolding binary_of binary_bits
bits-text [] e = refl
bits-text (digit ∷ digits) e =
    let parts = and_parts (is_binary_digit digit) (list_all is_binary_digit digits) e in
    text-last (binary_bits digits) (digit == 49)
    ∙ ap (λ (first : ℕ). first ∷ binary_of (binary_bits digits)) (digit-back digit parts.0) ∙ ap (λ (rest : List ℕ). digit ∷ rest) (bits-text digits parts.1)

length-bits : (digits : List ℕ) → length (binary_bits digits) ≡ length digits
unfolding binary_bits
length-bits [] = refl
length-bits (digit ∷ digits) = length-append (binary_bits digits) ((digit == 49) ∷ []) ∙ (let rest = length-bits digits in omega arith)

pub binary_read : BinaryIsSpelledAsRead
unfolding binary_word
binary_read digits bits e = by_test (list_all is_binary_digit digits) refl e
  where
    by_test : (test : Bool) → list_all is_binary_digit digits ≡ test → cond {A = Option (List Bool)} test (Some (binary_bits digits)) None ≡ Some bits → (digits ≡ binary_of bits) × (length bits ≡ length digits)
    by_test true is e = let same : binary_bits digits ≡ bits = cc in (sym (bits-text digits is) ∙ ap binary_of same, ap length (sym same) ∙ length-bits digits)
    by_test false is e = absurd cc

-- ---- the loops

-- the text of a bit more, and of those above it
pub text-more : (bits : List Bool) (left : ℕ) → left < length bits → binary_of (drop left bits) ≡ binary_of (drop (suc left) bits) ++ binary_digit (get_or bits left false) ∷ []
unfolding binary_of
text-more bits left within = rw (drop-cons bits left false within) refl

pub bits-more : (digits : List ℕ) (at : ℕ) → at < length digits → binary_bits (take (at + 1) digits) ≡ (get_or digits at 0 == 49) ∷ binary_bits (take at digits)
bits-more digits at within = ap binary_bits (take_more digits at 0 within) ∙ bits-last (take at digits) (get_or digits at 0)

pub drop-set : (bits : List Bool) (at : ℕ) (bit : Bool) → at < length bits → drop at (set bits at bit) ≡ bit ∷ drop (suc at) bits
drop-set [] at bit within = absurd (omega arith)
drop-set (first ∷ bits) zero bit within = refl
drop-set (first ∷ bits) (suc at) bit within = drop-set bits at bit (omega arith)

pub word-there : (digits : List ℕ) → list_all is_binary_digit digits ≡ true → binary_word digits ≡ Some (binary_bits digits)
unfolding binary_word
word-there digits is = rw is refl

pub word-none : (digits : List ℕ) → list_all is_binary_digit digits ≡ false → binary_word digits ≡ None
unfolding binary_word
word-none digits is = rw is refl

drop-whole : (bits : List Bool) (count : ℕ) → length bits ≡ count → drop count bits ≡ []
drop-whole [] zero same = refl
drop-whole [] (suc count) same = absurd (omega arith)
drop-whole (bit ∷ bits) zero same = absurd (omega arith)
drop-whole (bit ∷ bits) (suc count) same = drop-whole bits count (omega arith)

pub fill-start : (bits : List Bool) (count : ℕ) → length bits ≡ count → drop count bits ≡ binary_bits []
unfolding binary_bits
fill-start = drop-whole

pub length-put : (bits : List Bool) (at : ℕ) (bit : Bool) → length (set bits at bit) ≡ length bits
length-put [] at bit = refl
length-put (first ∷ bits) zero bit = refl
length-put (first ∷ bits) (suc at) bit = let rest = length-put bits at bit in omega arith

pub fill-step : (digits : List ℕ) (bits : List Bool) (left at : ℕ) → at < length digits → left + at ≡ length digits → length bits ≡ length digits → drop left bits ≡ binary_bits (take at digits)
    → drop (left - 1) (set bits (left - 1) (get_or digits at 0 == 49)) ≡ binary_bits (take (at + 1) digits)
fill-step digits bits left at within places long so_far =
    let lower : left ≡ suc (left - 1) = omega arith in
    let bit = get_or digits at 0 == 49 in
    drop-set bits (left - 1) bit (omega arith)
    ∙ ap (λ count. bit ∷ drop count bits) (sym lower) ∙ ap (λ (rest : List Bool). bit ∷ rest) so_far ∙ sym (bits-more digits at within)

pub text-start : (out : List ℕ) (bits : List Bool) (count : ℕ) → count ≡ length bits → out ≡ out ++ binary_of (drop count bits)
unfolding binary_of
text-start out bits count is = sym (ap (λ (rest : List Bool). out ++ binary_of rest) (drop-whole bits count (sym is)) ∙ append-nil out)

pub text-step : (out new initial : List ℕ) (bits : List Bool) (left digit : ℕ) → 0 < left → left ≤ length bits → out ≡ initial ++ binary_of (drop left bits)
    → digit ≡ binary_digit (get_or bits (left - 1) false) → new ≡ out ++ digit ∷ [] → new ≡ initial ++ binary_of (drop (left - 1) bits)
text-step out new initial bits left digit some within so_far is pushed =
    let lower : suc (left - 1) ≡ left = omega arith in
    let more = text-more bits (left - 1) (omega arith) in
    let above : binary_of (drop (left - 1) bits) ≡ binary_of (drop left bits) ++ digit ∷ [] =
    more ∙ ap (λ count. binary_of (drop count bits) ++ binary_digit (get_or bits (left - 1) false) ∷ []) lower ∙ ap (λ byte. binary_of (drop left bits) ++ byte ∷ []) (sym is) in
    pushed ∙ ap (λ (text : List ℕ). text ++ digit ∷ []) so_far ∙ append_assoc initial (binary_of (drop left bits)) (digit ∷ []) ∙ ap (λ (rest : List ℕ). initial ++ rest) (sym above)
