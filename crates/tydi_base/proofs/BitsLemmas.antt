-- Words of bits: the bits of a number, and of the bytes that keep them.
use Rattle.std.proofs.Common.{◌≡◌, ◌∙◌, sym, Decides, bytes_eq, ℕ, zero, suc, ◌+◌, ◌-◌, ◌*◌, ◌/◌, ◌%◌, ◌^◌, ◌<◌, ◌≤◌, min, Bool, true, false, eqb, cond, List, [], ◌∷◌, ◌++◌, length, get_or, take, drop, replicate, refl, ap, arith, length-append}
use Rattle.std.proofs.Math.Nat.{mul_assoc, pow-succ', zero-add, suc-add}
use Rattle.std.proofs.lemmas.Bool.Decides.{nat_tests}
use Rattle.std.proofs.lemmas.Slice.Eq.{bytes_eq-Decides, slice_eq-Decides}
use Rattle.std.proofs.lemmas.Bool.{eqb-true, eq-eqb, ne_eqb}
use Rattle.std.proofs.Math.Bool.{beq}
use Rattle.std.specs.Cmp.Lexicographic.{pointwise}
use Rattle.std.specs.Cmp.{booleans_Decides}
use Rattle.std.specs.Bool.{one_answer}
use Rattle.std.proofs.lemmas.Grind.{common_steps, flat_map-append}
use Rattle.std.specs.List.{refill}
use Rattle.std.proofs.lemmas.List.{append-nil, length-replicate, replicate-append-replicate, take-append-drop, take-replicate, drop-replicate, drop_at, take_at}
use Rattle.tydi_base.specs.Bits.{bits_of, number_of_bits, zero_bits, unpack, IsPacked}

-- ---- the bits of a number

pub length-bits_of : (count number : ℕ) → length (bits_of count number) ≡ count
unfolding bits_of
length-bits_of zero number = refl
length-bits_of (suc count) number = ap suc (length-bits_of count (number / 2))

pub bits_of-zero : (count : ℕ) → bits_of count 0 ≡ zero_bits count
unfolding bits_of
bits_of-zero zero = refl
bits_of-zero (suc count) = ap (λ (bits : List Bool). false ∷ bits) (bits_of-zero count)

-- the value that a bit of a number adds to it
bit_value : (number : ℕ) → cond (eqb (number % 2) 1) 1 0 ≡ number % 2
bit_value number = grind (arith, nat_tests)

pub number_of_bits-bits_of : (count number : ℕ) → number < 2 ^ count → number_of_bits (bits_of count number) ≡ number
unfolding bits_of number_of_bits
number_of_bits-bits_of zero number below = omega arith
number_of_bits-bits_of (suc count) number below =
    let half : number / 2 < 2 ^ count = omega (arith, pow-succ' 2 count)
    in omega (arith, bit_value number, number_of_bits-bits_of count (number / 2) half)

pub number_of_bits-below : (bits : List Bool) → number_of_bits bits < 2 ^ length bits
unfolding number_of_bits
number_of_bits-below [] = omega arith
number_of_bits-below (true ∷ bits) =
    omega (arith, pow-succ' 2 (length bits), number_of_bits-below bits)
number_of_bits-below (false ∷ bits) =
    omega (arith, pow-succ' 2 (length bits), number_of_bits-below bits)

half_of : (number : ℕ) → 2 * number / 2 ≡ number
half_of number = omega arith

half_of_more : (number : ℕ) → (1 + 2 * number) / 2 ≡ number
half_of_more number = omega arith

-- a word's bits are those of its number, and zeros behind them
pub bits_of-number_of_bits : (bits : List Bool) (pad : ℕ)
    → bits_of (length bits + pad) (number_of_bits bits) ≡ bits ++ zero_bits pad
unfolding bits_of number_of_bits
bits_of-number_of_bits [] pad = rw zero-add (bits_of-zero pad)
bits_of-number_of_bits (true ∷ bits) pad =
    let odd : eqb ((1 + 2 * number_of_bits bits) % 2) 1 ≡ true = eq-eqb _ _ (omega arith)
    in rw (suc-add (length bits) pad, odd, half_of_more) (ap (λ (rest : List Bool). true ∷ rest) (bits_of-number_of_bits bits pad))
bits_of-number_of_bits (false ∷ bits) pad =
    let even : eqb ((0 + 2 * number_of_bits bits) % 2) 1 ≡ false = ne_eqb _ _ (λ odd. omega arith)
    in rw (suc-add (length bits) pad, even, zero-add, half_of) (ap (λ (rest : List Bool). false ∷ rest) (bits_of-number_of_bits bits pad))

-- numbers of so many bits that have the same bits are the same
pub bits_of_same : (count a b : ℕ) → a < 2 ^ count → b < 2 ^ count → bits_of count a ≡ bits_of count b → a ≡ b
bits_of_same count a b below_a below_b same =
    let first = number_of_bits-bits_of count a below_a
    in let second = number_of_bits-bits_of count b below_b
    in cc (ap number_of_bits same)

-- the bits of a number in two parts
pub bits_of-add : (low_count high_count low high : ℕ)
    → low < 2 ^ low_count
    → bits_of (low_count + high_count) (2 ^ low_count * high + low) ≡ bits_of low_count low ++ bits_of high_count high
unfolding bits_of
bits_of-add zero high_count low high below =
    let same : 2 ^ 0 * high + low ≡ high = omega arith
    in rw (zero-add, same) refl
bits_of-add (suc low_count) high_count low high below =
    let scaled : 2 ^ suc low_count * high ≡ 2 * (2 ^ low_count * high) =
    rw (pow-succ' 2 low_count) (mul_assoc 2 (2 ^ low_count) high)
    in let last : (2 ^ suc low_count * high + low) % 2 ≡ low % 2 = omega (arith, scaled)
    in let rest : (2 ^ suc low_count * high + low) / 2 ≡ 2 ^ low_count * high + low / 2 = omega (arith, scaled)
    in let half : low / 2 < 2 ^ low_count = omega (arith, pow-succ' 2 low_count)
    in rw (suc-add, last, rest)
    (ap (λ (bits : List Bool). eqb (low % 2) 1 ∷ bits) (bits_of-add low_count high_count (low / 2) high half))

-- ---- the bits of bytes

pub unpack-cons : (byte : ℕ) (bytes : List ℕ) → unpack (byte ∷ bytes) ≡ bits_of 8 byte ++ unpack bytes
unfolding unpack
unpack-cons byte bytes = refl

pub unpack-nil : unpack [] ≡ []
unfolding unpack
unpack-nil = refl

pub unpack-append : (front rest : List ℕ) → unpack (front ++ rest) ≡ unpack front ++ unpack rest
unfolding unpack
unpack-append front rest = flat_map-append (bits_of 8) front rest

pub unpack-push : (bytes : List ℕ) (byte : ℕ) → unpack (bytes ++ byte ∷ []) ≡ unpack bytes ++ bits_of 8 byte
unpack-push bytes byte = simp (unpack-append, unpack-cons, unpack-nil, append-nil)

pub length-unpack : (bytes : List ℕ) → length (unpack bytes) ≡ 8 * length bytes
length-unpack [] = rw unpack-nil refl
length-unpack (byte ∷ bytes) =
    rw (unpack-cons, length-append) (omega (arith, length-bits_of 8 byte, length-unpack bytes))

pub unpack-replicate_zero : (count : ℕ) → unpack (replicate count 0) ≡ zero_bits (8 * count)
unpack-replicate_zero zero = unpack-nil
unpack-replicate_zero (suc count) =
    let rest = unpack-replicate_zero count
    in let first = bits_of-zero 8
    in let joined = replicate-append-replicate 8 (8 * count) false
    in let more : 8 + 8 * count ≡ 8 * suc count = omega arith
    in let split = unpack-cons 0 (replicate count 0)
    in cc

-- bytes that have the same bits are the same
pub unpack_same : (a b : List ℕ)
    → ((k : ℕ) → get_or a k 0 < 256)
    → ((k : ℕ) → get_or b k 0 < 256)
    → length a ≡ length b
    → unpack a ≡ unpack b
    → a ≡ b
unpack_same [] [] bytes_a bytes_b lengths same = refl
unpack_same [] (y ∷ ys) bytes_a bytes_b lengths same = cc
unpack_same (x ∷ xs) [] bytes_a bytes_b lengths same = cc
unpack_same (x ∷ xs) (y ∷ ys) bytes_a bytes_b lengths same =
    let whole : bits_of 8 x ++ unpack xs ≡ bits_of 8 y ++ unpack ys =
    cc (unpack-cons x xs, unpack-cons y ys)
    in let front : bits_of 8 x ≡ bits_of 8 y =
    cc (ap (take 8) whole, take_at (bits_of 8 x) (unpack xs) 8 (length-bits_of 8 x), take_at (bits_of 8 y) (unpack ys) 8 (length-bits_of 8 y))
    in let rest : unpack xs ≡ unpack ys =
    cc (ap (drop 8) whole, drop_at (bits_of 8 x) (unpack xs) 8 (length-bits_of 8 x), drop_at (bits_of 8 y) (unpack ys) 8 (length-bits_of 8 y))
    in let head : x ≡ y = bits_of_same 8 x y (bytes_a 0) (bytes_b 0) front
    in let tail : xs ≡ ys =
    unpack_same xs ys (λ k. bytes_a (suc k)) (λ k. bytes_b (suc k)) (omega arith) rest
    in cc

-- ---- words in bytes

pub length_packed : (width : ℕ) (bytes : List ℕ) → IsPacked width bytes → length (take width (unpack bytes)) ≡ width
length_packed width bytes packed = grind (arith, common_steps, length-unpack bytes, packed.room)

-- the bits of a word and the zeros behind it
pub packed_whole : (width : ℕ) (bytes : List ℕ)
    → IsPacked width bytes
    → take width (unpack bytes) ++ zero_bits (8 * length bytes - width) ≡ unpack bytes
packed_whole width bytes packed = rw (← packed.zeros) (take-append-drop width (unpack bytes))

pub packed_same : (width : ℕ) (a b : List ℕ)
    → IsPacked width a
    → IsPacked width b
    → ((k : ℕ) → get_or a k 0 < 256)
    → ((k : ℕ) → get_or b k 0 < 256)
    → take width (unpack a) ≡ take width (unpack b)
    → a ≡ b
packed_same width a b packed_a packed_b bytes_a bytes_b same =
    let lengths : length a ≡ length b =
    omega (arith, packed_a.room, packed_a.few, packed_b.room, packed_b.few)
    in let first = packed_whole width a packed_a
    in let second = packed_whole width b packed_b
    in let bits : unpack a ≡ unpack b = cc
    in unpack_same a b bytes_a bytes_b lengths bits

pub zeros_packed : (width count : ℕ)
    → count ≡ width / 8 + min 1 (width % 8)
    → IsPacked width (replicate count 0)
zeros_packed width count is_count =
    let room : width ≤ 8 * count = omega arith
    in let few : 8 * count < width + 8 = omega arith
    in record {
      room = rw length-replicate room;
      few = rw length-replicate few;
      zeros = rw (length-replicate, unpack-replicate_zero, drop-replicate) refl;
    }

pub take-unpack-zeros : (width count : ℕ)
    → count ≡ width / 8 + min 1 (width % 8)
    → take width (unpack (replicate count 0)) ≡ zero_bits width
take-unpack-zeros width count is_count =
    let room : width ≤ 8 * count = omega arith
    in rw unpack-replicate_zero (take-replicate width (8 * count) false room)

-- the bytes of two words decide whether the words are the same
pub packed_decides : (width : ℕ) (a b : List ℕ) (result : Bool)
    → IsPacked width a
    → IsPacked width b
    → ((k : ℕ) → get_or a k 0 < 256)
    → ((k : ℕ) → get_or b k 0 < 256)
    → result ≡ bytes_eq a b
    → Decides result (take width (unpack a) ≡ take width (unpack b))
packed_decides width a b result packed_a packed_b bytes_a bytes_b is_result =
    let decides = bytes_eq-Decides a b
    in (
      λ holds. ap (λ bytes. take width (unpack bytes)) (decides.0 (sym is_result ∙ holds)),
      λ same. is_result ∙ decides.1 (packed_same width a b packed_a packed_b bytes_a bytes_b same),
    )

-- the same, of two words of one width
pub same_word : (width other_width : ℕ) (a b bytes others : List ℕ) (word other : List Bool) {result : Bool}
    → take width (unpack a) ≡ word
    → take other_width (unpack b) ≡ other
    → IsPacked width a
    → IsPacked other_width b
    → bytes ≡ a
    → others ≡ b
    → ((k : ℕ) → get_or bytes k 0 < 256)
    → ((k : ℕ) → get_or others k 0 < 256)
    → width ≡ other_width
    → result ≡ bytes_eq bytes others
    → Decides result (word ≡ other)
same_word width other_width a b bytes others word other {result = result} word_is other_is packed_a packed_b are_a are_b fit_a fit_b widths is_result =
    let packed_b : IsPacked width b = rw widths packed_b
    in let told : Decides result (take width (unpack a) ≡ take width (unpack b)) =
    packed_decides width a b result packed_a packed_b (rw (← are_a) fit_a) (rw (← are_b) fit_b) (rw (← are_a, ← are_b) is_result)
    in (
      λ holds. sym word_is ∙ told.0 holds ∙ rw widths other_is,
      λ same. told.1 (word_is ∙ same ∙ sym (rw widths other_is)),
    )

-- words of two widths differ
pub other_width : (width other_width : ℕ) (a b : List ℕ) (word other : List Bool)
    → take width (unpack a) ≡ word
    → take other_width (unpack b) ≡ other
    → IsPacked width a
    → IsPacked other_width b
    → (width ≡ other_width → ⊥)
    → Decides (eqb width other_width) (word ≡ other)
other_width width other a b word other_word word_is other_is packed_a packed_b differ = (
  λ holds. absurd (differ (eqb-true width other holds)),
  λ same. absurd (differ (sym (length_packed width a packed_a) ∙ ap length (word_is ∙ same ∙ sym other_is) ∙ length_packed other b packed_b)),
)

-- the decision whether two words are the same equals the answer of `==` on their bits
pub compared : (a b : List Bool) {result : Bool} → Decides result (a ≡ b) → result ≡ pointwise beq a b
compared a b {result = result} decides =
    one_answer result (pointwise beq a b) decides (slice_eq-Decides booleans_Decides a b (pointwise beq a b) refl)

-- ---- a word in place of another as wide

pub refill_whole : (old new : List ℕ) → length new ≡ length old → refill (length old) old new ≡ new
refill_whole old new same = take_at new (drop (length new) old) (length old) same

record AsWide (width other : ℕ) (a b : List ℕ) : Type 0 where
  widths : width ≡ other
  lengths : length a ≡ length b

as_wide : (width other : ℕ) (a b : List ℕ) (word from : List Bool)
    → IsPacked width a
    → IsPacked other b
    → take width (unpack a) ≡ word
    → take other (unpack b) ≡ from
    → length word ≡ length from
    → AsWide width other a b
as_wide width other a b word from packed_a packed_b word_is from_is same =
    let wide : length word ≡ width = ap length (sym word_is) ∙ length_packed width a packed_a
    in let wide_from : length from ≡ other = ap length (sym from_is) ∙ length_packed other b packed_b
    in record {
      widths = omega arith;
      lengths = omega (arith, packed_a.room, packed_a.few, packed_b.room, packed_b.few);
    }

pub copy_lengths : (width other : ℕ) (a b : List ℕ) (word from : List Bool)
    → IsPacked width a
    → IsPacked other b
    → take width (unpack a) ≡ word
    → take other (unpack b) ≡ from
    → length word ≡ length from
    → length a ≡ length b
copy_lengths width other a b word from packed_a packed_b word_is from_is same =
    (as_wide width other a b word from packed_a packed_b word_is from_is same).lengths

pub copy_packed : (width other : ℕ) (a b new : List ℕ) (word from : List Bool)
    → IsPacked width a
    → IsPacked other b
    → take width (unpack a) ≡ word
    → take other (unpack b) ≡ from
    → length word ≡ length from
    → new ≡ b
    → IsPacked width (refill (length a) a new)
copy_packed width other a b new word from packed_a packed_b word_is from_is same new_is =
    let wide = as_wide width other a b word from packed_a packed_b word_is from_is same
    in let long : length new ≡ length a = ap length new_is ∙ sym wide.lengths
    in rw (refill_whole a new long, new_is, wide.widths) packed_b

pub copy_view : (width other : ℕ) (a b new : List ℕ) (word from : List Bool)
    → IsPacked width a
    → IsPacked other b
    → take width (unpack a) ≡ word
    → take other (unpack b) ≡ from
    → length word ≡ length from
    → new ≡ b
    → take width (unpack (refill (length a) a new)) ≡ from
copy_view width other a b new word from packed_a packed_b word_is from_is same new_is =
    let wide = as_wide width other a b word from packed_a packed_b word_is from_is same
    in let long : length new ≡ length a = ap length new_is ∙ sym wide.lengths
    in rw (refill_whole a new long, new_is, wide.widths) from_is
