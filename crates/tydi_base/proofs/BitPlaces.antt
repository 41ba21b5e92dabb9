-- A bit at a place of a word, in the bytes that keep it.
use Rattle.std.proofs.Common.{subst, inl, inr, ◌≡◌, ◌∙◌, sym, ℕ, zero, suc, ◌+◌, ◌-◌, ◌*◌, ◌/◌, ◌%◌, ◌^◌, ◌<◌, ◌≤◌, min, Bool, true, false, eqb, cond, List, [], ◌∷◌, ◌++◌, length, get_or, set, take, refl, ap, arith}
use Rattle.std.proofs.Math.Nat.{mul_comm, pow-succ'}
use Rattle.std.proofs.lemmas.Bool.{eq-eqb, ne_eqb, cases_lt}
use mir.Val.{bool_byte}
use Rattle.std.proofs.Math.Numerals.{one-add, add-one}
use Rattle.std.proofs.lemmas.Nat.{shr-shr, shr_below, shr_split, mod_below, mul-add-lt, pow_pos, pow-add}
use Rattle.std.specs.List.{refill}
use Rattle.std.proofs.lemmas.List.{set_at, length-set, drop-set-lt, set-append_left, set-append_right, length-take, get_or_append_left, get_or-append_right, get_or-take}
use Rattle.tydi_base.specs.Bits.{bits_of, unpack, IsPacked}
use Rattle.tydi_base.proofs.BitsLemmas.{bits_of-add, length-bits_of, length-unpack, length_packed, refill_whole, unpack-cons}

-- ---- a bit at a place

get_or-bits_of : (count number index : ℕ)
    → index < count
    → get_or (bits_of count number) index false ≡ eqb (number / 2 ^ index % 2) 1
unfolding bits_of
get_or-bits_of zero number index below = absurd (omega arith)
get_or-bits_of (suc count) number zero below = let same : number / 1 ≡ number = omega arith in rw same refl
get_or-bits_of (suc count) number (suc index) below =
    get_or-bits_of count (number / 2) index (omega arith)
    ∙ ap (λ (shifted : ℕ). eqb (shifted % 2) 1) (shr-shr number 1 index ∙ ap (λ (shift : ℕ). number / 2 ^ shift) (one-add index))

pub get_or-unpack : (bytes : List ℕ) (index : ℕ)
    → index < 8 * length bytes
    → get_or (unpack bytes) index false ≡ eqb (get_or bytes (index / 8) 0 / 2 ^ (index % 8) % 2) 1
get_or-unpack [] index below = absurd (omega arith)
get_or-unpack (byte ∷ bytes) index below =
    elim (cases_lt index 8) [
      | inl near ↦
          let first : index / 8 ≡ 0 = omega arith
          in let place : index % 8 ≡ index = omega arith
          in rw (unpack-cons, first, place)
          (get_or_append_left (bits_of 8 byte) (unpack bytes) false index (rw length-bits_of near) ∙ get_or-bits_of 8 byte index near)
      | inr far ↦
          let next : index / 8 ≡ suc ((index - 8) / 8) = omega arith
          in let place : index % 8 ≡ (index - 8) % 8 = omega arith
          in rw (unpack-cons, next, place)
          (get_or-append_right (bits_of 8 byte) (unpack bytes) 8 index false (length-bits_of 8 byte) far
          ∙ get_or-unpack bytes (index - 8) (omega arith))
    ]

-- the same in a word
pub get_or-packed : (width index : ℕ) (bytes : List ℕ) (word : List Bool)
    → take width (unpack bytes) ≡ word
    → index < length word
    → get_or (unpack bytes) index false ≡ get_or word index false
get_or-packed width index bytes word word_is below =
    let long : length word ≡ min width (length (unpack bytes)) = ap length (sym word_is) ∙ length-take width (unpack bytes)
    in let within : index < width = omega arith
    in sym (get_or-take width (unpack bytes) index false within) ∙ ap (λ (bits : List Bool). get_or bits index false) word_is

-- ---- a bit written

pub bool_byte-is : (bit : Bool) → bool_byte bit ≡ cond bit 1 0
bool_byte-is true = refl
bool_byte-is false = refl

pub bits_of-odd : (count half bit_value : ℕ) (bit : Bool)
    → bit_value ≡ cond bit 1 0
    → bits_of (suc count) (2 * half + bit_value) ≡ bit ∷ bits_of count half
unfolding bits_of
bits_of-odd count half bit_value true is_one =
    let odd : eqb ((2 * half + bit_value) % 2) 1 ≡ true = eq-eqb _ _ (omega arith)
    in let rest : (2 * half + bit_value) / 2 ≡ half = omega arith
    in rw (odd, rest) refl
bits_of-odd count half bit_value false is_zero =
    let even : eqb ((2 * half + bit_value) % 2) 1 ≡ false = ne_eqb _ _ (λ odd. omega arith)
    in let rest : (2 * half + bit_value) / 2 ≡ half = omega arith
    in rw (even, rest) refl

set-append_at : (front rest : List Bool) (head bit : Bool) (at : ℕ)
    → length front ≡ at
    → set (front ++ head ∷ rest) at bit ≡ front ++ bit ∷ rest
set-append_at front rest head bit at many = set_at front head rest bit at many

-- a number with one of its bits written
pub bits_of-written : (place more from below written bit_value : ℕ) (bit : Bool)
    → below < 2 ^ place
    → bit_value ≡ cond bit 1 0
    → written ≡ from - from % 2 + bit_value
    → bits_of (place + suc more) (2 ^ place * written + below) ≡ set (bits_of (place + suc more) (2 ^ place * from + below)) place bit
unfolding bits_of
bits_of-written place more from below written bit_value bit small is_value is_written =
    let new_form : written ≡ 2 * (from / 2) + bit_value = omega arith
    in let new_bits : bits_of (suc more) written ≡ bit ∷ bits_of more (from / 2) =
    rw new_form (bits_of-odd more (from / 2) bit_value bit is_value)
    in bits_of-add place (suc more) below written small
    ∙ ap (λ (high : List Bool). bits_of place below ++ high) new_bits
    ∙ sym (set-append_at (bits_of place below) (bits_of more (from / 2)) (eqb (from % 2) 1) bit place (length-bits_of place below))
    ∙ sym (ap (λ (bits : List Bool). set bits place bit) (bits_of-add place (suc more) below from small))

pub set-unpack : (bytes : List ℕ) (index byte : ℕ) (bit : Bool)
    → index < 8 * length bytes
    → bits_of 8 byte ≡ set (bits_of 8 (get_or bytes (index / 8) 0)) (index % 8) bit
    → unpack (set bytes (index / 8) byte) ≡ set (unpack bytes) index bit
set-unpack [] index byte bit below same = absurd (omega arith)
set-unpack (first ∷ bytes) index byte bit below same =
    elim (cases_lt index 8) [
      | inl near ↦
          let quotient : index / 8 ≡ 0 = omega arith
          in let place : index % 8 ≡ index = omega arith
          in let same_here : bits_of 8 byte ≡ set (bits_of 8 first) index bit = rw (quotient, place) at same
          in rw (quotient, unpack-cons byte bytes, unpack-cons first bytes, same_here)
          (sym (set-append_left (bits_of 8 first) (unpack bytes) index bit (rw length-bits_of near)))
      | inr far ↦
          let quotient : index / 8 ≡ suc ((index - 8) / 8) = omega arith
          in let place : index % 8 ≡ (index - 8) % 8 = omega arith
          in let same_there : bits_of 8 byte ≡ set (bits_of 8 (get_or bytes ((index - 8) / 8) 0)) ((index - 8) % 8) bit =
          rw (quotient, place) at same
          in rw (quotient, unpack-cons first (set bytes ((index - 8) / 8) byte), unpack-cons first bytes)
          (ap (λ (bits : List Bool). bits_of 8 first ++ bits) (set-unpack bytes (index - 8) byte bit (omega arith) same_there)
          ∙ sym (set-append_right (bits_of 8 first) (unpack bytes) 8 index bit (length-bits_of 8 first) far))
    ]

whole_byte : (place : ℕ) → place < 8 → place + suc (7 - place) ≡ 8
whole_byte place within = omega arith

cond_le_one : (bit : Bool) → cond bit 1 0 ≤ 1
cond_le_one true = omega arith
cond_le_one false = omega arith

parts_sum : (byte from_part rest written_part product : ℕ)
    → product ≡ written_part
    → from_part + rest ≡ byte
    → byte < 256
    → written_part + rest < 256
    → written_part % 256 + (byte - from_part % 256) ≡ product + rest
parts_sum byte from_part rest written_part product same split fits all = omega arith

written_byte : (place byte from below written bit_value number : ℕ) (bit : Bool)
    → place + suc (7 - place) ≡ 8
    → byte ≡ 2 ^ place * from + below
    → number ≡ 2 ^ place * written + below
    → below < 2 ^ place
    → bit_value ≡ cond bit 1 0
    → written ≡ from - from % 2 + bit_value
    → bits_of 8 number ≡ set (bits_of 8 byte) place bit
written_byte place byte from below written bit_value number bit eight old new small is_value is_written =
    let told = bits_of-written place (7 - place) from below written bit_value bit small is_value is_written
    in let told8 : bits_of 8 (2 ^ place * written + below) ≡ set (bits_of 8 (2 ^ place * from + below)) place bit =
    subst (λ (count : ℕ). bits_of count (2 ^ place * written + below) ≡ set (bits_of count (2 ^ place * from + below)) place bit) eight told
    in rw (old, new) told8

take_set : (width index : ℕ) (bits : List Bool) (bit : Bool) → take width (set bits index bit) ≡ set (take width bits) index bit
take_set zero index bits bit = refl
take_set (suc width) index [] bit = refl
take_set (suc width) zero (first ∷ bits) bit = refl
take_set (suc width) (suc index) (first ∷ bits) bit = ap (λ (rest : List Bool). first ∷ rest) (take_set width index bits bit)

-- a byte's parts at a place, its bits from there on written, fit a byte
pub written_fits : (byte place bit_value : ℕ)
    → byte < 256
    → place < 8
    → bit_value ≤ 1
    → (byte / 2 ^ place - byte / 2 ^ place % 2 + bit_value) * 2 ^ place + byte % 2 ^ place < 256
written_fits byte place bit_value fits within small =
    let eight : 7 - place + suc place ≡ 8 = omega arith
    in let whole : byte < 2 ^ (7 - place + suc place) = rw eight fits
    in let half : byte / 2 ^ suc place < 2 ^ (7 - place) = shr_below byte (7 - place) (suc place) whole
    in let halved : byte / 2 ^ place / 2 ≡ byte / 2 ^ suc place = shr-shr byte place 1 ∙ ap (λ (shift : ℕ). byte / 2 ^ shift) (add-one place)
    in let room : 2 * 2 ^ (7 - place) ≡ 2 ^ suc (7 - place) = sym (pow-succ' 2 (7 - place))
    in let written : byte / 2 ^ place - byte / 2 ^ place % 2 + bit_value < 2 ^ suc (7 - place) = omega arith
    in let below : byte % 2 ^ place < 2 ^ place = mod_below byte (2 ^ place) (pow_pos place)
    in let bound = mul-add-lt (byte / 2 ^ place - byte / 2 ^ place % 2 + bit_value) (2 ^ place) (byte % 2 ^ place) (2 ^ suc (7 - place)) written below
    in let product : 2 ^ place * 2 ^ suc (7 - place) ≡ 256 = sym (pow-add 2 place (suc (7 - place))) ∙ ap (λ (count : ℕ). 2 ^ count) (whole_byte place within)
    in rw (← product) bound

-- the sum of the parts fits a byte
pub with_bit_fits : (byte place bit_value : ℕ) (bit : Bool)
    → byte < 256
    → place < 8
    → bit_value ≡ cond bit 1 0
    → (byte / 2 ^ place - byte / 2 ^ place % 2 + bit_value) * 2 ^ place % 256
    + (byte - byte / 2 ^ place * 2 ^ place % 256)
    < 256
with_bit_fits byte place bit_value bit fits within is_value =
    let small : bit_value ≤ 1 = rw is_value (cond_le_one bit)
    in let all = written_fits byte place bit_value fits within small
    in let split : byte / 2 ^ place * 2 ^ place + byte % 2 ^ place ≡ byte = shr_split byte place
    in omega arith

-- a byte with one of its bits written, by its parts
pub bits_of-with_bit : (byte place bit_value : ℕ) (bit : Bool)
    → byte < 256
    → place < 8
    → bit_value ≡ cond bit 1 0
    → bits_of 8
    ((byte / 2 ^ place - byte / 2 ^ place % 2 + bit_value) * 2 ^ place % 256
    + (byte - byte / 2 ^ place * 2 ^ place % 256))
    ≡ set (bits_of 8 byte) place bit
bits_of-with_bit byte place bit_value bit fits within is_value =
    let small : bit_value ≤ 1 = rw is_value (cond_le_one bit)
    in let all = written_fits byte place bit_value fits within small
    in let split : byte / 2 ^ place * 2 ^ place + byte % 2 ^ place ≡ byte = shr_split byte place
    in let old : byte ≡ 2 ^ place * (byte / 2 ^ place) + byte % 2 ^ place = omega (arith, mul_comm (2 ^ place) (byte / 2 ^ place))
    in let new : (byte / 2 ^ place - byte / 2 ^ place % 2 + bit_value) * 2 ^ place % 256 + (byte - byte / 2 ^ place * 2 ^ place % 256)
    ≡ 2 ^ place * (byte / 2 ^ place - byte / 2 ^ place % 2 + bit_value) + byte % 2 ^ place =
    parts_sum _ _ _ _ _ (mul_comm (2 ^ place) (byte / 2 ^ place - byte / 2 ^ place % 2 + bit_value)) split fits all
    in written_byte place byte (byte / 2 ^ place) (byte % 2 ^ place) _ bit_value _ bit (whole_byte place within) old new
    (mod_below byte (2 ^ place) (pow_pos place)) is_value refl

-- ---- a bit of a word written

pub length-put : (old new : List ℕ) (index : ℕ) (bit : Bool)
    → unpack new ≡ set (unpack old) index bit
    → length new ≡ length old
length-put old new index bit written =
    let lengths : length (unpack new) ≡ length (unpack old) = ap length written ∙ length-set (unpack old) index bit
    in omega (arith, length-unpack old, length-unpack new)

pub put_packed : (width index : ℕ) (old new : List ℕ) (word : List Bool) (bit : Bool)
    → IsPacked width old
    → take width (unpack old) ≡ word
    → index < length word
    → unpack new ≡ set (unpack old) index bit
    → IsPacked width (refill (length old) old new)
put_packed width index old new word bit packed word_is below written =
    let same : length new ≡ length old = length-put old new index bit written
    in let wide : length word ≡ width = ap length (sym word_is) ∙ length_packed width old packed
    in let within : index < width = omega arith
    in rw (refill_whole old new same) (record {
      room = rw same packed.room;
      few = rw same packed.few;
      zeros = rw (written, same) (drop-set-lt width (unpack old) index bit within ∙ packed.zeros);
    })

pub put_view : (width index : ℕ) (old new : List ℕ) (word : List Bool) (bit : Bool)
    → IsPacked width old
    → take width (unpack old) ≡ word
    → index < length word
    → unpack new ≡ set (unpack old) index bit
    → take width (unpack (refill (length old) old new)) ≡ set word index bit
put_view width index old new word bit packed word_is below written =
    let same : length new ≡ length old = length-put old new index bit written
    in rw (refill_whole old new same, written)
    (take_set width index (unpack old) bit ∙ ap (λ (bits : List Bool). set bits index bit) word_is)
