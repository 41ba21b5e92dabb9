-- Parts of bytes: some bits of them read, and some bits of one written.
use Rattle.std.proofs.Common.{◌≡◌, ◌∙◌, sym, ℕ, zero, suc, ◌+◌, ◌-◌, ◌*◌, ◌/◌, ◌%◌, ◌^◌, ◌<◌, ◌≤◌, Bool, List, [], ◌∷◌, ◌++◌, length, get_or, take, drop, refl, ap, arith, append_assoc}
use Rattle.std.proofs.Math.Nat.{mul_comm, pow-le-pow_right}
use Rattle.std.proofs.Math.Seq.{take-append-add}
use Rattle.std.proofs.lemmas.List.{append-nil, drop-append-le, drop-drop, drop_at, drop_more, take-append-le, take_at}
use Rattle.std.proofs.lemmas.Nat.{mod_below, mul-add-lt, pow-add, pow_pos, shr_below, shr_split}
use Rattle.tydi_base.specs.Bits.{bits_of, unpack, written_at}
use Rattle.tydi_base.proofs.BitsLemmas.{bits_of-add, length-bits_of, unpack-cons, unpack-nil}
use Rattle.tydi_base.proofs.NumberLemmas.{bits_of-parts}

-- ---- some bits of a number

bits_of-none : (bits : List Bool) (number : ℕ) → bits ++ bits_of 0 number ≡ bits
unfolding bits_of
bits_of-none bits number = append-nil bits

-- the bits of a number are those of its rest by that power
bits_of-mod : (count number : ℕ) → bits_of count (number % 2 ^ count) ≡ bits_of count number
bits_of-mod count number =
    let split : 2 ^ count * (number / 2 ^ count) + number % 2 ^ count ≡ number =
    ap (λ (high : ℕ). high + number % 2 ^ count) (mul_comm (2 ^ count) (number / 2 ^ count)) ∙ shr_split number count
    in sym
    (sym (ap (bits_of count) split)
    ∙ ap (λ (width : ℕ). bits_of width (2 ^ count * (number / 2 ^ count) + number % 2 ^ count)) (same count)
    ∙ bits_of-add count 0 (number % 2 ^ count) (number / 2 ^ count) (mod_below number (2 ^ count) (pow_pos count))
    ∙ bits_of-none _ _)
  where
    same : (count : ℕ) → count ≡ count + 0
    same count = omega arith

take-bits_of : (count more number : ℕ) → take count (bits_of (count + more) number) ≡ bits_of count number
take-bits_of count more number =
    ap (take count) (bits_of-parts count more number)
    ∙ take_at (bits_of count number) (bits_of more (number / 2 ^ count)) count (length-bits_of count number)

drop-bits_of : (skip count number : ℕ) → drop skip (bits_of (skip + count) number) ≡ bits_of count (number / 2 ^ skip)
drop-bits_of skip count number =
    ap (drop skip) (bits_of-parts skip count number)
    ∙ drop_at (bits_of skip number) (bits_of count (number / 2 ^ skip)) skip (length-bits_of skip number)

-- so many bits of a number from a place on, with others above them
part-bits_of : (width skip count more number : ℕ) (rest : List Bool)
    → width ≡ skip + (count + more)
    → take count (drop skip (bits_of width number ++ rest)) ≡ bits_of count (number / 2 ^ skip)
part-bits_of width skip count more number rest is_width =
    let long = length-bits_of width number
    in let long_rest = length-bits_of (count + more) (number / 2 ^ skip)
    in ap (take count) (drop-append-le skip (bits_of width number) rest (omega arith))
    ∙ ap (λ (width : ℕ). take count (drop skip (bits_of width number) ++ rest)) is_width
    ∙ ap (λ (bits : List Bool). take count (bits ++ rest)) (drop-bits_of skip (count + more) number)
    ∙ take-append-le count (bits_of (count + more) (number / 2 ^ skip)) rest (omega arith)
    ∙ take-bits_of count more (number / 2 ^ skip)

-- ---- a part of bytes

pub drop-unpack : (index : ℕ) (bytes : List ℕ) → drop (8 * index) (unpack bytes) ≡ unpack (drop index bytes)
drop-unpack zero bytes = refl
drop-unpack (suc index) [] = rw unpack-nil (nothing (8 * suc index))
  where
    nothing : (count : ℕ) → ◌≡◌ {A = List Bool} (drop count []) []
    nothing zero = refl
    nothing (suc count) = refl
drop-unpack (suc index) (byte ∷ bytes) =
    let places : 8 * suc index ≡ 8 + 8 * index = omega arith
    in ap (λ (count : ℕ). drop count (unpack (byte ∷ bytes))) places
    ∙ sym (drop-drop (8 * index) 8 (unpack (byte ∷ bytes)))
    ∙ ap (λ (bits : List Bool). drop (8 * index) (drop 8 bits)) (unpack-cons byte bytes)
    ∙ ap (drop (8 * index)) (drop_at (bits_of 8 byte) (unpack bytes) 8 (length-bits_of 8 byte))
    ∙ drop-unpack index bytes

pub take-unpack_bytes : (count : ℕ) (bytes : List ℕ) → take (8 * count) (unpack bytes) ≡ unpack (take count bytes)
take-unpack_bytes zero bytes = sym unpack-nil
take-unpack_bytes (suc count) [] = rw unpack-nil (nothing (8 * suc count))
  where
    nothing : (count : ℕ) → ◌≡◌ {A = List Bool} (take count []) []
    nothing zero = refl
    nothing (suc count) = refl
take-unpack_bytes (suc count) (byte ∷ bytes) =
    let places : 8 * suc count ≡ length (bits_of 8 byte) + 8 * count = omega (arith, length-bits_of 8 byte)
    in ap (λ (count : ℕ). take count (unpack (byte ∷ bytes))) places
    ∙ ap (take (length (bits_of 8 byte) + 8 * count)) (unpack-cons byte bytes)
    ∙ take-append-add (bits_of 8 byte) (unpack bytes) (8 * count)
    ∙ ap (λ (bits : List Bool). bits_of 8 byte ++ bits) (take-unpack_bytes count bytes)
    ∙ sym (unpack-cons byte (take count bytes))

low_byte : (count number : ℕ) → count ≤ 8 → bits_of count (number % 256) ≡ bits_of count number
low_byte count number few =
    let eight : count + (8 - count) ≡ 8 = omega arith
    in sym (take-bits_of count (8 - count) (number % 256))
    ∙ ap (λ (width : ℕ). take count (bits_of width (number % 256))) eight
    ∙ ap (take count) (bits_of-mod 8 number)
    ∙ ap (λ (width : ℕ). take count (bits_of width number)) (sym eight)
    ∙ take-bits_of count (8 - count) number

-- bits from a place on, in parts: whole bytes, and what is left
drop_place : (from : ℕ) (source : List ℕ) → drop from (unpack source) ≡ drop (from % 8) (unpack (drop (from / 8) source))
drop_place from source =
    let places : from ≡ 8 * (from / 8) + from % 8 = omega arith
    in ap (λ (count : ℕ). drop count (unpack source)) places
    ∙ sym (drop-drop (from % 8) (8 * (from / 8)) (unpack source))
    ∙ ap (drop (from % 8)) (drop-unpack (from / 8) source)

part-in : (from count width more number : ℕ) (source rest : List ℕ)
    → count ≤ 8
    → unpack (drop (from / 8) source) ≡ bits_of width number ++ unpack rest
    → width ≡ from % 8 + (count + more)
    → bits_of count (number / 2 ^ (from % 8) % 256) ≡ take count (drop from (unpack source))
part-in from count width more number source rest few whole is_width =
    low_byte count (number / 2 ^ (from % 8)) few
    ∙ sym
    (ap (take count) (drop_place from source ∙ ap (drop (from % 8)) whole)
    ∙ part-bits_of width (from % 8) count more number (unpack rest) is_width)

-- the part lies in one byte, the last
pub part-last : (source : List ℕ) (from count byte : ℕ)
    → count ≤ 8
    → 0 < count
    → from + count ≤ 8 * length source
    → length source ≤ from / 8 + 1
    → byte ≡ get_or source (from / 8) 0
    → bits_of count (byte / 2 ^ (from % 8) % 256) ≡ take count (drop from (unpack source))
part-last source from count byte few some within last byte_is =
    let rest : drop (from / 8) source ≡ get_or source (from / 8) 0 ∷ drop (from / 8 + 1) source = drop_more source (from / 8) 0 (omega arith)
    in part-in from count 8 (8 - (from % 8 + count)) byte source (drop (from / 8 + 1) source) few
    (ap unpack rest ∙ unpack-cons (get_or source (from / 8) 0) (drop (from / 8 + 1) source)
    ∙ ap (λ (byte : ℕ). bits_of 8 byte ++ unpack (drop (from / 8 + 1) source)) (sym byte_is))
    (omega arith)

-- the part lies in two bytes
pub part-pair : (source : List ℕ) (from count pair : ℕ)
    → count ≤ 8
    → from / 8 + 1 < length source
    → get_or source (from / 8) 0 < 256
    → pair ≡ get_or source (from / 8) 0 + 256 * get_or source (from / 8 + 1) 0
    → bits_of count (pair / 2 ^ (from % 8) % 256) ≡ take count (drop from (unpack source))
part-pair source from count pair few within small pair_is =
    let first : drop (from / 8) source ≡ get_or source (from / 8) 0 ∷ drop (from / 8 + 1) source = drop_more source (from / 8) 0 (omega arith)
    in let second : drop (from / 8 + 1) source ≡ get_or source (from / 8 + 1) 0 ∷ drop (from / 8 + 1 + 1) source =
    drop_more source (from / 8 + 1) 0 within
    in let number : pair ≡ 256 * get_or source (from / 8 + 1) 0 + get_or source (from / 8) 0 = omega arith
    in let both : bits_of 16 pair ≡ bits_of 8 (get_or source (from / 8) 0) ++ bits_of 8 (get_or source (from / 8 + 1) 0) =
    ap (bits_of 16) number ∙ bits_of-add 8 8 (get_or source (from / 8) 0) (get_or source (from / 8 + 1) 0) small
    in part-in from count 16 (16 - (from % 8 + count)) pair source (drop (from / 8 + 1 + 1) source) few
    (ap unpack first
    ∙ unpack-cons (get_or source (from / 8) 0) (drop (from / 8 + 1) source)
    ∙ ap (λ (bytes : List ℕ). bits_of 8 (get_or source (from / 8) 0) ++ unpack bytes) second
    ∙ ap (λ (bits : List Bool). bits_of 8 (get_or source (from / 8) 0) ++ bits) (unpack-cons (get_or source (from / 8 + 1) 0) (drop (from / 8 + 1 + 1) source))
    ∙ sym (append_assoc (bits_of 8 (get_or source (from / 8) 0)) (bits_of 8 (get_or source (from / 8 + 1) 0)) (unpack (drop (from / 8 + 1 + 1) source)))
    ∙ ap (λ (bits : List Bool). bits ++ unpack (drop (from / 8 + 1 + 1) source)) (sym both))
    (omega arith)

-- ---- a part of a byte written

-- a number in three parts, the middle one another's
parts_written : (place count high byte part above : ℕ)
    → above ≡ byte / 2 ^ (place + count)
    → bits_of (place + (count + high)) (2 ^ place * (2 ^ count * above + part % 2 ^ count) + byte % 2 ^ place)
    ≡ written_at place (bits_of count part) (bits_of (place + (count + high)) byte)
parts_written place count high byte part above above_is =
    let whole : place + (count + high) ≡ (place + count) + high = omega arith
    in let low : take place (bits_of (place + (count + high)) byte) ≡ bits_of place byte = take-bits_of place (count + high) byte
    in let top : drop (place + length (bits_of count part)) (bits_of (place + (count + high)) byte) ≡ bits_of high above =
    ap (λ (long : ℕ). drop (place + long) (bits_of (place + (count + high)) byte)) (length-bits_of count part)
    ∙ ap (λ (width : ℕ). drop (place + count) (bits_of width byte)) whole
    ∙ drop-bits_of (place + count) high byte
    ∙ ap (bits_of high) (sym above_is)
    in bits_of-add place (count + high) (byte % 2 ^ place) (2 ^ count * above + part % 2 ^ count) (mod_below byte (2 ^ place) (pow_pos place))
    ∙ ap (λ (rest : List Bool). bits_of place (byte % 2 ^ place) ++ rest)
    (bits_of-add count high (part % 2 ^ count) above (mod_below part (2 ^ count) (pow_pos count)))
    ∙ ap (λ (bits : List Bool). bits ++ (bits_of count (part % 2 ^ count) ++ bits_of high above)) (bits_of-mod place byte)
    ∙ ap (λ (bits : List Bool). bits_of place byte ++ (bits ++ bits_of high above)) (bits_of-mod count part)
    ∙ sym (append_assoc (bits_of place byte) (bits_of count part) (bits_of high above))
    ∙ ap (λ (bits : List Bool). bits ++ bits_of count part ++ bits_of high above) (sym low)
    ∙ ap (λ (bits : List Bool). take place (bits_of (place + (count + high)) byte) ++ bits_of count part ++ bits) (sym top)

power_fits : (count : ℕ) → count ≤ 8 → 2 ^ count ≤ 256
power_fits count few = pow-le-pow_right (omega arith) few

-- the parts of a byte, the middle one written, put together
pub with_part-bits : (byte place count part : ℕ)
    → place + count ≤ 8
    → byte < 256
    → bits_of 8 (((byte / 2 ^ (place + count) * 2 ^ count % 4294967296 + part % (1 * 2 ^ count % 4294967296)) * 2 ^ place % 4294967296 + byte % (1 * 2 ^ place % 4294967296)) % 256)
    ≡ written_at place (bits_of count part) (bits_of 8 byte)
with_part-bits byte place count part within small =
    let eight : place + (count + (8 - (place + count))) ≡ 8 = omega arith
    in let wide : (8 - (place + count)) + (place + count) ≡ 8 = omega arith
    in let above : byte / 2 ^ (place + count) < 2 ^ (8 - (place + count)) =
    shr_below byte (8 - (place + count)) (place + count) (rw wide small)
    in let middle : byte / 2 ^ (place + count) * 2 ^ count + part % 2 ^ count < 2 ^ count * 2 ^ (8 - (place + count)) =
    mul-add-lt (byte / 2 ^ (place + count)) (2 ^ count) (part % 2 ^ count) (2 ^ (8 - (place + count))) above (mod_below part (2 ^ count) (pow_pos count))
    in let middle_power : 2 ^ count * 2 ^ (8 - (place + count)) ≡ 2 ^ (count + (8 - (place + count))) = sym (pow-add 2 count (8 - (place + count)))
    in let all : (byte / 2 ^ (place + count) * 2 ^ count + part % 2 ^ count) * 2 ^ place + byte % 2 ^ place < 2 ^ place * 2 ^ (count + (8 - (place + count))) =
    mul-add-lt (byte / 2 ^ (place + count) * 2 ^ count + part % 2 ^ count) (2 ^ place) (byte % 2 ^ place) (2 ^ (count + (8 - (place + count)))) (rw (← middle_power) middle) (mod_below byte (2 ^ place) (pow_pos place))
    in let all_power : 2 ^ place * 2 ^ (count + (8 - (place + count))) ≡ 256 =
    sym (pow-add 2 place (count + (8 - (place + count)))) ∙ ap (λ (count : ℕ). 2 ^ count) eight
    in let middle_small : byte / 2 ^ (place + count) * 2 ^ count + part % 2 ^ count < 256 =
    omega (arith, power_fits (count + (8 - (place + count))) (omega arith))
    in let number : ((byte / 2 ^ (place + count) * 2 ^ count % 4294967296 + part % (1 * 2 ^ count % 4294967296)) * 2 ^ place % 4294967296 + byte % (1 * 2 ^ place % 4294967296)) % 256
    ≡ 2 ^ place * (2 ^ count * (byte / 2 ^ (place + count)) + part % 2 ^ count) + byte % 2 ^ place =
    together (byte / 2 ^ (place + count)) (2 ^ count) (2 ^ place) part byte (power_fits count (omega arith)) (power_fits place (omega arith)) middle_small (omega arith)
    in ap (bits_of 8) number
    ∙ ap (λ (width : ℕ). bits_of width (2 ^ place * (2 ^ count * (byte / 2 ^ (place + count)) + part % 2 ^ count) + byte % 2 ^ place)) (sym eight)
    ∙ parts_written place count (8 - (place + count)) byte part (byte / 2 ^ (place + count)) refl
    ∙ ap (λ (width : ℕ). written_at place (bits_of count part) (bits_of width byte)) eight
  where
    together : (above scale shift part byte : ℕ)
        → scale ≤ 256
        → shift ≤ 256
        → above * scale + part % scale < 256
        → (above * scale + part % scale) * shift + byte % shift < 256
        → ((above * scale % 4294967296 + part % (1 * scale % 4294967296)) * shift % 4294967296 + byte % (1 * shift % 4294967296)) % 256
        ≡ shift * (scale * above + part % scale) + byte % shift
    together above scale shift part byte scale_fits shift_fits small all =
        let one : 1 * scale % 4294967296 ≡ scale = omega arith
        in let other : 1 * shift % 4294967296 ≡ shift = omega arith
        in let product : above * scale % 4294967296 ≡ above * scale = omega arith
        in let turned : scale * above ≡ above * scale = mul_comm scale above
        in let turned_all : shift * (scale * above + part % scale) ≡ (above * scale + part % scale) * shift =
        mul_comm shift (scale * above + part % scale) ∙ ap (λ (product : ℕ). (product + part % scale) * shift) turned
        in rw (one, other, product) (omega (arith, turned_all))
