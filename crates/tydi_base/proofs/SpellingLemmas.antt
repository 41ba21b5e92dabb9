-- The digits of packed bytes.
use Rattle.std.proofs.Common.{◌≡◌, ◌∙◌, sym, ℕ, suc, ◌+◌, ◌-◌, ◌*◌, ◌/◌, ◌%◌, ◌^◌, ◌<◌, ◌≤◌, min, Bool, List, [], ◌∷◌, ◌++◌, length, get_or, take, drop, refl, ap, arith, append_assoc}
use Rattle.std.proofs.Math.Seq.{take-add, take-append-add}
use Rattle.std.proofs.lemmas.List.{append-nil, length-take, take-append-drop, take-append-le, take-replicate, drop_more, take_all, take_at}
use Rattle.tydi_base.specs.Bits.{bits_of, zero_bits, unpack, IsPacked}
use Rattle.tydi_base.specs.Hex.{hex_digit, hex_of}
use Rattle.tydi_base.proofs.BitsLemmas.{bits_of-add, length-bits_of, length-unpack, length_packed, packed_whole, unpack-append, unpack-cons, unpack-nil}
use Rattle.tydi_base.proofs.PartLemmas.{take-unpack_bytes}
use Rattle.tydi_base.proofs.HexLemmas.{hex_of-append, hex_of-nibble, hex_of-padded}

-- ---- the bits up to a place

-- bytes around the one at a place
pub unpack_around : (bytes : List ℕ) (place : ℕ)
    → place < length bytes
    → unpack bytes ≡ unpack (take place bytes) ++ (bits_of 8 (get_or bytes place 0) ++ unpack (drop (place + 1) bytes))
unpack_around bytes place within =
    ap unpack (sym (take-append-drop place bytes))
    ∙ unpack-append (take place bytes) (drop place bytes)
    ∙ ap (λ (bits : List Bool). unpack (take place bytes) ++ bits)
    (ap unpack (drop_more bytes place 0 within) ∙ unpack-cons (get_or bytes place 0) (drop (place + 1) bytes))

pub length-unpack_take : (bytes : List ℕ) (place : ℕ) → place ≤ length bytes → length (unpack (take place bytes)) ≡ 8 * place
length-unpack_take bytes place within = rw (length-unpack, length-take) (omega arith)

take-unpack : (bytes : List ℕ) (place more : ℕ)
    → place < length bytes
    → more ≤ 8
    → take (8 * place + more) (unpack bytes) ≡ unpack (take place bytes) ++ take more (bits_of 8 (get_or bytes place 0))
take-unpack bytes place more within few =
    let front : length (unpack (take place bytes)) ≡ 8 * place = length-unpack_take bytes place (omega arith)
    in ap (take (8 * place + more)) (unpack_around bytes place within)
    ∙ ap (λ (count : ℕ). take (count + more) (unpack (take place bytes) ++ (bits_of 8 (get_or bytes place 0) ++ unpack (drop (place + 1) bytes)))) (sym front)
    ∙ take-append-add (unpack (take place bytes)) (bits_of 8 (get_or bytes place 0) ++ unpack (drop (place + 1) bytes)) more
    ∙ ap (λ (bits : List Bool). unpack (take place bytes) ++ bits)
    (take-append-le more (bits_of 8 (get_or bytes place 0)) (unpack (drop (place + 1) bytes)) (rw length-bits_of few))

-- ---- four bits of a byte

halves : (byte : ℕ) → bits_of 8 byte ≡ bits_of 4 (byte % 16) ++ bits_of 4 (byte / 16)
halves byte =
    let parts : 2 ^ 4 * (byte / 16) + byte % 16 ≡ byte = omega arith
    in ap (bits_of 8) (sym parts) ∙ bits_of-add 4 4 (byte % 16) (byte / 16) (omega arith)

low_half : (byte : ℕ) → take 4 (bits_of 8 byte) ≡ bits_of 4 (byte % 16)
low_half byte =
    ap (take 4) (halves byte) ∙ take_at (bits_of 4 (byte % 16)) (bits_of 4 (byte / 16)) 4 (length-bits_of 4 (byte % 16))

pub four_bits-even : (bytes : List ℕ) (index : ℕ)
    → index < 2 * length bytes
    → index % 2 ≡ 0
    → take (4 * (index + 1)) (unpack bytes)
    ≡ take (4 * index) (unpack bytes) ++ bits_of 4 (get_or bytes (index / 2) 0 % 16)
four_bits-even bytes index within even =
    let next : 4 * (index + 1) ≡ 8 * (index / 2) + 4 = omega arith
    in let here : 4 * index ≡ 8 * (index / 2) + 0 = omega arith
    in rw (next, here, take-unpack bytes (index / 2) 4 (omega arith) (omega arith), take-unpack bytes (index / 2) 0 (omega arith) (omega arith), low_half, append-nil) refl

pub four_bits-odd : (bytes : List ℕ) (index : ℕ)
    → index < 2 * length bytes
    → (index % 2 ≡ 0 → ⊥)
    → take (4 * (index + 1)) (unpack bytes)
    ≡ take (4 * index) (unpack bytes) ++ bits_of 4 (get_or bytes (index / 2) 0 / 16)
four_bits-odd bytes index within odd =
    let next : 4 * (index + 1) ≡ 8 * (index / 2) + 8 = omega arith
    in let here : 4 * index ≡ 8 * (index / 2) + 4 = omega arith
    in let byte = get_or bytes (index / 2) 0
    in let whole : take 8 (bits_of 8 byte) ≡ bits_of 4 (byte % 16) ++ bits_of 4 (byte / 16) =
    take_all 8 (bits_of 8 byte) (rw length-bits_of (omega arith)) ∙ halves byte
    in rw (next, here, take-unpack bytes (index / 2) 8 (omega arith) (omega arith), take-unpack bytes (index / 2) 4 (omega arith) (omega arith), low_half)
    (ap (λ (bits : List Bool). unpack (take (index / 2) bytes) ++ bits) whole
    ∙ sym (append_assoc (unpack (take (index / 2) bytes)) (bits_of 4 (get_or bytes (index / 2) 0 % 16)) (bits_of 4 (get_or bytes (index / 2) 0 / 16))))

-- ---- a digit more

pub spelled_none : (digits : List ℕ) (bits : List Bool) → digits ≡ [] → digits ++ hex_of bits ≡ hex_of bits
spelled_none digits bits none = rw none refl

pub spelled_more : (bytes digits whole : List ℕ) (at value : ℕ)
    → at < 2 * length bytes
    → take (4 * (at + 1)) (unpack bytes) ≡ take (4 * at) (unpack bytes) ++ bits_of 4 value
    → value < 16
    → digits ++ hex_of (take (4 * (at + 1)) (unpack bytes)) ≡ whole
    → (digits ++ hex_digit value ∷ []) ++ hex_of (take (4 * at) (unpack bytes)) ≡ whole
spelled_more bytes digits whole at value within bits small spelled =
    let front : length (take (4 * at) (unpack bytes)) ≡ 4 * at = rw (length-take, length-unpack) (omega arith)
    in let more : hex_of (take (4 * (at + 1)) (unpack bytes)) ≡ hex_digit value ∷ [] ++ hex_of (take (4 * at) (unpack bytes)) =
    ap hex_of bits ∙ hex_of-append (take (4 * at) (unpack bytes)) at (bits_of 4 value) front
    ∙ ap (λ (digit : List ℕ). digit ++ hex_of (take (4 * at) (unpack bytes))) (hex_of-nibble value small)
    in append_assoc digits (hex_digit value ∷ []) (hex_of (take (4 * at) (unpack bytes)))
    ∙ ap (λ (rest : List ℕ). digits ++ rest) (sym more)
    ∙ spelled

-- no digit is left
pub spelled_all : (scale : ℕ) (bytes digits whole : List ℕ) (at : ℕ)
    → at ≡ 0
    → digits ++ hex_of (take (scale * at) (unpack bytes)) ≡ whole
    → digits ≡ whole
unfolding hex_of
spelled_all scale bytes digits whole at none spelled =
    let start : scale * at ≡ 0 = rw none (omega arith)
    in sym (append-nil digits) ∙ rw start at spelled

-- so many digits are left
pub spelled_high : (bytes digits whole : List ℕ) (at low : ℕ)
    → at ≡ low
    → digits ++ hex_of (take (4 * at) (unpack bytes)) ≡ whole
    → digits ++ hex_of (take (4 * low) (unpack bytes)) ≡ whole
spelled_high bytes digits whole at low is_low spelled = rw (← is_low) spelled

-- ---- sixteen digits more

-- the digits of bytes, the last byte first
hex_of-byte : (byte : ℕ) (bytes : List ℕ)
    → byte < 256
    → hex_of (unpack (byte ∷ bytes)) ≡ hex_of (unpack bytes) ++ hex_digit (byte / 16) ∷ hex_digit (byte % 16) ∷ []
hex_of-byte byte bytes fits =
    let two : hex_of (bits_of 8 byte) ≡ hex_digit (byte / 16) ∷ hex_digit (byte % 16) ∷ [] =
    ap hex_of (halves byte)
    ∙ hex_of-append (bits_of 4 (byte % 16)) 1 (bits_of 4 (byte / 16)) (length-bits_of 4 (byte % 16))
    ∙ ap (λ (high : List ℕ). high ++ hex_of (bits_of 4 (byte % 16))) (hex_of-nibble (byte / 16) (omega arith))
    ∙ ap (λ (low : List ℕ). hex_digit (byte / 16) ∷ low) (hex_of-nibble (byte % 16) (omega arith))
    in ap hex_of (unpack-cons byte bytes)
    ∙ hex_of-append (bits_of 8 byte) 2 (unpack bytes) (length-bits_of 8 byte)
    ∙ ap (λ (low : List ℕ). hex_of (unpack bytes) ++ low) two

-- so many digits from the last byte on
bytes_spelled : List ℕ → List ℕ
bytes_spelled [] = []
bytes_spelled (byte ∷ bytes) = bytes_spelled bytes ++ hex_digit (byte / 16) ∷ hex_digit (byte % 16) ∷ []

hex_of-bytes : (bytes : List ℕ) → ((k : ℕ) → get_or bytes k 0 < 256) → hex_of (unpack bytes) ≡ bytes_spelled bytes
unfolding hex_of bytes_spelled
hex_of-bytes [] fit = ap hex_of unpack-nil
hex_of-bytes (byte ∷ bytes) fit =
    hex_of-byte byte bytes (fit 0)
    ∙ ap (λ (high : List ℕ). high ++ hex_digit (byte / 16) ∷ hex_digit (byte % 16) ∷ []) (hex_of-bytes bytes (λ k. fit (suc k)))

-- the digits of eight bytes
digits_of_eight : List ℕ → List ℕ
digits_of_eight bytes =
    hex_digit (get_or bytes 7 0 / 16) ∷ hex_digit (get_or bytes 7 0 % 16) ∷ hex_digit (get_or bytes 6 0 / 16) ∷ hex_digit (get_or bytes 6 0 % 16) ∷
    hex_digit (get_or bytes 5 0 / 16) ∷ hex_digit (get_or bytes 5 0 % 16) ∷ hex_digit (get_or bytes 4 0 / 16) ∷ hex_digit (get_or bytes 4 0 % 16) ∷
    hex_digit (get_or bytes 3 0 / 16) ∷ hex_digit (get_or bytes 3 0 % 16) ∷ hex_digit (get_or bytes 2 0 / 16) ∷ hex_digit (get_or bytes 2 0 % 16) ∷
    hex_digit (get_or bytes 1 0 / 16) ∷ hex_digit (get_or bytes 1 0 % 16) ∷ hex_digit (get_or bytes 0 0 / 16) ∷ hex_digit (get_or bytes 0 0 % 16) ∷ []

eight_spelled : (bytes : List ℕ) → length bytes ≡ 8 → digits_of_eight bytes ≡ bytes_spelled bytes
unfolding bytes_spelled digits_of_eight
eight_spelled [] eight = absurd (omega arith)
eight_spelled (a ∷ []) eight = absurd (omega arith)
eight_spelled (a ∷ b ∷ []) eight = absurd (omega arith)
eight_spelled (a ∷ b ∷ c ∷ []) eight = absurd (omega arith)
eight_spelled (a ∷ b ∷ c ∷ d ∷ []) eight = absurd (omega arith)
eight_spelled (a ∷ b ∷ c ∷ d ∷ e ∷ []) eight = absurd (omega arith)
eight_spelled (a ∷ b ∷ c ∷ d ∷ e ∷ f ∷ []) eight = absurd (omega arith)
eight_spelled (a ∷ b ∷ c ∷ d ∷ e ∷ f ∷ g ∷ []) eight = absurd (omega arith)
eight_spelled (a ∷ b ∷ c ∷ d ∷ e ∷ f ∷ g ∷ h ∷ []) eight = refl
eight_spelled (a ∷ b ∷ c ∷ d ∷ e ∷ f ∷ g ∷ h ∷ more ∷ bytes) eight = absurd (omega arith)

pub block_spelled : (bytes : List ℕ) → length bytes ≡ 8 → ((k : ℕ) → get_or bytes k 0 < 256)
    → hex_digit (get_or bytes 7 0 / 16) ∷ hex_digit (get_or bytes 7 0 % 16) ∷ hex_digit (get_or bytes 6 0 / 16) ∷ hex_digit (get_or bytes 6 0 % 16) ∷
    hex_digit (get_or bytes 5 0 / 16) ∷ hex_digit (get_or bytes 5 0 % 16) ∷ hex_digit (get_or bytes 4 0 / 16) ∷ hex_digit (get_or bytes 4 0 % 16) ∷
    hex_digit (get_or bytes 3 0 / 16) ∷ hex_digit (get_or bytes 3 0 % 16) ∷ hex_digit (get_or bytes 2 0 / 16) ∷ hex_digit (get_or bytes 2 0 % 16) ∷
    hex_digit (get_or bytes 1 0 / 16) ∷ hex_digit (get_or bytes 1 0 % 16) ∷ hex_digit (get_or bytes 0 0 / 16) ∷ hex_digit (get_or bytes 0 0 % 16) ∷ []
    ≡ hex_of (unpack bytes)
unfolding digits_of_eight
block_spelled bytes eight fit = eight_spelled bytes eight ∙ sym (hex_of-bytes bytes fit)

pub spelled_block : (bytes digits whole block : List ℕ) (at : ℕ)
    → 8 ≤ at
    → at ≤ length bytes
    → block ≡ hex_of (unpack (take 8 (drop (at - 8) bytes)))
    → digits ++ hex_of (take (8 * at) (unpack bytes)) ≡ whole
    → (digits ++ block) ++ hex_of (take (8 * (at - 8)) (unpack bytes)) ≡ whole
spelled_block bytes digits whole block at eight within is spelled =
    let parts : at ≡ (at - 8) + 8 = omega arith
    in let front : length (unpack (take (at - 8) bytes)) ≡ 4 * (2 * (at - 8)) = length-unpack_take bytes (at - 8) (omega arith) ∙ omega arith
    in let more : hex_of (take (8 * at) (unpack bytes)) ≡ block ++ hex_of (take (8 * (at - 8)) (unpack bytes)) =
    ap hex_of (take-unpack_bytes at bytes)
    ∙ ap (λ (count : ℕ). hex_of (unpack (take count bytes))) parts
    ∙ ap (λ (bytes : List ℕ). hex_of (unpack bytes)) (take-add (at - 8) 8 bytes)
    ∙ ap hex_of (unpack-append (take (at - 8) bytes) (take 8 (drop (at - 8) bytes)))
    ∙ hex_of-append (unpack (take (at - 8) bytes)) (2 * (at - 8)) (unpack (take 8 (drop (at - 8) bytes))) front
    ∙ ap (λ (high : List ℕ). high ++ hex_of (unpack (take (at - 8) bytes))) (sym is)
    ∙ ap (λ (bits : List Bool). block ++ hex_of bits) (sym (take-unpack_bytes (at - 8) bytes))
    in append_assoc digits block (hex_of (take (8 * (at - 8)) (unpack bytes)))
    ∙ ap (λ (rest : List ℕ). digits ++ rest) (sym more)
    ∙ spelled

-- ---- the digits of a word

pub hex_of-packed : (width count : ℕ) (bytes : List ℕ) (word : List Bool)
    → IsPacked width bytes
    → take width (unpack bytes) ≡ word
    → count ≡ width / 4 + min 1 (width % 4)
    → hex_of (take (4 * count) (unpack bytes)) ≡ hex_of word
hex_of-packed width count bytes word packed word_is is_count =
    let wide : length word ≡ width = ap length (sym word_is) ∙ length_packed width bytes packed
    in let bits : unpack bytes ≡ word ++ zero_bits (8 * length bytes - width) =
    sym (packed_whole width bytes packed)
    ∙ ap (λ (bits : List Bool). bits ++ zero_bits (8 * length bytes - width)) word_is
    in let total : 4 * count ≡ length word + (4 * count - width) = omega arith
    in let room : 4 * count - width ≤ 8 * length bytes - width = omega (arith, packed.room)
    in let front : take (4 * count) (unpack bytes) ≡ word ++ zero_bits (4 * count - width) =
    ap (take (4 * count)) bits
    ∙ ap (λ (count : ℕ). take count (word ++ zero_bits (8 * length bytes - width))) total
    ∙ take-append-add word (zero_bits (8 * length bytes - width)) (4 * count - width)
    ∙ ap (λ (zeros : List Bool). word ++ zeros) (take-replicate (4 * count - width) (8 * length bytes - width) _ room)
    in ap hex_of front ∙ hex_of-padded word (4 * count - width) count (omega arith) (omega arith)
