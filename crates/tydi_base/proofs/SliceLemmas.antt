-- The bytes of words copied and compared, and parts of them copied, byte by byte.
use Rattle.std.proofs.Common.{inl, inr, false, replicate, ◌≡◌, ◌∙◌, sym, ℕ, suc, ◌+◌, ◌-◌, ◌*◌, ◌/◌, ◌%◌, ◌^◌, ◌<◌, ◌≤◌, min, Bool, List, [], ◌∷◌, ◌++◌, length, get_or, set, take, drop, refl, ap, arith, length-append, append_assoc}
use Rattle.std.specs.Prelude.{bytes_eq, nat_eq}
use Rattle.std.proofs.lemmas.Bool.Decides.{nat_tests}
use Rattle.std.proofs.Math.Seq.{take-add, take-append-add, drop-append-add}
use Rattle.std.proofs.lemmas.List.{append-nil, drop-append-le, drop-drop, drop_all, drop_at, drop_more, length-take, length-drop, length-replicate, replicate-append-replicate, set_split, take-append-le, take-append-drop, take_all, take_at}
use Rattle.std.specs.List.{AllClonesOf, AppendsClonesOf, refill}
use borrow.Rule.Slice.PartMut.{put_mid}
use Rattle.tydi_base.specs.Bits.{bits_of, unpack, written_at, zero_bits, IsPacked}
use Rattle.tydi_base.proofs.PartLemmas.{drop-unpack, part-pair, take-unpack_bytes}
use Rattle.tydi_base.proofs.BitsLemmas.{length-bits_of, length-unpack, length_packed, packed_whole, refill_whole, unpack-append, unpack-cons, unpack-replicate_zero}

-- ---- one byte

pub one_copied : (bytes from : List ℕ) → length bytes ≡ length from → length from ≡ 1 → set bytes 0 (get_or from 0 0) ≡ from
one_copied [] from same one = absurd (omega arith)
one_copied bytes [] same one = absurd (omega arith)
one_copied (old ∷ []) (byte ∷ []) same one = refl
one_copied (old ∷ more ∷ bytes) from same one = absurd (omega arith)
one_copied bytes (byte ∷ more ∷ from) same one = absurd (omega arith)

pub one_compared : (bytes others : List ℕ) → length bytes ≡ 1 → length others ≡ 1 → nat_eq (get_or bytes 0 0) (get_or others 0 0) ≡ bytes_eq bytes others
one_compared [] others one other_one = absurd (omega arith)
one_compared bytes [] one other_one = absurd (omega arith)
one_compared (byte ∷ []) (other ∷ []) one other_one = grind (arith, nat_tests)
one_compared (byte ∷ more ∷ bytes) others one other_one = absurd (omega arith)
one_compared bytes (other ∷ more ∷ others) one other_one = absurd (omega arith)

-- ---- bits written in place of others

pub length-written_at : (at : ℕ) (word bits : List Bool) → at + length word ≤ length bits → length (written_at at word bits) ≡ length bits
length-written_at at word bits within =
    length-append (take at bits ++ word) (drop (at + length word) bits)
    ∙ ap (λ (count : ℕ). count + length (drop (at + length word) bits)) (length-append (take at bits) word)
    ∙ counts (length (take at bits)) (length (drop (at + length word) bits)) (length-take at bits) (length-drop (at + length word) bits)
  where
    counts : (front rest : ℕ) → front ≡ min at (length bits) → rest ≡ length bits - (at + length word) → front + length word + rest ≡ length bits
    counts front rest front_is rest_is = omega arith

-- the bits past those that are written stay
pub drop-written_at : (at past : ℕ) (word bits : List Bool)
    → at + length word ≤ past
    → at + length word ≤ length bits
    → drop past (written_at at word bits) ≡ drop past bits
drop-written_at at past word bits within room =
    let front : length (take at bits ++ word) ≡ at + length word =
    length-append (take at bits) word ∙ omega (arith, length-take at bits)
    in let places : past ≡ length (take at bits ++ word) + (past - (at + length word)) = omega arith
    in let rest : (at + length word) + (past - (at + length word)) ≡ past = omega arith
    in ap (λ (count : ℕ). drop count (written_at at word bits)) places
    ∙ drop-append-add (take at bits ++ word) (drop (at + length word) bits) (past - (at + length word))
    ∙ drop-drop (past - (at + length word)) (at + length word) bits
    ∙ ap (λ (count : ℕ). drop count bits) rest

-- more bits written behind others
pub written_at-more : (at : ℕ) (first word bits : List Bool)
    → at + length first + length word ≤ length bits
    → written_at (at + length first) word (written_at at first bits) ≡ written_at at (first ++ word) bits
written_at-more at first word bits room =
    let front : length (take at bits ++ first) ≡ at + length first =
    length-append (take at bits) first ∙ omega (arith, length-take at bits)
    in let all : at + length first + length word ≡ at + length (first ++ word) = omega (arith, length-append first word)
    in ap (λ (low : List Bool). low ++ word ++ drop (at + length first + length word) (written_at at first bits))
    (take_at (take at bits ++ first) (drop (at + length first) bits) (at + length first) front)
    ∙ ap (λ (high : List Bool). take at bits ++ first ++ word ++ high)
    (drop-written_at at (at + length first + length word) first bits (omega arith) (omega arith))
    ∙ ap (λ (count : ℕ). take at bits ++ first ++ word ++ drop count bits) all
    ∙ ap (λ (low : List Bool). low ++ drop (at + length (first ++ word)) bits) (append_assoc (take at bits) first word)

-- all of a word written
pub written_at-whole : (part word : List Bool) → length part ≡ length word → written_at 0 part word ≡ part
written_at-whole part word same =
    ap (λ (rest : List Bool). part ++ rest) (drop_all (0 + length part) word (omega arith)) ∙ append-nil part

-- bits written among others that have more before and behind them
written_at-within : (front bits rest word : List Bool) (place : ℕ)
    → place + length word ≤ length bits
    → written_at (length front + place) word (front ++ (bits ++ rest)) ≡ front ++ (written_at place word bits ++ rest)
written_at-within front bits rest word place within =
    let low : take (length front + place) (front ++ (bits ++ rest)) ≡ front ++ take place bits =
    take-append-add front (bits ++ rest) place
    ∙ ap (λ (low : List Bool). front ++ low) (take-append-le place bits rest (omega arith))
    in let places : length front + place + length word ≡ length front + (place + length word) = omega arith
    in let high : drop (length front + place + length word) (front ++ (bits ++ rest)) ≡ drop (place + length word) bits ++ rest =
    ap (λ (count : ℕ). drop count (front ++ (bits ++ rest))) places
    ∙ drop-append-add front (bits ++ rest) (place + length word)
    ∙ drop-append-le (place + length word) bits rest within
    in ap (λ (low : List Bool). low ++ word ++ drop (length front + place + length word) (front ++ (bits ++ rest))) low
    ∙ ap (λ (high : List Bool). front ++ take place bits ++ word ++ high) high
    ∙ joined front (take place bits) word (drop (place + length word) bits) rest
  where
    joined : (a b c d e : List Bool) → a ++ b ++ c ++ (d ++ e) ≡ a ++ (b ++ c ++ d ++ e)
    joined a b c d e = simp append_assoc

written_at-front : (bits rest word : List Bool) (place : ℕ)
    → place + length word ≤ length bits
    → written_at place word (bits ++ rest) ≡ written_at place word bits ++ rest
written_at-front bits rest word place within =
    let none : 0 + place ≡ place = omega arith
    in ap (λ (place : ℕ). written_at place word (bits ++ rest)) (sym none) ∙ written_at-within [] bits rest word place within

-- a byte of bytes with some of its bits written
unpack-set_part : (bytes : List ℕ) (index place byte : ℕ) (word : List Bool)
    → index < length bytes
    → place + length word ≤ 8
    → bits_of 8 byte ≡ written_at place word (bits_of 8 (get_or bytes index 0))
    → unpack (set bytes index byte) ≡ written_at (8 * index + place) word (unpack bytes)
unpack-set_part bytes index place byte word within few byte_is =
    let front : length (unpack (take index bytes)) ≡ 8 * index = length-unpack (take index bytes) ∙ omega (arith, length-take index bytes)
    in let old : unpack bytes ≡ unpack (take index bytes) ++ (bits_of 8 (get_or bytes index 0) ++ unpack (drop (index + 1) bytes)) =
    ap unpack (sym (take-append-drop index bytes))
    ∙ unpack-append (take index bytes) (drop index bytes)
    ∙ ap (λ (rest : List ℕ). unpack (take index bytes) ++ unpack rest) (drop_more bytes index 0 within)
    ∙ ap (λ (rest : List Bool). unpack (take index bytes) ++ rest) (unpack-cons (get_or bytes index 0) (drop (index + 1) bytes))
    in let one : suc index ≡ index + 1 = omega arith
    in let new : unpack (set bytes index byte) ≡ unpack (take index bytes) ++ (bits_of 8 byte ++ unpack (drop (index + 1) bytes)) =
    ap unpack (set_split bytes index byte within)
    ∙ unpack-append (take index bytes) (byte ∷ drop (suc index) bytes)
    ∙ ap (λ (rest : List Bool). unpack (take index bytes) ++ rest) (unpack-cons byte (drop (suc index) bytes))
    ∙ ap (λ (count : ℕ). unpack (take index bytes) ++ (bits_of 8 byte ++ unpack (drop count bytes))) one
    in new
    ∙ ap (λ (bits : List Bool). unpack (take index bytes) ++ (bits ++ unpack (drop (index + 1) bytes))) byte_is
    ∙ sym (written_at-within (unpack (take index bytes)) (bits_of 8 (get_or bytes index 0)) (unpack (drop (index + 1) bytes)) word place
    (omega (arith, length-bits_of 8 (get_or bytes index 0))))
    ∙ ap (λ (count : ℕ). written_at (count + place) word (unpack (take index bytes) ++ (bits_of 8 (get_or bytes index 0) ++ unpack (drop (index + 1) bytes)))) front
    ∙ ap (written_at (8 * index + place) word) (sym old)

-- ---- whole bytes copied

pub copied_whole : (bytes source new : List ℕ) (at from count : ℕ)
    → at % 8 ≡ 0
    → from % 8 ≡ 0
    → at + count ≤ 8 * length bytes
    → from + count ≤ 8 * length source
    → new ≡ take (count / 8) (drop (from / 8) source)
    → unpack (put_mid (at / 8) (count / 8) bytes new) ≡ written_at at (take (8 * (count / 8)) (drop from (unpack source))) (unpack bytes)
copied_whole bytes source new at from count begins source_begins room within is_new =
    let at_is : at ≡ 8 * (at / 8) = omega arith
    in let from_is : from ≡ 8 * (from / 8) = omega arith
    in let word : take (8 * (count / 8)) (drop from (unpack source)) ≡ unpack new =
    ap (λ (place : ℕ). take (8 * (count / 8)) (drop place (unpack source))) from_is
    ∙ ap (take (8 * (count / 8))) (drop-unpack (from / 8) source)
    ∙ take-unpack_bytes (count / 8) (drop (from / 8) source)
    ∙ ap unpack (sym is_new)
    in let long : length new ≡ count / 8 =
    ap length is_new ∙ length-take (count / 8) (drop (from / 8) source) ∙ omega (arith, length-drop (from / 8) source)
    in let low : take at (unpack bytes) ≡ unpack (take (at / 8) bytes) =
    ap (λ (place : ℕ). take place (unpack bytes)) at_is ∙ take-unpack_bytes (at / 8) bytes
    in let place_is : at + length (unpack new) ≡ 8 * (at / 8 + count / 8) = omega (arith, length-unpack new)
    in let high : drop (at + length (unpack new)) (unpack bytes) ≡ unpack (drop (at / 8 + count / 8) bytes) =
    ap (λ (place : ℕ). drop place (unpack bytes)) place_is ∙ drop-unpack (at / 8 + count / 8) bytes
    in let rest : drop (count / 8) (drop (at / 8) bytes) ≡ drop (at / 8 + count / 8) bytes = drop-drop (count / 8) (at / 8) bytes
    in ap (λ (rest : List ℕ). unpack (take (at / 8) bytes ++ (new ++ rest))) rest
    ∙ unpack-append (take (at / 8) bytes) (new ++ drop (at / 8 + count / 8) bytes)
    ∙ ap (λ (bits : List Bool). unpack (take (at / 8) bytes) ++ bits) (unpack-append new (drop (at / 8 + count / 8) bytes))
    ∙ sym (append_assoc (unpack (take (at / 8) bytes)) (unpack new) (unpack (drop (at / 8 + count / 8) bytes)))
    ∙ ap (λ (bits : List Bool). bits ++ unpack new ++ unpack (drop (at / 8 + count / 8) bytes)) (sym low)
    ∙ ap (λ (bits : List Bool). take at (unpack bytes) ++ unpack new ++ bits) (sym high)
    ∙ ap (λ (word : List Bool). written_at at word (unpack bytes)) (sym word)

-- bits copied behind others
pub copied_on : (old mid new source : List ℕ) (at from done count : ℕ)
    → at + count ≤ 8 * length old
    → from + count ≤ 8 * length source
    → done ≤ count
    → unpack mid ≡ written_at at (take done (drop from (unpack source))) (unpack old)
    → unpack new ≡ written_at (at + done) (take (count - done) (drop (from + done) (unpack source))) (unpack mid)
    → unpack new ≡ written_at at (take count (drop from (unpack source))) (unpack old)
copied_on old mid new source at from done count room within few was now =
    let first = take done (drop from (unpack source))
    in let word = take (count - done) (drop (from + done) (unpack source))
    in let first_long : length first ≡ done =
    length-take done (drop from (unpack source)) ∙ omega (arith, length-drop from (unpack source), length-unpack source)
    in let word_long : length word ≡ count - done =
    length-take (count - done) (drop (from + done) (unpack source)) ∙ omega (arith, length-drop (from + done) (unpack source), length-unpack source)
    in let place : at + done ≡ at + length first = omega arith
    in let both : first ++ word ≡ take (done + (count - done)) (drop from (unpack source)) =
    ap (λ (bits : List Bool). first ++ take (count - done) bits) (sym (drop-drop done from (unpack source)))
    ∙ sym (take-add done (count - done) (drop from (unpack source)))
    in let all : done + (count - done) ≡ count = omega arith
    in now
    ∙ ap (λ (place : ℕ). written_at place word (unpack mid)) place
    ∙ ap (written_at (at + length first) word) was
    ∙ written_at-more at first word (unpack old) (omega (arith, length-unpack old))
    ∙ ap (λ (word : List Bool). written_at at word (unpack old)) both
    ∙ ap (λ (count : ℕ). written_at at (take count (drop from (unpack source))) (unpack old)) all

-- a part of one byte copied
pub copied_part : (bytes source : List ℕ) (at from count part byte : ℕ)
    → at + count ≤ 8 * length bytes
    → at % 8 + count ≤ 8
    → 0 < count
    → bits_of count part ≡ take count (drop from (unpack source))
    → bits_of 8 byte ≡ written_at (at % 8) (bits_of count part) (bits_of 8 (get_or bytes (at / 8) 0))
    → unpack (set bytes (at / 8) byte) ≡ written_at at (take count (drop from (unpack source))) (unpack bytes)
copied_part bytes source at from count part byte room few some part_is byte_is =
    let long : length (bits_of count part) ≡ count = length-bits_of count part
    in let place : 8 * (at / 8) + at % 8 ≡ at = omega arith
    in unpack-set_part bytes (at / 8) (at % 8) byte (bits_of count part) (omega arith) (omega arith) byte_is
    ∙ ap (λ (place : ℕ). written_at place (bits_of count part) (unpack bytes)) place
    ∙ ap (λ (word : List Bool). written_at at word (unpack bytes)) part_is

-- a byte more of a copy, of two bytes of the source
pub copied_shifted : (bytes old source : List ℕ) (at from done byte : ℕ)
    → at % 8 ≡ 0
    → at + 8 * done + 8 ≤ 8 * length old
    → from + 8 * done + 8 ≤ 8 * length source
    → 0 < from % 8
    → get_or source (from / 8 + done) 0 < 256
    → byte ≡ (get_or source (from / 8 + done) 0 + 256 * get_or source (from / 8 + done + 1) 0) / 2 ^ (from % 8) % 256
    → unpack bytes ≡ written_at at (take (8 * done) (drop from (unpack source))) (unpack old)
    → unpack (set bytes (at / 8 + done) byte) ≡ written_at at (take (8 * (done + 1)) (drop from (unpack source))) (unpack old)
copied_shifted bytes old source at from done byte begins room within skips fits byte_is was =
    let here : (from + 8 * done) / 8 ≡ from / 8 + done = omega arith
    in let place : (from + 8 * done) % 8 ≡ from % 8 = omega arith
    in let to : (at + 8 * done) / 8 ≡ at / 8 + done = omega arith
    in let to_place : (at + 8 * done) % 8 ≡ 0 = omega arith
    in let pair = get_or source (from / 8 + done) 0 + 256 * get_or source (from / 8 + done + 1) 0
    in let pair_is : pair ≡ get_or source ((from + 8 * done) / 8) 0 + 256 * get_or source ((from + 8 * done) / 8 + 1) 0 =
    ap (λ (index : ℕ). get_or source index 0 + 256 * get_or source (index + 1) 0) (sym here)
    in let part : bits_of 8 byte ≡ take 8 (drop (from + 8 * done) (unpack source)) =
    ap (bits_of 8) byte_is
    ∙ ap (λ (place : ℕ). bits_of 8 (pair / 2 ^ place % 256)) (sym place)
    ∙ part-pair source (from + 8 * done) 8 pair (omega arith) (omega arith) (rw here fits) pair_is
    in let long : length (bits_of 8 byte) ≡ 8 = length-bits_of 8 byte
    in let many : length (unpack bytes) ≡ length (unpack old) =
    ap length was ∙ length-written_at at (take (8 * done) (drop from (unpack source))) (unpack old)
    (omega (arith, length-unpack old, length-take (8 * done) (drop from (unpack source))))
    in let written : unpack (set bytes ((at + 8 * done) / 8) byte)
    ≡ written_at (at + 8 * done) (take 8 (drop (from + 8 * done) (unpack source))) (unpack bytes) =
    copied_part bytes source (at + 8 * done) (from + 8 * done) 8 byte byte
    (omega (arith, many, length-unpack bytes, length-unpack old)) (omega arith) (omega arith)
    part
    (sym (ap (λ (place : ℕ). written_at place (bits_of 8 byte) (bits_of 8 (get_or bytes ((at + 8 * done) / 8) 0))) to_place
    ∙ written_at-whole (bits_of 8 byte) (bits_of 8 (get_or bytes ((at + 8 * done) / 8) 0))
    (long ∙ sym (length-bits_of 8 (get_or bytes ((at + 8 * done) / 8) 0)))))
    in let one : 8 * (done + 1) - 8 * done ≡ 8 = omega arith
    in ap (λ (index : ℕ). unpack (set bytes index byte)) (sym to)
    ∙ copied_on old bytes (set bytes ((at + 8 * done) / 8) byte) source at from (8 * done) (8 * (done + 1)) (omega arith) (omega arith) (omega arith) was
    (rw one written)

-- ---- words

-- the bits of a word from a place on, in the bytes that keep it
part_of_word : (width from count : ℕ) (bytes : List ℕ) (word : List Bool)
    → IsPacked width bytes
    → take width (unpack bytes) ≡ word
    → from + count ≤ length word
    → take count (drop from (unpack bytes)) ≡ take count (drop from word)
part_of_word width from count bytes word packed word_is within =
    let zeros = zero_bits (8 * length bytes - width)
    in let whole : unpack bytes ≡ word ++ zeros = sym (packed_whole width bytes packed) ∙ ap (λ (word : List Bool). word ++ zeros) word_is
    in ap (λ (bits : List Bool). take count (drop from bits)) whole
    ∙ ap (take count) (drop-append-le from word zeros (omega arith))
    ∙ take-append-le count (drop from word) zeros (omega (arith, length-drop from word))

-- a word with bits of another in place of some of its own
pub record Copied (width at : ℕ) (bytes : List ℕ) (part word : List Bool) : Type 0 where
  pub packed : IsPacked width bytes
  pub word_is : take width (unpack bytes) ≡ written_at at part word

copied_by : (width at : ℕ) (old new : List ℕ) (part word : List Bool)
    → IsPacked width old
    → take width (unpack old) ≡ word
    → at + length part ≤ width
    → length new ≡ length old
    → unpack new ≡ written_at at part (unpack old)
    → Copied width at new part word
copied_by width at old new part word packed word_is room same written =
    let zeros = zero_bits (8 * length old - width)
    in let long = length_packed width old packed
    in let wide : length word ≡ width = ap length (sym word_is) ∙ long
    in let whole : unpack old ≡ word ++ zeros = sym (packed_whole width old packed) ∙ ap (λ (word : List Bool). word ++ zeros) word_is
    in let within : at + length part ≤ length (unpack old) = omega (arith, length-unpack old, packed.room)
    in record {
      packed = record {
        room = omega (arith, packed.room);
        few = omega (arith, packed.few);
        zeros =
            ap (drop width) written
            ∙ drop-written_at at width part (unpack old) room within
            ∙ packed.zeros
            ∙ ap (λ (count : ℕ). zero_bits (8 * count - width)) (sym same);
      };
      word_is =
          ap (take width) (written ∙ ap (written_at at part) whole ∙ written_at-front word zeros part at (omega arith))
          ∙ take_at (written_at at part word) zeros width (length-written_at at part word (omega arith) ∙ wide);
    }

pub copied : (width other at from count : ℕ) (old new source : List ℕ) (word other_word : List Bool)
    → IsPacked width old
    → take width (unpack old) ≡ word
    → IsPacked other source
    → take other (unpack source) ≡ other_word
    → at + count ≤ length word
    → from + count ≤ length other_word
    → length new ≡ length old
    → unpack new ≡ written_at at (take count (drop from (unpack source))) (unpack old)
    → Copied width at (refill (length old) old new) (take count (drop from other_word)) word
copied width other at from count old new source word other_word packed word_is packed_source other_is room within same written =
    let part = part_of_word other from count source other_word packed_source other_is within
    in let long : length (take count (drop from other_word)) ≡ count =
    length-take count (drop from other_word) ∙ omega (arith, length-drop from other_word)
    in let wide : length word ≡ width = ap length (sym word_is) ∙ length_packed width old packed
    in rw (refill_whole old new same)
    (copied_by width at old new (take count (drop from other_word)) word packed word_is (omega arith) same
    (written ∙ ap (λ (part : List Bool). written_at at part (unpack old)) part))

-- all of a word, as a part of it
pub whole_part : (word : List Bool) (count : ℕ) → count ≡ length word → take count (drop 0 word) ≡ word
whole_part word count all = take_all count word (omega arith)

-- bits put in place of zeros above a word
pub written_at-end : (word zeros more : List Bool) → length zeros ≡ length more → written_at (length word) more (word ++ zeros) ≡ word ++ more
written_at-end word zeros more same =
    ap (λ (low : List Bool). low ++ more ++ drop (length word + length more) (word ++ zeros)) (take_at word zeros (length word) refl)
    ∙ ap (λ (high : List Bool). word ++ more ++ high) (drop_all (length word + length more) (word ++ zeros) (omega (arith, length-append word zeros)))
    ∙ append-nil (word ++ more)

-- ---- zeros above a word

all_zeros : (ys : List ℕ) → AllClonesOf (λ (x y : ℕ). y ≡ x) 0 ys → ys ≡ replicate (length ys) 0
all_zeros [] all = refl
all_zeros (y ∷ ys) all =
    let first : y ≡ 0 = elim all.0 [ inl same ↦ same | inr same ↦ same ]
    in let rest = all_zeros ys all.1
    in cc

zeros_above : (old new : List ℕ) (size : ℕ)
    → length old ≤ size
    → AppendsClonesOf (λ (x y : ℕ). y ≡ x) (take size old) new 0
    → length new ≡ size
    → unpack new ≡ unpack old ++ zero_bits (8 * (size - length old))
zeros_above old new size within appends long =
    let added = appends.0
    in let new_is : new ≡ old ++ added = appends.1 ∙ ap (λ (front : List ℕ). front ++ added) (take_all size old within)
    in let many : length added ≡ size - length old = omega (arith, ap length new_is, length-append old added)
    in ap unpack new_is
    ∙ unpack-append old added
    ∙ ap (λ (rest : List Bool). unpack old ++ rest)
    (ap unpack (all_zeros added appends.2 ∙ ap (λ (count : ℕ). replicate count 0) many) ∙ unpack-replicate_zero (size - length old))

-- a word with zeros above it, in as few bytes as have room for both
pub record Widened (width : ℕ) (bytes : List ℕ) (word : List Bool) : Type 0 where
  pub packed : IsPacked width bytes
  pub word_is : take width (unpack bytes) ≡ word

widened_by : (width pad : ℕ) (bytes : List ℕ) (word : List Bool)
    → length word ≡ width
    → pad < 8
    → unpack bytes ≡ word ++ zero_bits pad
    → Widened width bytes word
widened_by width pad bytes word wide few bits =
    let long : 8 * length bytes ≡ width + pad =
    sym (length-unpack bytes) ∙ ap length bits ∙ length-append word (zero_bits pad) ∙ rw (wide, length-replicate) refl
    in let left : pad ≡ 8 * length bytes - width = omega arith
    in record {
      packed = record {
        room = omega arith;
        few = omega arith;
        zeros = ap (drop width) bits ∙ drop_at word (zero_bits pad) width wide ∙ ap zero_bits left;
      };
      word_is = ap (take width) bits ∙ take_at word (zero_bits pad) width wide;
    }

pub widened : (width count all size : ℕ) (old new : List ℕ) (word : List Bool)
    → IsPacked width old
    → take width (unpack old) ≡ word
    → all ≡ width + count
    → size ≡ all / 8 + min 1 (all % 8)
    → AppendsClonesOf (λ (x y : ℕ). y ≡ x) (take size old) new 0
    → length new ≡ size
    → Widened all new (word ++ zero_bits count)
widened width count all size old new word packed word_is all_is size_is appends long =
    let wide : length word ≡ width = ap length (sym word_is) ∙ length_packed width old packed
    in let total : length (word ++ zero_bits count) ≡ all =
    length-append word (zero_bits count) ∙ rw (wide, length-replicate) (sym all_is)
    in let within : length old ≤ size = omega (arith, packed.few)
    in let zeros : (8 * length old - width) + 8 * (size - length old) ≡ count + (8 * size - all) = omega (arith, packed.room, packed.few)
    in widened_by all (8 * size - all) new (word ++ zero_bits count) total (omega arith)
    (zeros_above old new size within appends long
    ∙ ap (λ (bits : List Bool). bits ++ zero_bits (8 * (size - length old)))
    (sym (packed_whole width old packed) ∙ ap (λ (word : List Bool). word ++ zero_bits (8 * length old - width)) word_is)
    ∙ append_assoc word (zero_bits (8 * length old - width)) (zero_bits (8 * (size - length old)))
    ∙ ap (λ (zeros : List Bool). word ++ zeros)
    (replicate-append-replicate (8 * length old - width) (8 * (size - length old)) false
    ∙ ap zero_bits zeros
    ∙ sym (replicate-append-replicate count (8 * size - all) false))
    ∙ sym (append_assoc word (zero_bits count) (zero_bits (8 * size - all))))
