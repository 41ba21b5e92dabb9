-- The signals of a row: each spelling is read, and each text that is read is a spelling.
use Rattle.std.proofs.Common.{◌≡◌, ℕ, ◌+◌, ◌-◌, ◌^◌, ◌<◌, ◌≤◌, Bool, true, false, ◌&&◌, eqb, nat_le, nat_lt, List, [], ◌∷◌, ◌++◌, length, Result, Ok, Err, cond, refl, sym, ap, ◌∙◌, arith}
use Rattle.std.specs.Fmt.{decimal}
use Rattle.std.proofs.Math.Pow.{pow_mono}
use Rattle.std.proofs.lemmas.Bool.{eqb-true, eq-eqb}
use Rattle.std.proofs.lemmas.Bool.Decides.{nat_tests}
use Rattle.std.proofs.lemmas.Fmt.{length-decimal-le}
use Rattle.std.proofs.lemmas.List.{append-nil, length-replicate}
use Rattle.std.proofs.lemmas.Nat.{pow_pos}
use Rattle.tydi_base.specs.Bits.{bits_of, number_of_bits, zero_bits}
use Rattle.tydi_base.specs.Decimal.{decimal_of}
use Rattle.tydi_base.specs.Hex.{hex_of, word_at}
use Rattle.tydi_base.specs.Reading.{◌>>=◌, or_fault}
use Rattle.tydi_base.specs.Width.{index_width}
use Rattle.tydi_base.proofs.BitsLemmas.{length-bits_of, number_of_bits-bits_of, bits_of-number_of_bits, number_of_bits-below}
use Rattle.tydi_base.proofs.DecimalLaws.{decimal_of-decimal, decimal_of-some}
use Rattle.tydi_base.proofs.HexLemmas.{word_at-hex_of, hex_of-word_at}
use Rattle.tydi_base.proofs.ReadingLaws.{bind_ok, or_fault_ok, ok_is}
use Rattle.tydi_base.proofs.TestLemmas.{kept}
use Rattle.tydi_base.proofs.WidthLaws.{index_width-least}
use Rattle.tydi_base.proofs.LengthLemmas.{decimal_of-below}
use Rattle.cycle_trace.specs.RowText.{value_of, word_field, index_of, index_field, strobe_field}
use Rattle.cycle_trace.specs.Spelling.{signal_words}
use Rattle.tydi_base.proofs.PlainWords.{and_parts}

-- ---- numbers of few digits

-- seven bits number the lanes of a stream
pub index_width-most : (lanes : ℕ) → lanes ≤ 128 → index_width lanes ≤ 7
index_width-most lanes few = (index_width-least lanes).least 7 few

-- ---- the value of a key

pub value_of-spelled : (key : ℕ) (value : List ℕ) (rest : List (List ℕ)) → value_of key ((key ∷ 61 ∷ value) ∷ rest) ≡ Ok (value, rest)
unfolding value_of
value_of-spelled key value rest = rw (eq-eqb key key refl) refl

pub value_of-some : (key : ℕ) (words : List (List ℕ)) (x : List ℕ × List (List ℕ)) → value_of key words ≡ Ok x → words ≡ (key ∷ 61 ∷ x.0) ∷ x.1
unfolding value_of
value_of-some key [] x e = absurd cc
value_of-some key ([] ∷ words) x e = absurd cc
value_of-some key ((k ∷ []) ∷ words) x e = absurd cc
value_of-some key ((k ∷ sign ∷ value) ∷ words) x e =
    let test = kept (eqb k key && eqb sign 61) (Ok (value, words)) tt x e in
    let parts = and_parts (eqb k key) (eqb sign 61) test.0 in
    let same = ok_is (value, words) x test.1 in
    rw (← same, eqb-true k key parts.0, eqb-true sign 61 parts.1) refl

-- ---- words of bits

no_bits : (bits : List Bool) (width : ℕ) → length bits ≡ width → width ≡ 0 → bits ≡ zero_bits width
no_bits [] width long none = rw none refl
no_bits (bit ∷ bits) width long none = absurd (omega arith)

pub word_field-spelled : (present : Bool) (key width : ℕ) (bits : List Bool) (words rest : List (List ℕ)) → length bits ≡ width → (present ≡ false → width ≡ 0)
    → words ≡ signal_words present key (hex_of bits) ++ rest → word_field present key width words ≡ Ok (bits, rest)
unfolding word_field
word_field-spelled false key width bits words rest wide none e = rw (e, ← no_bits bits width wide (none refl)) refl
word_field-spelled true key width bits words rest wide none e = rw (e, value_of-spelled key (hex_of bits) rest, ← wide, word_at-hex_of bits) refl

-- the bits that were read of a word
pub record WordRead (present : Bool) (key width : ℕ) (words : List (List ℕ)) (x : List Bool × List (List ℕ)) : Type 0 where
  pub spelled : words ≡ signal_words present key (hex_of x.0) ++ x.1
  pub wide : length x.0 ≡ width

pub word_field-some : (present : Bool) (key width : ℕ) (words : List (List ℕ)) (x : List Bool × List (List ℕ)) → word_field present key width words ≡ Ok x → WordRead present key width words x
unfolding word_field
word_field-some false key width words x e =
    let same = ok_is (zero_bits width, words) x e in
    rw (← same) (record { spelled = refl; wide = length-replicate width false })
word_field-some true key width words x e =
    let field = bind_ok (value_of key words) _ x e in
    let bits = bind_ok (or_fault tt (word_at width field.0.0)) _ x field.2 in
    let same = ok_is (bits.0, field.0.1) x bits.2 in
    let read = hex_of-word_at width field.0.0 bits.0 (or_fault_ok tt (word_at width field.0.0) bits.0 bits.1) in
    rw (← same) (record {
      spelled = value_of-some key words field.0 field.1 ∙ ap (λ (value : List ℕ). (key ∷ 61 ∷ value) ∷ field.0.1) read.0;
      wide = read.1;
    })

-- ---- numbers of lanes

index_of-spelled : (width n : ℕ) → n < 2 ^ width → width ≤ 7 → index_of width (decimal n) ≡ Ok n
unfolding index_of
index_of-spelled width n below few =
    let grows : 2 ^ width ≤ 2 ^ 7 = pow_mono few in
    let digits : length (decimal n) ≤ 3 = length-decimal-le 3 n (omega arith) (omega arith) (omega arith) in
    let short : nat_le (length (decimal n)) 5 ≡ true = grind (arith, nat_tests) in
    let fits : nat_lt n (2 ^ width) ≡ true = grind (arith, nat_tests) in
    rw (short, decimal_of-decimal n (omega arith), fits) refl

index_of-some : (width n : ℕ) (digits : List ℕ) → index_of width digits ≡ Ok n → (digits ≡ decimal n) × (n < 2 ^ width)
unfolding index_of
index_of-some width n digits e =
    let where_below = λ (m : ℕ). cond {A = Result ℕ (Unit {0})} (nat_lt m (2 ^ width)) (Ok m) (Err tt) in
    let short = kept (nat_le (length digits) 5) (or_fault tt (decimal_of digits) >>= where_below) tt n e in
    let few = short.0 in
    let read = bind_ok (or_fault tt (decimal_of digits)) where_below n short.1 in
    let is = or_fault_ok tt (decimal_of digits) read.0 read.1 in
    let lt : read.0 < 10 ^ 5 = decimal_of-below digits read.0 5 (grind (arith, nat_tests)) is in
    let below = kept (nat_lt read.0 (2 ^ width)) (Ok read.0) tt n read.2 in
    let fits = below.0 in
    let same = ok_is read.0 n below.1 in
    rw (← same) (decimal_of-some digits read.0 (omega arith) is, grind (arith, nat_tests))

pub index_field-spelled : (present : Bool) (key width default n : ℕ) (words rest : List (List ℕ)) → n < 2 ^ width → width ≤ 7 → (present ≡ false → n ≡ default)
    → words ≡ signal_words present key (decimal n) ++ rest → index_field present key width default words ≡ Ok (n, rest)
unfolding index_field
index_field-spelled false key width default n words rest below few absent e = rw (e, absent refl) refl
index_field-spelled true key width default n words rest below few absent e = rw (e, value_of-spelled key (decimal n) rest, index_of-spelled width n below few) refl

-- the number that was read of a word that spells it so
pub record NumberRead (text : ℕ → List ℕ) (present : Bool) (key width default : ℕ) (words : List (List ℕ)) (x : ℕ × List (List ℕ)) : Type 0 where
  pub spelled : words ≡ signal_words present key (text x.0) ++ x.1
  pub below : x.0 < 2 ^ width
  pub absent : present ≡ false → x.0 ≡ default

pub index_field-some : (present : Bool) (key width default : ℕ) (words : List (List ℕ)) (x : ℕ × List (List ℕ)) → default < 2 ^ width → index_field present key width default words ≡ Ok x
    → NumberRead decimal present key width default words x
unfolding index_field
index_field-some false key width default words x fits e =
    let same = ok_is (default, words) x e in
    rw (← same) (record { spelled = refl; below = fits; absent = λ none. refl })
index_field-some true key width default words x fits e =
    let field = bind_ok (value_of key words) _ x e in
    let n = bind_ok (index_of width field.0.0) _ x field.2 in
    let same = ok_is (n.0, field.0.1) x n.2 in
    let read = index_of-some width n.0 field.0.0 n.1 in
    rw (← same) (record {
      spelled = value_of-some key words field.0 field.1 ∙ ap (λ (value : List ℕ). (key ∷ 61 ∷ value) ∷ field.0.1) read.0;
      below = read.1;
      absent = λ none. absurd cc;
    })

-- ---- strobe bits

pub strobe_field-spelled : (present : Bool) (lanes strb : ℕ) (words rest : List (List ℕ)) → strb < 2 ^ lanes → (present ≡ false → strb ≡ 2 ^ lanes - 1)
    → words ≡ signal_words present 98 (hex_of (bits_of lanes strb)) ++ rest → strobe_field present lanes words ≡ Ok (strb, rest)
unfolding strobe_field
strobe_field-spelled false lanes strb words rest below absent e = rw (e, absent refl) refl
strobe_field-spelled true lanes strb words rest below absent e =
    let field = word_field-spelled true 98 lanes (bits_of lanes strb) words rest (length-bits_of lanes strb) (λ none. absurd cc) e in
    rw (field, number_of_bits-bits_of lanes strb below) refl

strobe_bits : (lanes : ℕ) (bits : List Bool) → length bits ≡ lanes → bits_of lanes (number_of_bits bits) ≡ bits
strobe_bits lanes bits wide =
    let none : length bits + 0 ≡ lanes = omega arith in
    ap (λ (count : ℕ). bits_of count (number_of_bits bits)) (sym none) ∙ bits_of-number_of_bits bits 0 ∙ append-nil bits

pub strobe_field-some : (present : Bool) (lanes : ℕ) (words : List (List ℕ)) (x : ℕ × List (List ℕ)) → strobe_field present lanes words ≡ Ok x → NumberRead (λ n. hex_of (bits_of lanes n)) present 98 lanes (2 ^ lanes - 1) words x
unfolding strobe_field
strobe_field-some false lanes words x e =
    let same = ok_is (2 ^ lanes - 1, words) x e in
    rw (← same) (record { spelled = refl; below = omega (arith, pow_pos lanes); absent = λ none. refl })
strobe_field-some true lanes words x e =
    let field = bind_ok (word_field true 98 lanes words) _ x e in
    let same = ok_is (number_of_bits field.0.0, field.0.1) x field.2 in
    let read = word_field-some true 98 lanes words field.0 field.1 in
    let below : number_of_bits field.0.0 < 2 ^ length field.0.0 = number_of_bits-below field.0.0 in
    let bits : bits_of lanes (number_of_bits field.0.0) ≡ field.0.0 = strobe_bits lanes field.0.0 read.wide in
    rw (← same) (record {
      spelled = rw bits (read.spelled);
      below = rw (read.wide) at below;
      absent = λ none. absurd cc;
    })
