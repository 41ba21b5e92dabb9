-- What the signals of a stream make.
use Rattle.std.proofs.Common.{◌≡◌, ◌∙◌, ℕ, ◌-◌, ◌*◌, ◌^◌, ◌<◌, ◌≤◌, Bool, true, false, not, ◌&&◌, ◌||◌, nat_lt, List, [], ◌∷◌, length, get_or, is_some}
use Rattle.std.proofs.Common.{option_map, Option, Some, None, IfSome, if◌then◌else◌, refl, sym, ap, subst, arith}
use Rattle.std.proofs.lemmas.Nat.{pow_pos}
use Rattle.std.proofs.Math.Pow.{pow-sub-lt, pow_mono}
use Rattle.std.proofs.lemmas.List.{drop_all}
use Rattle.tydi_base.specs.Hex.{no_ones}
use Rattle.tydi_base.specs.Numbers.{number_below}
use Rattle.std.proofs.lemmas.Bool.Decides.{nat_tests}
use Rattle.std.specs.List.{list_all}
use Rattle.physical_stream.specs.Cycles.{Cycle}
use Rattle.physical_stream.specs.Params.{Parameters}
use Rattle.physical_stream.specs.Signals.{Shows, has_content, has_endi, has_last, has_stai, has_strb, has_user}
use Rattle.physical_stream.specs.declared.transfer.Transfer.{Transfer}
use Rattle.signal_layout.specs.Layout.{bits_of_signal, default_number, default_of, is_present}
use Rattle.signal_layout.specs.declared.signal.Signal.{Signal}
use Rattle.signal_layout.specs.declared.signal.Signal.TheVariants as signals
use Rattle.tydi_base.specs.Bits.{bits_of, number_of_bits}
use Rattle.tydi_base.specs.Width.{index_width}
use Rattle.tydi_base.proofs.BitsLemmas.{length-bits_of, number_of_bits-below, number_of_bits-bits_of}
use Rattle.tydi_base.proofs.WidthLaws.{index_width-least}
use Rattle.vhdl_meaning.specs.Meaning.{transfer_in, word_in}
use Rattle.vcd_read.specs.Probes.{FitsProbe, IsProbed, IsShort, Words, is_told_by, number_by, number_in, sample_by, word_by}
use Rattle.vcd_read.specs.Sampled.{Sample, is_told, known_bits, makes_row, payload_signals, row_of}
use Rattle.vcd_read.specs.declared.probe.Probe.{Probe}

-- ---- a signal is told

-- by its number, where it has one exactly if the stream has it
told-by : (words : Words) (number : Option ℕ) (present : Bool) → is_some number ≡ present
    → is_told_by words number ≡ (not present || is_some (word_by words number))
unfolding word_by
told-by words None true is = absurd (let e = is in cc)
told-by words None false is = refl
told-by words (Some n) true is = refl
told-by words (Some n) false is = absurd (let e = is in cc)

pub told-is : (words : Words) (probe : Probe) → IsProbed probe → (signal : Signal) → is_told_by words (number_in probe signal) ≡ is_told probe.params
    (sample_by words probe) signal
told-is words probe probed signal = told-by words (number_in probe signal) (is_present probe.params signal) (probed signal)

pub some-map : {A B : Type 0} (f : A → B) (o : Option A) → is_some o ≡ is_some (option_map f o)
some-map f None = refl
some-map f (Some x) = refl

-- ---- a word that is seen

pub high-is : (word : Option (List Bool)) (bits : List Bool) → word ≡ Some bits → get_or bits 0 false ≡ get_or (known_bits word) 0 false
unfolding known_bits
high-is word bits is = sym (ap (λ (o : Option (List Bool)). get_or (known_bits o) 0 false) is)

pub high-none : (word : Option (List Bool)) → word ≡ None → false ≡ get_or (known_bits word) 0 false
unfolding known_bits
high-none word is = sym (ap (λ (o : Option (List Bool)). get_or (known_bits o) 0 false) is)

pub no-one : (bits : List Bool) → length bits ≡ 0 → false ≡ get_or bits 0 false
no-one [] none = refl
no-one (bit ∷ bits) none = absurd (omega (arith, none))

pub known-is : (word : Option (List Bool)) (bits : List Bool) → word ≡ Some bits → bits ≡ known_bits word
unfolding known_bits
known-is word bits is = sym (ap known_bits is)

pub known-none : (word : Option (List Bool)) → word ≡ None → [] ≡ known_bits word
unfolding known_bits
known-none word is = sym (ap known_bits is)

pub number-is : (word : Option (List Bool)) (bits : List Bool) (default : ℕ) → word ≡ Some bits → number_of_bits bits ≡ number_by word default
unfolding number_by
number-is word bits default is = sym (ap (λ (o : Option (List Bool)). number_by o default) is)

pub default-is-none : (word : Option (List Bool)) (default : ℕ) → word ≡ None → default ≡ number_by word default
unfolding number_by
default-is-none word default is = sym (ap (λ (o : Option (List Bool)). number_by o default) is)

-- ---- numbers of short words

pub number-short : (bits : List Bool) → length bits ≤ 128 → number_below 128 bits ≡ Some (number_of_bits bits)
unfolding number_below no_ones
number-short bits long = ap (λ (l : List Bool). if no_ones l then Some (number_of_bits bits) else None) (drop_all 128 bits long)

pub index-short : (bits : List Bool) → length bits ≤ 16 → number_of_bits bits < 65536
index-short bits long =
    let less : number_of_bits bits < 2 ^ length bits = number_of_bits-below bits in
    let most : 2 ^ length bits ≤ 2 ^ 16 = pow_mono long in
    omega (arith, less, most)

-- ---- both sides of a conjunction

pub and-first : (one other : Bool) → (one && other) ≡ true → one ≡ true
and-first true other is = refl
and-first false other is = absurd (let e = is in cc)

pub and-second : (one other : Bool) → (one && other) ≡ true → other ≡ true
and-second true other is = is
and-second false other is = absurd (let e = is in cc)

or-second : (one other : Bool) → (not one || other) ≡ true → one ≡ true → other ≡ true
or-second true other is high = is
or-second false other is high = absurd (let e = high in cc)

-- six tests, one after another
pub six-tests : (a b c d e f : Bool) → (a && (b && (c && (d && (e && f))))) ≡ (a && (b && (c && (d && (e && (f && true))))))
six-tests a b c d e true = refl
six-tests a b c d e false = refl

-- ---- a row whose payload is told

module _ (p : Parameters) (sample : Sample) (told : list_all (is_told p sample) payload_signals ≡ true) where
  rest_1 : list_all (is_told p sample) (signals.Last ∷ signals.Stai ∷ signals.Endi ∷ signals.Strb ∷ signals.User ∷ []) ≡ true
  rest_1 = and-second (is_told p sample signals.Content) _ told

  rest_2 : list_all (is_told p sample) (signals.Stai ∷ signals.Endi ∷ signals.Strb ∷ signals.User ∷ []) ≡ true
  rest_2 = and-second (is_told p sample signals.Last) _ rest_1

  rest_3 : list_all (is_told p sample) (signals.Endi ∷ signals.Strb ∷ signals.User ∷ []) ≡ true
  rest_3 = and-second (is_told p sample signals.Stai) _ rest_2

  rest_4 : list_all (is_told p sample) (signals.Strb ∷ signals.User ∷ []) ≡ true
  rest_4 = and-second (is_told p sample signals.Endi) _ rest_3

  rest_5 : list_all (is_told p sample) (signals.User ∷ []) ≡ true
  rest_5 = and-second (is_told p sample signals.Strb) _ rest_4

  pub told-content : is_told p sample signals.Content ≡ true
  told-content = and-first (is_told p sample signals.Content) _ told

  pub told-last : is_told p sample signals.Last ≡ true
  told-last = and-first (is_told p sample signals.Last) _ rest_1

  pub told-stai : is_told p sample signals.Stai ≡ true
  told-stai = and-first (is_told p sample signals.Stai) _ rest_2

  pub told-endi : is_told p sample signals.Endi ≡ true
  told-endi = and-first (is_told p sample signals.Endi) _ rest_3

  pub told-strb : is_told p sample signals.Strb ≡ true
  told-strb = and-first (is_told p sample signals.Strb) _ rest_4

  pub told-user : is_told p sample signals.User ≡ true
  told-user = and-first (is_told p sample signals.User) _ rest_5

-- ---- the payload

-- a word: that of the signal, or its default
word-one : (present : Bool) (number : Option ℕ) (words : Words) (default : List Bool) → is_some number ≡ present → (present ≡ false → default ≡ []) →
    known_bits (word_by words number) ≡ (if present then known_bits (word_by words number) else default)
unfolding word_by known_bits
word-one true number words default is none = refl
word-one false None words default is none = sym (none refl)
word-one false (Some n) words default is none = absurd (let e = is in cc)

number-none : (words : Words) (default : ℕ) → number_by (word_by words None) default ≡ default
unfolding word_by number_by
number-none words default = refl

-- a number: that which the word of the signal spells, or its default
number-one : (present : Bool) (number : Option ℕ) (words : Words) (width default : ℕ) → is_some number ≡ present
    → (not present || is_some (word_by words number)) ≡ true → default < 2 ^ width →
    number_by (word_by words number) default ≡ number_of_bits (if present then known_bits (word_by words number) else bits_of width default)
unfolding number_by known_bits word_by
number-one true number words width default is told less = by (word_by words number) told
  where
    by : (word : Option (List Bool)) → (false || is_some word) ≡ true → number_by word default ≡ number_of_bits (known_bits word)
    by (Some bits) told = refl
    by None told = absurd (let e = told in cc)
number-one false None words width default is told less = number-none words default ∙ sym (number_of_bits-bits_of width default less)
number-one false (Some n) words width default is told less = absurd (let e = is in cc)

same_transfer : {content content' last last' user user' : List Bool} {stai stai' endi endi' strb strb' : ℕ}
    → content ≡ content' → last ≡ last' → stai ≡ stai' → endi ≡ endi' → strb ≡ strb' → user ≡ user'
    → ◌≡◌ {A = Transfer} (record { content = content; last = last; stai = stai; endi = endi; strb = strb; user = user })
    (record { content = content'; last = last'; stai = stai'; endi = endi'; strb = strb'; user = user' })
same_transfer c l s e b u = cc

no-bits : (count size : ℕ) → nat_lt 0 size ≡ false → bits_of (count * size) 0 ≡ []
unfolding bits_of
no-bits count size none = let zero : size ≡ 0 = grind (arith, nat_tests, none) in ap (λ n. bits_of (count * n) 0) zero
    ∙ ap (λ n. bits_of n 0) (let e : count * 0 ≡ 0 = omega arith in e)

no-user : (size : ℕ) → nat_lt 0 size ≡ false → bits_of size 0 ≡ []
unfolding bits_of
no-user size none = let zero : size ≡ 0 = grind (arith, nat_tests, none) in ap (λ n. bits_of n 0) zero

-- the number of the last lane is one that the bits of an index spell
few : (p : Parameters) → p.lanes - 1 < 2 ^ index_width p.lanes
few p = let enough = (index_width-least p.lanes).enough in let some : 0 < 2 ^ index_width p.lanes = pow_pos (index_width p.lanes) in
    omega (arith, enough, some)

all_ones : (p : Parameters) → 2 ^ p.lanes - 1 < 2 ^ p.lanes
all_ones p = pow-sub-lt p.lanes (omega arith)

module _ (words : Words) (probe : Probe) (probed : IsProbed probe) where
  abbrev p : Parameters
  p = probe.params

  abbrev sample : Sample
  sample = sample_by words probe

  abbrev values : Signal → List Bool
  values signal = known_bits (sample signal)

  -- the payload of the row
  pub transfer-is : list_all (is_told p sample) payload_signals ≡ true →
      (content last user : List Bool) (stai endi strb : ℕ) → content ≡ known_bits (word_by words probe.content)
      → last ≡ known_bits (word_by words probe.last) → user ≡ known_bits (word_by words probe.user)
      → stai ≡ number_by (word_by words probe.stai) 0 → endi ≡ number_by (word_by words probe.endi) (p.lanes - 1)
      → strb ≡ number_by (word_by words probe.strb) (2 ^ p.lanes - 1)
      → ◌≡◌ {A = Transfer} (record { content = content; last = last; stai = stai; endi = endi; strb = strb; user = user }) (transfer_in p values)
  unfolding number_in
  transfer-is told content last user stai endi strb c l u s e b = same_transfer
      (c ∙ word-one (has_content p) probe.content words _ (probed signals.Content) (no-bits p.lanes p.element))
      (l ∙ word-one (has_last p) probe.last words _ (probed signals.Last) (no-bits p.lanes p.dims))
      (s ∙ number-one (has_stai p) probe.stai words (index_width p.lanes) 0 (probed signals.Stai) (told-stai p sample told) (pow_pos (index_width p.lanes)))
      (e ∙ number-one (has_endi p) probe.endi words (index_width p.lanes) (p.lanes - 1) (probed signals.Endi) (told-endi p sample told) (few p))
      (b ∙ number-one (has_strb p) probe.strb words p.lanes (2 ^ p.lanes - 1) (probed signals.Strb) (told-strb p sample told) (all_ones p))
      (u ∙ word-one (has_user p) probe.user words _ (probed signals.User) (no-user p.user))

  -- a number has few bits
  short-by : (most width : ℕ) → width ≤ most → (word : Option (List Bool)) → IfSome word (λ bits. length bits ≡ width) → IsShort most word
  short-by most width few None fits = tt
  short-by most width few (Some bits) fits = omega (arith, few, fits)

  module _ (fits : FitsProbe words probe) (narrow : p.lanes ≤ 128) where
    narrow_index : index_width p.lanes ≤ 16
    narrow_index = let e : index_width p.lanes ≤ 7 = (index_width-least p.lanes).least 7 (omega (arith, narrow)) in omega (arith, e)

    pub short-stai : IsShort 16 (word_by words probe.stai)
    unfolding number_in
    short-stai = short-by 16 (index_width p.lanes) narrow_index (word_by words probe.stai) (fits signals.Stai)

    pub short-endi : IsShort 16 (word_by words probe.endi)
    unfolding number_in
    short-endi = short-by 16 (index_width p.lanes) narrow_index (word_by words probe.endi) (fits signals.Endi)

    pub short-strb : IsShort 128 (word_by words probe.strb)
    unfolding number_in
    short-strb = short-by 128 p.lanes narrow (word_by words probe.strb) (fits signals.Strb)

-- ---- the stream can show it

-- the words of a sample, of which a signal that is of bits has its width, and in which the payload is told
module _ (p : Parameters) (sample : Sample) (fits : (signal : Signal) → IfSome (sample signal) (λ bits. length bits ≡ bits_of_signal p signal))
    (told : list_all (is_told p sample) payload_signals ≡ true) where
  abbrev words_of : Signal → List Bool
  words_of signal = known_bits (sample signal)

  -- the word of a signal that is told has its width
  wide-by : (present : Bool) (word : Option (List Bool)) (width default : ℕ) → (not present || is_some word) ≡ true
      → IfSome word (λ bits. length bits ≡ width)
      → length (if present then known_bits word else bits_of width default) ≡ width
  unfolding known_bits
  wide-by true (Some bits) width default told fits = fits
  wide-by true None width default told fits = absurd (let e = told in cc)
  wide-by false word width default told fits = length-bits_of width default

  long : (signal : Signal) → is_told p sample signal ≡ true → length (word_in p words_of signal) ≡ bits_of_signal p signal
  long signal told = wide-by (is_present p signal) (sample signal) (bits_of_signal p signal) (default_number p (default_of signal)) told (fits signal)

  small : (signal : Signal) → is_told p sample signal ≡ true → number_of_bits (word_in p words_of signal) < 2 ^ bits_of_signal p signal
  small signal told = subst (λ w. number_of_bits (word_in p words_of signal) < 2 ^ w) (long signal told) (number_of_bits-below (word_in p words_of signal))

  default-is : (signal : Signal) (default : ℕ) → default ≡ default_number p (default_of signal) → default < 2 ^ bits_of_signal p signal
      → is_present p signal ≡ false → number_of_bits (word_in p words_of signal) ≡ default
  default-is signal default is less absent =
      ap (λ (there : Bool). number_of_bits (if there then words_of signal else bits_of (bits_of_signal p signal)
      (default_number p (default_of signal)))) absent
      ∙ ap (λ n. number_of_bits (bits_of (bits_of_signal p signal) n)) (sym is) ∙ number_of_bits-bits_of (bits_of_signal p signal) default less

  pub transfer-shows : Shows p (transfer_in p words_of)
  transfer-shows = record {
    fits = record {
      content = long signals.Content (told-content p sample told);
      last = long signals.Last (told-last p sample told);
      stai = small signals.Stai (told-stai p sample told);
      endi = small signals.Endi (told-endi p sample told);
      strb = small signals.Strb (told-strb p sample told);
      user = long signals.User (told-user p sample told);
    };
    defaults = record {
      stai = default-is signals.Stai 0 refl (pow_pos (index_width p.lanes));
      endi = default-is signals.Endi (p.lanes - 1) refl (few p);
      strb = default-is signals.Strb (2 ^ p.lanes - 1) refl (all_ones p);
    };
  }

-- ---- the row

-- valid is 1
pub row-shown : (p : Parameters) (sample : Sample) (ready : Bool) (high : Bool) (t : Transfer)
    → high ≡ get_or (known_bits (sample signals.Valid)) 0 false → high ≡ true → t ≡ transfer_in p (λ signal. known_bits (sample signal))
    → ready ≡ get_or (known_bits (sample signals.Ready)) 0 false → ◌≡◌ {A = Cycle} (record { ready = ready; shown = Some t }) (row_of p sample)
row-shown p sample ready high t is so made bit =
    (λ i. record { ready = bit i; shown = Some (made i) })
    ∙ ap (λ (b : Bool). record {
      ready = get_or (known_bits (sample signals.Ready)) 0 false;
      shown = if b then Some (transfer_in p (λ signal. known_bits
          (sample signal))) else None;
    }) (sym (sym is ∙ so))

-- valid is 0
pub row-none : (p : Parameters) (sample : Sample) (ready : Bool) (high : Bool) → high ≡ get_or (known_bits (sample signals.Valid)) 0 false → high ≡ false
    → ready ≡ get_or (known_bits (sample signals.Ready)) 0 false → ◌≡◌ {A = Cycle} (record { ready = ready; shown = None }) (row_of p sample)
row-none p sample ready high is so bit =
    (λ i. record { ready = bit i; shown = None })
    ∙ ap (λ (b : Bool). record {
      ready = get_or (known_bits (sample signals.Ready)) 0 false;
      shown = if b then Some (transfer_in p (λ signal. known_bits
          (sample signal))) else None;
    }) (sym (sym is ∙ so))

-- the payload is told where valid is 1
pub payload-told : (p : Parameters) (sample : Sample) (high : Bool) → makes_row p sample ≡ true
    → high ≡ get_or (known_bits (sample signals.Valid)) 0 false → high ≡ true → list_all (is_told p sample) payload_signals ≡ true
payload-told p sample high makes is so =
    or-second (get_or (known_bits (sample signals.Valid)) 0 false) (list_all (is_told p sample) payload_signals)
    (and-second (is_some (sample signals.Ready)) _ (and-second (is_some (sample signals.Valid)) _ makes)) (sym is ∙ so)
