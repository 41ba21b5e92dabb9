-- The bits at the front of a row.
use Rattle.std.proofs.Common.{◌≡◌, ℕ, Bool, true, false, if◌then◌else◌, List, [], ◌∷◌, Result, Ok, Err, refl, ◌≢◌, ◌+◌, ◌*◌, ◌-◌, ◌<◌, ◌≤◌, length, get_or, take, drop, arith, ◌∙◌}
use Rattle.std.proofs.lemmas.List.{take_rest}
use Rattle.std.proofs.lemmas.List.Elements.{All-cons, All-nil}
use Rattle.tydi_base.specs.Reading.{◌>>=◌}
use Rattle.tydi_base.specs.Pieces.{Lacks, words_of}
use Rattle.tydi_base.specs.WordsLeft.{words_after}
use Rattle.tydi_base.proofs.PieceLaws.{pieces_of-append}
use Rattle.physical_stream.specs.Params.{Parameters}
use Rattle.physical_stream.specs.Cycles.{Cycle}
use Rattle.cycle_trace.specs.RowText.{bit_of, cycle_of_words, row_of, shown_of}
use Rattle.cycle_trace.specs.RowStart.{row_start}

-- the cycle after the bits of a row
abbrev pub cycle_after : Parameters → Bool × Bool × List (List ℕ) → Result Cycle (Unit {0})
cycle_after p start = shown_of p start.0 start.2 >>= λ shown. Ok (record { ready = start.1; shown = shown })

after_bits : (p : Parameters) (payload : List (List ℕ)) (valid ready : Result Bool (Unit {0}))
    → (valid >>= λ v. ready >>= λ r. shown_of p v payload >>= λ shown. Ok (record { ready = r; shown = shown })) ≡ ((valid >>= λ v. ready >>= λ r. Ok (v, r, payload)) >>= cycle_after p)
after_bits p payload (Err e) ready = refl
after_bits p payload (Ok v) (Err e) = refl
after_bits p payload (Ok v) (Ok r) = refl

at_words : (p : Parameters) (words : List (List ℕ)) → cycle_of_words p words ≡ (row_start words >>= cycle_after p)
unfolding cycle_of_words row_start
at_words p [] = refl
at_words p (valid ∷ []) = refl
at_words p (valid ∷ ready ∷ payload) = after_bits p payload (bit_of valid) (bit_of ready)

pub row_of_start : (p : Parameters) (line : List ℕ) → row_of p line ≡ (row_start (words_of line) >>= cycle_after p)
unfolding row_of
row_of_start p line = at_words p (words_of line)

-- the byte of a bit
abbrev pub byte_of_bit : Bool → ℕ
byte_of_bit bit = if bit then 49 else 48

bit_of-byte : (bit : Bool) → bit_of (byte_of_bit bit ∷ []) ≡ Ok bit
unfolding bit_of
bit_of-byte true = refl
bit_of-byte false = refl

byte_of_bit-lacks : (bit : Bool) → Lacks 32 (byte_of_bit bit ∷ [])
byte_of_bit-lacks true = All-cons (λ b. b ≢ 32) 49 [] (omega arith) (All-nil (λ b. b ≢ 32))
byte_of_bit-lacks false = All-cons (λ b. b ≢ 32) 48 [] (omega arith) (All-nil (λ b. b ≢ 32))

bits_are : (valid ready : Bool) (rest : List ℕ) → row_start (words_of (byte_of_bit valid ∷ 32 ∷ byte_of_bit ready ∷ 32 ∷ rest)) ≡ Ok (valid, ready, words_of rest)
unfolding row_start
bits_are valid ready rest =
    let inner : words_of (byte_of_bit ready ∷ 32 ∷ rest) ≡ (byte_of_bit ready ∷ []) ∷ words_of rest = pieces_of-append 32 (byte_of_bit ready ∷ []) rest (byte_of_bit-lacks ready) in
    let outer : words_of (byte_of_bit valid ∷ 32 ∷ byte_of_bit ready ∷ 32 ∷ rest) ≡ (byte_of_bit valid ∷ []) ∷ words_of (byte_of_bit ready ∷ 32 ∷ rest) =
    pieces_of-append 32 (byte_of_bit valid ∷ []) (byte_of_bit ready ∷ 32 ∷ rest) (byte_of_bit-lacks valid) in
    rw (outer, inner, bit_of-byte valid, bit_of-byte ready) refl

-- two bits with a space after each
pub row_start-bits : (line : List ℕ) (valid ready : Bool) → 4 ≤ length line → get_or line 0 0 ≡ byte_of_bit valid → get_or line 1 0 ≡ 32 → get_or line 2 0 ≡ byte_of_bit ready → get_or line 3 0 ≡ 32
    → row_start (words_of line) ≡ Ok (valid, ready, words_after (take (length line - 3) (drop 3 line)))
row_start-bits [] valid ready long _ _ _ _ = absurd (omega arith)
row_start-bits (a ∷ []) valid ready long _ _ _ _ = absurd (omega arith)
row_start-bits (a ∷ s ∷ []) valid ready long _ _ _ _ = absurd (omega arith)
row_start-bits (a ∷ s ∷ b ∷ []) valid ready long _ _ _ _ = absurd (omega arith)
row_start-bits (a ∷ s ∷ b ∷ t ∷ rest) valid ready long one two three four =
    let whole : take (length (a ∷ s ∷ b ∷ t ∷ rest) - 3) (t ∷ rest) ≡ t ∷ rest = take_rest (a ∷ s ∷ b ∷ t ∷ rest) 3 in
    let first : a ≡ byte_of_bit valid = one in
    let space : s ≡ 32 = two in
    let second : b ≡ byte_of_bit ready = three in
    let last : t ≡ 32 = four in
    rw (whole, first, space, second, last) (bits_are valid ready rest)

-- the same, where the four bytes are seen as one number
module _ (line : List ℕ) (valid ready : Bool) (one other : ℕ) (first : one ≡ byte_of_bit valid) (second : other ≡ byte_of_bit ready) (lf : one < 256) (ls : other < 256) where
  pub row_start-front : 4 ≤ length line → get_or line 0 0 < 256 → get_or line 1 0 < 256 → get_or line 2 0 < 256
      → get_or line 0 0 + 256 * get_or line 1 0 + 65536 * get_or line 2 0 + 16777216 * get_or line 3 0 ≡ one + 256 * 32 + 65536 * other + 16777216 * 32
      → row_start (words_of line) ≡ Ok (valid, ready, words_after (take (length line - 3) (drop 3 line)))
  row_start-front long la lb lc same =
      row_start-bits line valid ready long (let is : get_or line 0 0 ≡ one = omega arith in is ∙ first) (omega arith) (let is : get_or line 2 0 ≡ other = omega arith in is ∙ second) (omega arith)
