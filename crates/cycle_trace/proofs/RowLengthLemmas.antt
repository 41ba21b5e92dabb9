-- How long the text of a row is.
use Rattle.std.proofs.Common.{◌≡◌, ℕ, suc, ◌+◌, ◌*◌, ◌/◌, ◌^◌, ◌<◌, ◌≤◌, Bool, true, false, if◌then◌else◌, List, [], ◌∷◌, ◌++◌, length, Option, Some, None, Result, Ok, Err, is_some, append_assoc, append-nil, length-append, refl, sym, ap, ◌∙◌, arith}
use Rattle.std.specs.Prelude.{codes}
use Rattle.std.specs.Fmt.{decimal}
use Rattle.std.specs.List.{join_with_byte}
use Rattle.std.proofs.Math.Pow.{pow_mono}
use Rattle.std.proofs.lemmas.Fmt.{length-decimal-le}
use Rattle.tydi_base.specs.Bits.{bits_of}
use Rattle.tydi_base.specs.Hex.{hex_of}
use Rattle.tydi_base.proofs.BitsLemmas.{length-bits_of}
use Rattle.physical_stream.specs.Params.{Parameters}
use Rattle.physical_stream.specs.Signals.{has_content, has_last, has_stai, has_endi, has_strb, has_user, Shows}
use Rattle.tydi_base.specs.Width.{index_width}
use Rattle.physical_stream.specs.Cycles.{Cycle}
use Rattle.physical_stream.specs.declared.transfer.Transfer.{Transfer}
use Rattle.tydi_base.proofs.HexLemmas.{length-hex_of}
use Rattle.cycle_trace.specs.RowLayout.{row_room}
use Rattle.cycle_trace.specs.RowText.{row_at, row_fault, row_of}
use Rattle.cycle_trace.specs.Spelling.{bit_text, or_dash, payload_words, row_line, row_text, signal_words, transfer_words, words_of_signals}
use Rattle.cycle_trace.specs.Writing.{spaced}
use Rattle.cycle_trace.proofs.RowSpelling.{row_at-some}
use Rattle.cycle_trace.proofs.SignalSpelling.{index_width-most}
use Rattle.cycle_trace.proofs.WritingLemmas.{signals_together}

-- ---- words

-- words with one space between each two: the first, and a space before each other
pub joined_spaced : (word : List ℕ) (words : List (List ℕ)) → join_with_byte 32 (word ∷ words) ≡ word ++ spaced words
joined_spaced word [] = sym (append-nil word)
joined_spaced word (next ∷ words) = ap (λ (rest : List ℕ). word ++ 32 ∷ rest) (joined_spaced next words)

-- the line of a row that shows a transfer, part after part
pub row_written : (p : Parameters) (ready : Bool) (t : Transfer)
    → row_text p (record { ready = ready; shown = Some t }) ≡ codes "1 " ++ (bit_text ready ++ (spaced (or_dash (words_of_signals p t (bits_of p.lanes t.strb))) ++ codes "\n"))
row_written p ready t =
    let words = or_dash (words_of_signals p t (bits_of p.lanes t.strb)) in
    ap (λ (text : List ℕ). text ++ 10 ∷ []) (joined_spaced (codes "1") (bit_text ready ∷ words))
    ∙ ap (λ (text : List ℕ). codes "1 " ++ text) (append_assoc (bit_text ready) (spaced words) (10 ∷ []))

pub length-signal : (present : Bool) (key : ℕ) (value : List ℕ) → length (spaced (signal_words present key value)) ≡ (if present then 3 + length value else 0)
length-signal true key value =
    let three : suc (suc (suc (length value))) ≡ 3 + length value = omega arith in
    ap (λ (text : List ℕ). length (32 ∷ key ∷ 61 ∷ text)) (append-nil value) ∙ three
length-signal false key value = refl

pub length-bit_text : (bit : Bool) → length (bit_text bit) ≡ 1
length-bit_text true = refl
length-bit_text false = refl

-- the bits, and the payload after them
pub length-row_line : (p : Parameters) (cycle : Cycle) → length (row_line p cycle) ≡ 3 + length (spaced (payload_words p cycle.shown))
length-row_line p cycle =
    let valid = bit_text (is_some cycle.shown) in
    let ready = bit_text cycle.ready in
    let words = payload_words p cycle.shown in
    let parts : length (row_line p cycle) ≡ length valid + suc (length ready + length (spaced words)) =
    ap length (joined_spaced valid (ready ∷ words)) ∙ length-append valid (32 ∷ (ready ++ spaced words)) ∙ ap (λ (n : ℕ). length valid + suc n) (length-append ready (spaced words)) in
    omega (arith, parts, length-bit_text (is_some cycle.shown), length-bit_text cycle.ready)

-- ---- no row is longer than there is room for

at_most : (present : Bool) (key n : ℕ) (value : List ℕ) → length value ≤ n → length (spaced (signal_words present key value)) ≤ 3 + n
at_most true key n value le = omega (arith, length-signal true key value)
at_most false key n value le = omega (arith, length-signal false key value)

or_dash-most : (words : List (List ℕ)) → length (spaced (or_dash words)) ≤ 2 + length (spaced words)
or_dash-most [] = omega arith
or_dash-most (word ∷ words) = omega arith

few_digits : (width n : ℕ) → n < 2 ^ width → width ≤ 7 → length (decimal n) ≤ 3
few_digits width n below few = let grows : 2 ^ width ≤ 2 ^ 7 = pow_mono few in length-decimal-le 3 n (omega arith) (omega arith) (omega arith)

row_at-err : (number : ℕ) (p : Parameters) (line : List ℕ) (e : Unit {0}) → row_of p line ≡ Err e → row_at number p line ≡ Err (row_fault number line)
unfolding row_at
row_at-err number p line e is = rw is refl

row_at-ok : (number : ℕ) (p : Parameters) (line : List ℕ) (cycle : Cycle) → row_of p line ≡ Ok cycle → row_at number p line ≡ Ok cycle
unfolding row_at
row_at-ok number p line cycle is = rw is refl

module _ (p : Parameters) (few : p.lanes ≤ 128) where
  transfer_words-most : (t : Transfer) → Shows p t
      → length (spaced (transfer_words p t)) ≤ 24 + (p.lanes * p.element + 3) / 4 + (p.lanes * p.dims + 3) / 4 + (p.lanes + 3) / 4 + (p.user + 3) / 4
  transfer_words-most t s =
      let narrow = index_width-most p.lanes few in
      let strb = bits_of p.lanes t.strb in
      let content_words = signal_words (has_content p) 100 (hex_of t.content) in
      let last_words = signal_words (has_last p) 108 (hex_of t.last) in
      let stai_words = signal_words (has_stai p) 115 (decimal t.stai) in
      let endi_words = signal_words (has_endi p) 101 (decimal t.endi) in
      let strb_words = signal_words (has_strb p) 98 (hex_of strb) in
      let user_words = signal_words (has_user p) 117 (hex_of t.user) in
      let content = at_most (has_content p) 100 ((p.lanes * p.element + 3) / 4) (hex_of t.content) (omega (arith, length-hex_of t.content, ap (λ (n : ℕ). (n + 3) / 4) s.fits.content)) in
      let last = at_most (has_last p) 108 ((p.lanes * p.dims + 3) / 4) (hex_of t.last) (omega (arith, length-hex_of t.last, ap (λ (n : ℕ). (n + 3) / 4) s.fits.last)) in
      let stai = at_most (has_stai p) 115 3 (decimal t.stai) (few_digits (index_width p.lanes) t.stai s.fits.stai narrow) in
      let endi = at_most (has_endi p) 101 3 (decimal t.endi) (few_digits (index_width p.lanes) t.endi s.fits.endi narrow) in
      let bits = at_most (has_strb p) 98 ((p.lanes + 3) / 4) (hex_of strb) (omega (arith, length-hex_of strb, ap (λ (n : ℕ). (n + 3) / 4) (length-bits_of p.lanes t.strb))) in
      let user = at_most (has_user p) 117 ((p.user + 3) / 4) (hex_of t.user) (omega (arith, length-hex_of t.user, ap (λ (n : ℕ). (n + 3) / 4) s.fits.user)) in
      let together = ap length (signals_together content_words last_words stai_words endi_words strb_words user_words) in
      let sum = simp length-append at together in
      omega (arith, sum, content, last, stai, endi, bits, user)

  payload_words-most : (shown : Option Transfer) → ((t : Transfer) → shown ≡ Some t → Shows p t) → length (spaced (payload_words p shown)) + 3 ≤ row_room p
  payload_words-most None each = omega arith
  payload_words-most (Some t) each = omega (arith, or_dash-most (transfer_words p t), transfer_words-most t (each t refl))

  row_line-most : (cycle : Cycle) → ((t : Transfer) → cycle.shown ≡ Some t → Shows p t) → length (row_line p cycle) ≤ row_room p
  row_line-most cycle each = omega (arith, length-row_line p cycle, payload_words-most cycle.shown each)

  -- a longer line is no row of the stream
  pub row_at-long : (number : ℕ) (line : List ℕ) → row_room p < length line → row_at number p line ≡ Err (row_fault number line)
  row_at-long number line long = by_read (row_of p line) refl
    where
      by_read : (read : Result Cycle (Unit {0})) → row_of p line ≡ read → row_at number p line ≡ Err (row_fault number line)
      by_read (Err e) is = row_at-err number p line e is
      by_read (Ok cycle) is =
          let read = row_at-some number p line cycle (row_at-ok number p line cycle is) in
          absurd (omega (arith, ap length read.spelled, row_line-most cycle read.shows))
