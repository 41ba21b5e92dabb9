-- The rows of a trace text, version 1 (this project's own): the valid bit, the ready bit and the payload, with one space
-- between each two. The payload is `-` where valid is 0 or the stream has no payload signal; else it is the signals that
-- the stream has, in their order, each `key=value`: `d` data, `l` last, `s` stai, `e` endi, `b` strb, `u` user.
use Rattle.std.specs.Prelude.{ℕ, ◌-◌, ◌*◌, ◌^◌, Bool, true, false, ◌==◌, ◌&&◌, ◌||◌, nat_le, nat_lt, if◌then◌else◌, List, [], ◌∷◌, length, Option, Some, None, Result, Ok, Err, codes}
use Rattle.std.specs.List.{list_all}
use Rattle.std.specs.Option.{is_some}
use Rattle.std.specs.Str.{bytes_eq}
use Rattle.tydi_base.specs.Reading.{◌>>=◌, or_fault}
use Rattle.tydi_base.specs.Decimal.{decimal_of, is_decimal}
use Rattle.tydi_base.specs.Pieces.{words_of}
use Rattle.tydi_base.specs.Bits.{zero_bits, number_of_bits}
use Rattle.tydi_base.specs.Hex.{word_at, digit_of}
use Rattle.tydi_base.specs.Width.{index_width}
use Rattle.physical_stream.specs.Params.{Parameters}
use Rattle.physical_stream.specs.Signals.{has_content, has_last, has_stai, has_endi, has_strb, has_user}
use Rattle.physical_stream.specs.Cycles.{Cycle}
use Rattle.physical_stream.specs.declared.transfer.Transfer.{Transfer}
use Rattle.cycle_trace.specs.declared.fault.TraceFault.{TraceFault}
use Rattle.cycle_trace.specs.declared.fault.TraceFault.TheVariants.{BadRow, WrongSignals}

-- ---- a row of a stream

-- the value of the first word, which is this key, `=` and the value; and the words after it
unfoldable pub value_of : ℕ → List (List ℕ) → Result (List ℕ × List (List ℕ)) (Unit {0})
value_of key ((k ∷ sign ∷ value) ∷ words) = if (k == key) && (sign == 61) then Ok (value, words) else Err tt
value_of key words = Err tt

-- a word of bits: zeros where the signal is absent, else exactly its hexadecimal digits
unfoldable pub word_field : Bool → ℕ → ℕ → List (List ℕ) → Result (List Bool × List (List ℕ)) (Unit {0})
word_field false key width words = Ok (zero_bits width, words)
word_field true key width words = do
  field ← value_of key words
  bits ← or_fault tt (word_at width field.0)
  Ok (bits, field.1)

-- a number of a lane: a decimal of at most five digits that fits its width
unfoldable pub index_of : ℕ → List ℕ → Result ℕ (Unit {0})
index_of width digits =
    if nat_le (length digits) 5 then (or_fault tt (decimal_of digits) >>= λ n. if nat_lt n (2 ^ width) then Ok n else Err tt) else Err tt

-- the number of a lane: its default where the signal is absent
unfoldable pub index_field : Bool → ℕ → ℕ → ℕ → List (List ℕ) → Result (ℕ × List (List ℕ)) (Unit {0})
index_field false key width default words = Ok (default, words)
index_field true key width default words = do
  field ← value_of key words
  n ← index_of width field.0
  Ok (n, field.1)

-- the strobe bits: all ones where the signal is absent
unfoldable pub strobe_field : Bool → ℕ → List (List ℕ) → Result (ℕ × List (List ℕ)) (Unit {0})
strobe_field false lanes words = Ok (2 ^ lanes - 1, words)
strobe_field true lanes words = word_field true 98 lanes words >>= λ field. Ok (number_of_bits field.0, field.1)

-- no word is left
unfoldable pub no_more : List (List ℕ) → Result (Unit {0}) (Unit {0})
no_more [] = Ok tt
no_more (word ∷ words) = Err tt

-- the transfer that the words of a payload spell
unfoldable pub transfer_of : Parameters → List (List ℕ) → Result Transfer (Unit {0})
transfer_of p words = do
  content ← word_field (has_content p) 100 (p.lanes * p.element) words
  last ← word_field (has_last p) 108 (p.lanes * p.dims) content.1
  stai ← index_field (has_stai p) 115 (index_width p.lanes) 0 last.1
  endi ← index_field (has_endi p) 101 (index_width p.lanes) (p.lanes - 1) stai.1
  strb ← strobe_field (has_strb p) p.lanes endi.1
  user ← word_field (has_user p) 117 p.user strb.1
  nothing ← no_more user.1
  Ok (record { content = content.0; last = last.0; stai = stai.0; endi = endi.0; strb = strb.0; user = user.0 })

-- the stream has a payload signal
abbrev pub has_payload : Parameters → Bool
has_payload p = has_content p || has_last p || has_stai p || has_endi p || has_strb p || has_user p

-- the payload is the word `-` alone
abbrev pub is_dash : List (List ℕ) → Bool
is_dash (word ∷ []) = bytes_eq word (codes "-")
is_dash words = false

-- the words of the payload of a cycle with valid: none where `-` stands for them
unfoldable pub payload_of : Parameters → List (List ℕ) → Result (List (List ℕ)) (Unit {0})
payload_of p words = if has_payload p then Ok words else (if is_dash words then Ok [] else Err tt)

-- the transfer that a cycle shows, or none
unfoldable pub shown_of : Parameters → Bool → List (List ℕ) → Result (Option Transfer) (Unit {0})
shown_of p false words = if is_dash words then Ok None else Err tt
shown_of p true words = do
  payload ← payload_of p words
  t ← transfer_of p payload
  Ok (Some t)

-- the bit that a word is
unfoldable pub bit_of : List ℕ → Result Bool (Unit {0})
bit_of word = if bytes_eq word (codes "1") then Ok true else (if bytes_eq word (codes "0") then Ok false else Err tt)

-- the cycle that the words of a row spell
unfoldable pub cycle_of_words : Parameters → List (List ℕ) → Result Cycle (Unit {0})
cycle_of_words p (valid ∷ ready ∷ payload) = do
  v ← bit_of valid
  r ← bit_of ready
  shown ← shown_of p v payload
  Ok (record { ready = r; shown = shown })
cycle_of_words p words = Err tt

-- the cycle that a row spells
unfoldable pub row_of : Parameters → List ℕ → Result Cycle (Unit {0})
row_of p line = cycle_of_words p (words_of line)

-- ---- the form of a row of any stream

-- lower-case hexadecimal digits, one at least
abbrev pub is_hex : List ℕ → Bool
is_hex digits = nat_lt 0 (length digits) && list_all (λ digit. is_some (digit_of digit)) digits

-- the digits of a value of this key: those of a decimal, at most five, for `s` and `e`; else hexadecimal ones
abbrev pub is_value : ℕ → List ℕ → Bool
is_value key digits = if (key == 115) || (key == 101) then is_decimal digits && nat_le (length digits) 5 else is_hex digits

-- the word is this key, `=` and a value of the key
abbrev pub is_signal : ℕ → List ℕ → Bool
is_signal key (k ∷ sign ∷ value) = (k == key) && (sign == 61) && is_value key value
is_signal key word = false

-- the words are signals of these keys, in this order, each key at most once
abbrev pub are_signals : List ℕ → List (List ℕ) → Bool
are_signals keys [] = true
are_signals [] (word ∷ words) = false
are_signals (key ∷ keys) (word ∷ words) = if is_signal key word then are_signals keys words else are_signals keys (word ∷ words)

abbrev pub is_bit : List ℕ → Bool
is_bit word = bytes_eq word (codes "1") || bytes_eq word (codes "0")

-- a payload: `-`, or signals, one at least
abbrev pub is_payload : List (List ℕ) → Bool
is_payload words = is_dash words || (nat_lt 0 (length words) && are_signals (codes "dlsebu") words)

-- the words have the form of a row
abbrev pub has_form : List (List ℕ) → Bool
has_form (valid ∷ ready ∷ payload) = is_bit valid && is_bit ready && is_payload payload
has_form words = false

-- ---- a row in its place

-- why a line, of this number, is no row of its stream: it has not the form of a row, or it shows other signals or other widths
abbrev pub row_fault : ℕ → List ℕ → TraceFault
row_fault number line = if has_form (words_of line) then WrongSignals number else BadRow number

-- the cycle that the line of this number spells, or why it spells none
unfoldable pub row_at : ℕ → Parameters → List ℕ → Result Cycle TraceFault
row_at number p line = at_line (row_of p line)
  where
    at_line : Result Cycle (Unit {0}) → Result Cycle TraceFault
    at_line (Ok cycle) = Ok cycle
    at_line (Err e) = Err (row_fault number line)
