-- How long the texts of a trace are.
use Rattle.std.proofs.Common.{◌≡◌, ℕ, ◌+◌, ◌<◌, Bool, true, false, if◌then◌else◌, is_some, List, [], ◌∷◌, ◌++◌, length, length-append, refl, ap, ◌∙◌, arith}
use Rattle.std.specs.Fmt.{decimal}
use Rattle.std.specs.List.{flat_map}
use Rattle.tydi_base.specs.Bits.{bits_of}
use Rattle.tydi_base.specs.Hex.{hex_of}
use Rattle.tydi_base.specs.Path.{path_text}
use Rattle.physical_stream.specs.Params.{Parameters}
use Rattle.physical_stream.specs.Cycles.{Cycle}
use Rattle.physical_stream.specs.declared.head.Head.{Head}
use Rattle.physical_stream.specs.declared.transfer.Transfer.{Transfer}
use Rattle.signal_layout.specs.declared.layout.Signals.{Signals}
use Rattle.physical_stream.specs.StreamLine.{direction_text, head_text}
use Rattle.cycle_trace.specs.Spelling.{header_text, or_dash, payload_words, row_line, row_text, signal_words, transfer_words}
use Rattle.tydi_base.specs.Level.{level_text}
use Rattle.cycle_trace.specs.declared.version.Version.{Version}
use Rattle.cycle_trace.specs.declared.version.Version.TheVariants.{One, Two}
use Rattle.cycle_trace.specs.Version.{title_text}
use Rattle.cycle_trace.specs.Writing.{AreSignalsOf, spaced}
use Rattle.cycle_trace.proofs.RowLengthLemmas.{length-row_line, length-signal}
use Rattle.cycle_trace.proofs.WritingLemmas.{signals_written}

-- ---- heads and headers

length-direction : (reversed : Bool) → length (direction_text reversed) ≡ 7
length-direction true = refl
length-direction false = refl

pub length-head_text : (head : Head)
    → length (head_text head) ≡ length (path_text head.path) + (51 + length (decimal head.params.lanes) + length (decimal head.params.dims) + length (level_text head.params.level) + length (decimal head.params.element) + length (decimal head.params.user))
length-head_text head = simp length-append (omega (arith, length-direction head.reversed))

length-title : (version : Version) → length (title_text version) ≡ 12
length-title One = refl
length-title Two = refl

pub length-header_text : (version : Version) (cycles : ℕ) (heads : List Head) → length (header_text version cycles heads) ≡ 21 + length (decimal cycles) + length (flat_map head_text heads)
length-header_text version cycles heads = simp length-append (omega (arith, length-title version))

-- ---- rows

pub length-row_text : (p : Parameters) (cycle : Cycle) → length (row_text p cycle) ≡ 4 + length (spaced (payload_words p cycle.shown))
length-row_text p cycle = length-append (row_line p cycle) (10 ∷ []) ∙ (omega (arith, length-row_line p cycle))

-- no word, or some
pub length-or_dash : (words : List (List ℕ)) → (length (spaced words) ≡ 0 → length (spaced (or_dash words)) ≡ 2) × (0 < length (spaced words) → length (spaced (or_dash words)) ≡ length (spaced words))
length-or_dash [] = (λ _. refl, λ some. absurd (omega arith))
length-or_dash (word ∷ words) = (λ none. absurd (omega arith), λ some. refl)

-- a signal of so many digits
abbrev pub signal_bytes : Bool → ℕ → ℕ
signal_bytes present digits = if present then 3 + digits else 0

pub length-signals : (layout : Signals) (p : Parameters) (t : Transfer) → AreSignalsOf layout p
    → length (spaced (transfer_words p t))
    ≡ signal_bytes (is_some layout.content) (length (hex_of t.content)) + signal_bytes (is_some layout.last) (length (hex_of t.last)) + signal_bytes (is_some layout.stai) (length (decimal t.stai))
    + signal_bytes (is_some layout.endi) (length (decimal t.endi)) + signal_bytes (is_some layout.strb) (length (hex_of (bits_of p.lanes t.strb))) + signal_bytes (is_some layout.user) (length (hex_of t.user))
length-signals layout p t are =
    let content = signal_words (is_some layout.content) 100 (hex_of t.content) in
    let last = signal_words (is_some layout.last) 108 (hex_of t.last) in
    let stai = signal_words (is_some layout.stai) 115 (decimal t.stai) in
    let endi = signal_words (is_some layout.endi) 101 (decimal t.endi) in
    let strb = signal_words (is_some layout.strb) 98 (hex_of (bits_of p.lanes t.strb)) in
    let user = signal_words (is_some layout.user) 117 (hex_of t.user) in
    let whole : length (spaced (transfer_words p t)) ≡ length (spaced content ++ (spaced last ++ (spaced stai ++ (spaced endi ++ (spaced strb ++ spaced user))))) = ap length (signals_written layout p t (bits_of p.lanes t.strb) are) in
    let sum : length (spaced content ++ (spaced last ++ (spaced stai ++ (spaced endi ++ (spaced strb ++ spaced user))))) ≡ length (spaced content) + (length (spaced last) + (length (spaced stai) + (length (spaced endi) + (length (spaced strb) + length (spaced user))))) =
    simp length-append in
    omega (
      arith,
      whole,
      sum,
      length-signal (is_some layout.content) 100 (hex_of t.content),
      length-signal (is_some layout.last) 108 (hex_of t.last),
      length-signal (is_some layout.stai) 115 (decimal t.stai),
      length-signal (is_some layout.endi) 101 (decimal t.endi),
      length-signal (is_some layout.strb) 98 (hex_of (bits_of p.lanes t.strb)),
      length-signal (is_some layout.user) 117 (hex_of t.user),
    )
