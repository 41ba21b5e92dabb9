-- The trace that is sampled at the rising edges of a clock (this project's own, after the sampling of registers: the values are those just
-- before the edge). An edge is given by the parts before its block.
use Rattle.std.specs.Prelude.{ℕ, suc, Bool, false, not, ◌&&◌, ◌||◌, if◌then◌else◌, List, [], ◌∷◌, length, map, get_or, is_some, Option, Some, None}
use Rattle.std.specs.List.{flat_map, list_all}
use Rattle.std.specs.Option.{option_or}
use Rattle.cycle_trace.specs.Trace.{TraceText}
use Rattle.physical_stream.specs.Cycles.{Cycle}
use Rattle.physical_stream.specs.Params.{Parameters}
use Rattle.physical_stream.specs.declared.head.Head.{Head}
use Rattle.signal_layout.specs.Layout.{is_present}
use Rattle.signal_layout.specs.declared.signal.Signal.{Signal}
use Rattle.signal_layout.specs.declared.signal.Signal.TheVariants as signals
use Rattle.vhdl_meaning.specs.Meaning.{cycle_with}
use Rattle.vcd_read.specs.History.{Part, word_at}
use Rattle.vcd_read.specs.Wanted.{Codes}
use Rattle.vcd_read.specs.declared.place.Place.{Place}

-- the words of the signals of a stream at an edge: none where a state is no bit
abbrev pub Sample : Type 0
Sample = Signal → Option (List Bool)

unfoldable pub word_of_code : List Part → Option (List ℕ) → Option (List Bool)
word_of_code before (Some code) = word_at code before
word_of_code before None = None

abbrev pub sample_at : Codes → Head → List Part → Sample
sample_at codes head before signal = word_of_code before (codes head signal)

-- ---- which samples make a row

abbrev pub payload_signals : List Signal
payload_signals = signals.Content ∷ signals.Last ∷ signals.Stai ∷ signals.Endi ∷ signals.Strb ∷ signals.User ∷ []

-- the bits of a word, and none where a state is no bit
unfoldable pub known_bits : Option (List Bool) → List Bool
known_bits (Some bits) = bits
known_bits None = []

-- a bit that is 1
abbrev pub is_high : Option (List Bool) → Bool
is_high word = get_or (known_bits word) 0 false

-- a signal is of bits, or the stream lacks it
abbrev pub is_told : Parameters → Sample → Signal → Bool
is_told p sample signal = not (is_present p signal) || is_some (sample signal)

-- valid and ready are bits, and the payload is of bits where it is shown
abbrev pub makes_row : Parameters → Sample → Bool
makes_row p sample =
    is_some (sample signals.Valid) && (is_some (sample signals.Ready) && (not (is_high (sample signals.Valid)) || list_all (is_told p sample)
    payload_signals))

-- the row of a sample; a signal that the stream lacks stands at its default
abbrev pub row_of : Parameters → Sample → Cycle
row_of p sample = cycle_with p (is_high (sample signals.Ready)) (λ signal. known_bits (sample signal))

-- ---- the first row that is not of bits

-- at one edge, of the streams from this number on
abbrev pub stream_not_bit : Codes → (cycle stream : ℕ) → List Head → List Part → Option Place
stream_not_bit codes cycle stream [] before = None
stream_not_bit codes cycle stream (head ∷ heads) before =
    if makes_row head.params (sample_at codes head before) then stream_not_bit codes cycle (suc stream) heads before
    else Some (record { cycle = cycle; stream = stream })

-- at these edges, the first of which has this number
abbrev pub not_bit : Codes → List Head → (cycle : ℕ) → List (List Part) → Option Place
not_bit codes heads cycle [] = None
not_bit codes heads cycle (before ∷ edges) = option_or (stream_not_bit codes cycle 0 heads before) (not_bit codes heads (suc cycle) edges)

-- ---- the trace

-- the rows at an edge, by stream
abbrev pub rows_at : Codes → List Head → List Part → List Cycle
rows_at codes heads before = map (λ head. row_of head.params (sample_at codes head before)) heads

-- a row for each edge and each stream
abbrev pub sampled : Codes → List Head → List (List Part) → TraceText
sampled codes heads edges = record { cycles = length edges; heads = heads; rows = flat_map (rows_at codes heads) edges }
