-- Traces: the heads of the streams, and a row for each cycle and stream (this project's own).
use Rattle.std.specs.Prelude.{◌≡◌, ℕ, zero, suc, ◌+◌, ◌*◌, ◌≤◌, Bool, true, not, ◌&&◌, nat_le, List, [], ◌∷◌, ◌++◌, length, map, slice_get, Some}
use Rattle.std.specs.List.{list_any}
use Rattle.std.specs.Option.{option_to_list}
use Rattle.std.specs.Str.{bytes_eq}
use Rattle.tydi_base.specs.Path.{path_text}
use Rattle.physical_stream.specs.Params.{Parameters}
use Rattle.physical_stream.specs.Signals.{Shows}
use Rattle.physical_stream.specs.Items.{parts_below}
use Rattle.physical_stream.specs.Cycles.{Cycle, StreamTrace}
use Rattle.physical_stream.specs.declared.transfer.Transfer.{Transfer}
use Rattle.physical_stream.specs.declared.head.Head.{Head}
use Rattle.physical_stream.specs.declared.head.Header.{Header}
use Rattle.cycle_trace.specs.declared.trace.OwnRow.{OwnRow}

-- a trace as plain data: its header, and its rows, by cycle and in each cycle by stream
pub record TraceText : Type 0 where
  pub cycles : ℕ
  pub heads : List Head
  pub rows : List Cycle

-- the cycle that a row says
abbrev pub cycle_of : OwnRow → Cycle
cycle_of row = record { ready = row.ready; shown = row.shown }

abbrev pub cycles_of : List OwnRow → List Cycle
cycles_of rows = map cycle_of rows

-- the plain data of a header and its rows, apart from where they lie in memory
abbrev pub text_of : Header → List OwnRow → TraceText
text_of header rows = record { cycles = header.cycles; heads = header.heads; rows = cycles_of rows }

-- no two of these texts are the same
abbrev pub all_distinct : List (List ℕ) → Bool
all_distinct [] = true
all_distinct (text ∷ texts) = not (list_any (bytes_eq text) texts) && all_distinct texts

-- at most so many streams as a trace may have, no two of one path
abbrev pub are_heads : List Head → Bool
are_heads heads = nat_le (length heads) 65536 && all_distinct (map (λ head. path_text head.path) heads)

-- the most cycles of a trace
abbrev pub most_cycles : ℕ
most_cycles = 1000000

abbrev pub params_of_heads : List Head → List Parameters
params_of_heads heads = map (λ head. head.params) heads

-- the parameters of the stream of each row: those of all streams, cycle after cycle
abbrev pub owed : List Parameters → ℕ → List Parameters
owed streams zero = []
owed streams (suc cycles) = streams ++ owed streams cycles

-- there is one row for each of these, and what it shows is a transfer that its stream can show
pub record AreShown (streams : List Parameters) (rows : List Cycle) : Type 0 where
  pub many : length rows ≡ length streams
  pub each : (i : ℕ) (p : Parameters) (row : Cycle) (t : Transfer) → slice_get streams i ≡ Some p → slice_get rows i ≡ Some row → row.shown ≡ Some t → Shows p t

-- a trace: of at most 1,000,000 cycles, of streams that may stand together, with a row for each cycle and stream
pub record IsTrace (t : TraceText) : Type 0 where
  pub few_cycles : t.cycles ≤ most_cycles
  pub streams : are_heads t.heads ≡ true
  pub shown : AreShown (owed (params_of_heads t.heads) t.cycles) t.rows

-- the row of a stream in a cycle, as a list of one
abbrev pub row_in : TraceText → (stream cycle : ℕ) → List Cycle
row_in t stream cycle = option_to_list (slice_get t.rows (cycle * length t.heads + stream))

-- the cycles of the stream of this number
abbrev pub cycles_of_stream : TraceText → ℕ → List Cycle
cycles_of_stream t stream = parts_below (row_in t stream) t.cycles

-- the streams from this number on, of which these are the heads
abbrev pub streams_from : TraceText → ℕ → List Head → List StreamTrace
streams_from t stream [] = []
streams_from t stream (head ∷ heads) = record { params = head.params; cycles = cycles_of_stream t stream } ∷ streams_from t (suc stream) heads

-- the streams of a trace, in the order of its header
abbrev pub streams_of : TraceText → List StreamTrace
streams_of t = streams_from t 0 t.heads
