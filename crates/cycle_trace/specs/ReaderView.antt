-- A reader of traces stands for the bytes that it was fed (this project's own).
use Rattle.std.specs.Prelude.{◌≡◌, ◌⊎◌, ℕ, ◌*◌, ◌<◌, ◌≤◌, Bool, true, false, is_some, List, [], ◌∷◌, ◌++◌, length, map, slice_get, if◌then◌else◌, Option, Some, None, Result, Ok, Err}
use Rattle.std.specs.Option.{option_map}
use Rattle.tydi_base.specs.Pieces.{Lacks, lines_of}
use Rattle.physical_stream.specs.Cycles.{Cycle}
use Rattle.physical_stream.specs.declared.transfer.Transfer.{Transfer}
use Rattle.cycle_trace.specs.Beginnings.{Fails, GoesOn, IsFault, Opens, OpensWith, begun}
use Rattle.cycle_trace.specs.Faults.{fault_in}
use Rattle.cycle_trace.specs.HeaderText.{HeaderStart, header_start_of, header_start_after}
use Rattle.cycle_trace.specs.LineBegun.{Begins}
use Rattle.cycle_trace.specs.RowLayout.{rows_room}
use Rattle.cycle_trace.specs.Surveying.{IsNextRow}
use Rattle.tydi_base.specs.TextSet.{HasTexts}
use Rattle.cycle_trace.specs.Trace.{TraceText, most_cycles, params_of_heads}
use Rattle.cycle_trace.specs.declared.fault.TraceFault.{TraceFault}
use Rattle.cycle_trace.specs.declared.reader.line_begun.LineBegun.{LineBegun}
use Rattle.cycle_trace.specs.declared.fault.TraceFault.TheVariants.{Memory}
use Rattle.cycle_trace.specs.declared.row.fields.RowBits.{RowBits}
use Rattle.cycle_trace.specs.declared.reader.rows.RowsRead.{RowsRead}
use Rattle.cycle_trace.specs.declared.row.fields.StreamRows.{StreamRows}
use Rattle.cycle_trace.specs.declared.reader.text.HeaderPart.{HeaderPart}
use Rattle.cycle_trace.specs.declared.reader.text.HeaderPart.TheVariants as parts
use Rattle.cycle_trace.specs.declared.reader.text.Stage.{Stage}
use Rattle.cycle_trace.specs.declared.reader.text.Stage.TheVariants as stages
use Rattle.cycle_trace.specs.declared.reader.text.TextRead.{TextRead}
use Rattle.cycle_trace.specs.declared.reader.trace_reader.TraceReader.{TraceReader}

-- rows are read after this header and these rows
pub record ReadsRows (rows : RowsRead) (t : TraceText) : Type 0 where
  pub params : map (λ stream. stream.layout.params) rows.streams.items ≡ params_of_heads t.heads
  pub few_cycles : t.cycles ≤ most_cycles
  pub few_streams : length t.heads ≤ 65536
  pub want : rows.want ≡ t.cycles * length t.heads
  pub got : rows.got ≡ length t.rows
  pub within : length t.rows ≤ t.cycles * length t.heads
  pub turn : ℕ
  pub next : IsNextRow t turn rows.stream
  pub room : rows.room ≡ rows_room t.heads

-- the transfer that is kept of this stream
abbrev pub kept_of : List StreamRows → ℕ → Option Transfer
kept_of streams stream = option_map (λ rows. rows.kept) (slice_get streams stream)

-- the cycle that was read last
abbrev pub cycle_read : RowsRead → RowBits → Cycle
cycle_read rows bits = record { ready = bits.ready; shown = if bits.valid then kept_of rows.streams.items rows.stream else None }

-- no stream line is read
pub record HasNoHeads (text : TextRead) : Type 0 where
  pub heads : text.heads ≡ []
  pub paths : HasTexts text.paths []

-- the header of every text that begins so has the heads that are read first, and goes on with the line that is begun
abbrev pub OpensText : TextRead → (line bytes : List ℕ) → Type 0
OpensText text line bytes = OpensWith bytes line text.version text.cycles text.heads text.paths

-- a trace with the header that is read, and no rows
abbrev pub header_read : TextRead → TraceText
header_read text = begun text.cycles text.heads

-- how the text may go on, where this part of the header comes next
abbrev pub OpensAt : TextRead → HeaderPart → (line bytes : List ℕ) → Type 0
OpensAt text parts.Title line bytes = HasNoHeads text × Opens bytes line header_start_of
OpensAt text parts.Cycles line bytes = HasNoHeads text × Opens bytes line (header_start_after text.version)
OpensAt text parts.Heads line bytes = OpensText text line bytes

-- the facts known where this is the line that is begun
abbrev pub StandsAt : {K : Type 0} → (K → Option TraceText → Type 0) → K → TextRead → Stage → (line bytes : List ℕ) → Type 0
StandsAt stands sink text (stages.Header part) line bytes = stands sink None × Lacks 10 line × OpensAt text part line bytes
StandsAt stands sink text stages.Rows line bytes = (t : TraceText) × (stands sink (Some t) × Lacks 10 line × ReadsRows text.rows t × GoesOn bytes line t)
StandsAt stands sink text (stages.Failed fault) line bytes = Fails bytes fault

abbrev pub Stands : {K : Type 0} → (K → Option TraceText → Type 0) → K → TextRead → (line bytes : List ℕ) → Type 0
Stands stands sink text line bytes = StandsAt stands sink text text.stage line bytes

-- the line that is begun is this, where it is looked at
abbrev pub HoldsLine : Stage → (room : ℕ) → LineBegun → List ℕ → Type 0
HoldsLine (stages.Header part) room begun line = Begins begun line × (begun.long ≡ None)
HoldsLine stages.Rows room begun line = Begins begun line × (begun.room ≡ room)
HoldsLine (stages.Failed fault) room begun line = Unit {0}

-- the same, of a text that is read so far
abbrev pub Holds : TextRead → LineBegun → List ℕ → Type 0
Holds text begun line = HoldsLine text.stage text.rows.room begun line

-- a reader stands for the bytes that it was fed
abbrev pub StandsFor : {K : Type 0} → (K → Option TraceText → Type 0) → TraceReader K → List ℕ → Type 0
StandsFor stands reader bytes = (line : List ℕ) × (Holds reader.text reader.line line × Stands stands reader.sink reader.text line bytes)

-- memory ran out
abbrev pub IsSpent : {K : Type 0} → TraceReader K → Type 0
IsSpent reader = reader.text.stage ≡ stages.Failed Memory

-- a text that has failed stays so
abbrev pub StaysFailed : (old new : Stage) → Type 0
StaysFailed old new = (fault : TraceFault) → old ≡ stages.Failed fault → new ≡ stages.Failed fault

-- the header is read, and memory did not run out
abbrev pub is_past_header : Stage → Bool
is_past_header (stages.Header part) = false
is_past_header stages.Rows = true
is_past_header (stages.Failed fault) = is_some (fault_in fault)

-- a stage after the header, without want of memory, stays one, where the sink is fixed
abbrev pub StaysCalm : Bool → (old new : Stage) → Type 0
StaysCalm fixed old new = fixed ≡ true → is_past_header old ≡ true → is_past_header new ≡ true

-- a text holds a header of the form and after it a whole line, which is no stream line
pub record HoldsHeader (bytes : List ℕ) : Type 0 where
  pub start : HeaderStart
  pub read : header_start_of (lines_of bytes) ≡ Ok start
  pub line : 1 < length start.lines

-- a text ends with a header of at most 1,000,000 cycles that asks for no rows
pub record EndsInHeader (bytes : List ℕ) : Type 0 where
  pub start : HeaderStart
  pub read : header_start_of (lines_of bytes) ≡ Ok start
  pub few : start.cycles ≤ 1000000
  pub ends : start.lines ≡ [] ∷ []
  pub no_rows : start.cycles * length start.heads ≡ 0

-- memory may be wanting: it ran out before, or the text ends with such a header
abbrev pub MayLackMemory : TextRead → List ℕ → Type 0
MayLackMemory text bytes = (text.stage ≡ stages.Failed Memory) ⊎ EndsInHeader bytes

-- after a line: what is known where the next one begins, or the error of every text that begins so
abbrev pub AfterLine : {K : Type 0} → (K → Option TraceText → Type 0) → K → TextRead → List ℕ → Result (Unit {0}) TraceFault → Type 0
AfterLine stands sink text bytes (Ok fine) = Stands stands sink text [] (bytes ++ 10 ∷ [])
AfterLine stands sink text bytes (Err e) = Fails (bytes ++ 10 ∷ []) e

-- after the line of a row
abbrev pub AfterRow : {K : Type 0} → (K → Option TraceText → Type 0) → K → RowsRead → List ℕ → Result (Unit {0}) TraceFault → Type 0
AfterRow stands sink rows bytes (Ok fine) = (t : TraceText) × (stands sink (Some t) × ReadsRows rows t × GoesOn (bytes ++ 10 ∷ []) [] t)
AfterRow stands sink rows bytes (Err e) = Fails (bytes ++ 10 ∷ []) e

-- at the end of a text that is read so: the sink stands for the trace, or this is the fault
abbrev pub Finishes : {K : Type 0} → (K → Option TraceText → Type 0) → Result TraceText TraceFault → Result K TraceFault → Type 0
Finishes stands read (Ok sink) = (t : TraceText) × ((read ≡ Ok t) × stands sink (Some t))
Finishes stands read (Err e) = IsFault read e
