-- Traces that arrive at the other end of a chain of nets (this project's own).
use Rattle.std.specs.Prelude.{◌≡◌, ◌⊎◌, ℕ, List, [], ◌++◌, Option, Some, Result, Ok, Err, codes}
use Rattle.cycle_trace.specs.ReaderView.{StandsFor}
use Rattle.cycle_trace.specs.Trace.{TraceText}
use Rattle.cycle_trace.specs.TraceText.{trace_of}
use Rattle.cycle_trace.specs.declared.fault.TraceFault.{TraceFault}
use Rattle.link_check.specs.Carriers.{CarrierStands}
use Rattle.link_check.specs.Carry.{FirstOther, carried}
use Rattle.link_check.specs.KeptTexts.{KeptTextStands, if_kept, text_so_far}
use Rattle.link_check.specs.declared.carrier.Carrier.{Carrier}
use Rattle.link_check.specs.declared.end_heads.EndHeads.{EndHeads}
use Rattle.link_check.specs.declared.kept_text.KeptText.{KeptText}
use Rattle.port_drive.specs.Text.{written_text}
use Rattle.tydi_tool.specs.declared.answer.Answer.{Answer}
use Rattle.tydi_tool.specs.declared.answer.Answer.TheVariants as answers
use Rattle.tydi_tool.specs.declared.arrivals.Arrival.{Arrival}
use Rattle.tydi_tool.specs.declared.arrivals.Arrival.TheVariants as arrivals
use Rattle.tydi_tool.specs.declared.arrivals.ArrivalFile.{ArrivalFile}
use Rattle.tydi_tool.specs.Outcome.{output_answer}
use Rattle.tydi_tool.specs.Reading.{ReadsResult}
use Rattle.tydi_tool.specs.Refusals.{Number, Refusal, of_file_with, refusal_line, refusal_of_trace}

-- ---- the answer

-- the text of a trace is read as the trace
abbrev pub ReadsCycles : List ℕ → List ℕ → Result TraceText (List ℕ) → Type 0
ReadsCycles word bytes read = ReadsResult (refusal_of_trace word) (trace_of bytes) read

abbrev pub other_header : List ℕ → ℕ → Refusal
other_header word stream = of_file_with (codes "OtherHeader") word (Number stream)

-- the trace has other heads than those where its streams come from, and this answer tells of the first
pub record TellsOther (word : List ℕ) (heads : EndHeads) (t : TraceText) (a : Answer) : Type 0 where
  pub stream : ℕ
  pub first : FirstOther heads.from t.heads stream
  pub is : a ≡ answers.Refused (refusal_line (other_header word stream))

-- the text of the trace that arrives, or the refusal of the first head that is another
abbrev pub TellsArrived : List ℕ → EndHeads → TraceText → Answer → Type 0
TellsArrived word heads t a = ((t.heads ≡ heads.from) × (a ≡ output_answer (written_text (carried heads.to t)))) ⊎ TellsOther word heads t a

-- ---- a reader of the trace, which keeps what arrives

-- the first head that is another; or the text of what arrives, where it is not too long
abbrev pub IsArrival : EndHeads → TraceText → Arrival → Type 0
IsArrival heads t (arrivals.Other stream) = FirstOther heads.from t.heads stream
IsArrival heads t (arrivals.Arrived kept) = (t.heads ≡ heads.from) × (kept ≡ if_kept (text_so_far (carried heads.to t)))

-- the text of a trace is read as what arrives of it
abbrev pub ReadsArrival : EndHeads → List ℕ → List ℕ → Result Arrival (List ℕ) → Type 0
ReadsArrival heads word bytes (Ok arrival) = (t : TraceText) × ((trace_of bytes ≡ Ok t) × IsArrival heads t arrival)
ReadsArrival heads word bytes (Err line) = ReadsCycles word bytes (Err line)

-- what a reader of a trace stands for, where its rows are handed on as a text
abbrev pub Keeps : Carrier KeptText → Option TraceText → Type 0
Keeps = CarrierStands KeptTextStands

-- the heads at the ends of a carrier
abbrev pub ends_of : Carrier KeptText → EndHeads
ends_of carrier = record { from = carrier.from; to = carrier.to.heads }

-- it was fed some bytes
abbrev pub StandsForTrace : ArrivalFile → Type 0
StandsForTrace file = (bytes : List ℕ) × StandsFor Keeps file.reader bytes

-- with these bytes after all that it was fed
abbrev pub arrives_after : ArrivalFile → List ℕ → Result Arrival (List ℕ) → Type 0
arrives_after file rest read = (bytes : List ℕ) → StandsFor Keeps file.reader bytes → ReadsArrival (ends_of file.reader.sink) file.word.now (bytes ++ rest) read

-- it was fed nothing
pub record IsNewArrival (word : List ℕ) (heads : EndHeads) (file : ArrivalFile) : Type 0 where
  pub word_is : file.word.now ≡ word
  pub heads_are : ends_of file.reader.sink ≡ heads
  pub none : file.fed ≡ 0
  pub stands : StandsFor Keeps file.reader []

-- what was read to its end is the trace of a carrier with these heads
abbrev pub HasRows : EndHeads → Result (Carrier KeptText) TraceFault → Type 0
HasRows heads (Ok carrier) = (ends_of carrier ≡ heads) × ((t : TraceText) × Keeps carrier (Some t))
HasRows heads (Err fault) = Unit {0}
