-- The law of `vcd` (this project's own): which trace is written.
use Rattle.std.specs.Prelude.{◌≡◌, ℕ, ◌≤◌, List, length, Some, Ok}
use Rattle.tydi_io.specs.Store.{Files}
use Rattle.cycle_trace.specs.Trace.{IsTrace, TraceText}
use Rattle.cycle_trace.specs.TraceText.{trace_of}
use Rattle.port_drive.specs.Drives.{heads_of}
use Rattle.port_drive.specs.Text.{written_text}
use Rattle.type_split.specs.Streams.{PlainSplit}
use Rattle.tydi_tool.specs.declared.answer.Answer.TheVariants as answers
use Rattle.tydi_tool.specs.Causes.{DumpWords, HasDump}
use Rattle.tydi_tool.specs.Commands.{Says}
use Rattle.tydi_tool.specs.Outcome.{output_answer}
use Rattle.tydi_tool.specs.Words.{Vcd}

-- the words of a port that is sampled
abbrev pub dump_words : (project port scope file : List ℕ) → DumpWords
dump_words project port scope file = record { at = record { project = project; port = port }; scope = scope; file = file }

-- A text is that of the trace that the dump shows of a port: a row for each edge at which the clock rises and each stream, of the values just
-- before the edge. The trace has the heads of the port, each row of it shows what its stream can show, and the text is read as this trace. So
-- `check` and `decode` of the text judge what the dump shows.
pub record WritesShown (known : Files) (words : DumpWords) (text : List ℕ) : Type 0 where
  pub split : PlainSplit
  pub t : TraceText
  pub all : HasDump known words split t
  pub heads : t.heads ≡ heads_of split
  pub is_trace : IsTrace t
  pub is : text ≡ written_text t
  pub read : trace_of text ≡ Ok t

-- each text that is written is that of such a trace
abbrev pub WrittenDumpsAreShown : Type 0
WrittenDumpsAreShown = (known : Files) (project port scope file text : List ℕ) → Says (Some known) (Some (Vcd project port scope file)) (answers.Done text)
    → (length text ≤ 67108864) × WritesShown known (dump_words project port scope file) text

-- where a dump shows a trace of a port, the answer is its text, if it is not too long
abbrev pub ShownDumpsAreWritten : Type 0
ShownDumpsAreWritten = (known : Files) (project port scope file : List ℕ) (split : PlainSplit) (t : TraceText) →
    HasDump known (dump_words project port scope file) split t → Says (Some known) (Some (Vcd project port scope file)) (output_answer (written_text t))
