-- Value change dumps of the signals of a port, and the traces that they show (this project's own).
use Rattle.std.specs.Prelude.{◌≡◌, ℕ, ◌<◌, List, [], ◌∷◌, ◌++◌, length, Option, Some, None, Result, Ok, Err, codes}
use Rattle.tydi_base.specs.Path.{path_of}
use Rattle.cycle_trace.specs.Trace.{TraceText}
use Rattle.port_drive.specs.Drives.{heads_of}
use Rattle.port_drive.specs.Text.{written_text}
use Rattle.type_split.specs.Streams.{PlainSplit, plain_split}
use Rattle.vcd_read.specs.Kept.{if_kept, kept_bytes}
use Rattle.vcd_read.specs.Reader.{StandsFor}
use Rattle.vcd_read.specs.Shown.{shown}
use Rattle.vcd_read.specs.Wanted.{Wanted}
use Rattle.vcd_read.specs.declared.dump_text.DumpText.{DumpText}
use Rattle.vcd_read.specs.declared.fault.VcdFault.{VcdFault}
use Rattle.vcd_read.specs.declared.fault.VcdFault.TheVariants as faults
use Rattle.vhdl_text.specs.Text.{signal_word}
use Rattle.tydi_tool.specs.declared.vcd_file.VcdFile.{VcdFile}
use Rattle.tydi_tool.specs.Drives.{path_of as path_of_stream}
use Rattle.tydi_tool.specs.Reading.{ReadsResult}
use Rattle.tydi_tool.specs.Refusals.{Name, Number, Refusal, Stream, Word, of_file, of_file_with}

-- ---- the trace that a dump shows of a port

-- the names of a scope; none where its word has another form, as no word of the command has
abbrev pub names_or_none : Option (List (List ℕ)) → List (List ℕ)
names_or_none None = []
names_or_none (Some names) = names

-- what a dump is to have: the clock and the signals of the streams of a port, in the scope of this word
abbrev pub wanted_of : List ℕ → PlainSplit → Wanted
wanted_of scope split = record { scope = names_or_none (path_of scope); heads = heads_of split }

-- a signal of the stream of this number
abbrev pub of_signal : List ℕ → List ℕ → List (List ℕ) → List ℕ → Refusal
of_signal name word path signal = record { name = name; details = Word word ∷ Stream path ∷ Name signal ∷ [] }

-- the refusal of a dump of this word with this error; want of memory is none
abbrev pub refusal_of_dump : PlainSplit → List ℕ → VcdFault → Option Refusal
refusal_of_dump split word (faults.Syntax offset) = Some (of_file_with (codes "Syntax") word (Number offset))
refusal_of_dump split word (faults.TimeBack offset) = Some (of_file_with (codes "TimeBack") word (Number offset))
refusal_of_dump split word faults.NoClock = Some (of_file (codes "NoClock") word)
refusal_of_dump split word (faults.NoSignal stream signal) = Some (of_signal (codes "NoSignal") word (path_of_stream split stream) (signal_word signal))
refusal_of_dump split word (faults.OtherWidth stream signal) = Some (of_signal (codes "OtherWidth") word (path_of_stream split stream) (signal_word signal))
refusal_of_dump split word faults.TooManyCycles = Some (of_file (codes "TooManyCycles") word)
refusal_of_dump split word (faults.NotBit cycle stream) =
    Some (record { name = codes "NotBit"; details = Word word ∷ Number cycle ∷ Stream (path_of_stream split stream) ∷ [] })
refusal_of_dump split word faults.Memory = None

-- a dump is read as the trace that it shows of the port in the scope of this word
abbrev pub ReadsDump : (scope word : List ℕ) → PlainSplit → List ℕ → Result TraceText (List ℕ) → Type 0
ReadsDump scope word split bytes read = ReadsResult (refusal_of_dump split word) (shown (wanted_of scope split) bytes) read

-- ---- in code: a reader of the dump, which keeps the text of the trace

-- the text of a trace, where it is not too long
abbrev pub IsKeptText : TraceText → Option DumpText → Type 0
IsKeptText t kept = kept_bytes kept ≡ if_kept (written_text t)

-- a dump is read as the text of the trace that it shows
abbrev pub ReadsKept : Wanted → PlainSplit → (word bytes : List ℕ) → Result (Option DumpText) (List ℕ) → Type 0
ReadsKept wanted split word bytes (Ok kept) = (t : TraceText) × ((shown wanted bytes ≡ Ok t) × IsKeptText t kept)
ReadsKept wanted split word bytes (Err line) = ReadsResult (refusal_of_dump split word) (shown wanted bytes) (Err line)

-- it was fed some bytes, and looks for signals of the streams of its port
pub record IsFedSome (file : VcdFile) : Type 0 where
  pub wanted : Wanted
  pub bytes : List ℕ
  pub stands : StandsFor wanted file.reader bytes
  pub count : file.fed ≡ length bytes
  pub heads : wanted.heads ≡ heads_of (plain_split file.split.now)

-- with these bytes after all that it was fed
abbrev pub shows_after : VcdFile → List ℕ → Result (Option DumpText) (List ℕ) → Type 0
shows_after file rest read = (wanted : Wanted) (bytes : List ℕ) → StandsFor wanted file.reader bytes
    → ReadsKept wanted (plain_split file.split.now) file.word.now (bytes ++ rest) read

-- it was fed nothing of the dump of this word, in the scope of which the signals of a port are looked for
pub record IsNewDump (scope word : List ℕ) (split : PlainSplit) (file : VcdFile) : Type 0 where
  pub word_is : file.word.now ≡ word
  pub split_is : plain_split file.split.now ≡ split
  pub none : file.fed ≡ 0
  pub stands : StandsFor (wanted_of scope split) file.reader []

-- an error names one of so many streams, where it names one
abbrev pub NamesStream : ℕ → VcdFault → Type 0
NamesStream streams (faults.NoSignal stream signal) = stream < streams
NamesStream streams (faults.OtherWidth stream signal) = stream < streams
NamesStream streams (faults.NotBit cycle stream) = stream < streams
NamesStream streams fault = Unit {0}

-- the same of what is found of a dump
abbrev pub NamesStreamOf : ℕ → Result (Option DumpText) VcdFault → Type 0
NamesStreamOf streams (Ok kept) = Unit {0}
NamesStreamOf streams (Err fault) = NamesStream streams fault
