-- A reader of the text of a trace that comes in pieces (this project's own).
use Rattle.std.specs.Prelude.{◌≡◌, ℕ, List, [], ◌++◌, Some, Result, Ok, Err}
use Rattle.cycle_trace.specs.ReaderView.{StandsFor}
use Rattle.cycle_trace.specs.SurveyorView.{SurveyorStands}
use Rattle.cycle_trace.specs.Trace.{TraceText}
use Rattle.cycle_trace.specs.declared.fault.TraceFault.{TraceFault}
use Rattle.cycle_trace.specs.declared.surveying.surveyor.Surveyor.{Surveyor}
use Rattle.tydi_tool.specs.declared.traces.Survey.{Survey}
use Rattle.tydi_tool.specs.declared.traces.TraceFile.{TraceFile}
use Rattle.tydi_tool.specs.Traces.{ReadsTrace}

-- it was fed some bytes
abbrev pub StandsForBytes : TraceFile → Type 0
StandsForBytes file = (bytes : List ℕ) × StandsFor SurveyorStands file.reader bytes

-- with these bytes after all that it was fed
abbrev pub reads_after : TraceFile → List ℕ → Result Survey (List ℕ) → Type 0
reads_after file rest read = (bytes : List ℕ) → StandsFor SurveyorStands file.reader bytes → ReadsTrace file.word.now (bytes ++ rest) read

-- it was fed nothing
pub record IsNew (word : List ℕ) (file : TraceFile) : Type 0 where
  pub word_is : file.word.now ≡ word
  pub none : file.fed ≡ 0
  pub stands : StandsFor SurveyorStands file.reader []

-- a survey that was read to its end stands for a trace
abbrev pub HasTrace : Result Surveyor TraceFault → Type 0
HasTrace (Ok surveyor) = (t : TraceText) × SurveyorStands surveyor (Some t)
HasTrace (Err fault) = Unit {0}
