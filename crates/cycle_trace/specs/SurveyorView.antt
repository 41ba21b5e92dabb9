-- The rows that a survey stands for (this project's own).
use Rattle.std.specs.Prelude.{◌≡◌, Option, Some, None}
use Rattle.cycle_trace.specs.Survey.{Answers}
use Rattle.cycle_trace.specs.Surveying.{RowsSay, SurveysRows, offends_in}
use Rattle.cycle_trace.specs.Trace.{TraceText, streams_of}
use Rattle.cycle_trace.specs.declared.surveying.run.SurveyRun.{SurveyRun}
use Rattle.cycle_trace.specs.declared.surveying.surveyor.Surveyor.{Surveyor}
use Rattle.cycle_trace.specs.declared.surveying.surveyed.Surveyed.{Surveyed}

-- a survey that has begun stands for this header and the rows so far
abbrev pub RunStands : SurveyRun → TraceText → Type 0
RunStands run t = SurveysRows t run.header run.checkers.items run.cycle run.stream run.found

abbrev pub RunStandsFor : Option SurveyRun → Option TraceText → Type 0
RunStandsFor None None = Unit {0}
RunStandsFor None (Some t) = ⊥
RunStandsFor (Some run) None = ⊥
RunStandsFor (Some run) (Some t) = RunStands run t

abbrev pub SurveyorStands : Surveyor → Option TraceText → Type 0
SurveyorStands surveyor said = RunStandsFor surveyor.run said

-- the header is that of this trace, and so is what is found
pub record AnswersTrace (t : TraceText) (surveyed : Surveyed) : Type 0 where
  pub cycles : surveyed.header.cycles ≡ t.cycles
  pub heads : surveyed.header.heads ≡ t.heads
  pub found : Answers (offends_in t) (streams_of t) surveyed.found

-- the checkers and the offence say what the rows of this trace do
abbrev pub SaysOf : TraceText → SurveyRun → Type 0
SaysOf t run = RowsSay (offends_in t) t run.checkers.items run.found

-- all but the checkers and the offence is as before
pub record IsSameBut (old new : SurveyRun) : Type 0 where
  pub header : new.header ≡ old.header
  pub cycle : new.cycle ≡ old.cycle
  pub stream : new.stream ≡ old.stream
