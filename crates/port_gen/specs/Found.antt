-- What is found of the rows of a job (this project's own). It serves the summary, and no public clause.
use Rattle.std.specs.Prelude.{◌≡◌, ℕ, Bool, List, Some, None, Result}
use Rattle.physical_stream.specs.First.{IsFirst}
use Rattle.cycle_trace.specs.Survey.{Answers, first_unfinished}
use Rattle.cycle_trace.specs.Surveying.{offends_in}
use Rattle.cycle_trace.specs.SurveyorView.{SurveyorStands}
use Rattle.cycle_trace.specs.Trace.{TraceText, streams_of}
use Rattle.cycle_trace.specs.declared.surveying.counts.Counts.{Counts}
use Rattle.cycle_trace.specs.declared.surveying.counts.SurveyFault.{SurveyFault}
use Rattle.cycle_trace.specs.declared.surveying.surveyor.Surveyor.{Surveyor}
use Rattle.type_split.specs.Streams.{PlainSplit}
use Rattle.logical_value.specs.Tree.{Tree}
use Rattle.trace_decode.specs.Outcome.{Carried, IsDecoded, IsOutcome}
use Rattle.trace_decode.specs.Standing.{CanDecode, DecoderStands, split_in}
use Rattle.trace_decode.specs.declared.decoded.Decoded.{Decoded}
use Rattle.trace_decode.specs.declared.decoder.Decoder.{Decoder}
use Rattle.trace_decode.specs.declared.fault.DecodeFault.{DecodeFault}
use Rattle.port_gen.specs.Sums.{SumStands}
use Rattle.port_gen.specs.declared.text_sum.TextSum.{TextSum}

-- a trace breaks no rule and ends whole, and this is the answer of a survey of it
pub record IsLegalSurvey (t : TraceText) (found : Result Counts SurveyFault) : Type 0 where
  pub legal : IsFirst (offends_in t) None
  pub whole : first_unfinished 0 (streams_of t) ≡ None
  pub answers : Answers (offends_in t) (streams_of t) found

-- a trace carries this value, with these user words, and this is the answer of a decoder of it
pub record IsCarriedDecoding (split : PlainSplit) (t : TraceText) (value : List (List Tree)) (users : List (List (List Bool))) (found : Result Decoded DecodeFault) : Type 0 where
  pub can : CanDecode split
  pub carries : IsOutcome split t (Carried value users)
  pub decodes : IsDecoded split t found

-- a trace of so many cycles breaks no rule, ends whole and carries this value
pub record IsKnown (split : PlainSplit) (value : List (List Tree)) (users : List (List (List Bool))) (cycles : ℕ) (t : TraceText) : Type 0 where
  pub can : CanDecode split
  pub cycles_are : t.cycles ≡ cycles
  pub legal : IsFirst (offends_in t) None
  pub whole : first_unfinished 0 (streams_of t) ≡ None
  pub carries : IsOutcome split t (Carried value users)

-- the sinks stand for this trace
pub record HaveTaken (split : PlainSplit) (t : TraceText) (text : TextSum) (surveyor : Surveyor) (decoder : Decoder) : Type 0 where
  pub summed : SumStands text (Some t)
  pub surveyed : SurveyorStands surveyor (Some t)
  pub decoded : DecoderStands decoder (Some t)
  pub split_is : split_in decoder ≡ split
