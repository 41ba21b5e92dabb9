-- The answer of a survey about the streams of a trace (this project's own).
use Rattle.std.specs.Prelude.{◌≡◌, ◌⊎◌, ℕ, suc, Bool, nat_le, nat_lt, ◌==◌, if◌then◌else◌, List, [], ◌∷◌, map, Option, Some, None, Result, Ok, Err}
use Rattle.physical_stream.specs.Cycles.{StreamTrace}
use Rattle.physical_stream.specs.First.{Offence, IsFirst}
use Rattle.physical_stream.specs.Rules.{number_of_rule}
use Rattle.physical_stream.specs.Ending.{ending_of}
use Rattle.physical_stream.specs.Counts.{transfers_of, packets_of}
use Rattle.physical_stream.specs.declared.end.End.{End}
use Rattle.physical_stream.specs.declared.end.End.TheVariants as ends
use Rattle.cycle_trace.specs.declared.surveying.counts.Counts.{Counts}
use Rattle.cycle_trace.specs.declared.surveying.counts.SurveyFault.{SurveyFault}
use Rattle.cycle_trace.specs.declared.surveying.counts.SurveyFault.TheVariants as faults

-- the transfers and the packets that each stream has done
abbrev pub counts_of : List StreamTrace → Counts
counts_of streams = record { streams = map (λ s. (transfers_of s.cycles, packets_of s.params s.cycles)) streams }

-- a stream that does not end whole, by its number, and how it ends
pub record UnfinishedStream : Type 0 where
  pub stream : ℕ
  pub end : End

-- a stream that ends so, where that is not whole; else the later one
abbrev pub or_unfinished : ℕ → End → Option UnfinishedStream → Option UnfinishedStream
or_unfinished stream ends.Whole later = later
or_unfinished stream ends.Pending later = Some (record { stream = stream; end = ends.Pending })
or_unfinished stream (ends.Unclosed k) later = Some (record { stream = stream; end = ends.Unclosed k })

-- the first of these streams, the first of which has this number, that does not end whole
abbrev pub first_unfinished : ℕ → List StreamTrace → Option UnfinishedStream
first_unfinished stream [] = None
first_unfinished stream (s ∷ streams) = or_unfinished stream (ending_of s.params s.cycles) (first_unfinished (suc stream) streams)

-- the first offence; else the first stream that does not end whole; else the counts
abbrev pub survey_of : Option Offence → Option UnfinishedStream → Counts → Result Counts SurveyFault
survey_of (Some o) unfinished counts = Err (faults.Offence o.cycle o.stream o.rule)
survey_of None (Some u) counts = Err (faults.Unfinished u.stream u.end)
survey_of None None counts = Ok counts

-- the result of a survey of these streams. The caller passes what counts as an offence, since the rule on tags needs types.
pub record Surveys (Offends : Offence → Type 0) (streams : List StreamTrace) (found : Result Counts SurveyFault) : Type 0 where
  pub first : Option Offence
  pub is_first : IsFirst Offends first
  pub says : found ≡ survey_of first (first_unfinished 0 streams) (counts_of streams)

-- the answer of a survey: its result, want of memory aside
abbrev pub Answers : (Offence → Type 0) → List StreamTrace → Result Counts SurveyFault → Type 0
Answers Offends streams (Err faults.Memory) = Unit {0}
Answers Offends streams found = Surveys Offends streams found

-- ---- a second kind of rule beside those of the survey, as the rule on tags

-- an offence by one kind of rule or by another
abbrev pub OffendsByEither : (Offence → Type 0) → (Offence → Type 0) → Offence → Type 0
OffendsByEither One Other o = One o ⊎ Other o

-- whether an offence stands no later than another: by cycle, then by stream, then by rule
abbrev pub is_not_after : Offence → Offence → Bool
is_not_after a b =
    if a.cycle == b.cycle then (if a.stream == b.stream then nat_le (number_of_rule a.rule) (number_of_rule b.rule) else nat_lt a.stream b.stream) else nat_lt a.cycle b.cycle

-- the earlier of two offences
abbrev pub earlier_of : Offence → Offence → Offence
earlier_of a b = if is_not_after a b then a else b

-- the answer that names an offence
abbrev pub offence_fault : Offence → Result Counts SurveyFault
offence_fault o = Err (faults.Offence o.cycle o.stream o.rule)

-- the result of a survey that also takes the first offence of the second kind
abbrev pub found_with : Result Counts SurveyFault → Option Offence → Result Counts SurveyFault
found_with found None = found
found_with (Err faults.Memory) (Some other) = Err faults.Memory
found_with (Err (faults.Offence cycle stream rule)) (Some other) = offence_fault (earlier_of (record { cycle = cycle; stream = stream; rule = rule }) other)
found_with (Err (faults.Unfinished stream end)) (Some other) = offence_fault other
found_with (Ok counts) (Some other) = offence_fault other
