-- The finding of a survey names one of the streams, and is reported.
use Rattle.std.proofs.Common.{◌≡◌, ℕ, suc, ◌+◌, ◌<◌, ◌≤◌, ◌⊎◌, inl, inr, List, [], ◌∷◌, length, Option, None, Some, refl, sym, subst, arith, Result}
use Rattle.std.proofs.lemmas.Option.{slice_get_within}
use Rattle.physical_stream.specs.Cycles.{StreamTrace}
use Rattle.physical_stream.specs.Ending.{ending_of}
use Rattle.physical_stream.specs.First.{Offence, Offends, IsFirst}
use Rattle.physical_stream.specs.declared.end.End.{End}
use Rattle.physical_stream.specs.declared.end.End.TheVariants as ends
use Rattle.physical_stream.specs.declared.head.Head.{Head}
use Rattle.cycle_trace.specs.Trace.{TraceText, streams_of}
use Rattle.cycle_trace.specs.Survey.{Surveys, UnfinishedStream, survey_of, counts_of, or_unfinished, first_unfinished}
use Rattle.cycle_trace.specs.Surveying.{offends_in}
use Rattle.cycle_trace.specs.declared.surveying.counts.Counts.{Counts}
use Rattle.cycle_trace.specs.declared.surveying.counts.SurveyFault.{SurveyFault}
use Rattle.cycle_trace.proofs.StreamLemmas.{length-streams}
use Rattle.tydi_tool.specs.Lines.{counts_text}
use Rattle.tydi_tool.specs.Reports.{IsFoundAmong, IsUnfinished}

-- ---- the stream that is named

abbrev pub IsAmong : ℕ → Option UnfinishedStream → Type 0
IsAmong streams None = Unit {0}
IsAmong streams (Some u) = (u.stream < streams) × IsUnfinished u.end

or_unfinished-among : (streams stream : ℕ) (end : End) (later : Option UnfinishedStream) → stream < streams → IsAmong streams later → IsAmong streams (or_unfinished stream end later)
or_unfinished-among streams stream ends.Whole later within among = among
or_unfinished-among streams stream ends.Pending later within among = (within, tt)
or_unfinished-among streams stream (ends.Unclosed k) later within among = (within, tt)

pub first_unfinished-among : (many stream : ℕ) (streams : List StreamTrace) → stream + length streams ≤ many → IsAmong many (first_unfinished stream streams)
first_unfinished-among many stream [] within = tt
first_unfinished-among many stream (s ∷ streams) within =
    or_unfinished-among many stream (ending_of s.params s.cycles) (first_unfinished (suc stream) streams) (omega arith) (first_unfinished-among many (suc stream) streams (omega arith))

survey_of-among : (streams : List StreamTrace) (first : Option Offence) (unfinished : Option UnfinishedStream) (counts : Counts) → IsFirst (Offends streams) first → IsAmong (length streams) unfinished
    → IsFoundAmong (length streams) (survey_of first unfinished counts)
survey_of-among streams None None counts none among = tt
survey_of-among streams None (Some u) counts none among = among
survey_of-among streams (Some o) unfinished counts is among = slice_get_within streams o.stream is.0.trace is.0.stands

Surveys-among : (streams : List StreamTrace) (found : Result Counts SurveyFault) → Surveys (Offends streams) streams found → IsFoundAmong (length streams) found
Surveys-among streams found s =
    subst (IsFoundAmong (length streams)) (sym s.says) (survey_of-among streams s.first (first_unfinished 0 streams) (counts_of streams) s.is_first (first_unfinished-among (length streams) 0 streams (omega arith)))

-- the finding of a survey names one of the streams of the header
pub IsFoundAmong-heads : (t : TraceText) (found : Result Counts SurveyFault) → Surveys (offends_in t) (streams_of t) found → IsFoundAmong (length t.heads) found
IsFoundAmong-heads t found surveys = subst (λ (n : ℕ). IsFoundAmong n found) (length-streams t 0 t.heads) (Surveys-among (streams_of t) found surveys)

-- ---- the lines of the streams

-- no stream is left
pub counts_text-ended : (heads : List Head) (counts : List (ℕ × ℕ)) → (heads ≡ []) ⊎ (counts ≡ []) → counts_text heads counts ≡ []
counts_text-ended [] counts ended = refl
counts_text-ended (head ∷ heads) [] ended = refl
counts_text-ended (head ∷ heads) (count ∷ counts) (inl no_heads) = absurd cc
counts_text-ended (head ∷ heads) (count ∷ counts) (inr no_counts) = absurd cc
