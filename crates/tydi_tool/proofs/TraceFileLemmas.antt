-- A trace that is read as its text comes.
use Rattle.std.proofs.Common.{ℕ, inl, inr, List, [], Option, Result, Ok, Err, OnOk, sym, subst}
use Rattle.std.proofs.lemmas.List.{append-nil}
use Rattle.tydi_io.specs.Store.{Files}
use Rattle.cycle_trace.specs.ReaderView.{Finishes, StandsFor}
use Rattle.cycle_trace.specs.SurveyorView.{SurveyorStands}
use Rattle.cycle_trace.specs.Trace.{TraceText}
use Rattle.cycle_trace.specs.TraceText.{trace_of}
use Rattle.cycle_trace.specs.declared.fault.TraceFault.{TraceFault}
use Rattle.cycle_trace.specs.declared.surveying.surveyor.Surveyor.{Surveyor}
use Rattle.tydi_tool.specs.declared.answer.Answer.TheVariants as answers
use Rattle.tydi_tool.specs.declared.answer.Reply.{Reply}
use Rattle.tydi_tool.specs.declared.answer.Reply.TheVariants as replies
use Rattle.tydi_tool.specs.declared.traces.Survey.{Survey}
use Rattle.tydi_tool.specs.declared.traces.TraceFile.{TraceFile}
use Rattle.tydi_tool.specs.Words.{FileWord}
use Rattle.tydi_tool.specs.Ask.{IsAsked}
use Rattle.tydi_tool.specs.Reading.{ReadsAs}
use Rattle.tydi_tool.specs.TraceFiles.{HasTrace, StandsForBytes, reads_after, IsNew}
use Rattle.tydi_tool.specs.Traces.{ReadsTrace}

-- the readings of a new reader
read_new : (word : List ℕ) (file : TraceFile) (bytes : List ℕ) (read : Result Survey (List ℕ)) → IsNew word file → reads_after file bytes read → ReadsTrace word bytes read
read_new word file bytes read new reads = subst (λ (w : List ℕ). ReadsTrace w bytes read) new.word_is (reads [] new.stands)

pub IsAsked-new : (word : List ℕ) (reader : TraceFile) (told : Option Files) (file : FileWord) (old new : Option (List ℕ × ℕ)) (rose : Type 0) (read : Result Survey Reply) → IsNew word reader →
    IsAsked told file (reads_after reader) old new rose read → IsAsked told file (ReadsTrace word) old new rose read
IsAsked-new word reader told file old new rose (Ok survey) is asked = (asked.0, (asked.1.0, (read_new word reader asked.0 (Ok survey) is asked.1.1.0, asked.1.1.1)))
IsAsked-new word reader told file old new rose (Err reply) is (inl s) = inl s
IsAsked-new word reader told file old new rose (Err reply) is (inr d) = inr (d.0, (d.1.0, (d.1.1.0, (read_new word reader d.0 (Err d.1.1.0) is d.1.1.1.0, d.1.1.1.1))))

pub on_ok_any : {A E : Type 0} (r : Result A E) (P : Type 0) → P → OnOk r P
on_ok_any (Ok x) P h = h
on_ok_any (Err e) P h = tt

-- at the end
pub HasTrace-finished : (finished : Result Surveyor TraceFault) (read : Result TraceText TraceFault) → Finishes SurveyorStands read finished → HasTrace finished
HasTrace-finished (Ok surveyor) read h = (h.0, h.1.1)
HasTrace-finished (Err fault) read h = tt

pub ReadsAs-finished : (file : TraceFile) (finished : Result Surveyor TraceFault) (read : Result Survey Reply) → StandsForBytes file →
    ((bytes : List ℕ) → StandsFor SurveyorStands file.reader bytes → Finishes SurveyorStands (trace_of bytes) finished) →
    ((bytes : List ℕ) → Finishes SurveyorStands (trace_of bytes) finished → ReadsAs (ReadsTrace file.word.now bytes) read) → ReadsAs (reads_after file []) read
ReadsAs-finished file finished (Ok survey) some finishes reads =
    λ bytes stands. subst (λ (l : List ℕ). ReadsTrace file.word.now l (Ok survey)) (sym (append-nil bytes)) (reads bytes (finishes bytes stands))
ReadsAs-finished file finished (Err (replies.Says (answers.Refused line))) some finishes reads =
    λ bytes stands. subst (λ (l : List ℕ). ReadsTrace file.word.now l (Err line)) (sym (append-nil bytes)) (reads bytes (finishes bytes stands))
ReadsAs-finished file finished (Err (replies.Says (answers.Verdict line))) some finishes reads = reads some.0 (finishes some.0 some.1)
ReadsAs-finished file finished (Err (replies.Says (answers.Done text))) some finishes reads = reads some.0 (finishes some.0 some.1)
ReadsAs-finished file finished (Err (replies.ReadFault line)) some finishes reads = reads some.0 (finishes some.0 some.1)
ReadsAs-finished file finished (Err replies.Memory) some finishes reads = tt
