-- The texts of a bench and of a run are read in one way, and always; and what is read can be simulated.
use Rattle.std.proofs.Common.{◌≡◌, ◌∙◌, ℕ, List, Option, Some, None, Result, Ok, Err, IfOk, refl, sym, ap, subst}
use Rattle.std.specs.Prelude.{MatchOption}
use Rattle.tydi_io.specs.Store.{Files}
use Rattle.vhdl_text.proofs.BenchFaults.{benches_free}
use Rattle.vhdl_text.proofs.BenchReading.{benches_printed}
use Rattle.vhdl_text.specs.Reading.{bench_of}
use Rattle.vhdl_text.specs.Reading as benches
use Rattle.vhdl_text.specs.WellFormed.{IsWellFormed}
use Rattle.vhdl_text.specs.declared.bench.Bench.{Bench}
use Rattle.vhdl_text.specs.declared.fault.VhdlFault.{VhdlFault}
use Rattle.vhdl_text.specs.declared.fault.VhdlFault.TheVariants as benching
use Rattle.vhdl_meaning.proofs.RunFaults.{runs_free}
use Rattle.vhdl_meaning.proofs.RunFitLemmas.{runs_fit}
use Rattle.vhdl_meaning.specs.RunFaults as runs
use Rattle.vhdl_meaning.specs.RunLaws.{FitsBench}
use Rattle.vhdl_meaning.specs.RunText.{run_of}
use Rattle.vhdl_meaning.specs.declared.run.RunFault.{RunFault}
use Rattle.vhdl_meaning.specs.declared.run.RunFault.TheVariants as running
use Rattle.vhdl_meaning.specs.declared.run.SimRun.{SimRun}
use Rattle.tydi_tool.specs.declared.answer.Reply.{Reply}
use Rattle.tydi_tool.specs.Ask.{IsAsked}
use Rattle.tydi_tool.specs.Benches.{ReadsBench, ReadsRun}
use Rattle.tydi_tool.specs.Laws.{HasSome, ReadsOnce}
use Rattle.tydi_tool.specs.Reading.{IsRefusedBy, ReadsAs, ReadsResult, RefusesBy}
use Rattle.tydi_tool.specs.Refusals.{Refusal, refusal_line, refusal_of_bench, refusal_of_run}
use Rattle.tydi_tool.specs.Words.{FileWord}
use Rattle.tydi_tool.proofs.AnswerLemmas.{RefusesBy-line, not_read}
use Rattle.tydi_tool.proofs.TextLemmas.{refused-as}

-- ---- a reading by a function

same_ok : {X : Type 0} (x y : X) → ◌≡◌ {A = Result X (List ℕ)} (Ok x) (Ok y) → x ≡ y
same_ok x y e = cc

not_both : {X : Type 0} (x : X) (line : List ℕ) → ◌≡◌ {A = Result X (List ℕ)} (Ok x) (Err line) → ⊥
not_both x line e = cc

module _ {X F : Type 0} (refusal : F → Option Refusal) where
  pub result-same : (read : Result X F) (x y : X) → ReadsResult refusal read (Ok x) → ReadsResult refusal read (Ok y) → x ≡ y
  result-same (Ok found) x y p q = same_ok x y (p ∙ sym q)
  result-same (Err fault) x y p q = absurd (not_read (refusal fault) x p)

  pub result-apart : (read : Result X F) (x : X) (line : List ℕ) → ReadsResult refusal read (Ok x) → ReadsResult refusal read (Err line) → ⊥
  result-apart (Ok found) x line p q = not_both x line (p ∙ sym q)
  result-apart (Err fault) x line p q = not_read (refusal fault) x p

  pub result-lines : (read : Result X F) (one other : List ℕ) → ReadsResult refusal read (Err one) → ReadsResult refusal read (Err other) → one ≡ other
  result-lines (Ok found) one other p q = absurd (not_both found one (sym p))
  result-lines (Err fault) one other p q = RefusesBy-line X (refusal fault) one other p q

  -- some answer, where each error has a refusal
  pub result-some : (read : Result X F) → ((fault : F) → read ≡ Err fault → refusal fault ≡ None → ⊥) → HasSome (Result X (List ℕ)) (ReadsResult refusal read)
  result-some (Ok found) told none = none (Ok found) refl
  result-some (Err fault) told none = by (refusal fault) refl none
    where
      by : (found : Option Refusal) → refusal fault ≡ found → ((read : Result X (List ℕ)) → RefusesBy found read → ⊥) → ⊥
      by (Some one) is none = none (Err (refusal_line one)) refl
      by None is none = told fault refl is

  -- what was read
  pub result-read : (read : Result X F) (x : X) → ReadsResult refusal read (Ok x) → read ≡ Ok x
  result-read (Ok found) x p = ap Ok (sym (same_ok x found p))
  result-read (Err fault) x p = absurd (not_read (refusal fault) x p)

-- ---- a bench

pub ReadsBench-once : (word : List ℕ) → ReadsOnce (ReadsBench word)
ReadsBench-once word = record {
  same = λ bytes x y p q. result-same (refusal_of_bench word) (bench_of bytes) x y p q;
  apart = λ bytes x line p q. result-apart (refusal_of_bench word) (bench_of bytes) x line p q;
  lines = λ bytes one other p q. result-lines (refusal_of_bench word) (bench_of bytes) one other p q;
}

pub ReadsBench-some : (word bytes : List ℕ) → HasSome (Result Bench (List ℕ)) (ReadsBench word bytes)
ReadsBench-some word bytes = result-some (refusal_of_bench word) (bench_of bytes) told
  where
    told : (fault : VhdlFault) → bench_of bytes ≡ Err fault → refusal_of_bench word fault ≡ None → ⊥
    told (benching.NotForm offset) is none = cc
    told (benching.UnknownSignal offset) is none = cc
    told (benching.TwoDrivers offset) is none = cc
    told benching.Memory is none = benches_free bytes is

some-bench : (word line : List ℕ) (fault : VhdlFault) → RefusesBy {X = Bench} (refusal_of_bench word fault) (Err line) → benches.fault_in fault ≡ Some fault
some-bench word line (benching.NotForm offset) refuses = refl
some-bench word line (benching.UnknownSignal offset) refuses = refl
some-bench word line (benching.TwoDrivers offset) refuses = refl
some-bench word line benching.Memory refuses = absurd refuses

pub ReadsBench-refused : (word bytes : List ℕ) (fault : VhdlFault) (reply : Reply) → MatchOption (benches.fault_in fault) (Unit {0}) (λ f. bench_of bytes ≡ Err f)
    → IsRefusedBy (refusal_of_bench word fault) reply → ReadsAs (ReadsBench word bytes) (Err reply)
ReadsBench-refused word bytes fault reply told refused = refused-as Bench (refusal_of_bench word fault) reply (ReadsBench word bytes) by refused
  where
    by : (line : List ℕ) → RefusesBy {X = Bench} (refusal_of_bench word fault) (Err line) → ReadsBench word bytes (Err line)
    by line refuses =
        let read : bench_of bytes ≡ Err fault
        = subst (λ (o : Option VhdlFault). MatchOption o (Unit {0}) (λ f. bench_of bytes ≡ Err f)) (some-bench word line fault refuses) told in
        subst (λ (r : Result Bench VhdlFault). ReadsResult (refusal_of_bench word) r (Err line)) (sym read) refuses

pub ReadsBench-read : (word bytes : List ℕ) (bench : Bench) → bench_of bytes ≡ Ok bench → ReadsBench word bytes (Ok bench)
ReadsBench-read word bytes bench read = subst (λ (r : Result Bench VhdlFault). ReadsResult (refusal_of_bench word) r (Ok bench)) (sym read) refl

pub bench-read : (word bytes : List ℕ) (bench : Bench) → ReadsBench word bytes (Ok bench) → bench_of bytes ≡ Ok bench
bench-read word bytes bench reads = result-read (refusal_of_bench word) (bench_of bytes) bench reads

pub asked-bench : (told : Option Files) (file : FileWord) (word : List ℕ) (old new : Option (List ℕ × ℕ)) (rose : Type 0) (result : Result Bench Reply)
    → IsAsked told file (ReadsBench word) old new rose result → IfOk result IsWellFormed
asked-bench told file word old new rose (Ok bench) asked = (benches_printed asked.0 bench (bench-read word asked.0 bench asked.1.1.0)).0
asked-bench told file word old new rose (Err reply) asked = tt

-- ---- a run of a bench

pub ReadsRun-once : (word : List ℕ) (bench : Bench) → ReadsOnce (ReadsRun word bench)
ReadsRun-once word bench = record {
  same = λ bytes x y p q. result-same (refusal_of_run word) (run_of bench bytes) x y p q;
  apart = λ bytes x line p q. result-apart (refusal_of_run word) (run_of bench bytes) x line p q;
  lines = λ bytes one other p q. result-lines (refusal_of_run word) (run_of bench bytes) one other p q;
}

pub ReadsRun-some : (word : List ℕ) (bench : Bench) (bytes : List ℕ) → HasSome (Result SimRun (List ℕ)) (ReadsRun word bench bytes)
ReadsRun-some word bench bytes = result-some (refusal_of_run word) (run_of bench bytes) told
  where
    told : (fault : RunFault) → run_of bench bytes ≡ Err fault → refusal_of_run word fault ≡ None → ⊥
    told (running.Syntax place) is none = cc
    told (running.UnknownStream place) is none = cc
    told (running.StreamTwice place) is none = cc
    told (running.ReadyLength place) is none = cc
    told (running.NotOrder place) is none = cc
    told (running.TooManyCycles place) is none = cc
    told (running.TooManyOrders place) is none = cc
    told running.Memory is none = runs_free bench bytes is

some-run : (word line : List ℕ) (fault : RunFault) → RefusesBy {X = SimRun} (refusal_of_run word fault) (Err line) → runs.fault_in fault ≡ Some fault
some-run word line (running.Syntax place) refuses = refl
some-run word line (running.UnknownStream place) refuses = refl
some-run word line (running.StreamTwice place) refuses = refl
some-run word line (running.ReadyLength place) refuses = refl
some-run word line (running.NotOrder place) refuses = refl
some-run word line (running.TooManyCycles place) refuses = refl
some-run word line (running.TooManyOrders place) refuses = refl
some-run word line running.Memory refuses = absurd refuses

pub ReadsRun-refused : (word : List ℕ) (bench : Bench) (bytes : List ℕ) (fault : RunFault) (reply : Reply) → MatchOption (runs.fault_in fault) (Unit {0}) (λ f. run_of bench bytes ≡ Err f)
    → IsRefusedBy (refusal_of_run word fault) reply → ReadsAs (ReadsRun word bench bytes) (Err reply)
ReadsRun-refused word bench bytes fault reply told refused = refused-as SimRun (refusal_of_run word fault) reply (ReadsRun word bench bytes) by refused
  where
    by : (line : List ℕ) → RefusesBy {X = SimRun} (refusal_of_run word fault) (Err line) → ReadsRun word bench bytes (Err line)
    by line refuses =
        let read : run_of bench bytes ≡ Err fault
        = subst (λ (o : Option RunFault). MatchOption o (Unit {0}) (λ f. run_of bench bytes ≡ Err f)) (some-run word line fault refuses) told in
        subst (λ (r : Result SimRun RunFault). ReadsResult (refusal_of_run word) r (Err line)) (sym read) refuses

pub ReadsRun-read : (word : List ℕ) (bench : Bench) (bytes : List ℕ) (run : SimRun) → run_of bench bytes ≡ Ok run → ReadsRun word bench bytes (Ok run)
ReadsRun-read word bench bytes run read = subst (λ (r : Result SimRun RunFault). ReadsResult (refusal_of_run word) r (Ok run)) (sym read) refl

pub run-read : (word : List ℕ) (bench : Bench) (bytes : List ℕ) (run : SimRun) → ReadsRun word bench bytes (Ok run) → run_of bench bytes ≡ Ok run
run-read word bench bytes run reads = result-read (refusal_of_run word) (run_of bench bytes) run reads

pub asked-run : (told : Option Files) (file : FileWord) (word : List ℕ) (bench : Bench) (old new : Option (List ℕ × ℕ)) (rose : Type 0) (result : Result SimRun Reply)
    → IsAsked told file (ReadsRun word bench) old new rose result → IfOk result (FitsBench bench)
asked-run told file word bench old new rose (Ok run) asked = runs_fit bench asked.0 run (run-read word bench asked.0 run asked.1.1.0)
asked-run told file word bench old new rose (Err reply) asked = tt
