-- How the texts of a bench and of a run are read (this project's own).
use Rattle.std.specs.Prelude.{ℕ, List, Result}
use Rattle.vhdl_text.specs.Reading.{bench_of}
use Rattle.vhdl_text.specs.declared.bench.Bench.{Bench}
use Rattle.vhdl_meaning.specs.RunText.{run_of}
use Rattle.vhdl_meaning.specs.declared.run.SimRun.{SimRun}
use Rattle.tydi_tool.specs.Reading.{ReadsResult}
use Rattle.tydi_tool.specs.Refusals.{refusal_of_bench, refusal_of_run}

-- the text of a bench is read as the bench, or refused for its first error
abbrev pub ReadsBench : List ℕ → List ℕ → Result Bench (List ℕ) → Type 0
ReadsBench word bytes read = ReadsResult (refusal_of_bench word) (bench_of bytes) read

-- the text of a run of a bench is read as the run, or refused for its first error
abbrev pub ReadsRun : List ℕ → Bench → List ℕ → Result SimRun (List ℕ) → Type 0
ReadsRun word bench bytes read = ReadsResult (refusal_of_run word) (run_of bench bytes) read
