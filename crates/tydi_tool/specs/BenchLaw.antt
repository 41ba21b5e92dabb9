-- The laws of `bench` and of `testbench` (this project's own): which text is written, what it shows under any ready bits and any orders of its
-- processes, and what `sim` writes of it.
use Rattle.std.specs.Prelude.{◌≡◌, ◌≢◌, ℕ, ◌≤◌, ◌↔◌, List, length, Some, Ok}
use Rattle.tydi_io.specs.Store.{Files}
use Rattle.bench_run.specs.Traces.{trace_text_of}
use Rattle.handshake.specs.Rows.{StreamRun}
use Rattle.logical_value.specs.Tree.{Tree, plain_port}
use Rattle.logical_value.specs.declared.value.PortValue.{PortValue}
use Rattle.plan_text.specs.declared.plan.Plan.{Plan}
use Rattle.port_bench.specs.Benches.{bench_of_runs}
use Rattle.port_bench.specs.Laws.{IsPortBench, IsRunOfPlan}
use Rattle.port_drive.specs.Drives.{drive_of}
use Rattle.port_drive.specs.Laws.{IsDriven, trace_of}
use Rattle.port_drive.specs.Text.{written_text}
use Rattle.til_resolve.specs.PlainProject.{PlainProject}
use Rattle.til_resolve.specs.declared.project.Test.{Test}
use Rattle.type_split.specs.Streams.{PlainSplit}
use Rattle.vhdl_meaning.specs.RunLaws.{FitsBench}
use Rattle.vhdl_meaning.specs.declared.run.SimRun.{SimRun}
use Rattle.vhdl_text.specs.Text.{bench_text}
use Rattle.tydi_tool.specs.declared.answer.Answer.{Answer}
use Rattle.tydi_tool.specs.declared.answer.Answer.TheVariants as answers
use Rattle.tydi_tool.specs.Causes.{DriveWords, HasDrive, HasRead, HasRun, HasTestDrive, TestWords}
use Rattle.tydi_tool.specs.Commands.{Says}
use Rattle.tydi_tool.specs.DriveLaw.{Accepts, drive_words}
use Rattle.tydi_tool.specs.Outcome.{output_answer, output_too_long_line}
use Rattle.tydi_tool.specs.Ports.{port_named}
use Rattle.tydi_tool.specs.Tests.{HasPortWord, test_named, tested_port}
use Rattle.tydi_tool.specs.Words.{Bench, Drive, Sim, Testbench}

-- the words of a declared test
abbrev pub test_words : (project test : List ℕ) → TestWords
test_words project test = record { project = project; test = test }

-- A text is that of the testbench that drives a port with a value by a plan. Its statements are those of the driving bench of the runs: on each
-- stream the planned transfers, and the gaps of the plan where valid may be low. It is well formed and is read as this bench; and under any ready
-- bits and any orders of its processes, each stream shows the run of its transfers and gaps under these bits. With the cycles and the ready bits
-- of the plan, the text of its trace is that of the trace that drives the port.
pub record IsBenchOf (split : PlainSplit) (value : List (List Tree)) (plan : Plan) (text : List ℕ) : Type 0 where
  pub runs : List StreamRun
  pub drives : drive_of split value plan.streams ≡ Ok runs
  pub driven : IsDriven split value plan runs
  pub is : text ≡ bench_text (bench_of_runs split runs)
  pub bench : IsPortBench split runs
  pub bytes : (run : SimRun) → FitsBench (bench_of_runs split runs) run → IsRunOfPlan plan run
      → trace_text_of (bench_of_runs split runs) run ≡ written_text (trace_of split plan.cycles runs)

-- Wherever a file holds this text, and another a run of it with the cycles and the ready bits of the plan, in any orders of its processes, `sim`
-- gives what `drive` gives of any files with this port, value and plan, and nothing else.
abbrev pub ShowsDrive : PlainSplit → PortValue → Plan → List StreamRun → List ℕ → Type 0
ShowsDrive split value plan runs text = (before after : Files) (words : DriveWords) (bench other : List ℕ) (run : SimRun) →
    HasDrive before words split value plan → after bench ≡ Some text → HasRun after (bench_of_runs split runs) other run → IsRunOfPlan plan run →
    (a : Answer) → Says (Some after) (Some (Sim bench other)) a ↔ Says (Some before) (Some (Drive words.at.project words.at.port words.value words.plan)) a

-- a testbench is written for a port that is driven
pub record WritesBench (known : Files) (words : DriveWords) (text : List ℕ) : Type 0 where
  pub split : PlainSplit
  pub value : PortValue
  pub plan : Plan
  pub read : HasDrive known words split value plan
  pub bench : IsBenchOf split (plain_port value) plan text
  pub shows : ShowsDrive split value plan bench.runs text

-- a testbench is written for a declared test, from the texts that it holds
pub record WritesTestbench (known : Files) (words : TestWords) (text : List ℕ) : Type 0 where
  pub split : PlainSplit
  pub value : PortValue
  pub plan : Plan
  pub read : HasTestDrive known words split value plan
  pub bench : IsBenchOf split (plain_port value) plan text
  pub shows : ShowsDrive split value plan bench.runs text

-- each text that `bench` writes is that of such a testbench
abbrev pub WrittenBenchesDrive : Type 0
WrittenBenchesDrive = (known : Files) (project port value plan text : List ℕ) → Says (Some known) (Some (Bench project port value plan)) (answers.Done text)
    → (length text ≤ 67108864) × WritesBench known (drive_words project port value plan) text

-- so is each text that `testbench` writes
abbrev pub WrittenTestbenchesDrive : Type 0
WrittenTestbenchesDrive = (known : Files) (project test text : List ℕ) → Says (Some known) (Some (Testbench project test)) (answers.Done text)
    → (length text ≤ 67108864) × WritesTestbench known (test_words project test) text

-- where the files are accepted, as `drive` accepts them, the answer of `bench` is the text of the testbench, if it is not too long
abbrev pub AcceptedPortsHaveBenches : Type 0
AcceptedPortsHaveBenches = (known : Files) (project port word other : List ℕ) (split : PlainSplit) (value : PortValue) (plan : Plan) (runs : List StreamRun) →
    Accepts known (drive_words project port word other) split value plan runs →
    Says (Some known) (Some (Bench project port word other)) (output_answer (bench_text (bench_of_runs split runs)))

-- `bench` refuses what `drive` refuses, with the same line; the length of the output is their own
abbrev pub BenchesAreRefusedAsDrives : Type 0
BenchesAreRefusedAsDrives = (known : Files) (project port value plan line : List ℕ) → line ≢ output_too_long_line →
    Says (Some known) (Some (Bench project port value plan)) (answers.Refused line) ↔ Says (Some known) (Some (Drive project port value plan)) (answers.Refused line)

-- a project has a declared test, and two files have the texts that the test holds
pub record HoldsTexts (known after : Files) (project value plan test : List ℕ) : Type 0 where
  pub read : PlainProject
  pub project_is : HasRead known project read
  pub same : after project ≡ known project
  pub declared : Test
  pub test_is : test_named read test ≡ Some declared
  pub value_is : after value ≡ Some declared.value
  pub plan_is : after plan ≡ Some declared.plan

-- then `testbench` writes what `bench` writes of these files, for each word that names the port of the test
abbrev pub WritesAlike : (known after : Files) (project value plan test : List ℕ) → HoldsTexts known after project value plan test → Type 0
WritesAlike known after project value plan test holds = (port text : List ℕ) → port_named holds.read port ≡ tested_port holds.read holds.declared →
    Says (Some known) (Some (Testbench project test)) (answers.Done text) ↔ Says (Some after) (Some (Bench project port value plan)) (answers.Done text)

-- and the port that the test drives has such a word
abbrev pub TestbenchesAreBenches : Type 0
TestbenchesAreBenches = (known after : Files) (project value plan test : List ℕ) → (holds : HoldsTexts known after project value plan test) →
    HasPortWord holds.read holds.declared × WritesAlike known after project value plan test holds
