-- The bench that drives a port with a value by a plan (this project's own).
use Rattle.std.specs.Prelude.{ℕ, List, [], ◌∷◌, Option, Some, None, Result, Ok, Err}
use Rattle.tydi_base.specs.Reading.{◌>>=◌}
use Rattle.physical_stream.specs.declared.head.Head.{Head}
use Rattle.type_split.specs.Streams.{PlainSplit}
use Rattle.logical_value.specs.Tree.{Tree}
use Rattle.plan_text.specs.declared.plan.Plan.{Plan}
use Rattle.handshake.specs.Rows.{StreamRun}
use Rattle.vhdl_text.specs.Text.{bench_text}
use Rattle.vhdl_text.specs.declared.bench.Bench.{Bench}
use Rattle.port_drive.specs.Drives.{Undriven, drive_of, heads_of}
use Rattle.testbench.specs.Driving.{Driven, driving}

-- the streams with these heads, the transfers of their runs, and the gaps before them
abbrev pub driven_runs : List Head → List StreamRun → List Driven
driven_runs [] runs = []
driven_runs (head ∷ heads) [] = []
driven_runs (head ∷ heads) (run ∷ runs) = record { head = head; transfers = run.transfers; gaps = run.gaps } ∷ driven_runs heads runs

-- the bench that drives the streams of a port by these runs
abbrev pub bench_of_runs : PlainSplit → List StreamRun → Bench
bench_of_runs split runs = driving (driven_runs (heads_of split) runs)

-- the text of the bench of the runs that drive a port, or why it is not driven
abbrev pub bench_text_of : PlainSplit → List (List Tree) → Plan → Result (List ℕ) Undriven
bench_text_of split value plan = drive_of split value plan.streams >>= λ runs. Ok (bench_text (bench_of_runs split runs))

-- a text, unless there is a reason against it
abbrev pub text_unless : Option Undriven → List ℕ → Result (List ℕ) Undriven
text_unless None text = Ok text
text_unless (Some reason) text = Err reason
