-- A value and a plan drive each physical stream of a port through a chain of stages (this project's own).
use Rattle.std.specs.Prelude.{◌≡◌, ℕ, ◌&&◌, Bool, false, nat_lt, List, slice_get, Option, Some, None, Result, Ok, Err}
use Rattle.tydi_base.specs.Level.{number_of}
use Rattle.tydi_base.specs.Reading.{◌>>=◌}
use Rattle.physical_stream.specs.Params.{Parameters}
use Rattle.cycle_trace.specs.Trace.{TraceText}
use Rattle.logical_value.specs.Tree.{Tree}
use Rattle.type_split.specs.Streams.{PlainSplit}
use Rattle.type_split.specs.declared.split.Phys.{Phys}
use Rattle.plan_text.specs.declared.plan.Plan.{Plan}
use Rattle.plan_text.specs.declared.plan.StreamPlan.{StreamPlan}
use Rattle.net_text.specs.declared.net.NetPlan.{NetPlan}
use Rattle.handshake.specs.Rows.{StreamRun}
use Rattle.elastic_net.specs.Nets.{ChainRun, chains_of, left_of_chains, sink_rows}
use Rattle.port_drive.specs.Drives.{Undriven, heads_of, runs_of}
use Rattle.port_drive.specs.Finishing.{unfinished_from}
use Rattle.port_drive.specs.Text.{written_text}

-- ---- streams that may pause

-- a stage may hold back a transfer where the stream may not pause: the stream has a dimension, and the first number of its level is below 3
abbrev pub is_low : Parameters → Bool
is_low p = nat_lt 0 p.dims && nat_lt (number_of p.level) 3

-- no stream is such
abbrev pub AreHigh : List Phys → Type 0
AreHigh streams = (number : ℕ) (stream : Phys) → slice_get streams number ≡ Some stream → is_low stream.params ≡ false

-- ---- the chains of a port

-- the chains of these runs, with the stages and orders of a net
abbrev pub chains_on : List StreamRun → NetPlan → List ChainRun
chains_on runs net = chains_of runs net.stages net.orders

-- these chains, or why the port is not driven
abbrev pub unless_left : List ChainRun → Option Undriven → Result (List ChainRun) Undriven
unless_left chains None = Ok chains
unless_left chains (Some reason) = Err reason

-- the chains whose transfers all come to their sinks; or the first stream whose lanes do not divide its items, or else the first stream of
-- which transfers are left
abbrev pub elastic_of : PlainSplit → List (List Tree) → List StreamPlan → NetPlan → Result (List ChainRun) Undriven
elastic_of split value plans net =
    runs_of split value plans >>= λ runs. unless_left (chains_on runs net) (unfinished_from 0 (left_of_chains (chains_on runs net)))

-- ---- the trace

-- the trace of the rows at the sinks of these chains, over so many cycles
abbrev pub trace_of_chains : PlainSplit → ℕ → List ChainRun → TraceText
trace_of_chains split cycles chains = record { cycles = cycles; heads = heads_of split; rows = sink_rows chains 0 cycles }

-- the text of that trace, or why the port is not driven
abbrev pub elastic_text : PlainSplit → List (List Tree) → Plan → NetPlan → Result (List ℕ) Undriven
elastic_text split value plan net = elastic_of split value plan.streams net >>= λ chains. Ok (written_text (trace_of_chains split plan.cycles chains))
