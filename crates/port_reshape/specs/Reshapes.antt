-- The text of the trace at the far side of a port that is reshaped (this project's own).
use Rattle.std.specs.Prelude.{ℕ, ◌==◌, if◌then◌else◌, List, [], ◌∷◌, length, Result, Ok, Err}
use Rattle.tydi_base.specs.Level.{LevelNumbers}
use Rattle.tydi_base.specs.Reading.{◌>>=◌}
use Rattle.physical_stream.specs.Cycles.{Cycle}
use Rattle.physical_stream.specs.Params.{Parameters}
use Rattle.physical_stream.specs.declared.item.Item.{Item}
use Rattle.cycle_trace.specs.Trace.{TraceText}
use Rattle.type_split.specs.Streams.{PlainSplit}
use Rattle.type_split.specs.declared.split.Phys.{Phys}
use Rattle.logical_value.specs.Tree.{Tree}
use Rattle.plan_text.specs.declared.plan.Plan.{Plan}
use Rattle.plan_text.specs.declared.plan.StreamPlan.{StreamPlan}
use Rattle.handshake.specs.Rows.{StreamRun}
use Rattle.reshape.specs.Reshaping.{far_of, undone_far}
use Rattle.port_drive.specs.Drives.{CountNotMultiple, NotFinished, Undriven, heads_of, is_multiple, items_on, run_unless}
use Rattle.port_drive.specs.Text.{written_text}
use Rattle.port_reshape.specs.Far.{far_params, far_split}

-- ---- one stream

-- the run of the source, whose items the lanes of the near side divide, and then those of the far side, where each transfer has an element in every lane
abbrev pub source_of : (from to : Parameters) → List Item → StreamPlan → Result StreamRun Undriven
source_of from to items plan = run_unless 0 from items plan >>= λ source. if is_multiple to items then Ok source else Err (CountNotMultiple 0 (length items) to.lanes)

-- the cycles of the far side, where no far transfer is left when the ready bits are over
abbrev pub far_unless : Parameters → StreamRun → Result (List Cycle) Undriven
far_unless to source =
    if undone_far source.params to source.transfers source.gaps source.ready == 0 then Ok (far_of source.params to source.transfers source.gaps source.ready)
    else Err (NotFinished 0 (undone_far source.params to source.transfers source.gaps source.ready))

-- the cycles of the far side for the items of a stream; a plan's ready bits are those of the far side, and all else of it is for the source
abbrev pub reshape_items : (from to : Parameters) → List Item → StreamPlan → Result (List Cycle) Undriven
reshape_items from to items plan = source_of from to items plan >>= far_unless to

-- ---- a port

-- the cycles of the far side of the one stream of a port
abbrev pub reshape_streams : PlainSplit → List (List Tree) → ℕ → LevelNumbers → List Phys → List StreamPlan → Result (List Cycle) Undriven
reshape_streams split value lanes level (stream ∷ streams) (plan ∷ plans) = reshape_items stream.params (far_params lanes level stream.params) (items_on split value 0 stream) plan
reshape_streams split value lanes level [] plans = Ok []
reshape_streams split value lanes level streams [] = Ok []

-- the trace of these cycles of the far side
abbrev pub far_trace : PlainSplit → ℕ → LevelNumbers → ℕ → List Cycle → TraceText
far_trace split lanes level cycles rows = record { cycles = cycles; heads = heads_of (far_split split lanes level); rows = rows }

-- the text of the trace at the far side of a port, or why there is none
abbrev pub reshape_text : PlainSplit → List (List Tree) → Plan → ℕ → LevelNumbers → Result (List ℕ) Undriven
reshape_text split value plan lanes level =
    reshape_streams split value lanes level split.streams plan.streams >>= λ rows. Ok (written_text (far_trace split lanes level plan.cycles rows))
