use Rattle.logical_value.specs.Tree.{plain_port}
use Rattle.port_drive.specs.Laws.{trace_of}
use Rattle.port_drive.specs.PortText.{text_left}
use Rattle.port_drive.specs.Text.{drive_text, written_text}
use Rattle.type_split.specs.Streams.{plain_split}
use Rattle.tydi_tool.proofs.DriveLemmas.{made-refused, made-told, undriven-within}
use Rattle.tydi_tool.proofs.driving.driven_trace.Goals as goal

pub undriven-requires : goal.undriven-requires
undriven-requires c =
    undriven-within (plain_split c.args.split.now) (plain_port c.args.value.now) c.args.plan (λ runs. written_text (trace_of (plain_split c.args.split.now) c.args.plan.cycles runs)) c.in-Err.fault
    c.in-Err.ensures.text

pub returns-in-Ok : goal.returns-in-Ok
returns-in-Ok c =
    made-told (plain_split c.args.split.now) (drive_text (plain_split c.args.split.now) (plain_port c.args.value.now) c.args.plan) c.traced.result (text_left c.in-Ok.trace.pieces) c.in-Ok.ensures.text
    c.traced.ensures

pub returns-in-Err : goal.returns-in-Err
returns-in-Err c =
    made-refused (plain_split c.args.split.now) (drive_text (plain_split c.args.split.now) (plain_port c.args.value.now) c.args.plan) c.undriven.result c.in-Err.fault c.in-Err.ensures.text c.undriven.ensures
