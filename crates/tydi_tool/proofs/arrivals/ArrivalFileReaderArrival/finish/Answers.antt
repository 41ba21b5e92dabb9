use Rattle.cycle_trace.specs.TraceText.{trace_of}
use Rattle.tydi_tool.specs.Arrivals.{ends_of}
use Rattle.tydi_tool.proofs.ArrivalLemmas.{HasRows-finished, ReadsAs-arrived, ends-finished}
use Rattle.tydi_tool.proofs.arrivals.ArrivalFileReaderArrival.finish.Goals as goal

pub arrival_of-requires : goal.arrival_of-requires
arrival_of-requires c =
    let sink = c.args.self.reader.sink in (
      ends_of sink,
      HasRows-finished (ends_of sink) c.finish.result (trace_of c.requires.stands.0) (ends-finished sink c.finish.result c.finish.ensures.setting)
          (c.finish.ensures.finishes c.requires.stands.0 c.requires.stands.1),
    )

pub returns : goal.returns
returns c =
    let sink = c.args.self.reader.sink in
    ReadsAs-arrived c.args.self c.finish.result c.arrival_of.result c.requires.stands c.finish.ensures.finishes
    (λ bytes finishes. c.arrival_of.ensures (ends_of sink) bytes (HasRows-finished (ends_of sink) c.finish.result (trace_of bytes)
    (ends-finished sink c.finish.result c.finish.ensures.setting) finishes) finishes)
