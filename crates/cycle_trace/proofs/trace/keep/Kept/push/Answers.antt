use Rattle.std.proofs.Common.{◌∙◌, List, Option, ap}
use Rattle.physical_stream.specs.Cycles.{Cycle, cycle_in}
use Rattle.physical_stream.specs.declared.transfer.Transfer.{Transfer}
use Rattle.tydi_base.proofs.TestLemmas.{on_ok}
use Rattle.cycle_trace.specs.Trace.{text_of}
use Rattle.cycle_trace.specs.declared.trace.OwnRow.{OwnRow}
use Rattle.cycle_trace.proofs.KeepLemmas.{IsBegun-more, text_of-more}
use Rattle.cycle_trace.proofs.trace.keep.Kept.push.Goals as goal

pub returns : goal.returns
returns c t stands can =
    on_ok c.push.result _ _
    (λ added. record {
      begun = IsBegun-more t (cycle_in c.args.row) stands.begun can;
      same =
          ap (λ (rows : List OwnRow). text_of c.args.self.now.header rows) added
          ∙ text_of-more c.args.self.now.header c.args.self.now.rows _ t (cycle_in c.args.row) stands.same
          (ap (λ (shown : Option Transfer). let cycle : Cycle = record { ready = c.args.row.ready; shown = shown } in cycle) c.in_ok-shown.ensures);
    }) c.push.ensures.ok
