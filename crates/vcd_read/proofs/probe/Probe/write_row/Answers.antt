use Rattle.std.proofs.Common.{◌++◌, sym, subst}
use Rattle.std.proofs.lemmas.Result.{on_ok_weaker}
use Rattle.cycle_trace.specs.Spelling.{row_text}
use Rattle.physical_stream.specs.Cycles.{Cycle}
use Rattle.physical_stream.specs.Signals.{Shows}
use Rattle.vcd_read.specs.Kept.{IsKept}
use Rattle.vcd_read.specs.Probes.{number_in, sample_by, words_before}
use Rattle.vcd_read.proofs.ProbeLemmas.{payload-told, row-none, row-shown, transfer-shows}
use Rattle.vcd_read.proofs.probe.Probe.write_row.Goals as goal

pub returns-then-not-is_high : goal.returns-then-not-is_high
unfolding number_in
returns-then-not-is_high c =
    let self = c.args.self.now in let sample = sample_by (words_before c.args.wires.now) self in
    on_ok_weaker c.write.result (λ writes text kept. subst (λ (row : Cycle). IsKept c.write.new.self (text ++ row_text self.params row))
    (row-none self.params sample c.is_high-ready.result c.is_high.result c.is_high.ensures c.if-not-is_high.true c.is_high-ready.ensures)
    (writes text kept)) c.write.ensures

pub transfer-requires-clause-told : goal.transfer-requires-clause-told
unfolding number_in
transfer-requires-clause-told c =
    let self = c.args.self.now in let sample = sample_by (words_before c.args.wires.now) self in
    payload-told self.params sample c.is_high.result c.requires.makes c.is_high.ensures c.if-not-is_high.false

pub write-requires-2 : goal.write-requires-2
unfolding number_in
write-requires-2 c =
    let self = c.args.self.now in let sample = sample_by (words_before c.args.wires.now) self in
    subst (Shows self.params) (sym c.in_ok-transfer.ensures)
    (transfer-shows self.params sample c.requires.fits (payload-told self.params sample c.is_high.result c.requires.makes c.is_high.ensures
    c.if-not-is_high.false))

pub returns : goal.returns
unfolding number_in
returns c =
    let self = c.args.self.now in let sample = sample_by (words_before c.args.wires.now) self in
    on_ok_weaker c.write-2.result (λ writes text kept. subst (λ (row : Cycle). IsKept c.write-2.new.self (text ++ row_text self.params row))
    (row-shown self.params sample c.is_high-ready.result c.is_high.result c.in_ok-transfer.transfer c.is_high.ensures c.if-not-is_high.false
    c.in_ok-transfer.ensures c.is_high-ready.ensures) (writes text kept)) c.write-2.ensures
