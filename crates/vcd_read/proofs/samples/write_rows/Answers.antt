use Rattle.std.proofs.Common.{sym, subst, arith}
use Rattle.vcd_read.specs.Probes.{CanSample, words_before}
use Rattle.vcd_read.proofs.samples.write_rows.Goals as goal

pub makes_row-requires : goal.makes_row-requires
makes_row-requires c =
    let can = subst (CanSample (words_before c.args.wires.now)) (sym c.index-probes-stream.is)
    (c.requires c.streams.stream c.index-probes-stream.result (let t = c.streams-test.true in omega (arith, t))) in can.probed

pub write_row-requires-clause-probed : goal.write_row-requires-clause-probed
write_row-requires-clause-probed c =
    let can = subst (CanSample (words_before c.args.wires.now)) (sym c.index-probes-stream.is)
    (c.requires c.streams.stream c.index-probes-stream.result (let t = c.streams-test.true in omega (arith, t))) in can.probed

pub write_row-requires-clause-fits : goal.write_row-requires-clause-fits
write_row-requires-clause-fits c =
    let can = subst (CanSample (words_before c.args.wires.now)) (sym c.index-probes-stream.is)
    (c.requires c.streams.stream c.index-probes-stream.result (let t = c.streams-test.true in omega (arith, t))) in can.fits
