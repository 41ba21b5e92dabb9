use Rattle.std.proofs.Common.{◌∙◌, ◌&&◌, ◌||◌, not}
use Rattle.signal_layout.specs.declared.signal.Signal.TheVariants as signals
use Rattle.vcd_read.specs.Probes.{number_in, words_before}
use Rattle.vcd_read.proofs.ProbeLemmas.{told-is}
use Rattle.vcd_read.proofs.probe.Probe.makes_row.Goals as goal

pub returns : goal.returns
unfolding number_in
returns c =
    let words = words_before c.args.wires.now in let self = c.args.self.now in
    let valid = c.is_told-valid.ensures ∙ told-is words self c.requires signals.Valid in
    let ready = c.is_told-ready.ensures ∙ told-is words self c.requires signals.Ready in
    λ i. valid i && (ready i && (not (c.is_high-high.ensures i) || c.is_told-payload.ensures i))
