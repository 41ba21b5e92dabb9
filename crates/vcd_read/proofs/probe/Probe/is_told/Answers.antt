use Rattle.std.proofs.Common.{◌∙◌, ◌&&◌, true}
use Rattle.signal_layout.specs.declared.signal.Signal.TheVariants as signals
use Rattle.vcd_read.specs.Probes.{number_in, words_before}
use Rattle.vcd_read.proofs.ProbeLemmas.{six-tests, told-is}
use Rattle.vcd_read.proofs.probe.Probe.is_told.Goals as goal

pub returns : goal.returns
unfolding number_in
returns c =
    let words = words_before c.args.wires.now in let self = c.args.self.now in
    let content = c.is_told-content.ensures ∙ told-is words self c.requires signals.Content in
    let last = c.is_told-last.ensures ∙ told-is words self c.requires signals.Last in
    let stai = c.is_told-stai.ensures ∙ told-is words self c.requires signals.Stai in
    let endi = c.is_told-endi.ensures ∙ told-is words self c.requires signals.Endi in
    let strb = c.is_told-strb.ensures ∙ told-is words self c.requires signals.Strb in
    let user = c.is_told-user.ensures ∙ told-is words self c.requires signals.User in
    six-tests c.is_told-content.result c.is_told-last.result c.is_told-stai.result c.is_told-endi.result c.is_told-strb.result c.is_told-user.result
    ∙ (λ i. content i && (last i && (stai i && (endi i && (strb i && (user i && true))))))
