use Rattle.std.proofs.Common.{◌∙◌, is_some, sym, ap}
use Rattle.vcd_read.specs.Probes.{is_told_by, words_before}
use Rattle.vcd_read.proofs.ProbeLemmas.{some-map}
use Rattle.vcd_read.proofs.probe.is_told.Goals as goal

pub returns-in-Some : goal.returns-in-Some
returns-in-Some c = c.is_some.ensures ∙ some-map _ c.before-in-Some.result ∙ ap is_some c.before-in-Some.ensures
    ∙ sym (ap (is_told_by (words_before c.args.wires.now)) c.in-Some.is)

pub returns-in-None : goal.returns-in-None
returns-in-None c = sym (ap (is_told_by (words_before c.args.wires.now)) c.in-None.is)
