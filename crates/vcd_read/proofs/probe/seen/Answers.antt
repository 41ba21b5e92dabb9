use Rattle.std.proofs.Common.{◌∙◌, sym, ap}
use Rattle.vcd_read.specs.Probes.{word_by, words_before}
use Rattle.vcd_read.proofs.probe.seen.Goals as goal

pub returns-in-Some : goal.returns-in-Some
unfolding word_by
returns-in-Some c = c.before-in-Some.ensures ∙ sym (ap (word_by (words_before c.args.wires.now)) c.in-Some.is)

pub returns-in-None : goal.returns-in-None
unfolding word_by
returns-in-None c = sym (ap (word_by (words_before c.args.wires.now)) c.in-None.is)
