use Rattle.std.proofs.Common.{◌∙◌, sym}
use Rattle.vcd_read.proofs.ProbeLemmas.{no-one}
use Rattle.vcd_read.proofs.probe.is_one.Goals as goal

pub returns-then-len-eq0 : goal.returns-then-len-eq0
returns-then-len-eq0 c = no-one c.args.bits.now (sym c.len.ensures ∙ c.if-len-eq0.true)
