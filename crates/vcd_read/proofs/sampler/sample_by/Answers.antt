use Rattle.std.proofs.Common.{◌∙◌, Bool, List, refl, sym, subst}
use Rattle.std.proofs.lemmas.Result.{on_ok_weaker}
use Rattle.vcd_read.specs.Probes.{words_before}
use Rattle.vcd_read.specs.Samples.{AddsEdge}
use Rattle.vcd_read.specs.Sampling.{EndsIf}
use Rattle.vcd_read.specs.declared.probe.Probe.{Probe}
use Rattle.vcd_read.proofs.sampler.sample_by.Goals as goal

pub returns-then-rises : goal.returns-then-rises
returns-then-rises c = on_ok_weaker c.add.result
    (λ adds. subst (λ (b : Bool). EndsIf b (words_before c.args.wires.now) c.args.harness.now c.args.samples.now c.add.new.self)
    (sym (sym c.rises.ensures ∙ c.if-rises.true))
    (subst (λ (l : List Probe). AddsEdge (words_before c.args.wires.now) l c.args.samples.now c.add.new.self) c.as_slice.ensures adds)) c.add.ensures

pub returns-else-rises : goal.returns-else-rises
returns-else-rises c = subst (λ (b : Bool). EndsIf b (words_before c.args.wires.now) c.args.harness.now c.args.samples.now c.args.samples.now)
    (sym (sym c.rises.ensures ∙ c.if-rises.false)) refl
