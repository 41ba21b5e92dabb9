use Rattle.std.proofs.Common.{sym, subst}
use Rattle.std.proofs.lemmas.Result.{on_ok_weaker}
use Rattle.vcd_read.specs.Probes.{words_before, words_now}
use Rattle.vcd_read.specs.Sampling.{CanSampleAll, EndsBlock}
use Rattle.vcd_read.specs.declared.sampler.Wiring.{Wiring}
use Rattle.vcd_read.proofs.SamplerLemmas.{ends-none}
use Rattle.vcd_read.proofs.sampler.sample.Goals as goal

pub sample_by-requires : goal.sample_by-requires
sample_by-requires c = subst (λ (w : Wiring). CanSampleAll w (words_before c.args.wires.now)) c.in-Found.is c.requires

pub returns-in-Found : goal.returns-in-Found
returns-in-Found c = on_ok_weaker c.sample_by.result
    (λ ends. subst (λ (w : Wiring). EndsBlock w (words_before c.args.wires.now) (words_now c.args.wires.now) c.args.samples.now c.sample_by.new.samples)
    (sym c.in-Found.is) ends) c.sample_by.ensures

pub returns-in_default : goal.returns-in_default
returns-in_default c = ends-none c.args.wiring.now (words_before c.args.wires.now) (words_now c.args.wires.now) c.args.samples.now c.in_default.not-Found
