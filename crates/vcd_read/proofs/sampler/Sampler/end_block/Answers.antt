use Rattle.std.proofs.Common.{refl}
use Rattle.std.proofs.lemmas.Result.{on_ok_weaker}
use Rattle.vcd_read.proofs.sampler.Sampler.end_block.Goals as goal

pub returns : goal.returns
returns c = on_ok_weaker c.sample.result (λ ends. record { heads = refl; wiring = refl; samples = ends }) c.sample.ensures
