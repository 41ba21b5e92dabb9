use Rattle.std.proofs.Common.{◌∙◌, Bor, option_map, sym, ap}
use Rattle.tydi_base.specs.declared.bits.Bits.{Bits}
use Rattle.std.proofs.lemmas.Result.{IfOk-weaker}
use Rattle.vcd_read.proofs.ProbeLemmas.{known-is, known-none}
use Rattle.vcd_read.proofs.probe.bits_of.Goals as goal

pub returns-in-Some : goal.returns-in-Some
returns-in-Some c = IfOk-weaker c.try_clone.result _ _ (λ copy is. is ∙ known-is _ c.in-Some.bits.now (sym c.seen.ensures
    ∙ ap (option_map {T = Bor Bits} {U = Bits} (λ bits. bits.now)) c.in-Some.is)) c.try_clone.ensures

pub returns-in-None : goal.returns-in-None
returns-in-None c = IfOk-weaker c.zeros.result _ _ (λ bits is. is ∙ known-none _ (sym c.seen.ensures
    ∙ ap (option_map {T = Bor Bits} {U = Bits} (λ bits. bits.now)) c.in-None.is)) c.zeros.ensures
