use Rattle.std.proofs.Common.{◌∙◌, Bor, option_map, sym, ap}
use Rattle.tydi_base.specs.declared.bits.Bits.{Bits}
use Rattle.vcd_read.proofs.ProbeLemmas.{high-is, high-none}
use Rattle.vcd_read.proofs.probe.is_high.Goals as goal

pub returns-in-Some : goal.returns-in-Some
returns-in-Some c = c.is_one.ensures ∙ high-is _ c.in-Some.bits.now (sym c.seen.ensures ∙ ap (option_map {T = Bor Bits} {U = Bits} (λ bits. bits.now))
    c.in-Some.is)

pub returns-in-None : goal.returns-in-None
returns-in-None c = high-none _ (sym c.seen.ensures ∙ ap (option_map {T = Bor Bits} {U = Bits} (λ bits. bits.now)) c.in-None.is)
