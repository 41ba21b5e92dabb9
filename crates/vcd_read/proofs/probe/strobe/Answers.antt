use Rattle.std.proofs.Common.{◌∙◌, Bor, option_map, sym, ap}
use Rattle.tydi_base.specs.declared.bits.Bits.{Bits}
use Rattle.vcd_read.proofs.ProbeLemmas.{default-is-none, number-is}
use Rattle.vcd_read.proofs.probe.strobe.Goals as goal

pub returns-in-Some : goal.returns-in-Some
returns-in-Some c = c.number_of.ensures ∙ number-is _ c.in-Some.bits.now c.args.default (sym c.seen.ensures
    ∙ ap (option_map {T = Bor Bits} {U = Bits} (λ bits. bits.now)) c.in-Some.is)

pub returns-in-None : goal.returns-in-None
returns-in-None c = default-is-none _ c.args.default (sym c.seen.ensures ∙ ap (option_map {T = Bor Bits} {U = Bits} (λ bits. bits.now)) c.in-None.is)
