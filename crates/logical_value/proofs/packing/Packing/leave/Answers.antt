use Rattle.std.proofs.Common.{false, refl, arith}
use Rattle.std.proofs.lemmas.List.{length-replicate}
use Rattle.tydi_base.specs.Bits.{zero_bits}
use Rattle.logical_value.proofs.PackingLemmas.{Puts-zeros, Puts-no_room}
use Rattle.logical_value.proofs.packing.Packing.leave.Goals as goal

pub returns-in-Some : goal.returns-in-Some
returns-in-Some c =
    Puts-zeros c.args.self.now (record { alloc = c.args.self.now.alloc; bits = c.args.self.now.bits; offset = c.in-Some.end }) c.args.count refl c.in-Some.ensures.end

pub returns-in_default : goal.returns-in_default
returns-in_default c =
    Puts-no_room c.args.self.now c.args.self.now (zero_bits c.args.count) c.args.count c.end_of.result (length-replicate c.args.count false) c.in_default.is
    (λ within. c.end_of.ensures.some (omega (arith, within, c.len.ensures)))
