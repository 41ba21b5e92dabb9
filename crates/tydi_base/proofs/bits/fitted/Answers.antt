use Rattle.std.proofs.Common.{◌≡◌, true, false, drop, sym}
use Rattle.std.proofs.lemmas.Bool.{not-true, not-false}
use Rattle.tydi_base.specs.Bits.{unpack}
use Rattle.tydi_base.specs.Hex.{no_ones}
use Rattle.tydi_base.proofs.HexBytes.{fitted-none, fitted-some, packed_fitted}
use Rattle.tydi_base.proofs.bits.fitted.Goals as goal
use Rattle.tydi_base.proofs.bits.fitted.Goals.{Else-has_ones_from}

no_ones_above : (c : Else-has_ones_from) → no_ones (drop c.args.width (unpack c.args.bytes.items)) ≡ true
no_ones_above c = rw (← c.as_slice.ensures) (not-false _ (sym c.if-has_ones_from.ensures))

pub invariant_of-result : goal.invariant_of-result
invariant_of-result c = packed_fitted c.args.width c.args.bytes.items c.requires (no_ones_above c)

pub returns-then-has_ones_from : goal.returns-then-has_ones_from
returns-then-has_ones_from c =
    let some : no_ones (drop c.args.width (unpack c.args.bytes.items)) ≡ false =
    rw (← c.as_slice.ensures) (not-true _ (sym c.if-has_ones_from.ensures))
    in sym (fitted-none c.args.width (unpack c.args.bytes.items) some)

pub returns-else-has_ones_from : goal.returns-else-has_ones_from
returns-else-has_ones_from c = sym (fitted-some c.args.width (unpack c.args.bytes.items) (no_ones_above c))
