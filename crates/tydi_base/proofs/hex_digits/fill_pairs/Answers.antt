use Rattle.std.proofs.Common.{◌-◌, [], refl, arith, sym, take}
use Rattle.std.proofs.lemmas.List.{take_more_set}
use Rattle.tydi_base.proofs.HexBytes.{none_from_pair, none_packed, packed_more}
use Rattle.tydi_base.proofs.hex_digits.fill_pairs.Goals as goal

pub pairs-init : goal.pairs-init
pairs-init c = record { lengths = omega arith; bits = none_packed c.args.digits.now [] refl }

pub returns-in-None : goal.returns-in-None
returns-in-None c = none_from_pair c.args.digits.now (c.pairs.at - 2) (omega arith) (sym c.in-None.ensures)

pub pairs-preserved : goal.pairs-preserved
pairs-preserved c = record {
  lengths = omega arith;
  bits =
      rw (take_more_set c.pairs.bytes c.pairs.filled c.in-Some.byte (omega arith))
      (packed_more c.args.digits.now (take c.pairs.filled c.pairs.bytes) (c.pairs.at - 2) c.pairs.at c.in-Some.byte (omega arith)
      (omega arith) c.pairs.invariant.bits (sym c.in-Some.ensures));
}
