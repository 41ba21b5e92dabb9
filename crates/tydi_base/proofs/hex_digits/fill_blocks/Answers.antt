use Rattle.std.proofs.Common.{◌≡◌, ◌+◌, ◌-◌, ◌∙◌, [], Some, refl, ap, arith, drop, length, sym, take}
use Rattle.std.proofs.lemmas.List.{length-drop, length-take}
use Rattle.std.proofs.lemmas.Slice.{take-put_mid}
use Rattle.tydi_base.specs.Bits.{unpack}
use Rattle.tydi_base.specs.Hex.{bits_of_digits}
use Rattle.tydi_base.proofs.HexBytes.{none_packed}
use Rattle.tydi_base.proofs.HexFilling.{none_from_block, packed_block, first_sixteen}
use Rattle.tydi_base.proofs.hex_digits.fill_blocks.Goals as goal

pub sixteens-init : goal.sixteens-init
sixteens-init c = record { whole = c.requires.whole; lengths = omega arith; bits = none_packed c.args.digits.now [] refl }

pub returns-in-None : goal.returns-in-None
returns-in-None c =
    none_from_block c.args.digits.now (c.sixteens.at - 16)
    (sym (ap bits_of_digits (first_sixteen c.args.digits.now (c.sixteens.at - 16))) ∙ c.in-None.ensures)

pub sixteens-preserved : goal.sixteens-preserved
sixteens-preserved c =
    let long : length c.copy_from_slice.new.self ≡ 8 =
    omega (arith, c.copy_from_slice.auto.self, length-take (c.sixteens.filled + 8 - c.sixteens.filled) (drop c.sixteens.filled c.sixteens.bytes), length-drop c.sixteens.filled c.sixteens.bytes)
    in let block : bits_of_digits (take 16 (drop (c.sixteens.at - 16) c.args.digits.now)) ≡ Some (unpack c.copy_from_slice.new.self) =
    sym (ap bits_of_digits (first_sixteen c.args.digits.now (c.sixteens.at - 16)))
    ∙ c.in-Some.ensures
    ∙ ap (λ bytes. Some (unpack bytes)) (sym c.copy_from_slice.ensures.after)
    in record {
      whole = omega arith;
      lengths = omega arith;
      bits =
          rw (take-put_mid c.sixteens.filled (c.sixteens.filled + 8 - c.sixteens.filled) c.sixteens.bytes c.copy_from_slice.new.self (c.sixteens.filled + 8) (omega arith) (omega arith))
          (packed_block c.args.digits.now (take c.sixteens.filled c.sixteens.bytes) c.copy_from_slice.new.self (c.sixteens.at - 16) c.sixteens.at
          (omega arith) (omega arith) c.sixteens.invariant.bits block);
    }
