use Rattle.std.proofs.Common.{◌≡◌, ◌/◌, arith, length, set, sym}
use Rattle.std.proofs.Math.ListN.{length-set}
use Rattle.std.proofs.lemmas.List.{length-take}
use Rattle.tydi_base.proofs.HexBytes.{none_from_first, whole_by_even, whole_by_odd}
use Rattle.tydi_base.proofs.hex_digits.fill_bytes.Goals as goal

pub returns-then-digits-eq0 : goal.returns-then-digits-eq0
returns-then-digits-eq0 c =
    whole_by_even c.args.digits.now c.fill_even.new.bytes c.fill_even.result (omega arith) c.fill_even.ensures

pub returns-in-Some : goal.returns-in-Some
returns-in-Some c =
    let half = length c.args.digits.now / 2
    in let long : half ≡ length c.fill_even-in-Some.new.bytes =
    omega (arith, c.fill_even-in-Some.auto.bytes, length-take half (set c.args.bytes.now half c.in-Some.value), length-set c.args.bytes.now half c.in-Some.value)
    in whole_by_odd c.args.digits.now c.fill_even-in-Some.new.bytes c.args.bytes.now half c.in-Some.value c.fill_even-in-Some.result
    long (omega arith) (omega arith) (sym c.in-Some.ensures.value) c.fill_even-in-Some.ensures

pub returns-in-None : goal.returns-in-None
returns-in-None c = none_from_first c.args.digits.now (omega arith) (sym c.in-None.ensures.value)
