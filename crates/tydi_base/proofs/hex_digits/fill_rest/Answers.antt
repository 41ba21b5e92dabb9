use Rattle.std.proofs.Common.{◌≡◌, ◌++◌, ◌-◌, arith, drop, length, length-append}
use Rattle.std.proofs.lemmas.List.{length-drop, length-take}
use Rattle.tydi_base.proofs.HexFilling.{none_from_back, packed_parts}
use Rattle.tydi_base.proofs.hex_digits.fill_rest.Goals as goal

pub returns-then-fill_eight : goal.returns-then-fill_eight
returns-then-fill_eight c =
    let low_long : length c.fill_eight.new.bytes ≡ 4 = omega (arith, c.fill_eight.auto.bytes, length-take 4 c.args.bytes.now)
    in let all = c.fill_eight.new.bytes ++ drop 4 c.args.bytes.now
    in let total : length all ≡ length c.args.bytes.now =
    omega (arith, length-append c.fill_eight.new.bytes (drop 4 c.args.bytes.now), length-drop 4 c.args.bytes.now)
    in let high_long : length c.fill_pairs-then-fill_eight.new.bytes ≡ length c.args.bytes.now - 4 =
    omega (arith, c.fill_pairs-then-fill_eight.auto.bytes, length-take (length all - 4) (drop 4 all), length-drop 4 all)
    in packed_parts c.args.digits.now c.args.bytes.now c.fill_eight.new.bytes c.fill_pairs-then-fill_eight.new.bytes (length c.args.digits.now - 8) 4
    c.fill_pairs-then-fill_eight.result (omega arith) (omega arith) low_long high_long c.if-fill_eight.ensures c.fill_pairs-then-fill_eight.ensures

pub returns-else-fill_eight : goal.returns-else-fill_eight
returns-else-fill_eight c =
    rw c.if-fill_eight.false (none_from_back c.args.digits.now (length c.args.digits.now - 8) c.if-fill_eight.ensures)
