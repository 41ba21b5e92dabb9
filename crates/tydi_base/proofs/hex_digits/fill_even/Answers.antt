use Rattle.std.proofs.Common.{◌≡◌, ◌++◌, ◌-◌, ◌*◌, ◌/◌, arith, drop, length, length-append}
use Rattle.std.proofs.lemmas.List.{length-drop, length-take}
use Rattle.tydi_base.proofs.HexFilling.{none_from_back, packed_parts}
use Rattle.tydi_base.proofs.hex_digits.fill_even.Goals as goal

pub returns-then-fill_blocks : goal.returns-then-fill_blocks
returns-then-fill_blocks c =
    let count = length c.args.bytes.now / 8 * 8
    in let low_long : length c.fill_blocks.new.bytes ≡ count = omega (arith, c.fill_blocks.auto.bytes, length-take count c.args.bytes.now)
    in let all = c.fill_blocks.new.bytes ++ drop count c.args.bytes.now
    in let total : length all ≡ length c.args.bytes.now =
    omega (arith, length-append c.fill_blocks.new.bytes (drop count c.args.bytes.now), length-drop count c.args.bytes.now)
    in let high_long : length c.fill_rest.new.bytes ≡ length c.args.bytes.now - count =
    omega (arith, c.fill_rest.auto.bytes, length-take (length all - count) (drop count all), length-drop count all)
    in packed_parts c.args.digits.now c.args.bytes.now c.fill_blocks.new.bytes c.fill_rest.new.bytes (length c.args.digits.now - 2 * count) count
    c.fill_rest.result (omega arith) (omega arith) low_long high_long c.if-fill_blocks.ensures c.fill_rest.ensures

pub returns-else-fill_blocks : goal.returns-else-fill_blocks
returns-else-fill_blocks c =
    rw c.if-fill_blocks.false
    (none_from_back c.args.digits.now (length c.args.digits.now - 2 * (length c.args.bytes.now / 8 * 8)) c.if-fill_blocks.ensures)
