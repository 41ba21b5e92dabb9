use Rattle.std.proofs.Common.{◌≡◌, ◌∙◌, ◌-◌, ap, arith, length}
use Rattle.std.proofs.lemmas.List.{take_rest}
use Rattle.tydi_base.specs.HexWords.{hex_bits}
use Rattle.tydi_base.proofs.BitsLemmas.{refill_whole}
use Rattle.tydi_base.proofs.HexPacking.{Packing, packing, packing_bits, packing_packed}
use Rattle.tydi_base.proofs.hex_word.packed_digits.Goals as goal
use Rattle.tydi_base.proofs.hex_word.packed_digits.Goals.{After-fill_low}

same : (c : After-fill_low) → length c.fill_low.new.bytes ≡ length c.in_ok-bytes.bytes.items
same c = c.fill_low.auto.bytes ∙ ap length c.as_mut_slice.ensures.value

packs : (c : After-fill_low)
    → Packing c.args.width c.min-used.result c.div_ceil-count.result c.args.digits.now c.fill_low.new.bytes (hex_bits c.args.digits.now)
packs c =
    packing c.args.width c.min-used.result c.div_ceil-count.result (length c.as_mut_slice.result.now) c.args.digits.now _
    c.fill_low.new.bytes (hex_bits c.args.digits.now) (omega arith) c.div_ceil-count.ensures c.requires.digits
    (take_rest c.args.digits.now (length c.args.digits.now - c.min-used.result)) c.fill_low.ensures.bits c.fill_low.auto.bytes
    (ap length c.as_mut_slice.ensures.value ∙ c.in_ok-bytes.ensures.len)

pub returns-clause-packed : goal.returns-clause-packed
returns-clause-packed c =
    rw (refill_whole c.in_ok-bytes.bytes.items c.fill_low.new.bytes (same (goal.at.returns-clause-packed c).After-fill_low))
    (packing_packed c.args.width c.min-used.result c.div_ceil-count.result c.args.digits.now c.fill_low.new.bytes _
    (packs (goal.at.returns-clause-packed c).After-fill_low) c.requires.high)

pub returns-clause-bits : goal.returns-clause-bits
returns-clause-bits c =
    rw (refill_whole c.in_ok-bytes.bytes.items c.fill_low.new.bytes (same (goal.at.returns-clause-bits c).After-fill_low))
    (packing_bits c.args.width c.min-used.result c.div_ceil-count.result c.args.digits.now c.fill_low.new.bytes _
    (packs (goal.at.returns-clause-bits c).After-fill_low))
