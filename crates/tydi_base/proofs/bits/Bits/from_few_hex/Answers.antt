use Rattle.std.proofs.Common.{◌≡◌, ◌∙◌, ◌++◌, ◌-◌, ◌*◌, ap, length, refl}
use Rattle.tydi_base.specs.Bits.{unpack, zero_bits}
use Rattle.tydi_base.specs.HexWords.{hex_bits}
use Rattle.tydi_base.proofs.BitsLemmas.{refill_whole}
use Rattle.tydi_base.proofs.HexPacking.{few_hex_word}
use Rattle.tydi_base.proofs.bits.Bits.from_few_hex.Goals as goal

pub returns : goal.returns
returns c =
    let value = c.as_mut_slice.ensures.value
    in let same : length c.fill_low.new.bytes ≡ length c.in_ok-bytes.bytes.items = c.fill_low.auto.bytes ∙ ap length value
    in let long : length c.fill_low.new.bytes ≡ c.div_ceil.result = same ∙ c.in_ok-bytes.ensures.len
    in let filled : unpack c.fill_low.new.bytes
    ≡ hex_bits c.args.digits.now ++ zero_bits (8 * c.div_ceil.result - 4 * length c.args.digits.now) =
    c.if-not-fill_low.ensures.bits (hex_bits c.args.digits.now) (c.if-not-fill_low.ensures.digits refl)
    ∙ ap (λ count. hex_bits c.args.digits.now ++ zero_bits (8 * count - 4 * length c.args.digits.now)) (ap length value ∙ c.in_ok-bytes.ensures.len)
    in rw (c.fitted.ensures, refill_whole c.in_ok-bytes.bytes.items c.fill_low.new.bytes same)
    (few_hex_word c.args.width c.div_ceil.result c.args.digits.now c.fill_low.new.bytes c.requires c.div_ceil.ensures long
    (c.if-not-fill_low.ensures.digits refl) filled)
