-- The numbers of short words.
use Rattle.std.proofs.Common.{◌≡◌, ◌<◌, ◌≤◌, ◌^◌, Bool, if◌then◌else◌, List, length, Some, None, ap, arith}
use Rattle.std.proofs.Math.Pow.{pow_mono}
use Rattle.std.proofs.lemmas.List.{drop_all}
use Rattle.tydi_base.specs.Hex.{no_ones}
use Rattle.tydi_base.specs.Bits.{number_of_bits}
use Rattle.tydi_base.specs.Numbers.{number_below}
use Rattle.tydi_base.proofs.BitsLemmas.{number_of_bits-below}

-- ---- short words

pub number-short : (bits : List Bool) → length bits ≤ 128 → number_below 128 bits ≡ Some (number_of_bits bits)
unfolding number_below no_ones
number-short bits long = ap (λ (l : List Bool). if no_ones l then Some (number_of_bits bits) else None) (drop_all 128 bits long)

pub index-short : (bits : List Bool) → length bits ≤ 16 → number_of_bits bits < 65536
index-short bits long =
    let less : number_of_bits bits < 2 ^ length bits = number_of_bits-below bits in
    let most : 2 ^ length bits ≤ 2 ^ 16 = pow_mono long in
    omega (arith, less, most)
