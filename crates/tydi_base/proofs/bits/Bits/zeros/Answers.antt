use Rattle.std.proofs.Common.{◌≡◌, replicate}
use Rattle.tydi_base.proofs.BitsLemmas.{zeros_packed, take-unpack-zeros}
use Rattle.tydi_base.proofs.bits.Bits.zeros.Goals as goal
use Rattle.tydi_base.proofs.bits.Bits.zeros.Goals.{In_ok-bytes}

bytes_are : (c : In_ok-bytes) → c.in_ok-bytes.bytes.items ≡ replicate c.div_ceil.result 0
bytes_are c = c.in_ok-bytes.ensures.items_if_clones_equal (λ y same. same)

pub invariant_of-result : goal.invariant_of-result
invariant_of-result c =
    rw (bytes_are (goal.at.invariant_of-result c).In_ok-bytes) (zeros_packed c.args.width c.div_ceil.result c.div_ceil.ensures)

pub returns : goal.returns
returns c =
    rw (bytes_are (goal.at.returns c).In_ok-bytes) (take-unpack-zeros c.args.width c.div_ceil.result c.div_ceil.ensures)
