use Rattle.std.proofs.Common.{◌≡◌, ◌∙◌, ◌+◌, ◌-◌, ap, arith, drop, take}
use Rattle.tydi_base.specs.Bits.{unpack}
use Rattle.tydi_base.specs.Hex.{hex_of}
use Rattle.tydi_base.proofs.SpellingLemmas.{spelled_all, spelled_block}
use Rattle.tydi_base.proofs.WritingLemmas.{front_stays}
use Rattle.tydi_base.proofs.hex.write_blocks.Goals as goal

pub sixteens-preserved : goal.sixteens-preserved
sixteens-preserved c =
    let eight : c.sixteens.at - 8 + 8 - (c.sixteens.at - 8) ≡ 8 = omega arith
    in let block : c.block_digits.result ≡ hex_of (unpack (take 8 (drop (c.sixteens.at - 8) c.args.bytes.now))) =
    c.block_digits.ensures ∙ ap (λ count. hex_of (unpack (take count (drop (c.sixteens.at - 8) c.args.bytes.now)))) eight
    in record {
      within = omega arith;
      eights = omega arith;
      front = rw c.in_ok-extend_from_slice.ensures.ok (front_stays c.args.out.now c.sixteens.out _ c.sixteens.invariant.front);
      spelled =
          rw c.in_ok-extend_from_slice.ensures.ok
          (spelled_block c.args.bytes.now c.sixteens.out _ c.block_digits.result c.sixteens.at (omega arith) (omega arith) block
          c.sixteens.invariant.spelled);
    }

pub returns-clause-ok : goal.returns-clause-ok
returns-clause-ok c = spelled_all 8 c.args.bytes.now c.sixteens.out _ c.sixteens.at (omega arith) c.sixteens.invariant.spelled
