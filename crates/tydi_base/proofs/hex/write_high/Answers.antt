use Rattle.std.proofs.Common.{◌≡◌, ◌+◌, ◌-◌, arith}
use Rattle.tydi_base.proofs.SpellingLemmas.{spelled_high, spelled_more}
use Rattle.tydi_base.proofs.WritingLemmas.{front_stays}
use Rattle.tydi_base.proofs.hex.write_high.Goals as goal

pub digits-preserved : goal.digits-preserved
digits-preserved c =
    let place : c.digits.at - 1 + 1 ≡ c.digits.at = omega arith
    in record {
      within = omega arith;
      above = omega arith;
      front = rw c.in_ok-push.ensures.ok (front_stays c.args.out.now c.digits.out _ c.digits.invariant.front);
      spelled =
          rw (c.in_ok-push.ensures.ok, c.hex_digit.ensures)
          (spelled_more c.args.bytes.now c.digits.out _ (c.digits.at - 1) c.four_bits.result (omega arith) c.four_bits.ensures.bits
          c.four_bits.ensures.below (rw place c.digits.invariant.spelled));
    }

pub returns-clause-ok : goal.returns-clause-ok
returns-clause-ok c = spelled_high c.args.bytes.now c.digits.out _ c.digits.at c.args.low (omega arith) c.digits.invariant.spelled
