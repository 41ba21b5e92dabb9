use Rattle.std.proofs.Common.{inl, inr, arith}
use Rattle.til_parser.proofs.texts.WrittenLemmas.{digit-written, digits-written}
use Rattle.tydi_base.proofs.WritingLemmas.{front_stays}
use Rattle.til_parser.proofs.written.write_digits.Goals as goal

pub digits-preserved : goal.digits-preserved
digits-preserved c = record {
  written = digit-written _ _ _ c.digits.counter c.digits.rest c.args.den _ _ c.digits-test.true c.if-rest-eq0.false
      c.in_ok-push.ensures.ok c.next_digit-digit.ensures.digit c.next_digit-digit.ensures.left c.digits.invariant.written;
  front = rw c.in_ok-push.ensures.ok (front_stays c.args.out.now c.digits.out _ c.digits.invariant.front);
  smaller = c.next_digit-digit.ensures.smaller;
}

pub returns-after-digits-clause-ok : goal.returns-after-digits-clause-ok
returns-after-digits-clause-ok c = digits-written _ _ _ c.digits.rest c.args.den (inl (omega (arith, c.digits-test.false))) c.digits.invariant.written

pub returns-then-rest-eq0-clause-ok : goal.returns-then-rest-eq0-clause-ok
returns-then-rest-eq0-clause-ok c = digits-written _ _ _ c.digits.rest c.args.den (inr c.if-rest-eq0.true) c.digits.invariant.written
