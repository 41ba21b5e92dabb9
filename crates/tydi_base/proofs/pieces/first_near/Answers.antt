use Rattle.std.proofs.Common.{arith, w64}
use Rattle.std.proofs.lemmas.Bool.{eq-eqb, eqb-true}
use Rattle.std.proofs.lemmas.Nat.Bits.{bit_at-trailing_zeros}
use Rattle.tydi_base.proofs.pieces.first_near.Goals as goal

pub returns : goal.returns
returns c =
    let marks = c.marks_in-marks.result in
    let first = bit_at-trailing_zeros w64 marks (omega (arith, c.if-marks-eq0.false)) (omega arith) in
    let here = (c.marks_in-marks.ensures _).0 first.1 in (
      record {
        low = omega arith;
        high = omega (arith, here.0, c.if-text-lt32.false);
        before = λ k from lt passes. let one = (c.marks_in-marks.ensures k).1 (omega (arith, lt, here.0), eqb-true _ _ passes) in omega (arith, one, first.2 k lt);
      },
      eq-eqb _ _ here.1,
    )
