use Rattle.std.proofs.Common.{◌≡◌, ◌∙◌, ◌<◌, ◌≤◌, ◌^◌, true, false, nat_le, nat_lt, length, sym, arith}
use Rattle.std.proofs.lemmas.Bool.Decides.{nat_tests}
use Rattle.tydi_base.proofs.LengthLemmas.{below-short}
use Rattle.cycle_trace.specs.RowText.{index_of}
use Rattle.cycle_trace.proofs.row.fields.index_of.Goals as goal

pub returns-then-digits-gt5 : goal.returns-then-digits-gt5
unfolding index_of
returns-then-digits-gt5 c = λ width is. let long = c.if-digits-gt5.true in let past : nat_le (length c.args.digits.now) 5 ≡ false = grind (arith, nat_tests) in rw past

pub returns-in_default : goal.returns-in_default
unfolding index_of
returns-in_default c = λ width is.
    let few = c.if-digits-gt5.false in
    let short : nat_le (length c.args.digits.now) 5 ≡ true = grind (arith, nat_tests) in
    rw (short, sym (below-short c.args.digits.now (omega arith)) ∙ sym c.read_decimal.ensures ∙ c.in_default.is)

pub returns-then-n-from : goal.returns-then-n-from
unfolding index_of
returns-then-n-from c = λ width is.
    let few = c.if-digits-gt5.false in
    let short : nat_le (length c.args.digits.now) 5 ≡ true = grind (arith, nat_tests) in
    let large : 2 ^ width ≤ c.in-Some.n = omega (arith, is, c.if-n-from.true, c.from.ensures) in
    let past : nat_lt c.in-Some.n (2 ^ width) ≡ false = grind (arith, nat_tests) in
    rw (short, sym (below-short c.args.digits.now (omega arith)) ∙ sym c.read_decimal.ensures ∙ c.in-Some.is, past)

pub returns : goal.returns
unfolding index_of
returns c = λ width is.
    let few = c.if-digits-gt5.false in
    let short : nat_le (length c.args.digits.now) 5 ≡ true = grind (arith, nat_tests) in
    let small : c.in-Some.n < 2 ^ width = omega (arith, is, c.if-n-from.false, c.from.ensures) in
    let fits : nat_lt c.in-Some.n (2 ^ width) ≡ true = grind (arith, nat_tests) in
    rw (short, sym (below-short c.args.digits.now (omega arith)) ∙ sym c.read_decimal.ensures ∙ c.in-Some.is, fits)
