use Rattle.std.proofs.Common.{◌≡◌, suc, ◌-◌, drop, None, sym, ap, subst, arith}
use Rattle.vcd_read.specs.Words.{before_last, or_whole}
use Rattle.vcd_read.proofs.NameLemmas.{before_last-at, before_last-none}
use Rattle.vcd_read.proofs.names.before_last.Goals as goal

pub returns-then-text-left-eq-OPEN_BRACKET : goal.returns-then-text-left-eq-OPEN_BRACKET
unfolding or_whole
returns-then-text-left-eq-OPEN_BRACKET c =
    let text = c.args.text.now in let place = c.bytes.left - 1 in
    let next : c.bytes.left ≡ suc place = omega arith in
    sym (ap (λ found. or_whole found text) (before_last-at 91 text place (omega arith) c.if-text-left-eq-OPEN_BRACKET.true (subst (λ n. before_last 91 (drop
    n text) ≡ None) next c.bytes.invariant.1)))

pub bytes-preserved : goal.bytes-preserved
bytes-preserved c =
    let text = c.args.text.now in let place = c.bytes.left - 1 in
    let next : c.bytes.left ≡ suc place = omega arith in (
      omega arith,
      before_last-none 91 text place (omega arith) c.if-text-left-eq-OPEN_BRACKET.false (subst (λ n. before_last 91 (drop n text) ≡ None) next
          c.bytes.invariant.1),
    )

pub returns : goal.returns
unfolding or_whole
returns c =
    let zero_is : c.bytes.left ≡ 0 = omega arith in
    sym (ap (λ found. or_whole found c.args.text.now) (subst (λ n. before_last 91 (drop n c.args.text.now) ≡ None) zero_is c.bytes.invariant.1))
