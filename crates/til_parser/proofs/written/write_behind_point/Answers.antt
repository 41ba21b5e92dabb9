use Rattle.std.proofs.Common.{inr, sym, append-nil}
use Rattle.std.proofs.lemmas.Result.{on_ok_weaker}
use Rattle.til_parser.proofs.texts.{NumberTextLemmas.digits_none, WrittenLemmas.point-written}
use Rattle.til_parser.proofs.written.write_behind_point.Goals as goal

pub returns-then-rest-eq0-clause-ok : goal.returns-then-rest-eq0-clause-ok
returns-then-rest-eq0-clause-ok c = rw (digits_none 18 c.args.rest c.args.den (inr c.if-rest-eq0.true)) (sym (append-nil c.args.out.now))

pub returns-clause-ok : goal.returns-clause-ok
returns-clause-ok c = on_ok_weaker c.write_digits.result (point-written _ _ _ _ _ c.if-rest-eq0.false c.in_ok-emit.ensures.ok) c.write_digits.ensures.ok
