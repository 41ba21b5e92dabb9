use Rattle.std.proofs.Common.{[], arith}
use Rattle.std.proofs.lemmas.Result.{err_from_is_err_and}
use Rattle.vhdl_text.proofs.BenchReading.{heads_from-some}
use Rattle.vhdl_text.proofs.WholeLemmas.{bench_from-body, bench_from-heads, bench_from-title}
use Rattle.vhdl_text.proofs.reading.bench_from.Goals as goal

pub returns-in_err-expect_line : goal.returns-in_err-expect_line
returns-in_err-expect_line c =
    let p = err_from_is_err_and c.from_residual.result c.from_residual.ensures.1 in
    rw (p.1, p.2) (λ other. bench_from-title c.args.lines.now c.expect_line.new.lines c.in_err-expect_line.field-0.0 c.in_err-expect_line.ensures.1)

pub returns-in_err-heads : goal.returns-in_err-heads
returns-in_err-heads c =
    let p = err_from_is_err_and c.from_residual-in_err-heads.result c.from_residual-in_err-heads.ensures.1 in
    rw (p.1, p.2) (λ other. bench_from-heads c.args.lines.now c.expect_line.new.lines c.read_heads.new.lines tt c.in_err-heads.field-0.0 c.in_ok-expect_line.ensures (c.in_err-heads.ensures other))

pub body_of-requires-clause-apart : goal.body_of-requires-clause-apart
body_of-requires-clause-apart c = (heads_from-some [] c.expect_line.new.lines c.in_ok-heads.heads c.read_heads.new.lines (omega arith) c.in_ok-heads.ensures).may.apart

pub body_of-requires-clause-few : goal.body_of-requires-clause-few
body_of-requires-clause-few c = let room = (heads_from-some [] c.expect_line.new.lines c.in_ok-heads.heads c.read_heads.new.lines (omega arith) c.in_ok-heads.ensures).may.room in omega (arith, room)

pub returns : goal.returns
returns c = rw (bench_from-body c.args.lines.now c.expect_line.new.lines c.read_heads.new.lines tt c.in_ok-heads.heads c.in_ok-expect_line.ensures c.in_ok-heads.ensures) c.body_of.ensures
