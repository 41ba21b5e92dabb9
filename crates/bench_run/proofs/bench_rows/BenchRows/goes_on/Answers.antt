use Rattle.std.proofs.Common.{◌+◌, ◌≤◌, length, ap, arith}
use Rattle.std.proofs.lemmas.Bool.Decides.{nat_tests}
use Rattle.handshake.proofs.PortLemmas.{is-none}
use Rattle.bench_run.proofs.PlaceLemmas.{rows-last, rows-none, rows-over}
use Rattle.bench_run.proofs.bench_rows.BenchRows.goes_on.Goals as goal

pub returns-then-self-len-clause-none : goal.returns-then-self-len-clause-none
returns-then-self-len-clause-none c = λ test.
    let self = c.args.self.now in
    let past : self.run.cycles ≤ self.number = grind (arith, nat_tests, test) in
    rows-over self.sim.bench self.run self.number self.stream past

pub returns-then-is_empty-clause-none : goal.returns-then-is_empty-clause-none
returns-then-is_empty-clause-none c = λ over.
    let self = c.args.self.now in
    let none = is-none self.kept.items _ _ self.kept.ok.0 c.is_empty.ensures c.if-is_empty.true in
    rows-none self.sim.bench self.run self.number self.stream (omega (arith, ap length none, self.at.room))

pub returns-then-self-cycles-clause-none : goal.returns-then-self-cycles-clause-none
returns-then-self-cycles-clause-none c = λ over.
    let self = c.args.self.now in
    let last : self.run.cycles ≤ self.number + 1 = grind (arith, nat_tests, c.if-self-cycles.true) in
    let end : length self.sim.bench.heads ≤ self.stream = omega (arith, c.if-self-len.false, c.len.ensures, self.kept.ok.0, self.at.room) in
    rows-last self.sim.bench self.run self.number self.stream last end
