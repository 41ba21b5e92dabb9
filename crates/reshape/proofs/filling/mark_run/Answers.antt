use Rattle.std.proofs.Common.{◌∙◌, ◌-◌, ◌+◌, ◌*◌, ◌≤◌, ℕ, length, drop, ap, arith}
use Rattle.std.proofs.lemmas.Bool.Decides.{nat_tests}
use Rattle.physical_stream.specs.Params.{Parameters}
use Rattle.scheduler.proofs.MarkLemmas.{start-marked, next-marked}
use Rattle.reshape.proofs.FilledLemmas.{ends-over, last-marked, start-long}
use Rattle.reshape.proofs.filling.mark_run.Goals as goal

pub ends-init : goal.ends-init
ends-init c =
    let some = c.requires.some in
    start-marked c.args.p.now (c.args.p.now.lanes - 1) (omega (arith, some)) (drop c.args.place c.args.items.now.items) c.args.last.now
    (start-long c.args.p.now c.requires.some (drop c.args.place c.args.items.now.items) c.args.last.now c.requires.clear)

pub ends-preserved : goal.ends-preserved
ends-preserved c =
    let some = c.requires.some in
    next-marked c.args.p.now (c.args.p.now.lanes - 1) (omega (arith, some)) (drop c.args.place c.args.items.now.items) (drop c.ends.at c.args.items.now.items) (drop (c.ends.at + 1) c.args.items.now.items) c.args.last.now c.ends.least
    c.in-Some.dim c.ends.last c.put.new.self _ c.ends.invariant c.in-Some.ensures
    (ap (λ (l : ℕ). l * c.from-in-Some.result + c.from-in-Some-2.result) (c.from.ensures ∙ ap (λ (q : Parameters). q.lanes - 1) c.p.view_is)
    ∙ ap (λ (d : ℕ). (c.args.p.now.lanes - 1) * d + c.from-in-Some-2.result) (c.from-in-Some.ensures ∙ ap (λ (q : Parameters). q.dims) c.p.view_is)
    ∙ ap (λ (d : ℕ). (c.args.p.now.lanes - 1) * c.args.p.now.dims + d) c.from-in-Some-2.ensures) c.put.ensures

pub returns-in-None : goal.returns-in-None
returns-in-None c =
    last-marked c.args.p.now c.requires.some (drop c.args.place c.args.items.now.items) c.args.last.now c.requires.clear (drop c.ends.at c.args.items.now.items) c.ends.least c.ends.last c.ends.invariant c.in-None.ensures

pub returns : goal.returns
returns c =
    let over = c.ends-test.false in
    let len = c.len-at-end.ensures in
    let ok = c.args.items.now.ok.0 in
    let most : length c.args.items.now.items ≤ c.ends.at = grind (arith, nat_tests) in
    last-marked c.args.p.now c.requires.some (drop c.args.place c.args.items.now.items) c.args.last.now c.requires.clear (drop c.ends.at c.args.items.now.items) c.ends.least c.ends.last c.ends.invariant
    (ends-over c.ends.least c.args.items.now.items c.ends.at most)
