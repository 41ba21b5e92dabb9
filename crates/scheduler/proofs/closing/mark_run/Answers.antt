use Rattle.std.proofs.Common.{drop, ◌+◌, ◌*◌, ◌∙◌, ap, ℕ}
use Rattle.scheduler.proofs.closing.mark_run.Goals as goal
use Rattle.scheduler.proofs.MarkLemmas.{start-marked, next-marked}
use Rattle.physical_stream.specs.Params.{Parameters}

pub ends-init : goal.ends-init
ends-init c = start-marked c.args.p.now c.args.lane c.requires.within (drop c.args.place c.args.items.now) c.args.last.now c.requires.width

pub ends-preserved : goal.ends-preserved
ends-preserved c =
    next-marked c.args.p.now c.args.lane c.requires.within (drop c.args.place c.args.items.now) (drop c.ends.at c.args.items.now) (drop (c.ends.at + 1) c.args.items.now) c.args.last.now c.ends.least c.in-Some.dim
    c.ends.last c.put.new.self _ c.ends.invariant c.in-Some.ensures
    (ap (λ (l : ℕ). l * c.from-in-Some.result + c.from-in-Some-2.result) c.from.ensures ∙ ap (λ (d : ℕ). c.args.lane * d + c.from-in-Some-2.result) (c.from-in-Some.ensures ∙ ap (λ (q : Parameters). q.dims) c.p.view_is)
    ∙ ap (λ (d : ℕ). c.args.lane * c.args.p.now.dims + d) c.from-in-Some-2.ensures) c.put.ensures
