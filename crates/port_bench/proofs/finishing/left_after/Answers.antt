use Rattle.std.proofs.Common.{◌∙◌, ℕ, List, [], ap}
use Rattle.physical_stream.specs.Params.{Parameters}
use Rattle.handshake.specs.Run.{undone}
use Rattle.port_bench.proofs.finishing.left_after.Goals as goal

pub returns-clause-left : goal.returns-clause-left
returns-clause-left g c =
    let old = c.args.cursor.now in
    let new = c.finish_cycle-cycle.new.cursor in
    let all = g.F.TransferFeed.whole old.feed in
    c.left.ensures all c.args.ready.now (c.finish_cycle-cycle.ensures.stands all [] c.requires.start)
    ∙ ap (λ (p : Parameters). undone p all new.gaps c.args.ready.now) c.finish_cycle-cycle.ensures.params
    ∙ ap (λ (l : List ℕ). undone old.params all l c.args.ready.now) c.finish_cycle-cycle.ensures.gaps

pub returns-clause-kept : goal.returns-clause-kept
returns-clause-kept g c = record { params = c.finish_cycle-cycle.ensures.params; gaps = c.finish_cycle-cycle.ensures.gaps; all = c.finish_cycle-cycle.ensures.whole }
