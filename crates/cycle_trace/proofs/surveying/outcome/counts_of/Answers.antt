use Rattle.std.proofs.Common.{◌∙◌, ℕ, List, ◌++◌, ◌∷◌, [], ap}
use Rattle.cycle_trace.specs.declared.surveying.counts.Counts.{Counts}
use Rattle.cycle_trace.proofs.EndLemmas.{counts_in-more, counts_in-all}
use Rattle.cycle_trace.proofs.surveying.outcome.counts_of.Goals as goal

pub checkers-init : goal.checkers-init
checkers-init c t at = c.new-streams.ensures

pub checkers-preserved : goal.checkers-preserved
checkers-preserved c t at =
    c.in_ok-push.ensures.ok ∙ ap (λ (before : List (ℕ × ℕ)). before ++ (c.transfers.result, c.packets.result) ∷ []) (c.checkers.invariant t at)
    ∙ counts_in-more t c.args.checkers.now c.checkers.checker-index at c.checker-item.result c.transfers.result c.packets.result c.checkers-test.true c.checker-item.is c.transfers.ensures c.packets.ensures

pub returns : goal.returns
returns c t at =
    ap (λ (streams : List (ℕ × ℕ)). let counts : Counts = record { streams = streams } in counts)
    (c.checkers.invariant t at ∙ counts_in-all t c.args.checkers.now c.checkers.checker-index at c.checkers-test.false)
