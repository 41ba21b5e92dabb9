use Rattle.std.proofs.Common.{refl}
use Rattle.cycle_trace.proofs.EndLemmas.{GoesOn-more, GoesOn-ends, GoesOn-all}
use Rattle.cycle_trace.proofs.surveying.outcome.unfinished.Goals as goal

pub checkers-init : goal.checkers-init
checkers-init c t at = refl

pub checkers-preserved : goal.checkers-preserved
checkers-preserved c t at =
    GoesOn-more t c.args.checkers.now c.checkers.stream at (c.checkers.invariant t at) c.index-checkers-stream.result c.end.result c.checkers-test.true c.index-checkers-stream.is c.end.ensures c.in-Whole.is

pub returns-in_default : goal.returns-in_default
returns-in_default c t at =
    GoesOn-ends t c.args.checkers.now c.checkers.stream at (c.checkers.invariant t at) c.index-checkers-stream.result c.end.result c.checkers-test.true c.index-checkers-stream.is c.end.ensures c.in_default.not-Whole

pub returns : goal.returns
returns c t at = GoesOn-all t c.args.checkers.now c.checkers.stream at (c.checkers.invariant t at) c.checkers-test.false
