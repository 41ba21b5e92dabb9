use Rattle.std.proofs.Common.{List}
use Rattle.physical_stream.specs.Cycles.{Cycle}
use Rattle.handshake.specs.Kept.{Keeps}
use Rattle.handshake.specs.Run.{run_of}
use Rattle.handshake.proofs.FinishLemmas.{run-more}
use Rattle.handshake.proofs.cursor.Cursor.step.Goals as goal

pub returns-clause-stands : goal.returns-clause-stands
returns-clause-stands g c = λ ts before stands.
    let old = c.args.self.now in
    let new = c.advance.new.self in
    run-more old.params new.params ts old.gaps new.gaps before c.args.ready c.advance.ensures.params c.advance.ensures.gaps
    (λ (cycles : List Cycle). Keeps new.params ts new.gaps cycles (g.F.TransferFeed.rest new.feed) new.holds new.held new.pause new.place new.tail)
    (c.advance.ensures.stands ts (run_of old.params ts old.gaps before) stands)
