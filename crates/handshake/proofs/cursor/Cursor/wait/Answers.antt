use Rattle.std.proofs.Common.{arith}
use Rattle.handshake.proofs.cursor.Cursor.wait.Goals as goal
use Rattle.handshake.proofs.CursorLemmas.{Keeps-waits}

pub returns-clause-stands : goal.returns-clause-stands
returns-clause-stands g c = λ ts cycles bit kept full.
    Keeps-waits c.args.self.now.params ts c.args.self.now.gaps cycles (g.F.TransferFeed.rest c.args.self.now.feed) c.args.self.now.held c.args.self.now.pause c.args.self.now.place c.args.self.now.tail
    c.args.self.now.holds bit _ (omega (arith, c.saturating_sub-self.ensures)) kept full
