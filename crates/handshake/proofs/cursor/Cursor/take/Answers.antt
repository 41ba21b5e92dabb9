use Rattle.std.proofs.Common.{arith}
use Rattle.handshake.proofs.cursor.Cursor.take.Goals as goal
use Rattle.handshake.proofs.CursorLemmas.{Keeps-taken, with_holds}

pub returns-then-self-len-clause-stands : goal.returns-then-self-len-clause-stands
returns-then-self-len-clause-stands g c = λ ts cycles kept.
    Keeps-taken c.args.self.now.params ts c.args.self.now.gaps cycles (g.F.TransferFeed.rest c.args.self.now.feed) c.args.self.now.held c.args.self.now.pause c.args.self.now.place c.args.self.now.tail
    _ _ _ (with_holds _ ts _ cycles _ _ _ _ _ _ c.requires.holds kept) (omega (arith, c.if-self-len.true, c.len.ensures)) c.tail_after-self.ensures

pub returns-else-self-len-clause-stands : goal.returns-else-self-len-clause-stands
returns-else-self-len-clause-stands g c = λ ts cycles kept.
    Keeps-taken c.args.self.now.params ts c.args.self.now.gaps cycles (g.F.TransferFeed.rest c.args.self.now.feed) c.args.self.now.held c.args.self.now.pause c.args.self.now.place c.args.self.now.tail
    _ _ _ (with_holds _ ts _ cycles _ _ _ _ _ _ c.requires.holds kept) (omega (arith, c.if-self-len.false, c.len.ensures, kept.count)) c.tail_after-self.ensures
