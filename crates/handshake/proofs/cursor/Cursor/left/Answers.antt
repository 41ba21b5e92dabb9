use Rattle.std.proofs.Common.{◌∙◌, ap, ◌∷◌, ◌+◌, Bool, arith}
use Rattle.physical_stream.specs.Counts.{transfers_of}
use Rattle.handshake.specs.Kept.{left_of}
use Rattle.handshake.specs.Run.{run_of}
use Rattle.handshake.proofs.FinishLemmas.{left-count}
use Rattle.handshake.proofs.cursor.Cursor.left.Goals as goal

pub returns-then-self : goal.returns-then-self
returns-then-self g c = λ ts before stands.
    let self = c.args.self.now in
    left-count ts (self.held ∷ g.F.TransferFeed.rest self.feed) (transfers_of (run_of self.params ts self.gaps before)) (c.left.result + 1)
    (stands.left ∙ ap (λ (b : Bool). left_of b self.held (g.F.TransferFeed.rest self.feed)) c.if-self.true)
    (omega (arith, c.left.ensures))
