use Rattle.std.proofs.Common.{◌∙◌, ◌∷◌, sym, ap, subst, drop, ◌+◌}
use Rattle.std.proofs.lemmas.Option.{get_or_from_slice_get}
use Rattle.physical_stream.specs.Signals.{Fits}
use Rattle.physical_stream.specs.declared.transfer.Transfer.{Transfer}
use Rattle.handshake.proofs.list_feeding.ListFeedTransferFeed.next.Goals as goal
use Rattle.handshake.proofs.CursorLemmas.{drop-is}

pub returns-clause-fits : goal.returns-clause-fits
returns-clause-fits c =
    subst (Fits c.args.self.now.params) (get_or_from_slice_get c.args.self.now.list c.args.self.now.place c.in-Some.transfer.now c.in-Some.transfer.now (sym c.in-Some.ensures.value) ∙ sym c.copy_from.ensures)
    (c.args.self.now.fits c.args.self.now.place c.in-Some.transfer.now c.in-Some.ensures.within)

pub returns-clause-fed : goal.returns-clause-fed
returns-clause-fed c =
    drop-is c.args.self.now.list c.args.self.now.place c.in-Some.transfer.now (sym c.in-Some.ensures.value)
    ∙ ap (λ (t : Transfer). t ∷ drop (c.args.self.now.place + 1) c.args.self.now.list) (sym c.copy_from.ensures)
