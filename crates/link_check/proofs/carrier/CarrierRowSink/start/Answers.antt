use Rattle.std.proofs.Common.{List, refl, subst, ◌∙◌, sym}
use Rattle.physical_stream.specs.declared.head.Head.{Head}
use Rattle.link_check.specs.Carriers.{CanRise}
use Rattle.link_check.proofs.CarrierLemmas.{header-carried}
use Rattle.link_check.proofs.carrier.CarrierRowSink.start.Goals as goal

pub start-requires-clause-header : goal.start-requires-clause-header
start-requires-clause-header g c =
    let self = c.args.self.now in
    header-carried c.args.header.now (record { cycles = c.args.header.now.cycles; heads = self.to.heads })
    (subst (λ (heads : List Head). CanRise heads self.to.heads) (sym c.as_slice.ensures ∙ c.in-None.ensures ∙ c.as_slice-2.ensures) c.requires.fresh.0) refl c.requires.header
