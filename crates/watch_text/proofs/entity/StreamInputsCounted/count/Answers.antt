use Rattle.std.proofs.Common.{◌≡◌, List, ℕ, length, min, subst}
use Rattle.signal_layout.specs.Layout.{width_in, width_of}
use Rattle.tydi_base.specs.Lengths.{most_bytes}
use Rattle.watch_text.specs.Text.{stream_inputs}
use Rattle.watch_text.proofs.PrintingLemmas.{inputs_of-same}
use Rattle.watch_text.proofs.entity.StreamInputsCounted.count.Goals as goal

pub returns : goal.returns
unfolding stream_inputs
returns c =
    let head = c.args.self.now.0.now in
    subst (λ (l : List ℕ). c.count.result ≡ min (length l) most_bytes) (inputs_of-same head (width_in c.of-widths.result) (width_of head.params) c.of-widths.ensures) c.count.ensures
