use Rattle.std.proofs.Common.{◌≡◌, ◌++◌, List, ℕ, OnOk, subst}
use Rattle.signal_layout.specs.Layout.{width_in, width_of}
use Rattle.watch_text.specs.Text.{stream_inputs}
use Rattle.watch_text.proofs.PrintingLemmas.{inputs_of-same}
use Rattle.watch_text.proofs.entity.StreamInputsWritten.write_to.Goals as goal

pub returns-clause-ok : goal.returns-clause-ok
unfolding stream_inputs
returns-clause-ok c =
    let head = c.args.self.now.0.now in
    subst (λ (l : List ℕ). OnOk c.emit.result (c.emit.new.self ≡ c.args.out.now ++ l)) (inputs_of-same head (width_in c.of-widths.result) (width_of head.params) c.of-widths.ensures) c.emit.ensures.ok
