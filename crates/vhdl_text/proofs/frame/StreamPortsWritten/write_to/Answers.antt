use Rattle.std.proofs.Common.{◌≡◌, ◌++◌, List, ℕ, OnOk, subst}
use Rattle.signal_layout.specs.Layout.{width_in, width_of}
use Rattle.vhdl_text.specs.Text.{stream_ports}
use Rattle.vhdl_text.proofs.PrintingLemmas.{ports_of-same}
use Rattle.vhdl_text.proofs.frame.StreamPortsWritten.write_to.Goals as goal

pub returns-clause-ok : goal.returns-clause-ok
unfolding stream_ports
returns-clause-ok c =
    let head = c.args.self.now.0.now in
    subst (λ (l : List ℕ). OnOk c.emit.result (c.emit.new.self ≡ c.args.out.now ++ l)) (ports_of-same head (width_in c.of-widths.result) (width_of head.params) c.of-widths.ensures) c.emit.ensures.ok
