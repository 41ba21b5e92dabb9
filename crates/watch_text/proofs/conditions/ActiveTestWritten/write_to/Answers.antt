use Rattle.std.proofs.Common.{◌≡◌, ◌∙◌, ◌++◌, List, ℕ, OnOk, subst}
use Rattle.physical_stream.specs.Signals.{has_endi, has_stai, has_strb}
use Rattle.signal_layout.specs.Layout.{bits_of_signal}
use Rattle.signal_layout.specs.declared.signal.Signal.TheVariants as signals
use Rattle.watch_text.proofs.PrintingLemmas.{active-made, is_some-present}
use Rattle.watch_text.proofs.conditions.ActiveTestWritten.write_to.Goals as goal

pub returns-clause-ok : goal.returns-clause-ok
returns-clause-ok c =
    let head = c.args.self.now.0.now in let p = head.params in let widths = c.of-widths.result in
    let stai = c.is_some-stai.ensures ∙ is_some-present widths.stai (has_stai p) (bits_of_signal p signals.Stai) (c.of-widths.ensures signals.Stai) in
    let endi = c.is_some-endi.ensures ∙ is_some-present widths.endi (has_endi p) (bits_of_signal p signals.Endi) (c.of-widths.ensures signals.Endi) in
    let strb = c.is_some-strb.ensures ∙ is_some-present widths.strb (has_strb p) (bits_of_signal p signals.Strb) (c.of-widths.ensures signals.Strb) in
    subst (λ (l : List ℕ). OnOk c.emit.result (c.emit.new.self ≡ c.args.out.now ++ l)) (active-made head c.is_some-stai.result c.is_some-endi.result c.is_some-strb.result stai endi strb) c.emit.ensures.ok
