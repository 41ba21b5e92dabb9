use Rattle.std.proofs.Common.{◌∙◌, ◌-◌, Bool, if◌then◌else◌, sym, ap}
use Rattle.tydi_base.specs.Width.{index_width}
use Rattle.physical_stream.specs.Params.{Parameters}
use Rattle.physical_stream.specs.Signals.{has_endi}
use Rattle.signal_layout.specs.declared.signal.Signal.TheVariants as signals
use Rattle.vhdl_meaning.proofs.StartLemmas.{present-some, absent-none}
use Rattle.vhdl_meaning.proofs.lines.endi_at_start.Goals as goal

-- src/lines.rt:38:1
pub returns-in-Some : goal.returns-in-Some
returns-in-Some c =
    let p = c.args.p.now in
    let there = present-some (has_endi p) (index_width p.lanes) c.in-Some.field-0 (sym (c.of.ensures signals.Endi) ∙ sym c.width.ensures ∙ c.in-Some.is) in
    ap (λ (b : Bool). if b then 0 else p.lanes - 1) (sym there)

-- src/lines.rt:38:1
pub returns-in-None : goal.returns-in-None
returns-in-None c =
    let p = c.args.p.now in
    let there = absent-none (has_endi p) (index_width p.lanes) (sym (c.of.ensures signals.Endi) ∙ sym c.width.ensures ∙ c.in-None.is) in
    ap (λ (q : Parameters). q.lanes - 1) c.p.view_is ∙ ap (λ (b : Bool). if b then 0 else p.lanes - 1) (sym there)
