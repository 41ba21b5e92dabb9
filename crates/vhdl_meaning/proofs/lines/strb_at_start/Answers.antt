use Rattle.std.proofs.Common.{◌∙◌, ◌-◌, ◌^◌, Bool, if◌then◌else◌, sym, ap}
use Rattle.physical_stream.specs.Params.{Parameters}
use Rattle.physical_stream.specs.Signals.{has_strb}
use Rattle.signal_layout.specs.declared.signal.Signal.TheVariants as signals
use Rattle.vhdl_meaning.proofs.StartLemmas.{present-some, absent-none}
use Rattle.vhdl_meaning.proofs.lines.strb_at_start.Goals as goal

-- src/lines.rt:48:1
pub returns-in-Some : goal.returns-in-Some
returns-in-Some c =
    let p = c.args.p.now in
    let there = present-some (has_strb p) p.lanes c.in-Some.field-0 (sym (c.of.ensures signals.Strb) ∙ sym c.width.ensures ∙ c.in-Some.is) in
    ap (λ (b : Bool). if b then 0 else 2 ^ p.lanes - 1) (sym there)

-- src/lines.rt:48:1
pub returns-in-None : goal.returns-in-None
returns-in-None c =
    let p = c.args.p.now in
    let there = absent-none (has_strb p) p.lanes (sym (c.of.ensures signals.Strb) ∙ sym c.width.ensures ∙ c.in-None.is) in
    c.all_lanes.ensures ∙ ap (λ (q : Parameters). 2 ^ q.lanes - 1) c.p.view_is ∙ ap (λ (b : Bool). if b then 0 else 2 ^ p.lanes - 1) (sym there)
