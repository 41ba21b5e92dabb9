use Rattle.std.proofs.Common.{◌∙◌, List, Some, sym, ap}
use Rattle.physical_stream.specs.declared.head.Head.{Head}
use Rattle.cycle_trace.specs.TraceView.{trace_view}
use Rattle.link_check.specs.Carry as spec
use Rattle.link_check.proofs.CarrierLemmas.{not-other, some_inside}
use Rattle.link_check.proofs.carrying.carry.Goals as goal

pub unreachable-requires : goal.unreachable-requires
unreachable-requires c =
    let t = trace_view c.args.trace.now in
    not-other c.replay.new.sink.from t.heads c.in_default.field-0
    (ap (λ s. s.0) c.replay.ensures.setting ∙ c.in_ok-carrier.ensures.ends.0 ∙ c.in_ok-heads.ensures ∙ sym c.requires.header) (c.in_default.ensures t c.in_ok-replay.ensures.replayed)

pub trace-requires : goal.trace-requires
trace-requires c =
    let t = trace_view c.args.trace.now in
    (Some (spec.carried c.replay.new.sink.to.heads t), (c.in-Ok.ensures t c.in_ok-replay.ensures.replayed).1)

pub returns-in-Some : goal.returns-in-Some
returns-in-Some c =
    let t = trace_view c.args.trace.now in
    sym (some_inside (c.in-Some.ensures (Some (spec.carried c.replay.new.sink.to.heads t)) (c.in-Ok.ensures t c.in_ok-replay.ensures.replayed).1))
    ∙ ap (λ (heads : List Head). spec.carried heads t) (ap (λ s. s.1.0) c.replay.ensures.setting ∙ c.in_ok-carrier.ensures.ends.1 ∙ c.in_ok-others.ensures)
