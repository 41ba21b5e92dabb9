use Rattle.std.proofs.Common.{◌∙◌, ◌≡◌, sym, subst, refl}
use Rattle.physical_stream.specs.Params.{Parameters}
use Rattle.signal_layout.specs.declared.signal.Signal.{Signal}
use Rattle.signal_layout.specs.declared.signal.Signal.TheVariants as signals
use Rattle.signal_layout.specs.Layout.{width_in, width_of}
use Rattle.cycle_trace.proofs.LayoutLemmas.{there, payload_there, word}
use Rattle.cycle_trace.proofs.row.layout.RowLayout.of.Goals as goal

pub invariant_of-result-2 : goal.invariant_of-result-2
invariant_of-result-2 c =
    let inside = c.p.inside in
    let p : Parameters = record { lanes = inside.lanes; dims = inside.dims; level = inside.level; element = inside.element; user = inside.user } in
    let found = c.of-signals.result in
    let of : (s : Signal) → width_in found s ≡ width_of p s = subst (λ (q : Parameters). (s : Signal) → width_in found s ≡ width_of q s) (sym c.p.view_is) c.of-signals.ensures in
    record {
      laid = record {
        content_word = word c.of.ensures (c.is_some.ensures ∙ there p found of signals.Content) (rw c.from-lanes.ensures refl);
        last_word = word c.of-2.ensures (c.is_some-2.ensures ∙ there p found of signals.Last) (rw (c.from-lanes.ensures, c.from.ensures) refl);
        strb_word = word c.of-3.ensures (c.is_some-3.ensures ∙ there p found of signals.Strb) c.from-lanes.ensures;
        user_word = word c.of-4.ensures (c.is_some-4.ensures ∙ there p found of signals.User) refl;
        stai_there = c.is_some-5.ensures ∙ there p found of signals.Stai;
        endi_there = c.is_some-6.ensures ∙ there p found of signals.Endi;
        payload_there = c.has_payload.ensures ∙ payload_there p found of;
        limit = c.index_limit.ensures.value;
        small = c.index_limit.ensures.small;
        lane = refl;
        ones = c.all_lanes.ensures;
        narrow = c.p.invariant.lanes_most;
      };
    }
