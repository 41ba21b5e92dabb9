use Rattle.std.proofs.Common.{[], ◌∷◌, refl}
use Rattle.signal_layout.specs.declared.signal.Signal.TheVariants as signals
use Rattle.vcd_read.specs.Probes.{number_in}
use Rattle.vcd_read.specs.Wanted.{codes_in, signal_faults, widths_in}
use Rattle.vcd_read.proofs.FindLemmas.{at-signal, finds-err, none-more}
use Rattle.vcd_read.proofs.finder.Finder.probe.Goals as goal

pub returns-in_err-valid : goal.returns-in_err-valid
returns-in_err-valid c scope parts st =
    let f = signal_faults (codes_in scope parts) (widths_in parts) c.args.stream c.args.head.now in
    finds-err scope parts c.args.self c.args.stream c.args.head.now c.from_residual.result c.in_err-valid.field-0.0 c.from_residual.ensures.1
    (at-signal f ([]) signals.Valid (signals.Ready ∷ signals.Content ∷ signals.Last ∷ signals.Stai ∷ signals.Endi ∷ signals.Strb ∷ signals.User ∷ [])
    c.in_err-valid.field-0.0
    refl (c.in_err-valid.ensures scope parts st))

pub returns-in_err-ready : goal.returns-in_err-ready
returns-in_err-ready c scope parts st =
    let f = signal_faults (codes_in scope parts) (widths_in parts) c.args.stream c.args.head.now in
    finds-err scope parts c.args.self c.args.stream c.args.head.now c.from_residual-in_err-ready.result c.in_err-ready.field-0.0
    c.from_residual-in_err-ready.ensures.1
    (at-signal f (signals.Valid ∷ []) signals.Ready (signals.Content ∷ signals.Last ∷ signals.Stai ∷ signals.Endi ∷ signals.Strb ∷ signals.User ∷ [])
    c.in_err-ready.field-0.0
    (none-more f signals.Valid ([]) (c.in_ok-valid.ensures scope parts st).0 refl) (c.in_err-ready.ensures scope parts st))

pub returns-in_err-content : goal.returns-in_err-content
returns-in_err-content c scope parts st =
    let f = signal_faults (codes_in scope parts) (widths_in parts) c.args.stream c.args.head.now in
    finds-err scope parts c.args.self c.args.stream c.args.head.now c.from_residual-in_err-content.result c.in_err-content.field-0.0
    c.from_residual-in_err-content.ensures.1
    (at-signal f (signals.Valid ∷ signals.Ready ∷ []) signals.Content (signals.Last ∷ signals.Stai ∷ signals.Endi ∷ signals.Strb ∷ signals.User ∷ [])
    c.in_err-content.field-0.0
    (none-more f signals.Valid (signals.Ready ∷ []) (c.in_ok-valid.ensures scope parts st).0 (none-more f signals.Ready ([])
    (c.in_ok-ready.ensures scope parts st).0 refl)) (c.in_err-content.ensures scope parts st))

pub returns-in_err-last : goal.returns-in_err-last
returns-in_err-last c scope parts st =
    let f = signal_faults (codes_in scope parts) (widths_in parts) c.args.stream c.args.head.now in
    finds-err scope parts c.args.self c.args.stream c.args.head.now c.from_residual-in_err-last.result c.in_err-last.field-0.0
    c.from_residual-in_err-last.ensures.1
    (at-signal f (signals.Valid ∷ signals.Ready ∷ signals.Content ∷ []) signals.Last (signals.Stai ∷ signals.Endi ∷ signals.Strb ∷ signals.User ∷ [])
    c.in_err-last.field-0.0
    (none-more f signals.Valid (signals.Ready ∷ signals.Content ∷ []) (c.in_ok-valid.ensures scope parts st).0 (none-more f signals.Ready (signals.Content ∷
    []) (c.in_ok-ready.ensures scope parts st).0 (none-more f signals.Content ([]) (c.in_ok-content.ensures scope parts st).0 refl)))
    (c.in_err-last.ensures scope parts st))

pub returns-in_err-stai : goal.returns-in_err-stai
returns-in_err-stai c scope parts st =
    let f = signal_faults (codes_in scope parts) (widths_in parts) c.args.stream c.args.head.now in
    finds-err scope parts c.args.self c.args.stream c.args.head.now c.from_residual-in_err-stai.result c.in_err-stai.field-0.0
    c.from_residual-in_err-stai.ensures.1
    (at-signal f (signals.Valid ∷ signals.Ready ∷ signals.Content ∷ signals.Last ∷ []) signals.Stai (signals.Endi ∷ signals.Strb ∷ signals.User ∷ [])
    c.in_err-stai.field-0.0
    (none-more f signals.Valid (signals.Ready ∷ signals.Content ∷ signals.Last ∷ []) (c.in_ok-valid.ensures scope parts st).0 (none-more f signals.Ready
    (signals.Content ∷ signals.Last ∷ []) (c.in_ok-ready.ensures scope parts st).0 (none-more f signals.Content (signals.Last ∷ [])
    (c.in_ok-content.ensures scope parts st).0 (none-more f signals.Last ([]) (c.in_ok-last.ensures scope parts st).0 refl))))
    (c.in_err-stai.ensures scope parts st))

pub returns-in_err-endi : goal.returns-in_err-endi
returns-in_err-endi c scope parts st =
    let f = signal_faults (codes_in scope parts) (widths_in parts) c.args.stream c.args.head.now in
    finds-err scope parts c.args.self c.args.stream c.args.head.now c.from_residual-in_err-endi.result c.in_err-endi.field-0.0
    c.from_residual-in_err-endi.ensures.1
    (at-signal f (signals.Valid ∷ signals.Ready ∷ signals.Content ∷ signals.Last ∷ signals.Stai ∷ []) signals.Endi (signals.Strb ∷ signals.User ∷ [])
    c.in_err-endi.field-0.0
    (none-more f signals.Valid (signals.Ready ∷ signals.Content ∷ signals.Last ∷ signals.Stai ∷ [])
    (c.in_ok-valid.ensures scope parts st).0 (none-more f signals.Ready (signals.Content ∷ signals.Last ∷ signals.Stai ∷ [])
    (c.in_ok-ready.ensures scope parts st).0 (none-more f signals.Content (signals.Last ∷ signals.Stai ∷ [])
    (c.in_ok-content.ensures scope parts st).0 (none-more f signals.Last (signals.Stai ∷ [])
    (c.in_ok-last.ensures scope parts st).0 (none-more f signals.Stai ([]) (c.in_ok-stai.ensures scope parts st).0 refl)))))
    (c.in_err-endi.ensures scope parts st))

pub returns-in_err-strb : goal.returns-in_err-strb
returns-in_err-strb c scope parts st =
    let f = signal_faults (codes_in scope parts) (widths_in parts) c.args.stream c.args.head.now in
    finds-err scope parts c.args.self c.args.stream c.args.head.now c.from_residual-in_err-strb.result c.in_err-strb.field-0.0
    c.from_residual-in_err-strb.ensures.1
    (at-signal f (signals.Valid ∷ signals.Ready ∷ signals.Content ∷ signals.Last ∷ signals.Stai ∷ signals.Endi ∷ []) signals.Strb (signals.User ∷ [])
    c.in_err-strb.field-0.0
    (none-more f signals.Valid (signals.Ready ∷ signals.Content ∷ signals.Last ∷ signals.Stai ∷ signals.Endi ∷ [])
    (c.in_ok-valid.ensures scope parts st).0 (none-more f signals.Ready (signals.Content ∷ signals.Last ∷ signals.Stai ∷ signals.Endi ∷ [])
    (c.in_ok-ready.ensures scope parts st).0 (none-more f signals.Content (signals.Last ∷ signals.Stai ∷ signals.Endi ∷ [])
    (c.in_ok-content.ensures scope parts st).0 (none-more f signals.Last (signals.Stai ∷ signals.Endi ∷ [])
    (c.in_ok-last.ensures scope parts st).0 (none-more f signals.Stai (signals.Endi ∷ [])
    (c.in_ok-stai.ensures scope parts st).0 (none-more f signals.Endi ([]) (c.in_ok-endi.ensures scope parts st).0 refl))))))
    (c.in_err-strb.ensures scope parts st))

pub returns-in_err-user : goal.returns-in_err-user
returns-in_err-user c scope parts st =
    let f = signal_faults (codes_in scope parts) (widths_in parts) c.args.stream c.args.head.now in
    finds-err scope parts c.args.self c.args.stream c.args.head.now c.from_residual-in_err-user.result c.in_err-user.field-0.0
    c.from_residual-in_err-user.ensures.1
    (at-signal f (signals.Valid ∷ signals.Ready ∷ signals.Content ∷ signals.Last ∷ signals.Stai ∷ signals.Endi ∷ signals.Strb ∷ []) signals.User ([])
    c.in_err-user.field-0.0
    (none-more f signals.Valid (signals.Ready ∷ signals.Content ∷ signals.Last ∷ signals.Stai ∷ signals.Endi ∷ signals.Strb ∷ [])
    (c.in_ok-valid.ensures scope parts st).0 (none-more f signals.Ready (signals.Content ∷ signals.Last ∷ signals.Stai ∷ signals.Endi ∷ signals.Strb ∷
    []) (c.in_ok-ready.ensures scope parts st).0 (none-more f signals.Content (signals.Last ∷ signals.Stai ∷ signals.Endi ∷ signals.Strb ∷ [])
    (c.in_ok-content.ensures scope parts st).0 (none-more f signals.Last (signals.Stai ∷ signals.Endi ∷ signals.Strb ∷ [])
    (c.in_ok-last.ensures scope parts st).0 (none-more f signals.Stai (signals.Endi ∷ signals.Strb ∷ [])
    (c.in_ok-stai.ensures scope parts st).0 (none-more f signals.Endi (signals.Strb ∷ [])
    (c.in_ok-endi.ensures scope parts st).0 (none-more f signals.Strb ([]) (c.in_ok-strb.ensures scope parts st).0 refl)))))))
    (c.in_err-user.ensures scope parts st))

pub returns : goal.returns
unfolding number_in
returns c scope parts st =
    let f = signal_faults (codes_in scope parts) (widths_in parts) c.args.stream c.args.head.now in (
      (none-more f signals.Valid (signals.Ready ∷ signals.Content ∷ signals.Last ∷ signals.Stai ∷ signals.Endi ∷ signals.Strb ∷ signals.User ∷ [])
          (c.in_ok-valid.ensures scope parts st).0 (none-more f signals.Ready (signals.Content ∷ signals.Last ∷ signals.Stai ∷ signals.Endi ∷ signals.Strb ∷
          signals.User ∷ []) (c.in_ok-ready.ensures scope parts st).0 (none-more f signals.Content (signals.Last ∷ signals.Stai ∷ signals.Endi ∷ signals.Strb
          ∷ signals.User ∷ []) (c.in_ok-content.ensures scope parts st).0 (none-more f signals.Last (signals.Stai ∷ signals.Endi ∷ signals.Strb ∷
          signals.User ∷ []) (c.in_ok-last.ensures scope parts st).0 (none-more f signals.Stai (signals.Endi ∷ signals.Strb ∷ signals.User ∷ [])
          (c.in_ok-stai.ensures scope parts st).0 (none-more f signals.Endi (signals.Strb ∷ signals.User ∷ [])
          (c.in_ok-endi.ensures scope parts st).0 (none-more f signals.Strb (signals.User ∷ [])
          (c.in_ok-strb.ensures scope parts st).0 (none-more f signals.User ([]) (c.in_ok-user.ensures scope parts st).0 refl)))))))),
      record {
        params = refl;
        contacts = elim [
          | signals.Valid ↦ (c.in_ok-valid.ensures scope parts st).1
          | signals.Ready ↦ (c.in_ok-ready.ensures scope parts st).1
          | signals.Content ↦ (c.in_ok-content.ensures scope parts st).1
          | signals.Last ↦ (c.in_ok-last.ensures scope parts st).1
          | signals.Stai ↦ (c.in_ok-stai.ensures scope parts st).1
          | signals.Endi ↦ (c.in_ok-endi.ensures scope parts st).1
          | signals.Strb ↦ (c.in_ok-strb.ensures scope parts st).1
          | signals.User ↦ (c.in_ok-user.ensures scope parts st).1
        ];
      },
    )
