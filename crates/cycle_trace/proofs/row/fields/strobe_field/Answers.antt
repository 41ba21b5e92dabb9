use Rattle.std.proofs.Common.{◌≡◌, ◌+◌, ◌/◌, ◌^◌, ◌<◌, arith}
use Rattle.std.proofs.lemmas.Nat.{pow_pos}
use Rattle.cycle_trace.specs.declared.row.layout.RowLayout.{RowLayout}
use Rattle.cycle_trace.proofs.StrobeLemmas.{strobe_field-none, strobe_field-unread, strobe_field-read}
use Rattle.cycle_trace.proofs.row.fields.strobe_field.Goals as goal

size_of : (layout : RowLayout) → layout.strb.digits ≡ (layout.params.lanes + 3) / 4
size_of layout = omega (arith, layout.laid.strb_word.many, layout.laid.strb_word.wide)

pub returns-in_default : goal.returns-in_default
returns-in_default c = rw c.if-not-layout.false (strobe_field-none _ _ (rw (size_of c.args.layout.now) at c.in_default.ensures))

pub returns-in-None : goal.returns-in-None
returns-in-None c =
    rw c.if-not-layout.false
    (strobe_field-unread _ _ _ _ (rw (size_of c.args.layout.now) at c.in-Some.ensures)
    (λ n number. let large = c.in-None.ensures.none n number in omega (arith, c.args.layout.now.laid.ones, large)))

pub returns-in-Some-hex_number_within : goal.returns-in-Some-hex_number_within
returns-in-Some-hex_number_within c =
    let lanes = c.args.layout.now.params.lanes in
    let fits : c.in-Some-hex_number_within.number < 2 ^ lanes = omega (arith, c.args.layout.now.laid.ones, c.in-Some-hex_number_within.ensures.some.1, pow_pos lanes) in
    rw c.if-not-layout.false (strobe_field-read _ _ _ _ (rw (size_of c.args.layout.now) at c.in-Some.ensures) _ c.in-Some-hex_number_within.ensures.some.0 fits)
