use Rattle.std.proofs.Common.{◌≡◌, ◌∙◌, ℕ, List, None, sym, ap, subst}
use Rattle.vcd_read.specs.History.{signal_in}
use Rattle.vcd_read.specs.Profile.{may_have_width}
use Rattle.vcd_read.specs.Variables.{HasNumber}
use Rattle.vcd_read.proofs.FindLemmas.{is-found, lacks, missing, other-width}
use Rattle.vcd_read.proofs.finder.Finder.number.Goals as goal

pub returns-in_default : goal.returns-in_default
returns-in_default c scope parts st = lacks scope parts c.args.stream c.args.head.now c.args.signal (sym (c.of.ensures c.args.signal)
    ∙ sym c.in_default.ensures)

pub returns-in_default-number : goal.returns-in_default-number
returns-in_default-number c scope parts st =
    let wires = c.args.self.wires.now in
    missing scope parts c.args.stream c.args.head.now c.args.signal c.in-Some.width (sym (c.of.ensures c.args.signal) ∙ sym c.in-Some.ensures)
    (subst (λ (n : List ℕ). signal_in scope n parts ≡ None) (c.as_slice.ensures ∙ c.in_ok-name.ensures)
    (c.in_default-number.ensures wires.codes scope parts st.variables_are))

pub returns-then-not-has_width : goal.returns-then-not-has_width
returns-then-not-has_width c scope parts st =
    let wires = c.args.self.wires.now in
    other-width scope parts c.args.stream c.args.head.now c.args.signal c.in-Some.width (sym (c.of.ensures c.args.signal) ∙ sym c.in-Some.ensures)
    wires.codes wires.wires wires.block st.wires_are c.in-Some-number.number
    (subst (λ (n : List ℕ). HasNumber wires.codes (signal_in scope n parts) c.in-Some-number.number) (c.as_slice.ensures
    ∙ c.in_ok-name.ensures) (c.in-Some-number.ensures wires.codes scope parts st.variables_are))
    (ap (may_have_width _) (sym c.from.ensures) ∙ sym c.has_width.ensures ∙ c.if-not-has_width.true)

pub returns : goal.returns
returns c scope parts st =
    let wires = c.args.self.wires.now in
    is-found scope parts c.args.stream c.args.head.now c.args.signal c.in-Some.width (sym (c.of.ensures c.args.signal) ∙ sym c.in-Some.ensures)
    wires.codes wires.wires wires.block st.wires_are c.in-Some-number.number
    (subst (λ (n : List ℕ). HasNumber wires.codes (signal_in scope n parts) c.in-Some-number.number) (c.as_slice.ensures
    ∙ c.in_ok-name.ensures) (c.in-Some-number.ensures wires.codes scope parts st.variables_are))
    (ap (may_have_width _) (sym c.from.ensures) ∙ sym c.has_width.ensures ∙ c.if-not-has_width.false)
