use Rattle.std.proofs.Common.{◌∙◌, ℕ, Option, sym, ap}
use Rattle.vcd_read.specs.Profile.{may_have_width}
use Rattle.vcd_read.proofs.WireLemmas.{width-at, width-none}
use Rattle.vcd_read.proofs.wires.Wires.may_have_width.Goals as goal

pub returns-in-Some : goal.returns-in-Some
returns-in-Some c parts are =
    let self = c.args.self.now in
    c.has_width.ensures ∙ ap (λ (o : Option ℕ). may_have_width o c.args.width) (sym (width-at self.codes self.wires self.block c.in-Some.number
    c.args.code.now parts are (sym c.in-Some.ensures)))

pub returns-in-None : goal.returns-in-None
returns-in-None c parts are =
    let self = c.args.self.now in
    ap (λ (o : Option ℕ). may_have_width o c.args.width) (sym (width-none self.codes self.wires self.block c.args.code.now parts are (sym c.in-None.ensures)))
