use Rattle.std.proofs.Common.{◌∙◌, ◌∷◌, Option, List, Bool, IfSome, set, sym, ap, subst, refl}
use Rattle.std.proofs.lemmas.Option.{slice_get_read}
use Rattle.vcd_read.specs.History.{Changes, declared_width}
use Rattle.vcd_read.specs.Wires.{AreWires, IsWide, changed}
use Rattle.vcd_read.specs.declared.wire.Wire.{Wire}
use Rattle.vcd_read.proofs.WireLemmas.{change-wires}
use Rattle.vcd_read.proofs.wires.Wires.change.Goals as goal

pub returns-in-Some-clause-stands : goal.returns-in-Some-clause-stands
returns-in-Some-clause-stands c parts code states are at wide is =
    let old = c.args.self.now in
    let wire = c.in-Some.wire.now in
    let found = slice_get_read old.wires _ c.args.number wire refl c.requires.within c.in-Some.ensures.value in
    subst (λ (new : Wire). AreWires old.codes (set old.wires c.args.number new) old.block (Changes code states ∷ parts))
    (ap (changed wire old.block) (sym is) ∙ sym c.change.ensures)
    (change-wires old.codes old.wires old.block c.args.number wire parts code states are at found
    (subst (λ (word : Option (List Bool)). IfSome (declared_width code parts) (λ width. IsWide width word)) is wide))
