use Rattle.std.proofs.Common.{◌≡◌, ◌∙◌, ◌++◌, ◌∷◌, [], ℕ, List, Some, None, sym, ap, subst}
use Rattle.vcd_read.specs.History.{Declares}
use Rattle.vcd_read.specs.Numbers.{KeepsNumbers, number_of}
use Rattle.vcd_read.specs.Wires.{AreWires}
use Rattle.vcd_read.specs.declared.wire.Wire.{Wire}
use Rattle.vcd_read.proofs.NumberLemmas.{keeps-push, number-last}
use Rattle.vcd_read.proofs.WireLemmas.{declare-new}
use Rattle.vcd_read.proofs.wires.Wires.declare.Goals as goal

pub returns-clause-number : goal.returns-clause-number
returns-clause-number c =
    ap (λ codes. number_of codes c.args.code.now) c.in_ok-push.ensures ∙ number-last c.args.self.now.codes c.args.code.now (sym c.in_default.ensures)
    ∙ ap (λ (n : ℕ). Some n) (sym c.requires ∙ sym c.len-number.ensures)

pub returns-clause-keeps : goal.returns-clause-keeps
returns-clause-keeps c = subst (KeepsNumbers c.args.self.now.codes) (sym c.in_ok-push.ensures) (keeps-push c.args.self.now.codes c.args.code.now)

pub returns-clause-stands : goal.returns-clause-stands
returns-clause-stands c parts name are may =
    let old = c.args.self.now in
    let wires : c.push-2.new.self ≡ old.wires ++ record { width = c.args.width; block = 0; earlier = None; current = None } ∷ [] = c.in_ok-push-2.ensures.ok
    ∙ ap (λ (w : Wire). old.wires ++ w ∷ []) c.new.ensures in
    subst (λ (codes : List (List ℕ)). AreWires codes c.push-2.new.self old.block (Declares c.args.width c.args.code.now name ∷ parts))
    (sym c.in_ok-push.ensures)
    (subst (λ (ws : List Wire). AreWires (old.codes ++ c.args.code.now ∷ []) ws old.block (Declares c.args.width c.args.code.now name ∷ parts)) (sym wires)
    (declare-new old.codes old.wires old.block c.args.width parts c.args.code.now name are may (sym c.in_default.ensures)))
