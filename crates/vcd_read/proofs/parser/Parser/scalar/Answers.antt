use Rattle.std.proofs.Common.{◌∙◌, ◌∷◌, [], ℕ, Option, IfSome, refl, sym, ap, subst}
use Rattle.vcd_read.specs.History.{Changes, known}
use Rattle.vcd_read.specs.Profile.{Beginning, scalar}
use Rattle.vcd_read.specs.Wires.{IsWide}
use Rattle.vcd_read.proofs.ParserLemmas.{one-width, scalar-one, scalar-other}
use Rattle.vcd_read.proofs.WireLemmas.{at-within, width-at, width-none}
use Rattle.vcd_read.proofs.WordLemmas.{word-wide}
use Rattle.vcd_read.proofs.parser.Parser.scalar.Goals as goal

pub returns-in_default-clause-takes : goal.returns-in_default-clause-takes
unfolding scalar
returns-in_default-clause-takes c wanted parts is = ap (scalar parts c.args.offset c.args.code.now c.args.state)
    (width-none c.args.self.now.dump.wires.codes c.args.self.now.dump.wires.wires c.args.self.now.dump.wires.block c.args.code.now parts is.wires_are (sym
    c.in_default.ensures))

pub returns-then-not-is_scalar-clause-takes : goal.returns-then-not-is_scalar-clause-takes
returns-then-not-is_scalar-clause-takes c wanted parts is = ap (scalar parts c.args.offset c.args.code.now c.args.state)
    (width-at c.args.self.now.dump.wires.codes c.args.self.now.dump.wires.wires c.args.self.now.dump.wires.block c.in-Some.number c.args.code.now parts
    is.wires_are (sym c.in-Some.ensures))
    ∙ scalar-other parts c.args.offset c.args.code.now c.args.state _ (sym c.is_scalar.ensures ∙ c.if-not-is_scalar.true)

pub change-requires : goal.change-requires
change-requires c = at-within c.args.self.now.dump.wires.codes c.args.self.now.dump.wires.wires c.args.self.now.dump.wires.block c.in-Some.number
    c.args.code.now c.requires.stands.1.0 c.requires.stands.1.1.wires_are (sym c.in-Some.ensures)

pub returns-clause-takes : goal.returns-clause-takes
unfolding known
returns-clause-takes c wanted parts is =
    let at = width-at c.args.self.now.dump.wires.codes c.args.self.now.dump.wires.wires c.args.self.now.dump.wires.block c.in-Some.number c.args.code.now
    parts is.wires_are (sym c.in-Some.ensures) in
    let one = sym c.is_scalar.ensures ∙ c.if-not-is_scalar.false in (
      record { awaited = Beginning; parts = Changes c.args.code.now (c.args.state ∷ []) ∷ parts },
      (
        ap (scalar parts c.args.offset c.args.code.now c.args.state) at ∙ scalar-one parts c.args.offset c.args.code.now c.args.state _ one,
        record {
          dump_is = c.change.ensures.stands wanted parts c.args.code.now (c.args.state ∷ []) is (sym c.in-Some.ensures)
              (subst (λ (found : Option ℕ). IfSome found (λ width. IsWide width c.in-Ok.word)) (sym (at
              ∙ one-width _ one)) (subst (IsWide 1) (sym c.in-Ok.ensures) (word-wide (c.args.state ∷ [])))) c.in-Ok.ensures;
          awaited_is = refl;
        },
      ),
    )
