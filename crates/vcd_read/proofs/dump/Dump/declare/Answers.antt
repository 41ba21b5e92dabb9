use Rattle.std.proofs.Common.{◌∙◌, sym}
use Rattle.std.proofs.lemmas.Result.{on_ok_weaker}
use Rattle.vcd_read.proofs.DumpLemmas.{after-declares, inside-is}
use Rattle.vcd_read.proofs.VariableLemmas.{declare-outside}
use Rattle.vcd_read.proofs.dump.Dump.declare.Goals as goal

pub returns-then-is_inside-clause-stands : goal.returns-then-is_inside-clause-stands
returns-then-is_inside-clause-stands c = on_ok_weaker c.add.result (λ added wanted parts is may.
    let old = c.args.self.now in
    after-declares wanted old.scopes old.ended old.wires old.variables old.times old.sampler parts is c.args.width c.args.code.now c.args.name.now
    c.declare.new.self c.add.new.self
    (c.in_ok-number.ensures.stands parts c.args.name.now is.wires_are may.0)
    (added old.wires.codes c.declare.new.self.codes wanted.scope c.args.code.now parts is.variables_are c.in_ok-number.ensures.keeps
    (inside-is wanted old.scopes old.ended old.wires old.variables old.times old.sampler parts is ∙ sym c.is_inside.ensures
    ∙ c.if-is_inside.true) c.in_ok-number.ensures.number) may.1) c.add.ensures

pub returns-else-is_inside-clause-stands : goal.returns-else-is_inside-clause-stands
returns-else-is_inside-clause-stands c wanted parts is may =
    let old = c.args.self.now in
    after-declares wanted old.scopes old.ended old.wires old.variables old.times old.sampler parts is c.args.width c.args.code.now c.args.name.now
    c.declare.new.self old.variables
    (c.in_ok-number.ensures.stands parts c.args.name.now is.wires_are may.0)
    (declare-outside old.wires.codes c.declare.new.self.codes c.in_ok-number.ensures.keeps wanted.scope c.args.width c.args.code.now c.args.name.now parts
    old.variables is.variables_are
    (inside-is wanted old.scopes old.ended old.wires old.variables old.times old.sampler parts is ∙ sym c.is_inside.ensures ∙ c.if-is_inside.false)) may.1
