use Rattle.std.proofs.Common.{◌∙◌, slice_get, sym, ap, subst}
use Rattle.vcd_read.specs.History.{declared_width}
use Rattle.vcd_read.specs.Parser.{Takes, token}
use Rattle.vcd_read.specs.Profile.{next, vector_change}
use Rattle.vcd_read.specs.Wires.{has_room, width_in}
use Rattle.vcd_read.proofs.ParserLemmas.{room-granted, room-refused}
use Rattle.vcd_read.proofs.WireLemmas.{at-within, kept-at, width-none}
use Rattle.vcd_read.proofs.parser.Parser.vector_code.Goals as goal

pub returns-in_default-clause-takes : goal.returns-in_default-clause-takes
unfolding next vector_change
returns-in_default-clause-takes c wanted parts states is letters = ap (vector_change parts c.args.self.now.offset states (token c.args.offset
    c.args.word.now)) (width-none c.args.self.now.dump.wires.codes c.args.self.now.dump.wires.wires c.args.self.now.dump.wires.block c.args.word.now parts
    is.wires_are (sym c.in_default.ensures))

pub returns-then-not-has_room-clause-takes : goal.returns-then-not-has_room-clause-takes
unfolding next
returns-then-not-has_room-clause-takes c wanted parts states is letters =
    let kept = kept-at c.args.self.now.dump.wires.codes c.args.self.now.dump.wires.wires c.args.self.now.dump.wires.block c.in-Some.number c.args.word.now
    parts is.wires_are (sym c.in-Some.ensures) in
    room-refused parts c.args.self.now.offset states (token c.args.offset c.args.word.now) c.args.self.now.vector letters (declared_width c.args.word.now
    parts) (width_in (slice_get c.args.self.now.dump.wires.wires c.in-Some.number)) kept.0.width kept.1.1.width (ap width_in kept.1.0) c.has_room.result
    (c.has_room.ensures ∙ ap (has_room (width_in (slice_get c.args.self.now.dump.wires.wires c.in-Some.number))) c.len.ensures) c.if-not-has_room.true

pub change_vector-requires : goal.change_vector-requires
change_vector-requires c = record {
  room = ap (has_room (width_in (slice_get c.args.self.now.dump.wires.wires c.in-Some.number))) (sym c.len.ensures) ∙ sym c.has_room.ensures
      ∙ c.if-not-has_room.false;
  within = at-within c.args.self.now.dump.wires.codes c.args.self.now.dump.wires.wires c.args.self.now.dump.wires.block c.in-Some.number c.args.word.now
      c.requires.1.0 c.requires.1.1.wires_are (sym c.in-Some.ensures);
}

pub returns-clause-takes : goal.returns-clause-takes
unfolding next
returns-clause-takes c wanted parts states is letters =
    let at = sym c.in-Some.ensures in
    let kept = kept-at c.args.self.now.dump.wires.codes c.args.self.now.dump.wires.wires c.args.self.now.dump.wires.block c.in-Some.number c.args.word.now
    parts is.wires_are at in
    let room = ap (has_room (width_in (slice_get c.args.self.now.dump.wires.wires c.in-Some.number))) (sym c.len.ensures) ∙ sym c.has_room.ensures
    ∙ c.if-not-has_room.false in
    subst (Takes wanted c.change_vector.result c.change_vector.new.self)
    (sym (room-granted parts c.args.self.now.offset states (token c.args.offset c.args.word.now) c.args.self.now.vector letters (declared_width
    c.args.word.now parts) (width_in (slice_get c.args.self.now.dump.wires.wires c.in-Some.number)) kept.0.width kept.1.1.width (ap width_in kept.1.0)
    room))
    (c.change_vector.ensures.takes wanted parts states c.args.word.now kept.0.width is letters at (ap width_in kept.1.0) kept.1.1.width)
