use Rattle.std.proofs.Common.{◌<◌, ◌≤◌, List, length, take, get_or, sym, subst, arith}
use Rattle.std.proofs.lemmas.List.{take_all, take_more}
use Rattle.vhdl_text.specs.declared.bench.Stmt.{Stmt}
use Rattle.vhdl_meaning.specs.Turns.{CanTurn, HasTurned, Turns}
use Rattle.vhdl_meaning.proofs.TurnLemmas.{turns-can, turns-more, turns-places, turns-stand, not-yet}
use Rattle.vhdl_meaning.proofs.turn.edge_all.Goals as goal

-- src/turn.rt:45:9
pub turn-requires : goal.turn-requires
turn-requires c =
    let less : c.turns.number-index < length c.args.order.now = c.turns-test.true in
    let number = get_or c.args.order.now c.turns.number-index 0 in
    subst (λ l. CanTurn l c.turns.places number c.args.ready.now c.turns.lines) (sym c.as_slice.ensures)
    (turns-can c.args.bench.now.heads c.args.bench.now.procs c.requires.sound c.args.ready.now c.args.places.now c.requires.places c.args.lines.now
    (take c.turns.number-index c.args.order.now) c.turns.places c.turns.lines number c.turns.invariant
    (not-yet (length c.args.bench.now.procs) c.turns.number-index c.args.order.now c.requires.order less) (c.requires.order.within c.turns.number-index 0 less))

-- src/turn.rt:44:5
pub turns-preserved : goal.turns-preserved
turns-preserved c =
    let less : c.turns.number-index < length c.args.order.now = c.turns-test.true in
    let number = get_or c.args.order.now c.turns.number-index 0 in
    subst (λ l. Turns c.args.bench.now.heads c.args.bench.now.procs c.args.ready.now l c.args.places.now c.turn.new.places c.args.lines.now c.turn.new.lines)
    (sym (take_more c.args.order.now c.turns.number-index 0 less))
    (turns-more c.args.bench.now.heads c.args.bench.now.procs c.requires.sound c.args.ready.now c.args.places.now c.requires.places c.args.lines.now
    (take c.turns.number-index c.args.order.now) c.turns.places c.turn.new.places c.turns.lines c.turn.new.lines number c.turns.invariant
    (subst (λ (l : List (List Stmt)). HasTurned l c.turns.places c.turn.new.places number c.args.ready.now c.turns.lines c.turn.new.lines) c.as_slice.ensures c.turn.ensures)
    (not-yet (length c.args.bench.now.procs) c.turns.number-index c.args.order.now c.requires.order less) (c.requires.order.within c.turns.number-index 0 less))

-- src/turn.rt:29:1
pub returns : goal.returns
returns c =
    let past : length c.args.order.now ≤ c.turns.number-index = let e = c.turns-test.false in omega (arith, e) in
    let over =
    subst (λ l. Turns c.args.bench.now.heads c.args.bench.now.procs c.args.ready.now l c.args.places.now c.turns.places c.args.lines.now c.turns.lines)
    (take_all c.turns.number-index c.args.order.now past) c.turns.invariant in
    record {
      places = turns-places c.args.bench.now.heads c.args.bench.now.procs c.requires.sound c.args.ready.now c.args.places.now c.requires.places c.args.lines.now
          c.args.order.now c.turns.places c.turns.lines c.requires.order over;
      lines = over.fit;
      stands = λ now. turns-stand c.args.bench.now.heads c.args.bench.now.procs c.requires.sound c.args.ready.now c.args.places.now c.requires.places c.args.lines.now
          now c.args.order.now c.turns.places c.turns.lines c.requires.order over;
    }
