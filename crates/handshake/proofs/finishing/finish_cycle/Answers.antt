use Rattle.std.proofs.Common.{◌+◌, refl, subst, sym}
use Rattle.std.proofs.lemmas.List.{get_or_default}
use Rattle.handshake.proofs.FinishLemmas.{RunsOn, runs-none, runs-more, runs-stand, runs-finish}
use Rattle.handshake.proofs.finishing.finish_cycle.Goals as goal

pub cycles-init : goal.cycles-init
cycles-init g c =
    subst (RunsOn g.F.TransferFeed.rest g.F.TransferFeed.whole c.args.cursor.now c.args.cursor.now c.args.ready.now 0 0) (sym c.or_here-finished.ensures)
    (runs-none g.F.TransferFeed.rest g.F.TransferFeed.whole c.args.cursor.now c.args.ready.now c.left.result c.left.ensures)

pub cycles-preserved : goal.cycles-preserved
cycles-preserved g c =
    subst (RunsOn g.F.TransferFeed.rest g.F.TransferFeed.whole c.args.cursor.now c.step.new.self c.args.ready.now (c.cycles.bit-index + 1) (c.cycles.number + 1)) (sym c.or_here-finished-in-cycles.ensures)
    (runs-more g.F.TransferFeed.rest g.F.TransferFeed.whole c.args.cursor.now c.args.ready.now c.cycles.cursor c.step.new.self c.cycles.bit-index c.cycles.number (c.cycles.number + 1) c.left-in-cycles.result c.cycles.finished
    _ c.cycles.invariant c.cycles-test.true (get_or_default c.args.ready.now c.cycles.bit-index _ _ c.cycles-test.true) c.step.ensures.stands c.step.ensures.params c.step.ensures.gaps c.step.ensures.whole c.left-in-cycles.ensures refl)

pub returns-clause-finishes : goal.returns-clause-finishes
returns-clause-finishes g c =
    runs-finish g.F.TransferFeed.rest g.F.TransferFeed.whole c.args.cursor.now c.args.ready.now c.cycles.cursor c.cycles.bit-index c.cycles.number c.cycles.finished c.cycles.invariant c.cycles-test.false

pub returns-clause-stands : goal.returns-clause-stands
returns-clause-stands g c =
    runs-stand g.F.TransferFeed.rest g.F.TransferFeed.whole c.args.cursor.now c.args.ready.now c.cycles.cursor c.cycles.bit-index c.cycles.number c.cycles.finished c.cycles.invariant c.cycles-test.false
