use Rattle.watch_text.proofs.WholeSteps.{watch_of-none, watch_of-stopped, watch_of-took}
use Rattle.watch_text.proofs.reading.read_watch.Goals as goal

pub returns-in_default : goal.returns-in_default
returns-in_default c = watch_of-none c.args.text.now c.in_default.ensures

pub returns-in-Ok : goal.returns-in-Ok
returns-in-Ok c =
    watch_of-took c.args.text.now c.in-Some.front.now c.in-Some.back.now c.new-lines.result c.watch_from.new.lines c.in-Ok.watch c.whole.result c.in-Some.ensures c.new-lines.ensures c.in-Ok.ensures c.whole.ensures

pub returns-in-Err : goal.returns-in-Err
returns-in-Err c =
    rw c.told_at.ensures
    (watch_of-stopped c.args.text.now c.in-Some.front.now c.in-Some.back.now c.new-lines.result c.watch_from.new.lines c.in-Err.fault c.offset_of.result c.in-Some.ensures c.new-lines.ensures c.in-Err.ensures c.offset_of.ensures)
