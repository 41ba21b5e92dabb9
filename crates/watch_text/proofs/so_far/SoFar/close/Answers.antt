use Rattle.watch_text.specs.Progress.{progress_of}
use Rattle.watch_text.proofs.SoFarLemmas.{closes-by, closes-not}
use Rattle.watch_text.proofs.so_far.SoFar.close.Goals as goal

pub returns-then-not-may_end : goal.returns-then-not-may_end
returns-then-not-may_end c =
    closes-not (progress_of c.args.self.now) c.args.line.now c.args.self.now.begun c.pop.new.self c.in-Some.inner c.may_end.result c.in-Some.ensures c.may_end.ensures c.if-not-may_end.true

pub returns : goal.returns
returns c =
    closes-by (progress_of c.args.self.now) (progress_of c.go_back.new.self) c.args.line.now c.args.self.now.begun c.pop.new.self c.in-Some.inner c.may_end.result c.in-Some.ensures c.may_end.ensures c.if-not-may_end.false
    c.in_ok-go_back.ensures
