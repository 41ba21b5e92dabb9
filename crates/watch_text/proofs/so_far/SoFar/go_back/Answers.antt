use Rattle.std.proofs.Common.{◌≡◌, List, OnOk, subst}
use Rattle.watch_text.specs.declared.stage.Stage.TheVariants as stages
use Rattle.watch_text.specs.Progress.{all_begun, around_of, progress_of}
use Rattle.watch_text.specs.Statements.{Statement}
use Rattle.watch_text.proofs.SoFarLemmas.{back-is}
use Rattle.watch_text.proofs.so_far.SoFar.go_back.Goals as goal

pub returns : goal.returns
returns c =
    subst (λ (earlier : List Statement). OnOk c.add.result (progress_of c.add.new.self ≡ record { stage = stages.Free; around = around_of c.args.inner.nest; earlier = earlier; begun = all_begun c.args.self.now.begun }))
    (back-is c.args.inner.opening c.replace-body.result c.args.self.now.stmts c.replace-body.new.dest c.args.inner.stmts c.made.result c.made.ensures c.replace-body.ensures.value c.replace-body.ensures.after)
    c.add.ensures
