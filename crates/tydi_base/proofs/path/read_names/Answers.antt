use Rattle.std.proofs.Common.{◌∙◌, sym}
use Rattle.tydi_base.proofs.PathLoops.{Reads-no_name, Reads-no_last, Reads-more, Reads-last}
use Rattle.tydi_base.proofs.path.read_names.Goals as goal

pub returns-in_default-2 : goal.returns-in_default-2
returns-in_default-2 c = sym (Reads-no_name _ _ _ _ _ c.in-Some.after.now c.loop-piece.invariant c.in-Some.ensures.some (sym c.in_ok-name.ensures.ok ∙ c.in_default-2.is))

pub loop-piece-preserved : goal.loop-piece-preserved
loop-piece-preserved c = rw c.in_ok-push.ensures.ok (Reads-more _ _ _ _ _ c.in-Some.after.now _ c.loop-piece.invariant c.in-Some.ensures.some (sym c.in_ok-name.ensures.ok ∙ c.in-Some-2.is))

pub returns-in_default-3 : goal.returns-in_default-3
returns-in_default-3 c = sym (Reads-no_last _ _ _ _ c.loop-piece.invariant c.in_default.ensures.none (sym c.in_ok-name-2.ensures.ok ∙ c.in_default-3.is))

pub returns : goal.returns
returns c = rw c.in_ok-push-2.ensures.ok (Reads-last _ _ _ _ _ c.loop-piece.invariant c.in_default.ensures.none (sym c.in_ok-name-2.ensures.ok ∙ c.in-Some-3.is))
