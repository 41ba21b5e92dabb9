use Rattle.std.proofs.Common.{◌∙◌, ap}
use Rattle.physical_stream.specs.Params.{Parameters}
use Rattle.watch_text.proofs.statements.FirstLineWritten.write_to.Goals as goal

pub returns-in-Lanes-clause-ok : goal.returns-in-Lanes-clause-ok
returns-in-Lanes-clause-ok c = let lanes = c.from.ensures ∙ ap (λ (q : Parameters). q.lanes) c.params.view_is in rw (c.in-Lanes.is, ← lanes) c.emit.ensures.ok
