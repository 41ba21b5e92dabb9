use Rattle.tydi_base.proofs.SetLemmas.{AddsText-inserted}
use Rattle.tydi_base.proofs.text_set.add_text.Goals as goal

pub returns-clause-added : goal.returns-clause-added
returns-clause-added c = AddsText-inserted _ _ _ c.in_ok-insert.ensures.keys
