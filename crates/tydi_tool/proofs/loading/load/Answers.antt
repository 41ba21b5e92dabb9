use Rattle.tydi_tool.proofs.LoadingLemmas.{started-there, Loads-there}
use Rattle.tydi_tool.proofs.loading.load.Goals as goal

pub returns-in-Ok-true-clause-loads : goal.returns-in-Ok-true-clause-loads
returns-in-Ok-true-clause-loads g c =
    Loads-there _ _ _ c.args.limit _ _ _ _ _ c.in-Ok-true.ensures.files c.pull_all.ensures.loads
    (started-there _ _ _ _ _ c.as_str.ensures c.in-Ok-true.field-0-test c.in-Ok-true.ensures.started c.in-Ok-true.ensures.found)
