use Rattle.type_split.specs.Streams.{plain_split}
use Rattle.tydi_tool.proofs.TextLemmas.{read-plan-fits}
use Rattle.tydi_tool.proofs.declared_test.plan_of_test.Goals as goal

pub returns-in-Ok-clause-fits : goal.returns-in-Ok-clause-fits
returns-in-Ok-clause-fits c = read-plan-fits c.in-Ok.word (plain_split c.args.split.now) c.as_bytes.result.now c.read.result c.read.ensures
