use Rattle.type_split.specs.Streams.{plain_split}
use Rattle.tydi_tool.proofs.TextLemmas.{ReadsPlan-read, ReadsPlan-refused}
use Rattle.tydi_tool.proofs.texts.read_plan.Goals as goal

pub returns-in-Ok : goal.returns-in-Ok
returns-in-Ok c = ReadsPlan-read c.args.word.now (plain_split c.args.split.now) c.args.bytes.now c.in-Ok.plan c.in-Ok.ensures

pub returns-in-Err : goal.returns-in-Err
returns-in-Err c = ReadsPlan-refused c.args.word.now (plain_split c.args.split.now) c.args.bytes.now c.in-Err.fault c.no_plan.result c.in-Err.ensures c.no_plan.ensures
