use Rattle.type_split.specs.Streams.{plain_split}
use Rattle.tydi_tool.proofs.TextLemmas.{ReadsValue-refused}
use Rattle.tydi_tool.proofs.texts.read_value.Goals as goal

pub returns-in-Err : goal.returns-in-Err
returns-in-Err c = ReadsValue-refused c.args.word.now (plain_split c.args.split.now) c.args.bytes.now c.in-Err.fault c.no_value.result c.in-Err.ensures.value c.no_value.ensures
