use Rattle.logical_value.specs.declared.value.PortValue.{PortValue}
use Rattle.type_split.specs.Streams.{plain_split}
use Rattle.tydi_tool.specs.Texts.{ReadsValue}
use Rattle.tydi_tool.specs.Watches.{TellsExpected}
use Rattle.tydi_tool.specs.Words.{text_file}
use Rattle.tydi_tool.proofs.AskLemmas.{DecidedBy-last}
use Rattle.tydi_tool.proofs.expect.expect_value.Goals as goal

pub returns-in-Ok : goal.returns-in-Ok
returns-in-Ok g c =
    let split = plain_split c.args.split.now in
    record {
      decided = DecidedBy-last (text_file c.args.value.now) PortValue (ReadsValue c.args.value.now split) (TellsExpected split) _ (g.S.Store.started c.args.store.now) _ _ _
          c.in-Ok.read c.expected.result c.in-Ok.ensures.asked c.expected.ensures;
    }
