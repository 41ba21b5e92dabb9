use Rattle.logical_value.specs.declared.value.PortValue.{PortValue}
use Rattle.type_split.specs.Streams.{plain_split}
use Rattle.tydi_tool.specs.Commands.{compared_ask}
use Rattle.tydi_tool.specs.Texts.{ReadsValue}
use Rattle.tydi_tool.specs.Words.{text_file}
use Rattle.tydi_tool.proofs.AskLemmas.{DecidedBy-rest}
use Rattle.tydi_tool.proofs.compare.compare_value.Goals as goal

pub returns-in-Ok : goal.returns-in-Ok
returns-in-Ok g c =
    let split = plain_split c.args.split.now in
    record {
      decided = DecidedBy-rest (text_file c.args.value.now) PortValue (ReadsValue c.args.value.now split) (compared_ask c.args.trace.now split) _ _
          (g.S.Store.started c.args.store.now) _ _ _ _ _ _ c.in-Ok.read c.compare_trace.result
          c.in-Ok.ensures.files c.in-Ok.ensures.later c.in-Ok.ensures.asked c.compare_trace.ensures.decided;
    }
