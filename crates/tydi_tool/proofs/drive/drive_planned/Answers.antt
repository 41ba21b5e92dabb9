use Rattle.plan_text.specs.declared.plan.Plan.{Plan}
use Rattle.type_split.specs.Streams.{plain_split}
use Rattle.tydi_tool.specs.Drives.{TellsText}
use Rattle.tydi_tool.specs.Texts.{ReadsPlan}
use Rattle.tydi_tool.specs.Words.{text_file}
use Rattle.tydi_tool.proofs.AskLemmas.{DecidedBy-last}
use Rattle.tydi_tool.proofs.drive.drive_planned.Goals as goal

pub returns-in-Ok : goal.returns-in-Ok
returns-in-Ok g c =
    let split = plain_split c.args.split.now in
    record {
      decided = DecidedBy-last (text_file c.args.plan.now) Plan (ReadsPlan c.args.plan.now split) (TellsText c.args.text split c.args.value.now) _ (g.S.Store.started c.args.store.now) _ _ _
          c.in-Ok.read c.driven.result c.in-Ok.ensures.asked c.driven.ensures;
    }
