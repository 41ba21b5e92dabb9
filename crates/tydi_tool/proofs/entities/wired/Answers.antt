use Rattle.til_resolve.specs.PlainProject.{plain_project}
use Rattle.link_check.specs.Checked.{linked}
use Rattle.tydi_tool.specs.Entities.{text_of_nets}
use Rattle.tydi_tool.proofs.LinkLemmas.{checked-refused, checked-told}
use Rattle.tydi_tool.proofs.entities.wired.Goals as goal

pub returns-in-Ok : goal.returns-in-Ok
returns-in-Ok c = checked-told c.args.word.now (text_of_nets c.args.language (plain_project c.args.project.now).streamlets) (linked (plain_project c.args.project.now).streamlets) c.in-Ok.nets c.written.result
    c.in-Ok.ensures c.written.ensures

pub returns-in-Err : goal.returns-in-Err
returns-in-Err c = checked-refused c.args.word.now (text_of_nets c.args.language (plain_project c.args.project.now).streamlets) (linked (plain_project c.args.project.now).streamlets) c.in-Err.fault c.unlinked.result
    c.in-Err.ensures c.unlinked.ensures
