use Rattle.til_resolve.proofs.PlainProjectLemmas.{project-plain}
use Rattle.tydi_tool.proofs.ProjectLemmas.{Resolves-refused}
use Rattle.tydi_tool.proofs.projects.project_of.Goals as goal

pub returns-in-Ok : goal.returns-in-Ok
returns-in-Ok c = (c.in-Ok.ensures.sound, project-plain c.args.ast.now c.in-Ok.project c.in-Ok.ensures.project)

pub returns-in-Err : goal.returns-in-Err
returns-in-Err c = Resolves-refused c.args.word.now c.args.ast.now c.in-Err.fault c.unresolved.result c.in-Err.ensures.fault c.unresolved.ensures
