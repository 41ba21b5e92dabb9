use Rattle.til_resolve.specs.PlainProject.{plain_project}
use Rattle.tydi_tool.specs.Designs.{design_words}
use Rattle.tydi_tool.proofs.DesignSteps.{design-read}
use Rattle.tydi_tool.proofs.ProjectLemmas.{ReadsProject-sound}
use Rattle.tydi_tool.proofs.designs.DesignTextTextReaderEndHeads.read.Goals as goal

pub heads_in-requires : goal.heads_in-requires
heads_in-requires c = ReadsProject-sound c.args.self.now.project.now c.args.bytes.now (plain_project c.in-Ok.project) c.in-Ok.ensures

pub returns-in-Ok : goal.returns-in-Ok
returns-in-Ok c =
    design-read (design_words c.args.self.now) c.args.bytes.now (plain_project c.in-Ok.project) c.heads_in.result c.in-Ok.ensures c.heads_in.ensures
