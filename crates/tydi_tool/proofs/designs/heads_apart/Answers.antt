use Rattle.std.specs.Option.{option_copied}
use Rattle.til_resolve.specs.PlainProject.{plain_project}
use Rattle.tydi_tool.specs.Designs.{design_words}
use Rattle.tydi_tool.proofs.DesignSteps.{under-apart}
use Rattle.tydi_tool.proofs.designs.heads_apart.Goals as goal

pub returns-in-Ok : goal.returns-in-Ok
returns-in-Ok c =
    under-apart (design_words c.args.words.now) (plain_project c.args.project.now).streamlets c.args.top (option_copied c.args.from) c.heads_linked.result c.requires.from
    c.in-Ok.ensures c.heads_linked.ensures
