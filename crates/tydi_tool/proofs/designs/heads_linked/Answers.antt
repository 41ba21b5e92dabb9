use Rattle.std.proofs.Common.{◌∙◌}
use Rattle.til_resolve.specs.PlainProject.{plain_project}
use Rattle.tydi_tool.specs.Designs.{design_words}
use Rattle.tydi_tool.proofs.DesignSteps.{nets-found}
use Rattle.tydi_tool.proofs.designs.heads_linked.Goals as goal

pub returns-in-Ok-leaf_of : goal.returns-in-Ok-leaf_of
returns-in-Ok-leaf_of c =
    nets-found (design_words c.args.words.now) (plain_project c.args.project.now).streamlets c.args.top c.in-Ok.nets c.heads_along.result c.in-Ok.ensures
    (c.heads_along.ensures c.args.top c.requires.from (c.as_ref.ensures.value ∙ c.in-Ok-leaf_of.ensures))
