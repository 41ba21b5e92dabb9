use Rattle.std.proofs.Common.{ap, ◌∙◌}
use Rattle.logical_value.specs.Tree.{plain}
use Rattle.logical_value.proofs.PlainLemmas.{plain-Group}
use Rattle.value_views.proofs.filling.into_fields.Goals as goal

pub returns-in-Group : goal.returns-in-Group
returns-in-Group c = ap plain c.in-Group.is ∙ plain-Group c.in-Group.fields
