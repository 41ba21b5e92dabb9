use Rattle.std.proofs.Common.{ap, sym, ◌∙◌}
use Rattle.logical_value.specs.Tree.{group, plain, plain_values}
use Rattle.logical_value.proofs.PlainLemmas.{plain-Group}
use Rattle.logical_value.proofs.value.Value.fields.Goals as goal

pub returns-in-Group : goal.returns-in-Group
returns-in-Group c = ap plain c.in-Group.is ∙ plain-Group c.in-Group.parts ∙ ap (λ l. group (plain_values l)) (sym c.as_slice.ensures)
