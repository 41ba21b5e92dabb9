use Rattle.std.proofs.Common.{ap, sym, ◌∙◌}
use Rattle.logical_value.specs.Tree.{list, plain, plain_values}
use Rattle.logical_value.proofs.PlainLemmas.{plain-List}
use Rattle.logical_value.proofs.value.Value.members.Goals as goal

pub returns-in-List : goal.returns-in-List
returns-in-List c = ap plain c.in-List.is ∙ plain-List c.in-List.parts ∙ ap (λ l. list (plain_values l)) (sym c.as_slice.ensures)
