use Rattle.til_parser.proofs.LawLemmas.{trees_or_faults}
use Rattle.til_parser.proofs.laws.trees_or_faults.Goals as goal

pub returns : goal.returns
returns c = trees_or_faults
