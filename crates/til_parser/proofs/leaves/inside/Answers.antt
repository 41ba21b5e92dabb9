use Rattle.til_parser.proofs.LexemeLemmas.{AreCuts-marked}
use Rattle.til_parser.proofs.leaves.inside.Goals as goal

pub range-requires-clause-start_boundary : goal.range-requires-clause-start_boundary
range-requires-clause-start_boundary c = λ _. (AreCuts-marked c.args.spelling.now c.requires).0
