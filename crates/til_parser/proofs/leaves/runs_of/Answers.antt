use Rattle.til_parser.proofs.numbers.NumberLemmas.{AreParts-number}
use Rattle.til_parser.proofs.leaves.runs_of.Goals as goal

pub byte_of-requires : goal.byte_of-requires
byte_of-requires c = rw c.around_point.ensures.before (AreParts-number c.args.spelling.now c.requires).before

pub byte_of-requires-2 : goal.byte_of-requires-2
byte_of-requires-2 c = rw c.around_point.ensures.behind (AreParts-number c.args.spelling.now c.requires).behind
