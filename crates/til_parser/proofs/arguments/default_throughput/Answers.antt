use Rattle.std.proofs.Common.{refl, arith}
use Rattle.til_parser.proofs.numbers.FractionLemmas.{lowest_from_Some}
use Rattle.til_parser.proofs.arguments.default_throughput.Goals as goal

pub returns : goal.returns
returns c = lowest_from_Some 1 1 1 1 _ _ refl refl (omega arith) c.new.ensures.value c.unwrap.ensures
