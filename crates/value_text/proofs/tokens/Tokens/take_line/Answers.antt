use Rattle.std.proofs.Common.{rules, arith}
use Rattle.std.proofs.lemmas.Grind.{common_steps}
use Rattle.value_text.specs.Port.{root_line}
use Rattle.value_text.proofs.tokens.Tokens.take_line.Goals as goal

pub returns-in_err-take_path : goal.returns-in_err-take_path
unfolding root_line
returns-in_err-take_path c = rw (← c.node.view_is) (first_of (search rules, grind (arith, common_steps)))

pub returns : goal.returns
unfolding root_line
returns c = rw (← c.node.view_is) (first_of (search rules, grind (arith, common_steps)))
