use Rattle.std.specs.Prelude.{nat_lt}
use Rattle.value_text.specs.Tokens.{kind_coded}
use Rattle.value_text.proofs.TokenLemmas.{sign-coded}
use Rattle.value_text.proofs.lexing.sign_at.Goals as goal

pub returns : goal.returns
returns c = sign-coded (kind_coded c.code.result) (nat_lt 0 c.args.gap) c.args.rest.now c.code.ensures c.requires.some c.requires.sign
