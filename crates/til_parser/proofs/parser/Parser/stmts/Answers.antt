use Rattle.til_parser.proofs.rules.Common.{rules, stmt, reads-less}
use Rattle.til_parser.proofs.rules.DeclRules.{Shrinks-stmt}
use Rattle.til_parser.proofs.parser.Parser.stmts.Goals as goal

pub braced-requires : goal.braced-requires
braced-requires c κs = (search rules, (search rules, λ p q a k. reads-less Shrinks-stmt p.now q.now a (search rules)))

pub returns : goal.returns
returns c = c.braced.ensures stmt (λ p q a k. search rules) Shrinks-stmt
