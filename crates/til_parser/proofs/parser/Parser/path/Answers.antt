use Rattle.til_parser.proofs.rules.Common.{rules, arith, common_steps, is_kind, name, path, reads-less}
use Rattle.til_lexer.specs.declared.token.TokenKind.TheVariants as kinds
use Rattle.til_parser.proofs.rules.LeafRules.{Shrinks-name}
use Rattle.til_parser.proofs.parser.Parser.path.Goals as goal

pub joined-requires-clause-less : goal.joined-requires-clause-less
joined-requires-clause-less c = λ p q a k. reads-less Shrinks-name p.now q.now a (search rules)

pub returns-in_err-all : goal.returns-in_err-all
unfolding path
returns-in_err-all c = grind (arith, common_steps, c.joined.ensures name (is_kind kinds.DoubleColon) (λ p b k. search rules) (λ p q a k. search rules) Shrinks-name)

pub returns : goal.returns
unfolding path
returns c = grind (arith, common_steps, c.joined.ensures name (is_kind kinds.DoubleColon) (λ p b k. search rules) (λ p q a k. search rules) Shrinks-name)
