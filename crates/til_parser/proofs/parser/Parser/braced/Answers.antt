use Rattle.til_parser.proofs.rules.Common.{false, rules, arith, common_steps, braced, is_kind, repeated}
use Rattle.til_lexer.specs.declared.token.TokenKind.TheVariants as kinds
use Rattle.til_parser.proofs.parser.Parser.braced.Goals as goal

pub returns-in_err-items : goal.returns-in_err-items
unfolding braced repeated
returns-in_err-items g c read reads shrinks = grind (arith, common_steps, c.repeated.ensures read (is_kind kinds.CloseBrace) false (λ p b k. search rules) reads shrinks)

pub returns-in_err-expect-2 : goal.returns-in_err-expect-2
unfolding braced repeated
returns-in_err-expect-2 g c read reads shrinks = grind (arith, common_steps, c.repeated.ensures read (is_kind kinds.CloseBrace) false (λ p b k. search rules) reads shrinks)

pub returns : goal.returns
unfolding braced repeated
returns g c read reads shrinks = grind (arith, common_steps, c.repeated.ensures read (is_kind kinds.CloseBrace) false (λ p b k. search rules) reads shrinks)
