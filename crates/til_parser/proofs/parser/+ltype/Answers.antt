use Rattle.til_parser.proofs.rules.Common.{◌≡◌, suc, ◌-◌, false, rules, arith, common_steps, is_kind, is_given, value, ltype, one_more, part, argument_at, reads-less, adds-most}
use Rattle.til_lexer.specs.declared.token.TokenKind.TheVariants as kinds
use Rattle.til_parser.proofs.rules.TypeRules.{Shrinks-part, value-never-grows}
use Rattle.til_parser.proofs.parser.+ltype.Goals as goal

-- ---- a type

pub Parser::ltype-returns : goal.Parser::ltype-returns
unfolding ltype
Parser::ltype-returns t c = let deeper : c.args.levels ≡ suc (c.args.levels - 1) = omega arith in rw deeper c.type_with.ensures

-- ---- lists

pub Parser::parts-bracketed-requires : goal.Parser::parts-bracketed-requires
Parser::parts-bracketed-requires t c κs =
    (search rules, (search rules, λ p q found a k. reads-less (Shrinks-part c.args.levels found) p.now q.now a (search rules)))

pub Parser::parts-returns : goal.Parser::parts-returns
Parser::parts-returns t c =
    let made = c.bracketed.ensures (one_more (part (ltype c.args.levels))) (λ p q found a k. search rules) (Shrinks-part c.args.levels) in
    first_of (search rules, grind (arith, common_steps))

pub Parser::arguments-named-requires-clause-named : goal.Parser::arguments-named-requires-clause-named
Parser::arguments-named-requires-clause-named t c = (argument_at, λ p k m. search rules)

pub Parser::arguments-named-requires-clause-least : goal.Parser::arguments-named-requires-clause-least
Parser::arguments-named-requires-clause-least t c = λ p q k given a m. adds-most (value-never-grows c.args.levels) k given p.now q.now a (search rules)

pub Parser::arguments-returns : goal.Parser::arguments-returns
Parser::arguments-returns t c = rw c.none.ensures at (c.named.ensures argument_at is_given (value (ltype c.args.levels)) (is_kind kinds.CloseParen) (is_kind kinds.Comma) false
    (λ p k m. search rules) (λ k given b m. search rules) (λ p q k given a m. search rules) (value-never-grows c.args.levels) (λ p b m. search rules) (λ p b m. search rules))
