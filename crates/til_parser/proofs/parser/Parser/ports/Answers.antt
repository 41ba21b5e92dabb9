use Rattle.til_parser.proofs.rules.Common.{rules, port, one_more, reads-less}
use Rattle.til_parser.proofs.rules.DeclRules.{Shrinks-port}
use Rattle.til_parser.proofs.parser.Parser.ports.Goals as goal

pub bracketed-requires : goal.bracketed-requires
bracketed-requires c κs = (search rules, (search rules, λ p q found a k. reads-less (Shrinks-port c.args.levels found) p.now q.now a (search rules)))

pub returns : goal.returns
returns c = rw c.new.ensures at (c.bracketed.ensures (one_more (port c.args.levels)) (λ p q found a k. search rules) (Shrinks-port c.args.levels))
