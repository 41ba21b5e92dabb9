use Rattle.til_parser.proofs.rules.Common.{rules, decl, reads-less}
use Rattle.til_parser.proofs.rules.ProjectRules.{Shrinks-decl}
use Rattle.til_parser.proofs.parser.Parser.decls.Goals as goal

pub braced-requires : goal.braced-requires
braced-requires c κs = (search rules, (search rules, λ p q a k. reads-less (Shrinks-decl c.args.levels) p.now q.now a (search rules)))

pub returns : goal.returns
returns c = c.braced.ensures (decl c.args.levels) (λ p q a k. search rules) (Shrinks-decl c.args.levels)
