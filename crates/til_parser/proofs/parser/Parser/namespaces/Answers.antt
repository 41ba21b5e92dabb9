use Rattle.til_parser.proofs.rules.Common.{false, true, rules, repeated, reads-less}
use Rattle.til_parser.proofs.rules.ProjectRules.{Shrinks-namespace}
use Rattle.til_parser.proofs.parser.Parser.namespaces.Goals as goal

pub repeated-requires-clause-less : goal.repeated-requires-clause-less
repeated-requires-clause-less c = λ p q a k. reads-less (Shrinks-namespace c.args.levels) p.now q.now a (search rules)

pub returns : goal.returns
unfolding repeated
returns c = rw c.new-none.ensures at (c.repeated.ensures _ (λ _. false) true (λ p b k. search rules) (λ p q a k. search rules) (Shrinks-namespace c.args.levels))
