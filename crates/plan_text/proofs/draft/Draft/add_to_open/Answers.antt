use Rattle.plan_text.specs.LinesView.{line_in}
use Rattle.plan_text.proofs.BlockLemmas.{Adds-line, in_block-none}
use Rattle.plan_text.proofs.draft.Draft.add_to_open.Goals as goal

pub returns-in-Some-clause-more : goal.returns-in-Some-clause-more
returns-in-Some-clause-more c = λ found holds. Adds-line c.args.self.now found c.in-Some.block c.add_line.new.self c.args.cycles (line_in c.args.line) c.add_line.result holds c.in-Some.is c.add_line.ensures

pub returns-in-None-clause-more : goal.returns-in-None-clause-more
returns-in-None-clause-more c = λ found holds. in_block-none c.args.self.now found c.args.cycles (line_in c.args.line) holds c.in-None.is
