use Rattle.watch_text.proofs.PlainLemmas.{plain-Lanes, plain-Dims, plain-IfActive, plain-IfLast}
use Rattle.watch_text.proofs.statement_reading.made.Goals as goal

pub returns-in-Lanes : goal.returns-in-Lanes
returns-in-Lanes c = rw c.in-Lanes.is (plain-Lanes c.args.body)

pub returns-in-Dims : goal.returns-in-Dims
returns-in-Dims c = rw c.in-Dims.is (plain-Dims c.args.body)

pub returns-in-IfActive : goal.returns-in-IfActive
returns-in-IfActive c = rw c.in-IfActive.is (plain-IfActive c.args.body)

pub returns-in-IfLast : goal.returns-in-IfLast
returns-in-IfLast c = rw c.in-IfLast.is (plain-IfLast c.args.body)
