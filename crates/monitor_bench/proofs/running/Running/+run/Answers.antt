use Rattle.std.proofs.Common.{◌∙◌, ap}
use Rattle.watch_text.specs.Statements.{dims, if_active, if_last, lanes, plain}
use Rattle.watch_text.proofs.PlainLemmas.{plain-Dims, plain-IfActive, plain-IfLast, plain-Lanes}
use Rattle.monitor_bench.proofs.RunLemmas.{steps-active, steps-form, steps-last}
use Rattle.monitor_bench.proofs.running.Running.+run.Goals as goal

pub run-returns-in-Lanes : goal.run-returns-in-Lanes
run-returns-in-Lanes t c =
    steps-form c.args.edge.now c.args.lane c.args.dim lanes (plain c.args.statement.now) c.in-Lanes.body c.as_slice.result.now c.args.self.now c.run_lanes.new.self
    (ap plain c.in-Lanes.is ∙ plain-Lanes c.in-Lanes.body) c.as_slice.ensures c.run_lanes.ensures

pub run-returns-in-Dims : goal.run-returns-in-Dims
run-returns-in-Dims t c =
    steps-form c.args.edge.now c.args.lane c.args.dim dims (plain c.args.statement.now) c.in-Dims.body c.as_slice-in-Dims.result.now c.args.self.now c.run_dims.new.self
    (ap plain c.in-Dims.is ∙ plain-Dims c.in-Dims.body) c.as_slice-in-Dims.ensures c.run_dims.ensures

pub run-returns-then-is_active : goal.run-returns-then-is_active
run-returns-then-is_active t c =
    steps-form c.args.edge.now c.args.lane c.args.dim if_active (plain c.args.statement.now) c.in-IfActive.body c.as_slice-then-is_active.result.now c.args.self.now c.run_all.new.self
    (ap plain c.in-IfActive.is ∙ plain-IfActive c.in-IfActive.body) c.as_slice-then-is_active.ensures
    (steps-active c.args.edge.now c.args.lane c.args.dim c.is_active.result c.as_slice-then-is_active.result.now c.args.self.now c.run_all.new.self c.is_active.ensures c.if-is_active.true
    c.run_all.ensures)

pub run-returns-then-is_marked : goal.run-returns-then-is_marked
run-returns-then-is_marked t c =
    steps-form c.args.edge.now c.args.lane c.args.dim if_last (plain c.args.statement.now) c.in-IfLast.body c.as_slice-then-is_marked.result.now c.args.self.now c.run_all-then-is_marked.new.self
    (ap plain c.in-IfLast.is ∙ plain-IfLast c.in-IfLast.body) c.as_slice-then-is_marked.ensures
    (steps-last c.args.edge.now c.args.lane c.args.dim c.is_marked.result c.as_slice-then-is_marked.result.now c.args.self.now c.run_all-then-is_marked.new.self c.is_marked.ensures
    c.if-is_marked.true c.run_all-then-is_marked.ensures)
