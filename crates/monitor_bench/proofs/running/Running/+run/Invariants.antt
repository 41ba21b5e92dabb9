use Rattle.std.proofs.Common.{◌≡◌, drop, length}
use Rattle.watch_text.specs.Statements.{plain_statements}
use Rattle.monitor_bench.specs.Meaning.{for_each, run_all}
use Rattle.monitor_bench.specs.Running.{state_of}
use Rattle.monitor_bench.proofs.running.Running.+run.Given as goal

-- the statements that are left lead to where all lead
abbrev pub invariant-run_all-statements : goal.invariant-run_all-statements
invariant-run_all-statements l = record {
  state : run_all l.edge.params.now l.edge.want.now l.edge.transfer.now l.lane l.dim (plain_statements (drop l.statement-index l.statements)) (state_of l.self)
      ≡ run_all l.edge.params.now l.edge.want.now l.edge.transfer.now l.lane l.dim (plain_statements l.statements) (state_of l.initial.self);
  room : length l.self.word ≡ length l.initial.self.word;
}

abbrev pub invariant-run_dims-dims : goal.invariant-run_dims-dims
invariant-run_dims-dims l = record {
  state : state_of l.self ≡ for_each (λ dim. run_all l.edge.params.now l.edge.want.now l.edge.transfer.now l.lane dim (plain_statements l.body)) l.dim (state_of l.initial.self);
  room : length l.self.word ≡ length l.initial.self.word;
}

abbrev pub invariant-run_lanes-lanes : goal.invariant-run_lanes-lanes
invariant-run_lanes-lanes l = record {
  state : state_of l.self ≡ for_each (λ lane. run_all l.edge.params.now l.edge.want.now l.edge.transfer.now lane l.dim (plain_statements l.body)) l.lane (state_of l.initial.self);
  room : length l.self.word ≡ length l.initial.self.word;
}
