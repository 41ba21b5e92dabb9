use Rattle.std.proofs.Common.{◌∙◌, refl, arith}
use Rattle.physical_stream.specs.Cycles.{cycle_in}
use Rattle.type_split.specs.Streams.{plain_split}
use Rattle.trace_compare.proofs.RunLemmas.{can_take, cycle_below, runs-more, some_streams}
use Rattle.trace_compare.proofs.compare_run.CompareRun.see.Goals as goal

pub nonzero_rem-stream : goal.nonzero_rem-stream
nonzero_rem-stream c =
    some_streams (plain_split c.args.split.now) c.args.wants.now c.requires.0 c.args.self.now c.requires.1.0 (cycle_in c.args.row) c.requires.1.1 c.len-streams.result (c.len-streams.ensures ∙ c.args.self.now.states.ok.0)

pub nonzero_div-cycle : goal.nonzero_div-cycle
nonzero_div-cycle c =
    some_streams (plain_split c.args.split.now) c.args.wants.now c.requires.0 c.args.self.now c.requires.1.0 (cycle_in c.args.row) c.requires.1.1 c.len-streams.result (c.len-streams.ensures ∙ c.args.self.now.states.ok.0)

pub overflow_cast-cycle : goal.overflow_cast-cycle
overflow_cast-cycle c =
    let less = cycle_below (plain_split c.args.split.now) c.args.wants.now c.requires.0 c.args.self.now c.requires.1.0 (cycle_in c.args.row) c.requires.1.1 c.len-streams.result (c.len-streams.ensures ∙ c.args.self.now.states.ok.0) in
    omega (arith, less)

pub take_row-requires : goal.take_row-requires
take_row-requires c =
    can_take (plain_split c.args.split.now) c.args.wants.now c.requires.0 c.args.self.now c.requires.1.0 (cycle_in c.args.row) c.requires.1.1 c.len-streams.result (c.len-streams.ensures ∙ c.args.self.now.states.ok.0)

pub returns : goal.returns
returns c t runs can =
    runs-more (plain_split c.args.split.now) c.args.wants.now t c.args.self.now runs (cycle_in c.args.row) can c.len-streams.result (c.len-streams.ensures ∙ c.args.self.now.states.ok.0) _ refl c.in_ok-take_row.ensures
