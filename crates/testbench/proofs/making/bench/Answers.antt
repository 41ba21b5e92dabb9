use Rattle.std.proofs.Common.{◌∙◌, sym, ap, length}
use Rattle.type_split.specs.Streams.{plain_split}
use Rattle.testbench.proofs.MakingLemmas.{bench-made, lists-long, plans-long, split-few}
use Rattle.testbench.proofs.making.bench.Goals as goal

pub processes_of-requires-clause-few : goal.processes_of-requires-clause-few
processes_of-requires-clause-few c = split-few (plain_split c.args.split.now) c.as_slice-streams.result.now c.requires.split c.as_slice-streams.ensures

pub processes_of-requires-clause-plans : goal.processes_of-requires-clause-plans
processes_of-requires-clause-plans c =
    ap length c.as_slice.ensures ∙ plans-long c.args.plan.now.cycles c.args.split.now.streams c.args.plan.now.streams c.requires.plan.each ∙ sym (ap length c.as_slice-streams.ensures)

pub returns : goal.returns
returns c =
    bench-made c.args.split.now.streams c.as_slice-streams.result.now c.args.transfers.now c.args.plan.now.streams c.as_slice.result.now _ _
    (lists-long c.args.split.now.streams c.args.transfers.now c.requires.fit) (plans-long c.args.plan.now.cycles c.args.split.now.streams c.args.plan.now.streams c.requires.plan.each)
    c.as_slice-streams.ensures c.as_slice.ensures c.in_ok-heads.ensures c.in_ok-procs.ensures
