use Rattle.std.proofs.Common.{◌∙◌, arith}
use Rattle.testbench.proofs.MakingLemmas.{fits-there, lists-long, processes-next}
use Rattle.testbench.proofs.making.processes_of.Goals as goal

pub bounds-lists-number : goal.bounds-lists-number
bounds-lists-number c = omega (arith, c.streams-test.true, lists-long c.args.streams.now c.args.lists.now c.requires.fit)

pub process_of-requires : goal.process_of-requires
process_of-requires c =
    fits-there c.args.streams.now c.args.lists.now c.streams.number c.index-streams-number.result c.index-lists-number.result c.as_slice-transfers.result.now c.requires.fit c.streams-test.true
    (c.as_slice-transfers.ensures ∙ c.index-lists-number.is)

pub streams-preserved : goal.streams-preserved
streams-preserved c =
    processes-next c.args.streams.now c.args.lists.now c.args.plans.now _ c.streams.number c.index-streams-number.result c.index-lists-number.result c.as_slice-transfers.result.now
    c.index-plans-number.result c.as_slice-gaps.result.now _ _ _ c.streams-test.true (lists-long c.args.streams.now c.args.lists.now c.requires.fit) c.requires.plans
    (c.as_slice-transfers.ensures ∙ c.index-lists-number.is) c.as_slice-gaps.ensures c.in_ok-process_of.ensures c.in_ok-push.ensures.ok c.streams.invariant
