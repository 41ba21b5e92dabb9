use Rattle.logical_value.specs.Tree.{plain_port}
use Rattle.type_split.specs.Streams.{plain_split}
use Rattle.port_drive.proofs.RunLemmas.{are-items-on}
use Rattle.port_elastic.proofs.ChainLemmas.{plans-on}
use Rattle.port_elastic.proofs.chains.stream_planner.Goals as goal

pub planner_of_items-requires-clause-fit : goal.planner_of_items-requires-clause-fit
planner_of_items-requires-clause-fit c =
    are-items-on (plain_split c.args.split.now) (plain_port c.args.value.now) c.args.number c.args.stream.now _ c.requires.split c.requires.value c.requires.there (c.in_ok-items.ensures c.args.stream.now c.requires.there)

pub returns : goal.returns
returns c = plans-on c.args.number c.args.stream.now.params _ _ c.args.plan.wishes c.args.plan.users c.planner_of_items.result (c.in_ok-items.ensures c.args.stream.now c.requires.there) c.planner_of_items.ensures
