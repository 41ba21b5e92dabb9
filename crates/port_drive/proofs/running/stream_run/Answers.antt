use Rattle.logical_value.specs.Tree.{plain_port}
use Rattle.type_split.specs.Streams.{plain_split}
use Rattle.port_drive.proofs.RunLemmas.{are-items-on, number-within, starts-on}
use Rattle.port_drive.proofs.running.stream_run.Goals as goal

pub items_on-requires-clause-number : goal.items_on-requires-clause-number
items_on-requires-clause-number c = number-within c.args.split.now.streams c.args.number c.args.stream.now c.requires.there

pub run_of_items-requires-clause-fit : goal.run_of_items-requires-clause-fit
run_of_items-requires-clause-fit c =
    are-items-on (plain_split c.args.split.now) (plain_port c.args.value.now) c.args.number c.args.stream.now _ c.requires.split c.requires.value c.requires.there (c.in_ok-items.ensures c.args.stream.now c.requires.there)

pub returns : goal.returns
returns c = starts-on c.args.number c.args.stream.now.params _ _ c.args.gaps c.args.plan.wishes c.args.plan.users c.run_of_items.result (c.in_ok-items.ensures c.args.stream.now c.requires.there) c.run_of_items.ensures
