use Rattle.std.proofs.lemmas.Result.{IfOk-weaker}
use Rattle.logical_value.specs.Tree.{plain_port}
use Rattle.type_split.specs.Streams.{plain_split}
use Rattle.port_drive.proofs.StartLemmas.{items-seen}
use Rattle.port_elastic.proofs.chains.items_on.Goals as goal

pub returns : goal.returns
returns c =
    IfOk-weaker c.view_items.result _ _
    (λ all are stream there. items-seen (plain_split c.args.split.now) (plain_port c.args.value.now) c.args.number stream all c.requires.split c.requires.fits there are)
    c.view_items.ensures
