use Rattle.std.proofs.Common.{map}
use Rattle.logical_value.specs.Tree.{plain}
use Rattle.std.proofs.lemmas.List.{length-map}
use Rattle.value_views.proofs.PacketLemmas.{flat-packet, flat_apart-packet}
use Rattle.value_views.proofs.comparing.packet_of.Goals as goal

pub returns-in-Flatten : goal.returns-in-Flatten
returns-in-Flatten c =
    flat-packet c.args.way.now c.args.dims c.args.sync c.args.around.now c.args.series.now c.lesser.result c.in-Flatten.is (c.lesser.ensures (map plain c.args.series.now) (length-map c.args.series.now plain))

pub returns-in-FlatDesync : goal.returns-in-FlatDesync
returns-in-FlatDesync c =
    flat_apart-packet c.args.way.now c.args.dims c.args.sync c.args.around.now c.args.series.now c.lesser-in-FlatDesync.result c.in-FlatDesync.is
    (c.lesser-in-FlatDesync.ensures (map plain c.args.series.now) (length-map c.args.series.now plain))
