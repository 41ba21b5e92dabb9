use Rattle.logical_types.specs.Tree.{plain}
use Rattle.std.proofs.Common.{sym}
use Rattle.physical_stream.specs.Items.{items_of}
use Rattle.trace_decode.proofs.KeepLemmas.{named-more}
use Rattle.trace_decode.proofs.UntaggedLemmas.{items_untagged}
use Rattle.trace_decode.proofs.stream_kept.has_names.Goals as goal

pub lanes-preserved : goal.lanes-preserved
lanes-preserved c =
    named-more (plain c.args.element.now) c.args.p.now c.args.transfer.now c.lanes.lane c.lanes.named c.in_ok-named.field-0 c.lanes.invariant c.in_ok-named.ensures

pub returns-then-not-tagged : goal.returns-then-not-tagged
returns-then-not-tagged c = sym (items_untagged (plain c.args.element.now) (items_of c.args.p.now c.args.transfer.now) (let told = c.if-not-tagged.true in let is = c.requires.tagged in cc))
