use Rattle.std.proofs.Common.{◌≡◌, ◌∙◌, ◌<◌, List, length, slice_get, Some, sym, ap, subst, arith}
use Rattle.std.proofs.lemmas.Option.{slice_get-get_or, slice_get_within}
use Rattle.logical_types.specs.Tree.{plain}
use Rattle.type_split.specs.Streams.{plain_split}
use Rattle.type_split.specs.declared.split.Node.{Node}
use Rattle.type_split.specs.declared.split.Phys.{Phys}
use Rattle.trace_decode.specs.Tagged.{has_tags}
use Rattle.trace_decode.proofs.RowLemmas.{element_node, is_read}
use Rattle.trace_decode.proofs.UntaggedLemmas.{tagged_more}
use Rattle.trace_decode.proofs.decode_run.tagged_streams.Goals as goal

pub bounds-as_slice-stream : goal.bounds-as_slice-stream
bounds-as_slice-stream c =
    let there = subst (λ (l : List Phys). slice_get l c.streams.stream-index ≡ Some c.stream-item.result) c.as_slice-streams.ensures
    (slice_get-get_or c.as_slice-streams.result.now c.streams.stream-index c.stream-item.result c.streams-test.true ∙ ap Some (sym c.stream-item.is)) in
    let has = element_node c.args.split.now c.requires c.streams.stream-index c.stream-item.result there in
    subst (λ (l : List Node). c.stream-item.result.node < length l) (sym c.as_slice.ensures) (slice_get_within c.args.split.now.nodes c.stream-item.result.node has.node has.found)

pub streams-preserved : goal.streams-preserved
streams-preserved c =
    let there = subst (λ (l : List Phys). slice_get l c.streams.stream-index ≡ Some c.stream-item.result) c.as_slice-streams.ensures
    (slice_get-get_or c.as_slice-streams.result.now c.streams.stream-index c.stream-item.result c.streams-test.true ∙ ap Some (sym c.stream-item.is)) in
    let has = element_node c.args.split.now c.requires c.streams.stream-index c.stream-item.result there in
    let is = is_read c.args.split.now.nodes c.as_slice.result.now c.stream-item.result.node has.node c.index-as_slice-stream.result has.found c.as_slice.ensures c.index-as_slice-stream.is in
    tagged_more (plain_split c.args.split.now) c.streams.stream-index c.streams.tagged.items _ c.has_tags.result c.streams.invariant c.in_ok-push.ensures.items
    (c.has_tags.ensures ∙ ap (λ (n : Node). has_tags (plain n.element.now)) is ∙ sym (ap has_tags has.at))

pub returns : goal.returns
returns c = record { many = c.streams.invariant.many ∙ omega (arith, c.streams-test.false, ap length c.as_slice-streams.ensures); each = c.streams.invariant.each }
