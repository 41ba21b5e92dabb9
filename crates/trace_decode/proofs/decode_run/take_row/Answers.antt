use Rattle.std.proofs.Common.{◌≡◌, ◌∙◌, ◌<◌, List, length, Some, slice_get, sym, ap, subst, arith}
use Rattle.std.proofs.lemmas.Option.{slice_get-get_or, slice_get_within}
use Rattle.logical_types.specs.Tree.{plain}
use Rattle.physical_stream.specs.Cycles.{cycle_in}
use Rattle.type_split.specs.Streams.{plain_split}
use Rattle.type_split.specs.declared.split.Node.{Node}
use Rattle.type_split.specs.declared.split.Phys.{Phys}
use Rattle.trace_decode.specs.Keeping.{CanShow, HasDims, IsElementOf}
use Rattle.trace_decode.specs.Tagged.{has_tags}
use Rattle.trace_decode.specs.declared.stream_kept.StreamKept.{StreamKept}
use Rattle.trace_decode.proofs.RowLemmas.{element_node, is_read, same_some, takes_row}
use Rattle.trace_decode.proofs.decode_run.take_row.Goals as goal

pub bounds-as_slice-phys : goal.bounds-as_slice-phys
bounds-as_slice-phys c =
    let same = is_read c.args.split.now.streams c.as_slice.result.now c.args.stream c.requires.can.phys c.index-as_slice-stream.result c.requires.can.there c.as_slice.ensures c.index-as_slice-stream.is in
    let has = element_node c.args.split.now c.requires.split c.args.stream c.index-as_slice-stream.result (subst (λ (p : Phys). slice_get c.args.split.now.streams c.args.stream ≡ Some p) (sym same) c.requires.can.there) in
    let within = slice_get_within c.args.split.now.nodes c.index-as_slice-stream.result.node has.node has.found in
    subst (λ (l : List Node). c.index-as_slice-stream.result.node < length l) (sym c.as_slice-2.ensures) within

pub index_mut-requires : goal.index_mut-requires
index_mut-requires c = omega (arith, slice_get_within c.args.kept.now.items c.args.stream c.requires.can.one c.requires.can.found, c.args.kept.now.ok.0)

pub see-requires-clause-of : goal.see-requires-clause-of
see-requires-clause-of c =
    let same = is_read c.args.split.now.streams c.as_slice.result.now c.args.stream c.requires.can.phys c.index-as_slice-stream.result c.requires.can.there c.as_slice.ensures c.index-as_slice-stream.is in
    let has = element_node c.args.split.now c.requires.split c.args.stream c.index-as_slice-stream.result (subst (λ (p : Phys). slice_get c.args.split.now.streams c.args.stream ≡ Some p) (sym same) c.requires.can.there) in
    let is = is_read c.args.split.now.nodes c.as_slice-2.result.now c.index-as_slice-stream.result.node has.node c.index-as_slice-phys.result has.found c.as_slice-2.ensures c.index-as_slice-phys.is in
    subst (λ (n : Node). IsElementOf (plain n.element.now) c.index-as_slice-stream.result.params) (sym is) has.of

pub see-requires-clause-shown : goal.see-requires-clause-shown
see-requires-clause-shown c =
    let same = is_read c.args.split.now.streams c.as_slice.result.now c.args.stream c.requires.can.phys c.index-as_slice-stream.result c.requires.can.there c.as_slice.ensures c.index-as_slice-stream.is in
    subst (λ (p : Phys). CanShow p.params (cycle_in c.args.row)) (sym same) c.requires.can.shown

pub see-requires-clause-dims : goal.see-requires-clause-dims
see-requires-clause-dims c =
    let same = is_read c.args.split.now.streams c.as_slice.result.now c.args.stream c.requires.can.phys c.index-as_slice-stream.result c.requires.can.there c.as_slice.ensures c.index-as_slice-stream.is in
    let is = same_some (sym c.requires.can.found ∙ slice_get-get_or c.args.kept.now.items c.args.stream c.index_mut.result.now (slice_get_within c.args.kept.now.items c.args.stream c.requires.can.one c.requires.can.found) ∙ ap (λ (k : StreamKept). Some k) (sym c.index_mut.ensures.value)) in
    subst (λ (p : Phys). HasDims p.params.dims c.index_mut.result.now.builder) (sym same)
    (subst (λ (k : StreamKept). HasDims c.requires.can.phys.params.dims k.builder) is c.requires.can.dims)

pub returns : goal.returns
returns c =
    let same = is_read c.args.split.now.streams c.as_slice.result.now c.args.stream c.requires.can.phys c.index-as_slice-stream.result c.requires.can.there c.as_slice.ensures c.index-as_slice-stream.is in
    let there = subst (λ (p : Phys). slice_get c.args.split.now.streams c.args.stream ≡ Some p) (sym same) c.requires.can.there in
    let has = element_node c.args.split.now c.requires.split c.args.stream c.index-as_slice-stream.result there in
    let is_node = is_read c.args.split.now.nodes c.as_slice-2.result.now c.index-as_slice-stream.result.node has.node c.index-as_slice-phys.result has.found c.as_slice-2.ensures c.index-as_slice-phys.is in
    let found = slice_get-get_or c.args.kept.now.items c.args.stream c.index_mut.result.now (slice_get_within c.args.kept.now.items c.args.stream c.requires.can.one c.requires.can.found) ∙ ap (λ (k : StreamKept). Some k) (sym c.index_mut.ensures.value) in
    takes_row (plain_split c.args.split.now) c.args.stream (cycle_in c.args.row) c.args.kept.now.items c.index-as_slice-stream.result c.index_mut.result.now c.see.new.self
    (plain c.index-as_slice-phys.result.element.now) c.see.result there found (has.at ∙ ap (λ (n : Node). plain n.element.now) (sym is_node)) c.see.ensures.kept c.see.ensures.named

pub see-requires-clause-tagged : goal.see-requires-clause-tagged
see-requires-clause-tagged c =
    let same = is_read c.args.split.now.streams c.as_slice.result.now c.args.stream c.requires.can.phys c.index-as_slice-stream.result c.requires.can.there c.as_slice.ensures c.index-as_slice-stream.is in
    let has = element_node c.args.split.now c.requires.split c.args.stream c.index-as_slice-stream.result (subst (λ (p : Phys). slice_get c.args.split.now.streams c.args.stream ≡ Some p) (sym same) c.requires.can.there) in
    let is = is_read c.args.split.now.nodes c.as_slice-2.result.now c.index-as_slice-stream.result.node has.node c.index-as_slice-phys.result has.found c.as_slice-2.ensures c.index-as_slice-phys.is in
    c.requires.tagged ∙ ap has_tags (has.at ∙ ap (λ (n : Node). plain n.element.now) (sym is))
