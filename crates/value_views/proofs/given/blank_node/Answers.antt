use Rattle.std.proofs.Common.{◌+◌, arith, map, ◌∙◌, ap, sym}
use Rattle.std.proofs.lemmas.List.{length-map}
use Rattle.logical_types.specs.Size.{number_of_nodes}
use Rattle.logical_types.specs.Tree.{plain}
use Rattle.logical_types.specs.Width.{width_of}
use Rattle.logical_value.specs.Tree as values
use Rattle.type_split.specs.Nodes.{number_of_streams}
use Rattle.type_split.specs.Streams.{node_view, plain_split}
use Rattle.value_views.specs.Giving.{first_sync}
use Rattle.value_views.proofs.GivenNodeLemmas.{blank-given, ok-series, ready-blank, unseen-none, unseen-plain}
use Rattle.value_views.proofs.JoinLemmas.{one-found}
use Rattle.value_views.proofs.given.blank_node.Goals as goal

pub first_sync-requires : goal.first_sync-requires
first_sync-requires c =
    let has = ready-blank c.args.split.now c.requires.given.0 c.args.number c.as_slice.result.now c.index-as_slice-number.result c.requires.given.1.can c.requires.node c.as_slice.ensures
    c.index-as_slice-number.is in
    let few = has.few in
    let count = ap (λ t. number_of_streams (plain t)) c.element_of.ensures in
    record { few = omega (arith, few, count) }

pub bounds-given-child : goal.bounds-given-child
bounds-given-child c =
    let has = ready-blank c.args.split.now c.requires.given.0 c.args.number c.as_slice.result.now c.index-as_slice-number.result c.requires.given.1.can c.requires.node c.as_slice.ensures
    c.index-as_slice-number.is in
    let same = one-found _ has.child c.in-Some.child has.is (ap (λ t. first_sync (c.args.number + 1) (plain t)) (sym c.element_of.ensures) ∙ sym c.first_sync.ensures ∙ c.in-Some.is) in
    let below = has.below in
    let long = c.requires.given.1.given.long in
    let count = length-map c.args.given.now (λ v. map values.plain v) in
    omega (arith, below, long, count, same)

pub offset_bounds-given-child : goal.offset_bounds-given-child
offset_bounds-given-child c =
    let has = ready-blank c.args.split.now c.requires.given.0 c.args.number c.as_slice.result.now c.index-as_slice-number.result c.requires.given.1.can c.requires.node c.as_slice.ensures
    c.index-as_slice-number.is in
    let same = one-found _ has.child c.in-Some.child has.is (ap (λ t. first_sync (c.args.number + 1) (plain t)) (sym c.element_of.ensures) ∙ sym c.first_sync.ensures ∙ c.in-Some.is) in
    let small = has.small in
    omega (arith, small, same)

pub blank_nests-requires-clause-plain : goal.blank_nests-requires-clause-plain
blank_nests-requires-clause-plain c =
    let has = ready-blank c.args.split.now c.requires.given.0 c.args.number c.as_slice.result.now c.index-as_slice-number.result c.requires.given.1.can c.requires.node c.as_slice.ensures
    c.index-as_slice-number.is in
    unseen-plain _ _ (ap plain (sym c.element_of-in-Some.ensures)) has.element.plain

pub blank_nests-requires-clause-few : goal.blank_nests-requires-clause-few
blank_nests-requires-clause-few c =
    let has = ready-blank c.args.split.now c.requires.given.0 c.args.number c.as_slice.result.now c.index-as_slice-number.result c.requires.given.1.can c.requires.node c.as_slice.ensures
    c.index-as_slice-number.is in
    let few = has.element.few in
    let count = ap (λ t. number_of_nodes (plain t)) c.element_of-in-Some.ensures in omega (arith, few, count)

pub blank_nests-requires-clause-narrow : goal.blank_nests-requires-clause-narrow
blank_nests-requires-clause-narrow c =
    let has = ready-blank c.args.split.now c.requires.given.0 c.args.number c.as_slice.result.now c.index-as_slice-number.result c.requires.given.1.can c.requires.node c.as_slice.ensures
    c.index-as_slice-number.is in
    ap (λ t. width_of (plain t)) c.element_of-in-Some.ensures ∙ has.narrow

pub unreachable-requires : goal.unreachable-requires
unreachable-requires c =
    let has = ready-blank c.args.split.now c.requires.given.0 c.args.number c.as_slice.result.now c.index-as_slice-number.result c.requires.given.1.can c.requires.node c.as_slice.ensures
    c.index-as_slice-number.is in
    unseen-none _ has.child (sym c.in-None.is ∙ c.first_sync.ensures ∙ ap (λ t. first_sync (c.args.number + 1) (plain t)) c.element_of.ensures) has.is

pub returns : goal.returns
returns c views given =
    let has = ready-blank c.args.split.now views c.args.number c.as_slice.result.now c.index-as_slice-number.result given.can c.requires.node c.as_slice.ensures
    c.index-as_slice-number.is in
    ok-series c.blank_nests.result _ _
    (blank-given (plain_split c.args.split.now) views c.args.number c.in-Some.child c.dims_of.result (node_view c.index-as_slice-number.result)
    (plain c.element_of-in-Some.result.now) c.args.given.now c.index-given-child.result c.as_slice-shape.result.now _ has
    (ap (λ t. first_sync (c.args.number + 1) (plain t)) (sym c.element_of.ensures) ∙ sym c.first_sync.ensures ∙ c.in-Some.is)
    (ap plain c.element_of-in-Some.ensures) c.dims_of.ensures given.given c.index-given-child.is c.as_slice-shape.ensures) c.blank_nests.ensures
