use Rattle.std.proofs.Common.{◌∙◌, ap, refl, sym}
use Rattle.logical_types.specs.Tree.{plain}
use Rattle.type_split.specs.Streams.{node_view, plain_split}
use Rattle.value_views.proofs.GivenNodeLemmas.{left-unseen, node-at, ok-taken, seen-view}
use Rattle.value_views.proofs.given.given_node.Goals as goal

pub unpack_nests-requires : goal.unpack_nests-requires
unpack_nests-requires c =
    (seen-view c.args.split.now c.requires.given.0 c.args.number c.in-Some.phys c.as_slice.result.now c.index-as_slice-number.result (plain c.element_of.result.now) c.args.left.now c.take_view-view.new.views
    c.take_view-view.result c.requires.given.1.0.can c.requires.given.1.1 c.requires.number c.as_slice.ensures c.index-as_slice-number.is (sym c.phys_of.ensures ∙ c.in-Some.is)
    (ap plain c.element_of.ensures) c.take_view-view.ensures.view c.take_view-view.ensures.left).can

pub returns-in-Some : goal.returns-in-Some
returns-in-Some c views give are =
    let taken = seen-view c.args.split.now views c.args.number c.in-Some.phys c.as_slice.result.now c.index-as_slice-number.result (plain c.element_of.result.now) c.args.left.now c.take_view-view.new.views
    c.take_view-view.result give.can are c.requires.number c.as_slice.ensures c.index-as_slice-number.is (sym c.phys_of.ensures ∙ c.in-Some.is)
    (ap plain c.element_of.ensures) c.take_view-view.ensures.view c.take_view-view.ensures.left in
    ok-taken c.unpack_nests.result _ _ _ taken.given taken.left c.unpack_nests.ensures

pub blank_node-requires-clause-node : goal.blank_node-requires-clause-node
blank_node-requires-clause-node c =
    let node = c.index-as_slice-number.result in
    record {
      node = node_view node;
      found = node-at c.args.split.now c.args.number c.as_slice.result.now node c.as_slice.ensures c.requires.number c.index-as_slice-number.is;
      unseen = sym c.phys_of.ensures ∙ c.in-None.is;
    }

pub blank_node-requires-clause-given : goal.blank_node-requires-clause-given
blank_node-requires-clause-given c = (c.requires.given.0, c.requires.given.1.0)

pub returns-in-None : goal.returns-in-None
returns-in-None c views give are = ok-taken c.blank_node.result _ _ _ refl (left-unseen (plain_split c.args.split.now) views _ c.args.number are) (c.blank_node.ensures views give)
