use Rattle.std.proofs.Common.{◌≡◌, ◌∙◌, List, drop, ap, sym, arith}
use Rattle.logical_types.specs.declared.ltype.Part.{Part}
use Rattle.logical_types.specs.Size.{number_of_nodes, nodes_in_parts}
use Rattle.logical_types.specs.Tree.{group, union, plain, plain_parts}
use Rattle.logical_types.proofs.PlainLemmas.{plain-Group, plain-Union, plain_parts-at, plain_parts-past}
use Rattle.logical_types.proofs.counts.+number_of_nodes.Goals as goal

pub number_of_nodes-returns-in-Group : goal.number_of_nodes-returns-in-Group
number_of_nodes-returns-in-Group t c =
    let is : plain c.args.ltype.now ≡ group (plain_parts c.as_slice.result.now) =
    ap plain c.in-Group.is ∙ plain-Group c.in-Group.parts ∙ ap (λ (l : List Part). group (plain_parts l)) (sym c.as_slice.ensures) in
    omega (arith, ap number_of_nodes is, c.nodes_in_parts.ensures, c.saturating_add.ensures)

pub number_of_nodes-returns-in-Union : goal.number_of_nodes-returns-in-Union
number_of_nodes-returns-in-Union t c =
    let is : plain c.args.ltype.now ≡ union (plain_parts c.as_slice-in-Union.result.now) =
    ap plain c.in-Union.is ∙ plain-Union c.in-Union.parts ∙ ap (λ (l : List Part). union (plain_parts l)) (sym c.as_slice-in-Union.ensures) in
    omega (arith, ap number_of_nodes is, c.nodes_in_parts-in-Union.ensures, c.saturating_add-in-Union.ensures)

pub nodes_in_parts-parts-preserved : goal.nodes_in_parts-parts-preserved
nodes_in_parts-parts-preserved t c =
    let here = ap nodes_in_parts (plain_parts-at c.args.parts.now c.parts.part-index c.part-item.result c.parts-test.true c.part-item.is) in
    record {
      fits = omega (arith, c.saturating_add-count.ensures);
      so_far = omega (arith, here, c.parts.invariant.fits, c.parts.invariant.so_far, c.saturating_add-count.ensures, c.number_of_nodes.ensures);
    }

pub nodes_in_parts-returns : goal.nodes_in_parts-returns
nodes_in_parts-returns t c =
    let none : nodes_in_parts (plain_parts (drop c.parts.part-index c.args.parts.now)) ≡ 0 =
    ap nodes_in_parts (plain_parts-past c.args.parts.now c.parts.part-index c.parts-test.false) in
    omega (arith, c.parts.invariant.fits, c.parts.invariant.so_far, none)

pub nodes_in_stream-returns : goal.nodes_in_stream-returns
nodes_in_stream-returns t c = omega (arith, c.number_of_nodes-element.ensures, c.number_of_nodes-user.ensures, c.saturating_add.ensures, c.saturating_add-2.ensures)
