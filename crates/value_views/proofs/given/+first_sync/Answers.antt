use Rattle.std.proofs.Common.{◌≡◌, ◌∙◌, List, ap, arith, sym}
use Rattle.logical_types.specs.declared.ltype.Part.{Part}
use Rattle.logical_types.specs.Tree.{group, plain, plain_parts, union}
use Rattle.logical_types.proofs.PlainLemmas.{plain-Group, plain-Union, plain_parts-at}
use Rattle.logical_value.proofs.FitLemmas.{part_size, size_of}
use Rattle.type_split.specs.Nodes.{number_of_streams, streams_in_parts}
use Rattle.value_views.specs.Giving.{first_sync, first_sync_in}
use Rattle.value_views.proofs.given.+first_sync.Goals as goal

pub first_sync-first_sync_in-requires : goal.first_sync-first_sync_in-requires
first_sync-first_sync_in-requires t c =
    let is : plain c.args.ltype.now ≡ group (plain_parts c.as_slice.result.now) =
    ap plain c.in-Group.is ∙ plain-Group c.in-Group.parts ∙ ap (λ (l : List Part). group (plain_parts l)) (sym c.as_slice.ensures) in
    let count = ap number_of_streams is in
    let size = ap size_of is in
    (omega (arith, size, c.decreases), omega (arith, count, c.requires.few))

pub first_sync-first_sync_in-requires-in-Union : goal.first_sync-first_sync_in-requires-in-Union
first_sync-first_sync_in-requires-in-Union t c =
    let is : plain c.args.ltype.now ≡ union (plain_parts c.as_slice-in-Union.result.now) =
    ap plain c.in-Union.is ∙ plain-Union c.in-Union.parts ∙ ap (λ (l : List Part). union (plain_parts l)) (sym c.as_slice-in-Union.ensures) in
    let count = ap number_of_streams is in
    let size = ap size_of is in
    (omega (arith, size, c.decreases), omega (arith, count, c.requires.few))

pub first_sync-returns-in-Group : goal.first_sync-returns-in-Group
first_sync-returns-in-Group t c =
    c.first_sync_in.ensures ∙ ap (λ (l : List Part). first_sync_in c.args.number (plain_parts l)) c.as_slice.ensures
    ∙ ap (first_sync c.args.number) (sym (plain-Group c.in-Group.parts)) ∙ ap (λ ltype. first_sync c.args.number (plain ltype)) (sym c.in-Group.is)

pub first_sync-returns-in-Union : goal.first_sync-returns-in-Union
first_sync-returns-in-Union t c =
    c.first_sync_in-in-Union.ensures ∙ ap (λ (l : List Part). first_sync_in c.args.number (plain_parts l)) c.as_slice-in-Union.ensures
    ∙ ap (first_sync c.args.number) (sym (plain-Union c.in-Union.parts)) ∙ ap (λ ltype. first_sync c.args.number (plain ltype)) (sym c.in-Union.is)

pub first_sync_in-first_sync-requires : goal.first_sync_in-first_sync-requires
first_sync_in-first_sync-requires t c =
    let count = ap streams_in_parts (plain_parts-at c.args.parts.now c.parts.part-index c.part-item.result c.parts-test.true c.part-item.is) in
    let size = part_size c.args.parts.now c.parts.part-index c.part-item.result c.parts-test.true c.part-item.is in
    (omega (arith, size, c.decreases), omega (arith, count, c.parts.invariant.few))
