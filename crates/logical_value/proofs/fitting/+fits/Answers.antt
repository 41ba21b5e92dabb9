use Rattle.std.proofs.Common.{◌≡◌, ◌∙◌, List, ap, sym, arith}
use Rattle.logical_types.specs.declared.ltype.Part.{Part}
use Rattle.logical_types.specs.Tree.{Ltype, group, union, plain, plain_parts}
use Rattle.logical_types.proofs.PlainLemmas.{plain-Group, plain-Union, plain-Stream}
use Rattle.logical_value.specs.Fits.{fits_element}
use Rattle.logical_value.specs.Tree.{plain as plain_value, plain_values}
use Rattle.logical_value.proofs.FitLemmas.{size_of, size_of_value, size_of_values, fields-step, fields-past, variant-step, part_size, value_size, first_size, rest_size}
use Rattle.logical_value.proofs.fitting.+fits.Goals as goal

pub fit_fields-fits_element-requires : goal.fit_fields-fits_element-requires
fit_fields-fits_element-requires t c =
    let part = part_size c.args.parts.now c.parts.part-index c.part-item.result c.parts-test.true c.part-item.is in
    let value = first_size c.parts.left.now c.in-Some.more.now c.in-Some.value.now (size_of_values (plain_values c.args.fields.now)) c.in-Some.ensures.cases.0 c.parts.invariant.smaller in
    (omega (arith, part, value, c.decreases), tt)

pub fit_fields-parts-preserved : goal.fit_fields-parts-preserved
fit_fields-parts-preserved t c = record {
  same = fields-step c.args.parts.now c.parts.part-index c.part-item.result c.parts.left.now c.in-Some.more.now c.in-Some.value.now _ c.fits_element.result
      c.parts-test.true c.part-item.is c.in-Some.ensures.cases.0 c.parts.invariant.same c.fits_element.ensures c.if-not-fits_element.false;
  smaller = rest_size c.parts.left.now c.in-Some.more.now c.in-Some.value.now (size_of_values (plain_values c.args.fields.now)) c.in-Some.ensures.cases.0 c.parts.invariant.smaller;
}

pub fit_fields-returns : goal.fit_fields-returns
fit_fields-returns t c = fields-past c.args.parts.now c.parts.part-index c.parts.left.now _ c.is_empty.result c.parts-test.false c.parts.invariant.same c.is_empty.ensures

pub fit_nests-fits_nest-requires : goal.fit_nests-fits_nest-requires
fit_nests-fits_nest-requires t c =
    let value = value_size c.args.nests.now c.nests.nest-index c.nest-item.result c.nests-test.true c.nest-item.is in (omega (arith, value, c.decreases), tt)

pub fits_element-fits_group-requires : goal.fits_element-fits_group-requires
fits_element-fits_group-requires t c =
    let is : plain c.args.ltype.now ≡ group (plain_parts c.as_slice.result.now) =
    ap plain c.in-Group.is ∙ plain-Group c.in-Group.parts ∙ ap (λ (l : List Part). group (plain_parts l)) (sym c.as_slice.ensures) in
    let size = ap size_of is in (omega (arith, size, c.decreases), tt)

pub fits_element-fits_union-requires : goal.fits_element-fits_union-requires
fits_element-fits_union-requires t c =
    let is : plain c.args.ltype.now ≡ union (plain_parts c.as_slice-in-Union.result.now) =
    ap plain c.in-Union.is ∙ plain-Union c.in-Union.parts ∙ ap (λ (l : List Part). union (plain_parts l)) (sym c.as_slice-in-Union.ensures) in
    let size = ap size_of is in (omega (arith, size, c.decreases), tt)

pub fits_element-fits_stream-requires : goal.fits_element-fits_stream-requires
fits_element-fits_stream-requires t c =
    let size = ap (λ l. size_of (plain l)) c.in-Stream.is ∙ ap size_of (plain-Stream c.in-Stream.stream) in
    let inner = ap (λ s. size_of (plain s.element)) c.get.ensures in
    (omega (arith, size, inner, c.decreases), tt)

pub fits_element-returns-in-Group : goal.fits_element-returns-in-Group
fits_element-returns-in-Group t c =
    let is : plain c.args.ltype.now ≡ group (plain_parts c.as_slice.result.now) =
    ap plain c.in-Group.is ∙ plain-Group c.in-Group.parts ∙ ap (λ (l : List Part). group (plain_parts l)) (sym c.as_slice.ensures) in
    c.fits_group.ensures ∙ ap (λ (t : Ltype). fits_element t (plain_value c.args.value.now)) (sym is)

pub fits_element-returns-in-Union : goal.fits_element-returns-in-Union
fits_element-returns-in-Union t c =
    let is : plain c.args.ltype.now ≡ union (plain_parts c.as_slice-in-Union.result.now) =
    ap plain c.in-Union.is ∙ plain-Union c.in-Union.parts ∙ ap (λ (l : List Part). union (plain_parts l)) (sym c.as_slice-in-Union.ensures) in
    c.fits_union.ensures ∙ ap (λ (t : Ltype). fits_element t (plain_value c.args.value.now)) (sym is)

pub fits_group-fit_fields-requires : goal.fits_group-fit_fields-requires
fits_group-fit_fields-requires t c = let size = ap size_of_value c.in-Some.ensures in (omega (arith, size, c.decreases), tt)

pub fits_nest-fit_nests-requires : goal.fits_nest-fit_nests-requires
fits_nest-fit_nests-requires t c = let size = ap size_of_value c.in-Some.ensures in (omega (arith, size, c.decreases), tt)

pub fits_union-fits_variant-requires : goal.fits_union-fits_variant-requires
fits_union-fits_variant-requires t c = let size = ap size_of_value c.in-Some.ensures in (omega (arith, size, c.decreases), tt)

pub fits_variant-fits_element-requires : goal.fits_variant-fits_element-requires
fits_variant-fits_element-requires t c =
    let part = part_size c.args.parts.now c.parts.part-index c.part-item.result c.parts-test.true c.part-item.is in (omega (arith, part, c.decreases), tt)

pub fits_variant-parts-preserved : goal.fits_variant-parts-preserved
fits_variant-parts-preserved t c =
    variant-step c.args.parts.now c.parts.part-index c.part-item.result c.parts.left (plain_value c.args.value.now) _ c.parts-test.true c.part-item.is c.if-left-eq0.false c.parts.invariant
