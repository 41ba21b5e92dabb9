use Rattle.std.proofs.Common.{◌≡◌, ◌+◌, ◌*◌, ◌≤◌, drop}
use Rattle.logical_types.specs.Tree.{plain, plain_parts}
use Rattle.logical_value.specs.Fits.{all_pass, is_nest, fits_element, fit_fields, fits_variant}
use Rattle.logical_value.specs.Tree.{plain as plain_value, plain_values}
use Rattle.logical_value.proofs.FitLemmas.{size_of, size_of_parts, size_of_value, size_of_values}
use Rattle.logical_value.proofs.fitting.+fits.Given as goal

abbrev pub decreases-fits_element : goal.decreases-fits_element
decreases-fits_element l = 4 * (size_of (plain l.ltype.now) + size_of_value (plain_value l.value.now))

abbrev pub decreases-fits_group : goal.decreases-fits_group
decreases-fits_group l = 4 * (size_of_parts (plain_parts l.parts.now) + size_of_value (plain_value l.value.now)) + 2

abbrev pub decreases-fit_fields : goal.decreases-fit_fields
decreases-fit_fields l = 4 * (size_of_parts (plain_parts l.parts.now) + size_of_values (plain_values l.fields.now)) + 1

abbrev pub decreases-fits_union : goal.decreases-fits_union
decreases-fits_union l = 4 * (size_of_parts (plain_parts l.parts.now) + size_of_value (plain_value l.value.now)) + 2

abbrev pub decreases-fits_variant : goal.decreases-fits_variant
decreases-fits_variant l = 4 * (size_of_parts (plain_parts l.parts.now) + size_of_value (plain_value l.value.now)) + 1

abbrev pub decreases-fits_stream : goal.decreases-fits_stream
decreases-fits_stream l = 4 * (size_of (plain l.stream.now.element) + size_of_value (plain_value l.value.now)) + 3

abbrev pub decreases-fits_nest : goal.decreases-fits_nest
decreases-fits_nest l = 4 * (size_of (plain l.element.now) + size_of_value (plain_value l.nest.now)) + 2

abbrev pub decreases-fit_nests : goal.decreases-fit_nests
decreases-fit_nests l = 4 * (size_of (plain l.element.now) + size_of_values (plain_values l.nests.now)) + 3

-- all are nests where those that are left are
abbrev pub invariant-fit_nests-nests : goal.invariant-fit_nests-nests
invariant-fit_nests-nests l = all_pass (is_nest (fits_element (plain l.element)) l.depth) (plain_values l.nests)
    ≡ all_pass (is_nest (fits_element (plain l.element)) l.depth) (plain_values (drop l.nest-index l.nests))

-- all fit where those that are left do
abbrev pub invariant-fit_fields-parts : goal.invariant-fit_fields-parts
invariant-fit_fields-parts l = record {
  same : fit_fields (plain_parts l.parts) (plain_values l.fields) ≡ fit_fields (plain_parts (drop l.part-index l.parts)) (plain_values l.left);
  smaller : size_of_values (plain_values l.left) ≤ size_of_values (plain_values l.fields);
}

-- the variant that is looked for is among those that are left
abbrev pub invariant-fits_variant-parts : goal.invariant-fits_variant-parts
invariant-fits_variant-parts l = fits_variant (plain_parts l.parts) l.tag (plain_value l.value) ≡ fits_variant (plain_parts (drop l.part-index l.parts)) l.left (plain_value l.value)
