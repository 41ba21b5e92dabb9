-- Values that fit a type, part after part, and how far a walk over type and value has to go.
use Rattle.std.proofs.Common.{◌≡◌, ◌∙◌, ℕ, zero, suc, ◌+◌, ◌-◌, ◌<◌, ◌≤◌, Bool, true, false, ◌&&◌, ◌==◌, List, [], ◌∷◌, length, map, get_or, drop, slice_get, Option, Some, None, option_map, refl, sym, ap, arith}
use Rattle.std.proofs.lemmas.Bool.Decides.{nat_tests}
use Rattle.std.proofs.lemmas.List.{drop_more}
use Rattle.std.proofs.lemmas.Option.{slice_get-map}
use Rattle.logical_types.specs.declared.ltype.Part.{Part}
use Rattle.logical_types.specs.Tree.{Ltype, Parts, plain, plain_parts}
use Rattle.logical_types.specs.Tree as types
use Rattle.logical_types.proofs.PlainLemmas.{plain_parts-at, plain_parts-past}
use Rattle.type_split.specs.Nodes.{StreamNode}
use Rattle.type_split.specs.Streams.{node_view}
use Rattle.type_split.specs.declared.split.Node.{Node}
use Rattle.logical_value.specs.Laws.{FitsAreElements}
use Rattle.logical_value.specs.Element.{IsElement, AreElements, IsVariant}
use Rattle.logical_value.specs.Fits.{all_pass, is_nest, fits_element, fit_fields, fits_variant, fits_series, fit_roots}
use Rattle.logical_value.specs.Tree.{Tree, null, word, group, union, list, apart, Trees, no_trees, tree}
use Rattle.logical_value.specs.Tree.{plain as plain_value, plain_values}
use Rattle.logical_value.specs.declared.value.Value.{Value}
use Rattle.logical_value.proofs.PlainLemmas.{trees_of-map}

-- ---- values of a list from an index on

pub plain_values-at : (values : List Value) (at : ℕ) (one : Value) → at < length values → one ≡ get_or values at one
    → plain_values (drop at values) ≡ tree (plain_value one) (plain_values (drop (at + 1) values))
plain_values-at values at one within is = ap plain_values (drop_more values at one within ∙ ap (λ x. x ∷ drop (at + 1) values) (sym is))

-- ---- how much there is of a type and of a value

abbrev mutual
  pub size_of : Ltype → ℕ
  size_of types.null = 1
  size_of (types.bits width) = 1
  size_of (types.group parts) = suc (size_of_parts parts)
  size_of (types.union parts) = suc (size_of_parts parts)
  size_of (types.stream element user settings) = suc (size_of element)

  pub size_of_parts : Parts → ℕ
  size_of_parts types.no_parts = 0
  size_of_parts (types.part name ltype more) = size_of ltype + size_of_parts more

abbrev mutual
  pub size_of_value : Tree → ℕ
  size_of_value null = 1
  size_of_value (word bits) = 1
  size_of_value (group values) = suc (size_of_values values)
  size_of_value (union tag value) = suc (size_of_value value)
  size_of_value (list values) = suc (size_of_values values)
  size_of_value apart = 1

  pub size_of_values : Trees → ℕ
  size_of_values no_trees = 0
  size_of_values (tree value more) = size_of_value value + size_of_values more

behind : (less most first : ℕ) → less ≤ most → less ≤ first + most
behind less most first within = omega (arith, within)

from_front : (first rest front all : ℕ) → front ≤ all → front ≡ first + rest → first ≤ all
from_front first rest front all within is = omega (arith, within, is)

from_back : (first rest front all : ℕ) → front ≤ all → front ≡ first + rest → rest ≤ all
from_back first rest front all within is = omega (arith, within, is)

parts_left : (parts : List Part) (at : ℕ) → size_of_parts (plain_parts (drop at parts)) ≤ size_of_parts (plain_parts parts)
parts_left parts zero = omega arith
parts_left [] (suc at) = omega arith
parts_left (one ∷ more) (suc at) = behind (size_of_parts (plain_parts (drop at more))) (size_of_parts (plain_parts more)) (size_of (plain one.ltype)) (parts_left more at)

pub part_size : (parts : List Part) (at : ℕ) (one : Part) → at < length parts → one ≡ get_or parts at one → size_of (plain one.ltype) ≤ size_of_parts (plain_parts parts)
part_size parts at one within is =
    from_front (size_of (plain one.ltype)) (size_of_parts (plain_parts (drop (at + 1) parts))) (size_of_parts (plain_parts (drop at parts))) (size_of_parts (plain_parts parts))
    (parts_left parts at) (ap size_of_parts (plain_parts-at parts at one within is))

values_left : (values : List Value) (at : ℕ) → size_of_values (plain_values (drop at values)) ≤ size_of_values (plain_values values)
values_left values zero = omega arith
values_left [] (suc at) = omega arith
values_left (one ∷ more) (suc at) = behind (size_of_values (plain_values (drop at more))) (size_of_values (plain_values more)) (size_of_value (plain_value one)) (values_left more at)

pub value_size : (values : List Value) (at : ℕ) (one : Value) → at < length values → one ≡ get_or values at one → size_of_value (plain_value one) ≤ size_of_values (plain_values values)
value_size values at one within is =
    from_front (size_of_value (plain_value one)) (size_of_values (plain_values (drop (at + 1) values))) (size_of_values (plain_values (drop at values))) (size_of_values (plain_values values))
    (values_left values at) (ap size_of_values (plain_values-at values at one within is))

-- the first of a list is no greater than all that is left of it, and so is what follows
pub first_size : (left more : List Value) (value : Value) (all : ℕ) → left ≡ value ∷ more → size_of_values (plain_values left) ≤ all → size_of_value (plain_value value) ≤ all
first_size left more value all begins within =
    from_front (size_of_value (plain_value value)) (size_of_values (plain_values more)) (size_of_values (plain_values left)) all within (ap (λ (l : List Value). size_of_values (plain_values l)) begins)

pub rest_size : (left more : List Value) (value : Value) (all : ℕ) → left ≡ value ∷ more → size_of_values (plain_values left) ≤ all → size_of_values (plain_values more) ≤ all
rest_size left more value all begins within =
    from_back (size_of_value (plain_value value)) (size_of_values (plain_values more)) (size_of_values (plain_values left)) all within (ap (λ (l : List Value). size_of_values (plain_values l)) begins)

-- ---- the fields of a Group and the variants of a Union, from a part on

pub fields-step : (parts : List Part) (at : ℕ) (one : Part) (left more : List Value) (value : Value) (all fits : Bool) → at < length parts → one ≡ get_or parts at one → left ≡ value ∷ more
    → all ≡ fit_fields (plain_parts (drop at parts)) (plain_values left) → fits ≡ fits_element (plain one.ltype) (plain_value value) → fits ≡ true
    → all ≡ fit_fields (plain_parts (drop (at + 1) parts)) (plain_values more)
fields-step parts at one left more value all fits within is begins same test passes =
    same ∙ ap (λ ps. fit_fields ps (plain_values left)) (plain_parts-at parts at one within is)
    ∙ ap (λ (vs : List Value). fit_fields (types.part one.name (plain one.ltype) (plain_parts (drop (at + 1) parts))) (plain_values vs)) begins
    ∙ ap (λ (b : Bool). b && fit_fields (plain_parts (drop (at + 1) parts)) (plain_values more)) (sym test ∙ passes)

no_fields : (left : List Value) → (length left == 0) ≡ fit_fields types.no_parts (plain_values left)
no_fields [] = refl
no_fields (one ∷ more) = grind (arith, nat_tests)

pub fields-past : (parts : List Part) (at : ℕ) (left : List Value) (all result : Bool) → length parts ≤ at → all ≡ fit_fields (plain_parts (drop at parts)) (plain_values left)
    → result ≡ (length left == 0) → result ≡ all
fields-past parts at left all result done same tells =
    tells ∙ no_fields left ∙ ap (λ ps. fit_fields ps (plain_values left)) (sym (plain_parts-past parts at done)) ∙ sym same

pub variant-step : (parts : List Part) (at : ℕ) (one : Part) (left : ℕ) (value : Tree) (all : Bool) → at < length parts → one ≡ get_or parts at one → (left ≡ 0 → ⊥)
    → all ≡ fits_variant (plain_parts (drop at parts)) left value → all ≡ fits_variant (plain_parts (drop (at + 1) parts)) (left - 1) value
variant-step parts at one left value all within is some same =
    same ∙ ap (λ ps. fits_variant ps left value) (plain_parts-at parts at one within is) ∙ next left some
  where
    next : (n : ℕ) → (n ≡ 0 → ⊥) → fits_variant (types.part one.name (plain one.ltype) (plain_parts (drop (at + 1) parts))) n value
        ≡ fits_variant (plain_parts (drop (at + 1) parts)) (n - 1) value
    next zero none = absurd (none refl)
    next (suc n) none = (let less : n ≡ suc n - 1 = omega arith in ap (λ (k : ℕ). fits_variant (plain_parts (drop (at + 1) parts)) k value) less)

-- ---- the series of a node

pub fits-root : (nodes : List Node) (number : ℕ) (node made : Node) (series : List Value) (depth : ℕ) (result : Bool) → made ≡ node → Some node ≡ slice_get nodes number
    → depth ≡ made.params.dims → result ≡ all_pass (is_nest (fits_element (plain made.element.now)) depth) (plain_values series)
    → result ≡ fits_series (slice_get (map node_view nodes) number) (map plain_value series)
fits-root nodes number node made series depth result same found deep is =
    is ∙ ap (λ (d : ℕ). all_pass (is_nest (fits_element (plain made.element.now)) d) (plain_values series)) deep
    ∙ ap (λ (n : Node). all_pass (is_nest (fits_element (plain n.element.now)) n.params.dims) (plain_values series)) same
    ∙ ap (all_pass (is_nest (fits_element (plain node.element.now)) node.params.dims)) (sym (trees_of-map series))
    ∙ ap (λ o. fits_series o (map plain_value series)) (ap (option_map node_view) found ∙ sym (slice_get-map node_view nodes number))

pub fits-no_root : (nodes : List Node) (number : ℕ) (series : List Tree) → None ≡ slice_get nodes number → false ≡ fits_series (slice_get (map node_view nodes) number) series
fits-no_root nodes number series found = ap (λ o. fits_series o series) (ap (option_map node_view) found ∙ sym (slice_get-map node_view nodes number))

-- ---- the series of roots, from a root on

pub roots-few : (nodes : List StreamNode) (roots : List ℕ) (at : ℕ) (left : List (List Value)) (all : Bool) → at < length roots → length left ≡ 0
    → all ≡ fit_roots nodes (drop at roots) (map (map plain_value) left) → false ≡ all
roots-few nodes roots at [] all within none same =
    sym (same ∙ ap (λ (rs : List ℕ). fit_roots nodes rs []) (drop_more roots at 0 within))
roots-few nodes roots at (series ∷ more) all within none same = absurd (omega (arith, none))

-- ---- a value that fits is a value of an element

both : (a b : Bool) → (a && b) ≡ true → (a ≡ true) × (b ≡ true)
both true b e = (refl, e)
both false b e = cc

mutual
  element-fits : (ltype : Ltype) (value : Tree) → fits_element ltype value ≡ true → IsElement ltype value
  element-fits types.null null fits = tt
  element-fits types.null (word bits) fits = cc
  element-fits types.null (group values) fits = cc
  element-fits types.null (union tag value) fits = cc
  element-fits types.null (list values) fits = cc
  element-fits types.null apart fits = cc
  element-fits (types.bits width) (word bits) fits = grind (arith, nat_tests)
  element-fits (types.bits width) null fits = cc
  element-fits (types.bits width) (group values) fits = cc
  element-fits (types.bits width) (union tag value) fits = cc
  element-fits (types.bits width) (list values) fits = cc
  element-fits (types.bits width) apart fits = cc
  element-fits (types.group parts) (group values) fits = elements-fit parts values fits
  element-fits (types.group parts) null fits = cc
  element-fits (types.group parts) (word bits) fits = cc
  element-fits (types.group parts) (union tag value) fits = cc
  element-fits (types.group parts) (list values) fits = cc
  element-fits (types.group parts) apart fits = cc
  element-fits (types.union parts) (union tag value) fits = variant-fits parts tag value fits
  element-fits (types.union parts) null fits = cc
  element-fits (types.union parts) (word bits) fits = cc
  element-fits (types.union parts) (group values) fits = cc
  element-fits (types.union parts) (list values) fits = cc
  element-fits (types.union parts) apart fits = cc
  element-fits (types.stream element user settings) value fits = tt

  elements-fit : (parts : Parts) (values : Trees) → fit_fields parts values ≡ true → AreElements parts values
  elements-fit types.no_parts no_trees fits = tt
  elements-fit types.no_parts (tree value others) fits = cc
  elements-fit (types.part name ltype more) no_trees fits = cc
  elements-fit (types.part name ltype more) (tree value others) fits =
      let here = both (fits_element ltype value) (fit_fields more others) fits in (element-fits ltype value here.0, elements-fit more others here.1)

  variant-fits : (parts : Parts) (tag : ℕ) (value : Tree) → fits_variant parts tag value ≡ true → IsVariant parts tag value
  variant-fits types.no_parts tag value fits = cc
  variant-fits (types.part name ltype more) zero value fits = element-fits ltype value fits
  variant-fits (types.part name ltype more) (suc tag) value fits = variant-fits more tag value fits

pub fits_are_elements : FitsAreElements
fits_are_elements = element-fits
