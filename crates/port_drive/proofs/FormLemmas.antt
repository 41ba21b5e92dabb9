-- The heads of the physical streams of a valid type in form.
use Rattle.std.proofs.Common.{◌≡◌, ◌∙◌, ℕ, zero, suc, ◌+◌, ◌-◌, ◌*◌, ◌/◌, ◌%◌, ◌<◌, ◌≤◌, ◌⊎◌, inl, inr, Bool, false, cond, not, ◌||◌, ltb, eqb, if◌then◌else◌, List, [], ◌∷◌, ◌++◌, map, Option, Some, None, IsTrue, All, refl, sym, arith}
use Rattle.std.proofs.Math.Nat.{mod-lt, mul-le-mul_right, mul-pos}
use Rattle.std.proofs.lemmas.Bool.{cases_lt}
use Rattle.std.proofs.lemmas.Bool.Decides.{nat_tests}
use Rattle.std.proofs.lemmas.Nat.{div-add-mod'}
use Rattle.std.proofs.lemmas.Grind.{flat_map-append}
use Rattle.std.proofs.lemmas.List.Elements.{All-append, All-cons, All-head, All-nil, All-push, All-tail}
use Rattle.tydi_base.specs.Frac.{Fraction, IsReduced}
use Rattle.tydi_base.specs.Level.{IsLevel}
use Rattle.tydi_base.specs.Name.{is_name}
use Rattle.physical_stream.specs.Params.{AreInRange}
use Rattle.physical_stream.specs.StreamLine.{IsHead}
use Rattle.logical_types.specs.Faults.{faults_at, faults_of_parts, faults_within, nodes, nodes_of_parts, has_bad_throughput, has_too_many_dims, has_too_many_lanes, inside, rate_faults}
use Rattle.logical_types.specs.Throughput.{fits_words, product_of}
use Rattle.logical_types.specs.Tree.{Ltype, null, bits, group, union, stream, Parts, no_parts, part, Settings, has_stream}
use Rattle.logical_types.specs.declared.fault.TypeFault.TheVariants as faults
use Rattle.logical_types.specs.declared.streams.Around.{Around}
use Rattle.logical_types.proofs.FaultLemmas.{faults_within-stream}
use Rattle.logical_types.proofs.PlainTypes.{apart, none_of, width-valid}
use Rattle.logical_types.proofs.ThroughputLemmas.{lowest-IsReduced}
use Rattle.type_split.specs.Nodes.{StreamNode, is_physical, node_at, nodes_in, nodes_in_parts, number_of_physical, number_of_streams, outermost_place, params_at, place_inside, rounded_up}
use Rattle.type_split.specs.Streams.{gathered, phys_of, stream_at, stream_in}
use Rattle.port_drive.specs.Drives.{head_of_stream}
use Rattle.port_drive.specs.Forms.{ArePartsInForm, IsTypeInForm, TypesInFormHaveHeads}

-- ---- the lanes of a Stream

lanes-from : (num den : ℕ) → 1 ≤ num → 1 ≤ den → num ≤ 128 * den → (1 ≤ (num + (den - 1)) / den) × ((num + (den - 1)) / den ≤ 128)
lanes-from num den some whole most = (at_least ((num + (den - 1)) / den) sum, at_most ((num + (den - 1)) / den) sum (cases_lt ((num + (den - 1)) / den) 129))
  where
    part : ℕ
    part = (num + (den - 1)) % den

    small : part < den
    small = mod-lt (num + (den - 1)) whole

    sum : (num + (den - 1)) / den * den + part ≡ num + (den - 1)
    sum = div-add-mod' (num + (den - 1)) den

    at_least : (quotient : ℕ) → quotient * den + part ≡ num + (den - 1) → 1 ≤ quotient
    at_least zero is = absurd (omega (arith, is, small, some, whole))
    at_least (suc quotient) is = omega arith

    at_most : (quotient : ℕ) → quotient * den + part ≡ num + (den - 1) → (quotient < 129) ⊎ (129 ≤ quotient) → quotient ≤ 128
    at_most quotient is (inl few) = omega arith
    at_most quotient is (inr many) = let large : 129 * den ≤ quotient * den = mul-le-mul_right den many in absurd (omega (arith, is, large, most, whole))

-- ---- the parameters of a Stream

-- the surroundings of a Stream have throughputs that are fractions above 0
record Flows (around : Around) : Type 0 where
  num : 1 ≤ around.product.num
  den : 1 ≤ around.product.den

not_zero : (num : ℕ) (other : Bool) → (eqb num 0 || other) ≡ false → 1 ≤ num
not_zero zero other is = absurd cc
not_zero (suc num) other is = omega arith

within_most : (most num : ℕ) → ltb most num ≡ false → num ≤ most
within_most most num is = grind (arith, nat_tests)

some-num : (num den : ℕ) (fraction : Fraction) → 1 ≤ num → IsReduced num den fraction → 1 ≤ fraction.num
some-num num den fraction some is = by fraction.num (mul-pos some is.terms.some) is.value
  where
    by : (n : ℕ) → 1 ≤ num * fraction.den → n * den ≡ num * fraction.den → 1 ≤ n
    by zero pos value = absurd (omega (arith, pos, value))
    by (suc n) pos value = omega arith

-- the facts of a Stream without errors in such surroundings
record IsFlowing (around : Around) (element user : Ltype) (settings : Settings) : Type 0 where
  flows : Flows (inside around settings)
  range : AreInRange (rounded_up (inside around settings).product) (params_at (inside around settings) element user settings).dims (params_at (inside around settings) element user settings).element (params_at (inside around settings) element user settings).user
  valid : faults_within (inside around settings) element ≡ []

flowing : (around : Around) (element user : Ltype) (settings : Settings) → Flows around → 1 ≤ settings.throughput.den → faults_within around (stream element user settings) ≡ [] → IsFlowing around element user settings
flowing around element user settings flows fraction none =
    let parts = apart (rate_faults around settings ++ cond (has_stream user) (faults.UserHasStream ∷ []) [])
    (faults_within (inside around settings) element ++ faults_within (inside around settings) user) (sym (faults_within-stream around element user settings) ∙ none) in
    let types = apart (faults_within (inside around settings) element) (faults_within (inside around settings) user) parts.1 in
    let throughput = none_of (has_bad_throughput around settings) faults.BadThroughput _ (apart (rate_faults around settings) (cond (has_stream user) (faults.UserHasStream ∷ []) []) parts.0).0 in
    let many = none_of (has_too_many_lanes around settings) faults.TooManyLanes _ throughput.1 in
    let dims = none_of (has_too_many_dims around settings) faults.TooManyDims _ many.1 in
    let reduced = lowest-IsReduced (around.product.num * settings.throughput.num) (around.product.den * settings.throughput.den) (mul-pos flows.den fraction) in
    let num = some-num (around.product.num * settings.throughput.num) (around.product.den * settings.throughput.den) (product_of around.product settings.throughput)
    (mul-pos flows.num (not_zero settings.throughput.num (not (fits_words (product_of around.product settings.throughput))) throughput.0)) reduced in
    let lanes = lanes-from (inside around settings).product.num (inside around settings).product.den num reduced.terms.some
    (within_most (128 * (inside around settings).product.den) (inside around settings).product.num many.0) in
    record {
      flows = record { num = num; den = reduced.terms.some };
      range = record {
        some_lane = lanes.0;
        lanes_most = lanes.1;
        dims_most = within_most 32 (inside around settings).dims dims.0;
        element_most = width-valid (inside around settings) element types.0;
        user_most = width-valid (inside around settings) user types.1;
      };
      valid = types.0;
    }

-- ---- the nodes of a type

-- the names of a path are names
abbrev IsNamed : List (List ℕ) → Type 0
IsNamed path = All (λ name. IsTrue (is_name name)) path

record IsNodeInForm (node : StreamNode) : Type 0 where
  names : IsNamed node.path
  level : IsLevel node.params.level
  range : AreInRange node.params.lanes node.params.dims node.params.element node.params.user

flat-parts : (around : Around) (name : List ℕ) (ltype : Ltype) (more : Parts) → faults_of_parts around (part name ltype more) ≡ faults_within around ltype ++ faults_of_parts around more
flat-parts around name ltype more = flat_map-append faults_at (nodes around ltype) (nodes_of_parts around more)

-- a place is known by the nodes of a Null at it, of which there are none
mutual
  nodes-form : (ltype : Ltype) (names : List (List ℕ)) (place : _) (number physical : ℕ) → IsNamed names → nodes_in names place number physical null ≡ [] → Flows place.around → faults_within place.around ltype ≡ [] → IsTypeInForm ltype
      → All IsNodeInForm (nodes_in names place number physical ltype)
  nodes-form null names place number physical named placed flows none form = All-nil IsNodeInForm
  nodes-form (bits width) names place number physical named placed flows none form = All-nil IsNodeInForm
  nodes-form (group parts) names place number physical named placed flows none form = parts-form parts names place number physical named refl flows (apart _ (faults_of_parts place.around parts) none).1 form
  nodes-form (union parts) names place number physical named placed flows none form = parts-form parts names place number physical named refl flows (apart _ (faults_of_parts place.around parts) none).1 form
  nodes-form (stream element user settings) names place number physical named placed flows none form =
      let is = flowing place.around element user settings flows form.1.throughput none in
      All-cons IsNodeInForm (node_at names place number physical element user settings)
      (nodes_in names (place_inside place number settings) (suc number) ((if is_physical element user settings then 1 else 0) + physical) element)
      (record { names = named; level = form.1.level; range = is.range })
      (nodes-form element names (place_inside place number settings) (suc number) ((if is_physical element user settings then 1 else 0) + physical) named refl is.flows is.valid form.0)

  parts-form : (parts : Parts) (names : List (List ℕ)) (place : _) (number physical : ℕ) → IsNamed names → nodes_in names place number physical null ≡ [] → Flows place.around → faults_of_parts place.around parts ≡ [] → ArePartsInForm parts
      → All IsNodeInForm (nodes_in_parts names place number physical parts)
  parts-form no_parts names place number physical named placed flows none form = All-nil IsNodeInForm
  parts-form (part name ltype more) names place number physical named placed flows none form =
      let both = apart (faults_within place.around ltype) (faults_of_parts place.around more) (sym (flat-parts place.around name ltype more) ∙ none) in
      All-append IsNodeInForm (nodes_in (names ++ name ∷ []) place number physical ltype) (nodes_in_parts names place (number_of_streams ltype + number) (number_of_physical ltype + physical) more)
      (nodes-form ltype (names ++ name ∷ []) place number physical (All-push (λ n. IsTrue (is_name n)) names name named form.0) refl flows both.0 form.1)
      (parts-form more names place (number_of_streams ltype + number) (number_of_physical ltype + physical) named refl flows both.1 form.2)

-- ---- the heads of its physical streams

heads-form : (number : ℕ) (nodes : List StreamNode) → All IsNodeInForm nodes → All IsHead (map head_of_stream (gathered stream_at number nodes))
heads-form number [] all = All-nil IsHead
heads-form number (node ∷ more) all = by node.phys (heads-form (suc number) more (All-tail IsNodeInForm node more all))
  where
    here : IsNodeInForm node
    here = All-head IsNodeInForm node more all

    by : (phys : Option ℕ) → All IsHead (map head_of_stream (gathered stream_at (suc number) more)) → All IsHead (map head_of_stream (stream_in number node phys ++ gathered stream_at (suc number) more))
    by None rest = rest
    by (Some index) rest = All-cons IsHead (head_of_stream (phys_of number node)) (map head_of_stream (gathered stream_at (suc number) more))
        (record { names = here.names; level = here.level; range = here.range }) rest

pub types-have-heads : TypesInFormHaveHeads
types-have-heads ltype valid form =
    heads-form 0 (nodes_in [] outermost_place 0 0 ltype)
    (nodes-form ltype [] outermost_place 0 0 (All-nil (λ n. IsTrue (is_name n))) refl (record { num = omega arith; den = omega arith }) valid form)
