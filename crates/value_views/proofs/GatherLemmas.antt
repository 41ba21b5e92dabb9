-- A view, gathered value by value along a way.
use Rattle.std.proofs.Common.{◌≡◌, ◌∙◌, ℕ, zero, suc, ◌+◌, ◌<◌, ◌≤◌, Bool, true, false, ◌&&◌, List, [], ◌∷◌, ◌++◌, length, map, drop, get_or, slice_get, Option, Some, None, refl, sym, ap, subst, append_assoc, arith}
use Rattle.std.specs.Prelude.{if◌then◌else◌, MatchOption, IfSome, is_some, nat_lt}
use Rattle.std.proofs.lemmas.Bool.Decides.{nat_tests}
use Rattle.std.specs.Borrow.{Bor}
use Rattle.std.specs.List.{flat_map, cons_option}
use Rattle.std.proofs.lemmas.List.{append-nil, drop_all, drop_more, map-append}
use Rattle.logical_types.specs.Tree.{Ltype, Parts}
use Rattle.logical_types.specs.Tree as types
use Rattle.logical_types.specs.declared.ltype.Sync.{Sync}
use Rattle.logical_types.specs.declared.ltype.Sync.TheVariants as syncs
use Rattle.logical_types.specs.Synchronicity.{is_apart}
use Rattle.nest_shape.specs.Tree as nests
use Rattle.nest_shape.specs.declared.nest.Nest.{Nest}
use Rattle.nest_shape.specs.declared.nest.Nest.TheVariants as nest_cases
use Rattle.nest_shape.proofs.PlainLemmas.{plain-Leaf, plain-List}
use Rattle.nest_shape.proofs.PlainLemmas as nest_lemmas
use Rattle.logical_value.specs.Element.{IsElement}
use Rattle.logical_value.specs.Fits.{all_pass, is_nest, stands_apart, fits_element, fit_fields, fits_variant}
use Rattle.logical_value.specs.Packed.{pack_of}
use Rattle.logical_value.specs.Tree.{Tree, null, word, group, union, list, apart, Trees, no_trees, tree, trees_of, list_of, members, plain, plain_values}
use Rattle.logical_value.specs.declared.value.Value.{Value}
use Rattle.logical_value.proofs.FitLemmas.{fits_are_elements, size_of_value, size_of_values}
use Rattle.logical_value.proofs.PlainLemmas.{trees_of-map, list_of-plain_values, trees_of-list_of}
use Rattle.value_views.specs.Series.{listed, replaced, leaves, deep}
use Rattle.value_views.specs.Views.{nest_of, packed}
use Rattle.value_views.specs.Way.{part_of, gathered, Leads, LeadsInPart, keeps_lists, HasNoFields, CanGather, CanGatherAll}
use Rattle.value_views.specs.declared.way.Step.{Step}
use Rattle.value_views.specs.declared.way.Step.TheVariants as steps
use Rattle.value_views.proofs.SeriesLemmas.{members-listed, leaves-append, leaves-nil, replaced-append, replaced-nil, members-replaced}

-- ---- one value after another

pub gathered-append : (element : Ltype) (way : List Step) (dims : ℕ) (one other : List Tree) → gathered element way dims (one ++ other) ≡ gathered element way dims one ++ gathered element way dims other
gathered-append element [] dims one other = map-append (packed element dims) one other
gathered-append element (steps.Part number ∷ more) dims one other =
    ap (gathered element more dims) (replaced-append (part_of number) dims one other)
    ∙ gathered-append element more dims (replaced (part_of number) dims one) (replaced (part_of number) dims other)
gathered-append element (steps.Sync own ∷ more) dims one other = gathered-append element more (deep dims own) one other
gathered-append element (steps.Flatten own ∷ more) dims one other =
    ap (gathered element more own) (leaves-append dims one other) ∙ gathered-append element more own (leaves dims one) (leaves dims other)

pub gathered-nil : (element : Ltype) (way : List Step) (dims : ℕ) → gathered element way dims [] ≡ []
gathered-nil element [] dims = refl
gathered-nil element (steps.Part number ∷ more) dims = ap (gathered element more dims) (replaced-nil (part_of number) dims) ∙ gathered-nil element more dims
gathered-nil element (steps.Sync own ∷ more) dims = gathered-nil element more (deep dims own)
gathered-nil element (steps.Flatten own ∷ more) dims = ap (gathered element more own) (leaves-nil dims) ∙ gathered-nil element more own

-- ---- lists

map_lists : (F : List Tree → List nests.Tree) (G : List Tree → List Tree) (series : List Tree)
    → map (λ v. nest_of (F (members v))) (map (λ v. listed (G (members v))) series) ≡ map (λ v. nest_of (F (G (members v)))) series
map_lists F G [] = refl
map_lists F G (value ∷ series) =
    ap (λ (l : List Tree). nest_of (F l) ∷ map (λ v. nest_of (F (members v))) (map (λ v. listed (G (members v))) series)) (members-listed (G (members value)))
    ∙ ap (λ (l : List nests.Tree). nest_of (F (G (members value))) ∷ l) (map_lists F G series)

-- the lists are kept where all Streams on the way are Sync
gathered-lists : (element : Ltype) (way : List Step) (dims : ℕ) (series : List Tree) → keeps_lists way ≡ true
    → gathered element way (suc dims) series ≡ map (λ v. nest_of (gathered element way dims (members v))) series
gathered-lists element [] dims series keeps = refl
gathered-lists element (steps.Part number ∷ more) dims series keeps =
    gathered-lists element more dims (replaced (part_of number) (suc dims) series) keeps ∙ map_lists (gathered element more dims) (replaced (part_of number) dims) series
gathered-lists element (steps.Sync own ∷ more) dims series keeps = gathered-lists element more (deep dims own) series keeps
gathered-lists element (steps.Flatten own ∷ more) dims series keeps = cc

-- their members follow one another where one is not
gathered-members : (element : Ltype) (way : List Step) (dims : ℕ) (series : List Tree) → keeps_lists way ≡ false
    → gathered element way (suc dims) series ≡ gathered element way dims (flat_map members series)
gathered-members element [] dims series keeps = cc
gathered-members element (steps.Part number ∷ more) dims series keeps =
    gathered-members element more dims (replaced (part_of number) (suc dims) series) keeps ∙ ap (gathered element more dims) (members-replaced (part_of number) dims series)
gathered-members element (steps.Sync own ∷ more) dims series keeps = gathered-members element more (deep dims own) series keeps
gathered-members element (steps.Flatten own ∷ more) dims series keeps = refl

-- ---- what the code adds

pub added-list : (element : Ltype) (way : List Step) (dims : ℕ) (value : Tree) (values : List Tree) (keeps : Bool) (start parts old new : List Nest) → keeps ≡ keeps_lists way → keeps ≡ true → start ≡ [] → values ≡ members value
    → map nests.plain parts ≡ map nests.plain start ++ gathered element way dims values → new ≡ old ++ nest_cases.List parts ∷ []
    → map nests.plain new ≡ map nests.plain old ++ gathered element way (suc dims) (value ∷ [])
added-list element way dims value values keeps start parts old new is kept none are gathers pushed =
    ap (map nests.plain) pushed ∙ map-append nests.plain old (nest_cases.List parts ∷ [])
    ∙ ap (λ (n : nests.Tree). map nests.plain old ++ n ∷ []) (plain-List parts ∙ ap nests.list (sym (nest_lemmas.trees_of-map parts)))
    ∙ ap (λ (l : List nests.Tree). map nests.plain old ++ nest_of l ∷ []) (gathers ∙ ap (λ (l : List Nest). map nests.plain l ++ gathered element way dims values) none ∙ ap (gathered element way dims) are)
    ∙ ap (λ (l : List nests.Tree). map nests.plain old ++ l) (sym (gathered-lists element way dims (value ∷ []) (sym is ∙ kept)))

pub added-members : (element : Ltype) (way : List Step) (dims : ℕ) (value : Tree) (values : List Tree) (keeps : Bool) (old new : List Nest) → keeps ≡ keeps_lists way → keeps ≡ false
    → values ≡ members value → map nests.plain new ≡ map nests.plain old ++ gathered element way dims values
    → map nests.plain new ≡ map nests.plain old ++ gathered element way (suc dims) (value ∷ [])
added-members element way dims value values keeps old new is kept are gathers =
    gathers
    ∙ ap (λ (l : List Tree). map nests.plain old ++ gathered element way dims l) (are ∙ sym (append-nil (members value)))
    ∙ ap (λ (l : List nests.Tree). map nests.plain old ++ l) (sym (gathered-members element way dims (value ∷ []) (sym is ∙ kept)))

pub added-leaf : (element : Ltype) (value : Tree) (bits : List Bool) (old new : List Nest) → bits ≡ pack_of element value → new ≡ old ++ nest_cases.Leaf bits ∷ []
    → map nests.plain new ≡ map nests.plain old ++ gathered element [] 0 (value ∷ [])
added-leaf element value bits old new is pushed =
    ap (map nests.plain) pushed ∙ map-append nests.plain old (nest_cases.Leaf bits ∷ [])
    ∙ ap (λ (n : nests.Tree). map nests.plain old ++ n ∷ []) (plain-Leaf bits ∙ ap nests.leaf is)

pub added-part : (element : Ltype) (number : ℕ) (more : List Step) (value held : Tree) (old new : List Nest) → part_of number value ≡ Some held
    → map nests.plain new ≡ map nests.plain old ++ gathered element more 0 (held ∷ [])
    → map nests.plain new ≡ map nests.plain old ++ gathered element (steps.Part number ∷ more) 0 (value ∷ [])
added-part element number more value held old new is gathers = gathers ∙ ap (λ (o : Option Tree). map nests.plain old ++ gathered element more 0 (cons_option o [])) (sym is)

pub added-nothing : (element : Ltype) (number : ℕ) (more : List Step) (value : Tree) (old : List Nest) → part_of number value ≡ None
    → map nests.plain old ≡ map nests.plain old ++ gathered element (steps.Part number ∷ more) 0 (value ∷ [])
added-nothing element number more value old is =
    sym (append-nil (map nests.plain old)) ∙ ap (λ (l : List nests.Tree). map nests.plain old ++ l) (sym (gathered-nil element more 0))
    ∙ ap (λ (o : Option Tree). map nests.plain old ++ gathered element more 0 (cons_option o [])) (sym is)

-- a value more was gathered, of those that are left
pub added-more : (element : Ltype) (way : List Step) (depth : ℕ) (values : List Value) (at : ℕ) (one : Value) (begun old new : List Nest) → at < length values → one ≡ get_or values at one
    → map nests.plain old ++ gathered element way depth (map plain (drop at values)) ≡ map nests.plain begun ++ gathered element way depth (map plain values)
    → map nests.plain new ≡ map nests.plain old ++ gathered element way depth (plain one ∷ [])
    → map nests.plain new ++ gathered element way depth (map plain (drop (at + 1) values)) ≡ map nests.plain begun ++ gathered element way depth (map plain values)
added-more element way depth values at one begun old new within is so_far added =
    let rest = map plain (drop (at + 1) values) in
    ap (λ (l : List nests.Tree). l ++ gathered element way depth rest) added
    ∙ append_assoc (map nests.plain old) (gathered element way depth (plain one ∷ [])) (gathered element way depth rest)
    ∙ ap (λ (l : List nests.Tree). map nests.plain old ++ l) (sym (gathered-append element way depth (plain one ∷ []) rest))
    ∙ ap (λ (l : List Value). map nests.plain old ++ gathered element way depth (map plain l))
    (ap (λ (x : Value). x ∷ drop (at + 1) values) is ∙ sym (drop_more values at one within))
    ∙ so_far

pub added-all : (element : Ltype) (way : List Step) (depth : ℕ) (values : List Value) (at : ℕ) (begun now : List Nest) → length values ≤ at
    → map nests.plain now ++ gathered element way depth (map plain (drop at values)) ≡ map nests.plain begun ++ gathered element way depth (map plain values)
    → map nests.plain now ≡ map nests.plain begun ++ gathered element way depth (map plain values)
added-all element way depth values at begun now done so_far =
    sym (append-nil (map nests.plain now)) ∙ ap (λ (l : List nests.Tree). map nests.plain now ++ l) (sym (gathered-nil element way depth))
    ∙ ap (λ (l : List Value). map nests.plain now ++ gathered element way depth (map plain l)) (sym (drop_all at values done)) ∙ so_far

-- ---- parts by their numbers

part_of-null : (number : ℕ) → part_of number null ≡ None
part_of-null zero = refl
part_of-null (suc number) = refl

pub part_of-group : (number : ℕ) (parts : Trees) → part_of number (group parts) ≡ slice_get (list_of parts) number
part_of-group zero no_trees = refl
part_of-group zero (tree value more) = refl
part_of-group (suc number) no_trees = refl
part_of-group (suc number) (tree value more) = part_of-group number more

part_of-union : (number tag : ℕ) (value : Tree) → tag ≡ number → part_of number (union tag value) ≡ Some value
part_of-union zero zero value is = refl
part_of-union zero (suc tag) value is = absurd (omega (arith, is))
part_of-union (suc number) zero value is = absurd (omega (arith, is))
part_of-union (suc number) (suc tag) value is = part_of-union number tag value (omega (arith, is))

part_of-other : (number tag : ℕ) (value : Tree) → (tag ≡ number → ⊥) → part_of number (union tag value) ≡ None
part_of-other zero zero value is_not = absurd (is_not refl)
part_of-other zero (suc tag) value is_not = refl
part_of-other (suc number) zero value is_not = refl
part_of-other (suc number) (suc tag) value is_not = part_of-other number tag value (λ is. is_not (omega (arith, is)))

pub part_of-selected : (number tag : ℕ) (value held : Tree) → value ≡ union tag held → tag ≡ number → part_of number value ≡ Some held
part_of-selected number tag value held is same = ap (part_of number) is ∙ part_of-union number tag held same

pub part_of-not_selected : (number tag : ℕ) (value held : Tree) → value ≡ union tag held → (tag ≡ number → ⊥) → part_of number value ≡ None
part_of-not_selected number tag value held is other = ap (part_of number) is ∙ part_of-other number tag held other

pub part_of-none : (number : ℕ) (value : Tree) → HasNoFields value → ((tag : ℕ) (held : Tree) → value ≡ union tag held → ⊥) → part_of number value ≡ None
part_of-none zero (group parts) no_fields no_variant = absurd (no_fields parts refl)
part_of-none (suc number) (group parts) no_fields no_variant = absurd (no_fields parts refl)
part_of-none zero (union tag value) no_fields no_variant = absurd (no_variant tag value refl)
part_of-none (suc number) (union tag value) no_fields no_variant = absurd (no_variant tag value refl)
part_of-none zero null no_fields no_variant = refl
part_of-none (suc number) null no_fields no_variant = refl
part_of-none zero (word bits) no_fields no_variant = refl
part_of-none (suc number) (word bits) no_fields no_variant = refl
part_of-none zero (list parts) no_fields no_variant = refl
part_of-none (suc number) (list parts) no_fields no_variant = refl
part_of-none zero apart no_fields no_variant = refl
part_of-none (suc number) apart no_fields no_variant = refl

one_less : (n m : ℕ) → nat_lt (suc n) (suc m) ≡ nat_lt n m
one_less n m = grind (arith, nat_tests)

got_part : (fields : List Value) (number : ℕ) (result : Option (Bor Value)) → is_some result ≡ nat_lt number (length fields)
    → IfSome result (λ held. held.now ≡ get_or fields number held.now)
    → MatchOption result (slice_get (map plain fields) number ≡ None) (λ held. slice_get (map plain fields) number ≡ Some (plain held.now))
got_part [] number None there is = refl
got_part [] number (Some held) there is = absurd (none_there number there)
  where
    none_there : (n : ℕ) → true ≡ nat_lt n 0 → ⊥
    none_there n e = grind (arith, nat_tests)
got_part (one ∷ more) zero None there is = absurd (some_there (length more) there)
  where
    some_there : (n : ℕ) → false ≡ nat_lt 0 (suc n) → ⊥
    some_there n e = grind (arith, nat_tests)
got_part (one ∷ more) zero (Some held) there is = ap (λ (v : Value). Some (plain v)) (sym is)
got_part (one ∷ more) (suc number) result there is = got_part more number result (there ∙ one_less number (length more)) is

pub part_of-field : (value : Tree) (fields : List Value) (number : ℕ) (result : Option (Bor Value)) → value ≡ group (plain_values fields) → is_some result ≡ nat_lt number (length fields)
    → IfSome result (λ held. held.now ≡ get_or fields number held.now)
    → MatchOption result (part_of number value ≡ None) (λ held. part_of number value ≡ Some (plain held.now))
part_of-field value fields number result is there got =
    subst (λ (o : Option Tree). MatchOption result (o ≡ None) (λ held. o ≡ Some (plain held.now)))
    (ap (λ (l : List Tree). slice_get l number) (sym (list_of-plain_values fields)) ∙ sym (part_of-group number (plain_values fields)) ∙ sym (ap (part_of number) is))
    (got_part fields number result there got)

pub members-plain : (value : Tree) (members_are : List Value) → value ≡ list (plain_values members_are) → map plain members_are ≡ members value
members-plain value members_are is = sym (list_of-plain_values members_are) ∙ sym (ap members is)

-- ---- what can be gathered

both : (a b : Bool) → (a && b) ≡ true → (a ≡ true) × (b ≡ true)
both true b e = (refl, e)
both false b e = cc

pass_at : (test : Tree → Bool) (values : List Value) (at : ℕ) (one : Value) → at < length values → one ≡ get_or values at one → all_pass test (trees_of (map plain values)) ≡ true
    → test (plain one) ≡ true
pass_at test [] at one within is pass = absurd (omega (arith, within))
pass_at test (first ∷ values) zero one within is pass = ap (λ (v : Value). test (plain v)) is ∙ (both (test (plain first)) (all_pass test (trees_of (map plain values))) pass).0
pass_at test (first ∷ values) (suc at) one within is pass =
    pass_at test values at one (omega (arith, within)) is (both (test (plain first)) (all_pass test (trees_of (map plain values))) pass).1

pub gathers-one : (element : Ltype) (way : List Step) (depth : ℕ) (values : List Value) (at : ℕ) (one : Value) → at < length values → one ≡ get_or values at one
    → CanGatherAll element way depth (map plain values) → CanGather element way depth (plain one)
gathers-one element way depth values at one within is all = record {
  plain = all.plain;
  from = all.from;
  leads = all.leads;
  fits = pass_at (is_nest (fits_element all.from) depth) values at one within is all.fits;
}

are_members : (test : Tree → Bool) (depth : ℕ) (value : Tree) → is_nest test (suc depth) value ≡ true → all_pass (is_nest test depth) (trees_of (members value)) ≡ true
are_members test depth null fits = cc
are_members test depth (word bits) fits = cc
are_members test depth (group parts) fits = cc
are_members test depth (union tag held) fits = cc
are_members test depth (list parts) fits = ap (all_pass (is_nest test depth)) (trees_of-list_of parts) ∙ fits
are_members test depth apart fits = cc

pub gathers-members : (element : Ltype) (way : List Step) (depth : ℕ) (value : Tree) (values : List Tree) → values ≡ members value → CanGather element way (suc depth) value
    → CanGatherAll element way depth values
gathers-members element way depth value values is can = record {
  plain = can.plain;
  from = can.from;
  leads = can.leads;
  fits = ap (λ (l : List Tree). all_pass (is_nest (fits_element can.from) depth) (trees_of l)) is ∙ are_members (fits_element can.from) depth value can.fits;
}

-- the values that a part is gathered from
record IsPart (element : Ltype) (more : List Step) (held : Tree) : Type 0 where
  from : Ltype
  leads : Leads from more element
  fits : fits_element from held ≡ true

field-fits : (element : Ltype) (parts : Parts) (number : ℕ) (more : List Step) (values : Trees) (held : Tree) → LeadsInPart parts number more element → fit_fields parts values ≡ true
    → part_of number (group values) ≡ Some held → IsPart element more held
field-fits element types.no_parts number more values held leads fits is = absurd leads
field-fits element (types.part name ltype others) number more no_trees held leads fits is = cc
field-fits element (types.part name ltype others) zero more (tree value values) held leads fits is =
    let same : value ≡ held = cc in
    record { from = ltype; leads = leads; fits = ap (fits_element ltype) (sym same) ∙ (both (fits_element ltype value) (fit_fields others values) fits).0 }
field-fits element (types.part name ltype others) (suc number) more (tree value values) held leads fits is =
    field-fits element others number more values held leads (both (fits_element ltype value) (fit_fields others values) fits).1 is

variant-fits : (element : Ltype) (parts : Parts) (number : ℕ) (more : List Step) (tag : ℕ) (value held : Tree) → LeadsInPart parts number more element
    → fits_variant parts tag value ≡ true → part_of number (union tag value) ≡ Some held → IsPart element more held
variant-fits element types.no_parts number more tag value held leads fits is = absurd leads
variant-fits element (types.part name ltype others) zero more zero value held leads fits is =
    let same : value ≡ held = cc in record { from = ltype; leads = leads; fits = ap (fits_element ltype) (sym same) ∙ fits }
variant-fits element (types.part name ltype others) zero more (suc tag) value held leads fits is = cc
variant-fits element (types.part name ltype others) (suc number) more zero value held leads fits is = cc
variant-fits element (types.part name ltype others) (suc number) more (suc tag) value held leads fits is = variant-fits element others number more tag value held leads fits is

part-fits : (element from : Ltype) (number : ℕ) (more : List Step) (value held : Tree) → Leads from (steps.Part number ∷ more) element → fits_element from value ≡ true
    → part_of number value ≡ Some held → IsPart element more held
part-fits element types.null number more value held leads fits is = absurd leads
part-fits element (types.bits width) number more value held leads fits is = absurd leads
part-fits element (types.stream inner user settings) number more value held leads fits is = absurd leads
part-fits element (types.group parts) number more (group values) held leads fits is = field-fits element parts number more values held leads fits is
part-fits element (types.group parts) number more null held leads fits is = cc
part-fits element (types.group parts) number more (word bits) held leads fits is = cc
part-fits element (types.group parts) number more (union tag value) held leads fits is = cc
part-fits element (types.group parts) number more (list values) held leads fits is = cc
part-fits element (types.group parts) number more apart held leads fits is = cc
part-fits element (types.union parts) number more (union tag value) held leads fits is = variant-fits element parts number more tag value held leads fits is
part-fits element (types.union parts) number more null held leads fits is = cc
part-fits element (types.union parts) number more (word bits) held leads fits is = cc
part-fits element (types.union parts) number more (group values) held leads fits is = cc
part-fits element (types.union parts) number more (list values) held leads fits is = cc
part-fits element (types.union parts) number more apart held leads fits is = cc

pub gathers-part : (element : Ltype) (number : ℕ) (more : List Step) (value held : Tree) → part_of number value ≡ Some held → CanGather element (steps.Part number ∷ more) 0 value
    → CanGather element more 0 held
gathers-part element number more value held is can =
    let one = part-fits element can.from number more value held can.leads can.fits is in
    record { plain = can.plain; from = one.from; leads = one.leads; fits = one.fits }

tied : (sync other : Sync) (value : Tree) (inner : Ltype) (dims own : ℕ) → sync ≡ other → is_apart other ≡ false → dims ≡ own
    → (if is_apart sync then stands_apart value else is_nest (fits_element inner) dims value) ≡ true
    → is_nest (fits_element inner) own value ≡ true
tied syncs.Sync other value inner dims own same is deep fits = ap (λ (d : ℕ). is_nest (fits_element inner) d value) (sym deep) ∙ fits
tied syncs.Flatten other value inner dims own same is deep fits = ap (λ (d : ℕ). is_nest (fits_element inner) d value) (sym deep) ∙ fits
tied syncs.Desync other value inner dims own same is deep fits = (let wrong : true ≡ false = ap is_apart same ∙ is in cc)
tied syncs.FlatDesync other value inner dims own same is deep fits = (let wrong : true ≡ false = ap is_apart same ∙ is in cc)

pub gathers-sync : (element : Ltype) (own : ℕ) (more : List Step) (value : Tree) → CanGather element (steps.Sync own ∷ more) 0 value → CanGather element more own value
gathers-sync element own more value can = inside can.from can.leads can.fits
  where
    inside : (from : Ltype) → Leads from (steps.Sync own ∷ more) element → fits_element from value ≡ true → CanGather element more own value
    inside types.null leads fits = absurd leads
    inside (types.bits width) leads fits = absurd leads
    inside (types.group parts) leads fits = absurd leads
    inside (types.union parts) leads fits = absurd leads
    inside (types.stream inner user settings) leads fits = record {
      plain = can.plain;
      from = inner;
      leads = leads.1.1;
      fits = tied settings.sync syncs.Sync value inner settings.dims own leads.0 refl leads.1.0 fits;
    }

pub gathers-flatten : (element : Ltype) (own : ℕ) (more : List Step) (value : Tree) → CanGather element (steps.Flatten own ∷ more) 0 value → CanGather element more own value
gathers-flatten element own more value can = inside can.from can.leads can.fits
  where
    inside : (from : Ltype) → Leads from (steps.Flatten own ∷ more) element → fits_element from value ≡ true → CanGather element more own value
    inside types.null leads fits = absurd leads
    inside (types.bits width) leads fits = absurd leads
    inside (types.group parts) leads fits = absurd leads
    inside (types.union parts) leads fits = absurd leads
    inside (types.stream inner user settings) leads fits = record {
      plain = can.plain;
      from = inner;
      leads = leads.1.1;
      fits = tied settings.sync syncs.Flatten value inner settings.dims own leads.0 refl leads.1.0 fits;
    }

pub leaf-element : (element : Ltype) (value : Tree) → CanGather element [] 0 value → IsElement element value
leaf-element element value can = fits_are_elements element value (subst (λ (t : Ltype). fits_element t value ≡ true) can.leads can.fits)

-- ---- how far there is to go

pub members-size : (value : Tree) (values : List Value) → map plain values ≡ members value → size_of_values (plain_values values) < size_of_value value
members-size value values are = let is = sym (trees_of-map values) ∙ ap trees_of are in smaller value (plain_values values) is
  where
    smaller : (value : Tree) (parts : Trees) → parts ≡ trees_of (members value) → size_of_values parts < size_of_value value
    smaller null parts is = let size = ap size_of_values is in omega (arith, size)
    smaller (word bits) parts is = let size = ap size_of_values is in omega (arith, size)
    smaller (group fields) parts is = let size = ap size_of_values is in omega (arith, size)
    smaller (union tag held) parts is = let size = ap size_of_values is in omega (arith, size)
    smaller (list some) parts is = let size = ap size_of_values (is ∙ trees_of-list_of some) in omega (arith, size)
    smaller apart parts is = let size = ap size_of_values is in omega (arith, size)

field-size : (number : ℕ) (values : Trees) (held : Tree) → part_of number (group values) ≡ Some held → size_of_value held ≤ size_of_values values
field-size zero no_trees held is = cc
field-size (suc number) no_trees held is = cc
field-size zero (tree value values) held is = (let same : value ≡ held = cc in let size = ap size_of_value same in omega (arith, size))
field-size (suc number) (tree value values) held is = let rest = field-size number values held is in omega (arith, rest)

variant-size : (number tag : ℕ) (value held : Tree) → part_of number (union tag value) ≡ Some held → size_of_value held ≤ size_of_value value
variant-size zero zero value held is = (let same : value ≡ held = cc in let size = ap size_of_value same in omega (arith, size))
variant-size zero (suc tag) value held is = cc
variant-size (suc number) zero value held is = cc
variant-size (suc number) (suc tag) value held is = variant-size number tag value held is

pub part-size : (number : ℕ) (value held : Tree) → part_of number value ≡ Some held → size_of_value held ≤ size_of_value value
part-size number (group values) held is = let size = field-size number values held is in omega (arith, size)
part-size number (union tag value) held is = let size = variant-size number tag value held is in omega (arith, size)
part-size zero null held is = cc
part-size (suc number) null held is = cc
part-size zero (word bits) held is = cc
part-size (suc number) (word bits) held is = cc
part-size zero (list some) held is = cc
part-size (suc number) (list some) held is = cc
part-size zero apart held is = cc
part-size (suc number) apart held is = cc
