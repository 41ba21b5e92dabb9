-- The errors of a type by its kind, and the one that a run of tests reports first.
use Rattle.std.proofs.Common.{◌≡◌, ℕ, ◌+◌, ◌<◌, ◌≤◌, Bool, true, false, cond, ltb, eqb, List, [], ◌∷◌, ◌++◌, length, get_or, drop, Some, Result, refl, sym, ap, ◌∙◌, subst, arith}
use Rattle.std.specs.List.{flat_map, slice_get}
use Rattle.std.proofs.lemmas.Grind.{flat_map-append}
use Rattle.std.proofs.lemmas.List.Elements.{filter-append}
use Rattle.std.proofs.lemmas.Bool.Decides.{Decides-ltb, nat_tests}
use Rattle.logical_types.specs.declared.fault.TypeFault.{TypeFault}
use Rattle.logical_types.specs.declared.fault.TypeFault.TheVariants as faults
use Rattle.logical_types.specs.declared.streams.Around.{Around}
use Rattle.logical_types.specs.declared.ltype.Part.{Part}
use Rattle.logical_types.specs.Tree.{Ltype, union, stream, Settings, plain, plain_parts, has_stream, names_of}
use Rattle.logical_types.specs.Width.{saturated}
use Rattle.logical_types.specs.Names.{has_name_twice, part_names}
use Rattle.logical_types.specs.Faults.{inside, nodes, nodes_of_parts, has_fault, faults_at, rate_faults, faults_within, faults_of_parts, Tells, is_empty_union}
use Rattle.logical_types.proofs.PlainLemmas.{plain_parts-at, plain_parts-past, names_of-plain}

-- ---- a list of faults by its tests

pub told : (test : Bool) (fault : TypeFault) (more rest : List TypeFault) → test ≡ true → slice_get (cond test (fault ∷ more) rest) 0 ≡ Some fault
told test fault more rest holds = ap (λ b. slice_get (cond b (fault ∷ more) rest) 0) holds

pub passed : (test : Bool) (more rest : List TypeFault) → test ≡ false → cond test more rest ≡ rest
passed test more rest fails = ap (λ b. cond b more rest) fails

pub first-of : (found rest : List TypeFault) (fault : TypeFault) → found ≡ rest → slice_get rest 0 ≡ Some fault → slice_get found 0 ≡ Some fault
first-of found rest fault same first = ap (λ (l : List TypeFault). slice_get l 0) same ∙ first

-- ---- the one that is reported of errors one after another

pub first-front : (front back : List TypeFault) (fault : TypeFault) → slice_get front 0 ≡ Some fault → slice_get (front ++ back) 0 ≡ Some fault
first-front [] back fault first = cc
first-front (one ∷ more) back fault first = first

pub Tells-behind : {A : Type 0} (front back : List TypeFault) (result : Result A TypeFault) → front ≡ [] → Tells back result → Tells (front ++ back) result
Tells-behind front back result none told = subst (λ (l : List TypeFault). Tells (l ++ back) result) (sym none) told

pub Tells-at : {A : Type 0} (found other : List TypeFault) (result : Result A TypeFault) → found ≡ other → Tells other result → Tells found result
Tells-at found other result same told = subst (λ (l : List TypeFault). Tells l result) (sym same) told

-- ---- parts

pub faults_of_parts-at : (around : Around) (parts : List Part) (at : ℕ) (one : Part) → at < length parts → one ≡ get_or parts at one
    → faults_of_parts around (plain_parts (drop at parts)) ≡ faults_within around (plain one.ltype) ++ faults_of_parts around (plain_parts (drop (at + 1) parts))
faults_of_parts-at around parts at one within is =
    ap (faults_of_parts around) (plain_parts-at parts at one within is)
    ∙ flat_map-append faults_at (nodes around (plain one.ltype)) (nodes_of_parts around (plain_parts (drop (at + 1) parts)))

pub faults_of_parts-past : (around : Around) (parts : List Part) (at : ℕ) → length parts ≤ at → faults_of_parts around (plain_parts (drop at parts)) ≡ []
faults_of_parts-past around parts at done = ap (faults_of_parts around) (plain_parts-past parts at done)

-- ---- a Group, a Union and a Stream

-- a width that was saturated is over the limit, or within it
pub wide : (width found : ℕ) → found ≡ saturated width → 4096 < found → ltb 4096 width ≡ true
wide width found is over = (Decides-ltb 4096 width).1 (omega arith)

pub narrow : (width found : ℕ) → found ≡ saturated width → found ≤ 4096 → ltb 4096 width ≡ false
narrow width found is within = grind (arith, nat_tests)

pub names_twice : (parts : List Part) (found : Bool) → has_name_twice (part_names parts) ≡ found → has_name_twice (names_of (plain_parts parts)) ≡ found
names_twice parts found is = ap has_name_twice (names_of-plain parts) ∙ is

pub is_empty_union-some : (parts : List Part) → false ≡ eqb (length parts) 0 → is_empty_union (union (plain_parts parts)) ≡ false
is_empty_union-some [] some = sym some
is_empty_union-some (first ∷ more) some = refl

-- the errors of a Stream itself: of its rate, and then of its user type
pub faults_at-stream : (around : Around) (element user : Ltype) (settings : Settings)
    → faults_at (record { around = around; ltype = stream element user settings }) ≡ rate_faults around settings ++ cond (has_stream user) (faults.UserHasStream ∷ []) []
faults_at-stream around element user settings =
    filter-append (has_fault (record { around = around; ltype = stream element user settings }))
    (faults.BadThroughput ∷ faults.TooManyLanes ∷ faults.TooManyDims ∷ []) (faults.UserHasStream ∷ [])

-- all errors of a Stream
pub faults_within-stream : (around : Around) (element user : Ltype) (settings : Settings)
    → faults_within around (stream element user settings)
    ≡ (rate_faults around settings ++ cond (has_stream user) (faults.UserHasStream ∷ []) []) ++ (faults_within (inside around settings) element ++ faults_within (inside around settings) user)
faults_within-stream around element user settings =
    ap (λ (l : List TypeFault). l ++ flat_map faults_at (nodes (inside around settings) element ++ nodes (inside around settings) user)) (faults_at-stream around element user settings)
    ∙ ap (λ (l : List TypeFault). (rate_faults around settings ++ cond (has_stream user) (faults.UserHasStream ∷ []) []) ++ l)
    (flat_map-append faults_at (nodes (inside around settings) element) (nodes (inside around settings) user))

-- where the Stream itself has no fault, its faults are those of its data type, and then of its user type
pub faults_within-rest : (around inner : Around) (element user : Ltype) (settings : Settings)
    → rate_faults around settings ≡ [] → has_stream user ≡ false → inner ≡ inside around settings
    → faults_within around (stream element user settings) ≡ faults_within inner element ++ faults_within inner user
faults_within-rest around inner element user settings rates plain_user same =
    let rest : Around → List TypeFault = λ a. faults_within a element ++ faults_within a user in
    faults_within-stream around element user settings
    ∙ ap (λ (l : List TypeFault). (l ++ cond (has_stream user) (faults.UserHasStream ∷ []) []) ++ rest (inside around settings)) rates
    ∙ ap (λ b. cond b (faults.UserHasStream ∷ []) [] ++ rest (inside around settings)) plain_user
    ∙ ap rest (sym same)
