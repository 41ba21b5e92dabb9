-- A valid type is plain, and so is each type in a plain one, whatever is around it.
use Rattle.std.proofs.Common.{◌≡◌, ℕ, ◌≤◌, Bool, true, false, cond, List, [], ◌∷◌, ◌++◌, filter, refl, sym, ap, ◌∙◌, arith}
use Rattle.std.proofs.lemmas.Bool.Decides.{nat_tests}
use Rattle.std.specs.List.{flat_map}
use Rattle.std.proofs.lemmas.Grind.{flat_map-append}
use Rattle.logical_types.specs.declared.fault.TypeFault.{TypeFault}
use Rattle.logical_types.specs.declared.fault.TypeFault.TheVariants as faults
use Rattle.logical_types.specs.declared.streams.Around.{Around}
use Rattle.logical_types.specs.Tree.{Ltype, null, bits, group, union, stream, Parts, no_parts, part, Settings}
use Rattle.logical_types.specs.Width.{width_of}
use Rattle.logical_types.specs.Faults.{outermost, inside, TypeNode, nodes, nodes_of_parts, has_fault, all_faults, is_too_wide, plain_faults, faults_at, faults_within, IsValid, IsPlain, ArePlain}

-- the faults at a node that are not of throughputs, lanes or dimensions
abbrev plain_at : TypeNode → List TypeFault
plain_at node = filter (has_fault node) plain_faults

-- ---- lists that are empty

pub apart : {A : Type 0} (front back : List A) → front ++ back ≡ [] → (front ≡ []) × (back ≡ [])
apart [] back empty = (refl, empty)
apart (one ∷ more) back empty = cc

pub none_of : (test : Bool) (one : TypeFault) (rest : List TypeFault) → cond test (one ∷ rest) rest ≡ [] → (test ≡ false) × (rest ≡ [])
none_of true one rest empty = cc
none_of false one rest empty = (refl, empty)

skipped : (test : TypeFault → Bool) (one : TypeFault) (rest : List TypeFault) → test one ≡ false → filter test (one ∷ rest) ≡ filter test rest
skipped test one rest fails = ap (λ b. cond b (one ∷ filter test rest) (filter test rest)) fails

none_plain : (test : TypeFault → Bool) → filter test all_faults ≡ [] → filter test plain_faults ≡ []
none_plain test empty =
    let zero_bits = none_of (test faults.ZeroBits) faults.ZeroBits _ empty in
    let wide = none_of (test faults.ElementTooWide) faults.ElementTooWide _ zero_bits.1 in
    let throughput = none_of (test faults.BadThroughput) faults.BadThroughput _ wide.1 in
    let lanes = none_of (test faults.TooManyLanes) faults.TooManyLanes _ throughput.1 in
    let dims = none_of (test faults.TooManyDims) faults.TooManyDims _ lanes.1 in
    let user = none_of (test faults.UserHasStream) faults.UserHasStream _ dims.1 in
    skipped test faults.ZeroBits (faults.ElementTooWide ∷ faults.UserHasStream ∷ faults.NameTwice ∷ faults.EmptyUnion ∷ []) zero_bits.0
    ∙ skipped test faults.ElementTooWide (faults.UserHasStream ∷ faults.NameTwice ∷ faults.EmptyUnion ∷ []) wide.0 ∙ user_and_on user.0 user.1
  where
    user_and_on : test faults.UserHasStream ≡ false → filter test (faults.NameTwice ∷ faults.EmptyUnion ∷ []) ≡ [] → filter test (faults.UserHasStream ∷ faults.NameTwice ∷ faults.EmptyUnion ∷ []) ≡ []
    user_and_on fails empty = skipped test faults.UserHasStream (faults.NameTwice ∷ faults.EmptyUnion ∷ []) fails ∙ empty

no_plain_faults : (ns : List TypeNode) → flat_map faults_at ns ≡ [] → flat_map plain_at ns ≡ []
no_plain_faults [] empty = refl
no_plain_faults (node ∷ more) empty =
    let both = apart (faults_at node) (flat_map faults_at more) empty in
    ap (λ (l : List TypeFault). l ++ flat_map plain_at more) (none_plain (has_fault node) both.0) ∙ no_plain_faults more both.1

-- a valid type is plain
pub IsPlain-IsValid : (ltype : Ltype) → IsValid ltype → IsPlain ltype
IsPlain-IsValid ltype valid = no_plain_faults (nodes outermost ltype) valid

-- ---- whatever is around a type

abbrev plain_within : Around → Ltype → List TypeFault
plain_within around ltype = flat_map plain_at (nodes around ltype)

abbrev plain_of_parts : Around → Parts → List TypeFault
plain_of_parts around parts = flat_map plain_at (nodes_of_parts around parts)

mutual
  plain_within-any : (one other : Around) (ltype : Ltype) → plain_within one ltype ≡ plain_within other ltype
  plain_within-any one other null = refl
  plain_within-any one other (bits width) = refl
  plain_within-any one other (group parts) =
      ap (λ (l : List TypeFault). plain_at (record { around = one; ltype = group parts }) ++ l) (plain_of_parts-any one other parts)
  plain_within-any one other (union parts) =
      ap (λ (l : List TypeFault). plain_at (record { around = one; ltype = union parts }) ++ l) (plain_of_parts-any one other parts)
  plain_within-any one other (stream element user settings) =
      ap (λ (l : List TypeFault). plain_at (record { around = one; ltype = stream element user settings }) ++ l)
      (flat_map-append plain_at (nodes (inside one settings) element) (nodes (inside one settings) user)
      ∙ ap (λ (l : List TypeFault). l ++ plain_within (inside one settings) user) (plain_within-any (inside one settings) (inside other settings) element)
      ∙ ap (λ (l : List TypeFault). plain_within (inside other settings) element ++ l) (plain_within-any (inside one settings) (inside other settings) user)
      ∙ sym (flat_map-append plain_at (nodes (inside other settings) element) (nodes (inside other settings) user)))

  plain_of_parts-any : (one other : Around) (parts : Parts) → plain_of_parts one parts ≡ plain_of_parts other parts
  plain_of_parts-any one other no_parts = refl
  plain_of_parts-any one other (part name ltype more) =
      flat_map-append plain_at (nodes one ltype) (nodes_of_parts one more)
      ∙ ap (λ (l : List TypeFault). l ++ plain_of_parts one more) (plain_within-any one other ltype)
      ∙ ap (λ (l : List TypeFault). plain_within other ltype ++ l) (plain_of_parts-any one other more)
      ∙ sym (flat_map-append plain_at (nodes other ltype) (nodes_of_parts other more))

-- ---- how wide a plain type is

not_wide : (ltype : Ltype) → is_too_wide ltype ≡ false → width_of ltype ≤ 4096
not_wide ltype test = grind (arith, nat_tests)

first_narrow : (around : Around) (ltype : Ltype) (rest : List TypeFault) → plain_at (record { around = around; ltype = ltype }) ++ rest ≡ [] → width_of ltype ≤ 4096
first_narrow around ltype rest empty =
    let node : TypeNode = record { around = around; ltype = ltype } in
    let zero_bits = none_of (has_fault node faults.ZeroBits) faults.ZeroBits _ (apart (plain_at node) rest empty).0 in
    not_wide ltype (none_of (has_fault node faults.ElementTooWide) faults.ElementTooWide _ zero_bits.1).0

narrow_within : (around : Around) (ltype : Ltype) → plain_within around ltype ≡ [] → width_of ltype ≤ 4096
narrow_within around null plain = first_narrow around null _ plain
narrow_within around (bits width) plain = first_narrow around (bits width) _ plain
narrow_within around (group parts) plain = first_narrow around (group parts) _ plain
narrow_within around (union parts) plain = first_narrow around (union parts) _ plain
narrow_within around (stream element user settings) plain = first_narrow around (stream element user settings) _ plain

-- an element of a plain type has at most 4,096 bits
pub width-IsPlain : (ltype : Ltype) → IsPlain ltype → width_of ltype ≤ 4096
width-IsPlain = narrow_within outermost

-- so has one of a type without faults, whatever is around it
pub width-valid : (around : Around) (ltype : Ltype) → faults_within around ltype ≡ [] → width_of ltype ≤ 4096
width-valid around ltype valid = narrow_within around ltype (no_plain_faults (nodes around ltype) valid)

-- ---- the types in a plain type

pub ArePlain-group : (parts : Parts) → IsPlain (group parts) → ArePlain parts
ArePlain-group parts plain = (apart (plain_at (record { around = outermost; ltype = group parts })) (plain_of_parts outermost parts) plain).1

pub ArePlain-union : (parts : Parts) → IsPlain (union parts) → ArePlain parts
ArePlain-union parts plain = (apart (plain_at (record { around = outermost; ltype = union parts })) (plain_of_parts outermost parts) plain).1

-- the first part, and the parts behind it
pub IsPlain-first : (name : List ℕ) (ltype : Ltype) (more : Parts) → ArePlain (part name ltype more) → IsPlain ltype × ArePlain more
IsPlain-first name ltype more plain =
    apart (plain_within outermost ltype) (plain_of_parts outermost more) (sym (flat_map-append plain_at (nodes outermost ltype) (nodes_of_parts outermost more)) ∙ plain)

-- the data type and the user type of a Stream
pub IsPlain-inside : (element user : Ltype) (settings : Settings) → IsPlain (stream element user settings) → IsPlain element × IsPlain user
IsPlain-inside element user settings plain =
    let around = inside outermost settings in
    let behind = (apart (plain_at (record { around = outermost; ltype = stream element user settings })) (flat_map plain_at (nodes around element ++ nodes around user)) plain).1 in
    let both = apart (plain_within around element) (plain_within around user) (sym (flat_map-append plain_at (nodes around element) (nodes around user)) ∙ behind) in
    (plain_within-any outermost around element ∙ both.0, plain_within-any outermost around user ∙ both.1)
