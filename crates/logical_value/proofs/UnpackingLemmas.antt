-- A word as it is read, part after part.
use Rattle.std.proofs.Common.{◌≡◌, ◌∙◌, ℕ, zero, suc, ◌+◌, ◌-◌, ◌^◌, ◌<◌, ◌≤◌, Bool, true, if◌then◌else◌, Option, None, Some, Result, MatchResult, get_or, List, [], ◌∷◌, ◌++◌, length, take, drop, refl, sym, ap, subst, arith, length-drop}
use Rattle.std.proofs.lemmas.List.{length-take, drop-take, drop-drop, drop_all, take_all}
use Rattle.tydi_base.specs.Bits.{number_of_bits}
use Rattle.tydi_base.specs.Numbers.{number_below}
use Rattle.tydi_base.specs.Hex.{no_ones}
use Rattle.std.specs.Option.{unwrap_or}
use Rattle.std.specs.Result.{OkIff, result_unwrap_or}
use Rattle.std.proofs.lemmas.Result.{MatchResult-weaker, Ok-from_Ok_iff}
use Rattle.std.proofs.Math.Pow.{pow_mono}
use Rattle.tydi_base.proofs.BitsLemmas.{number_of_bits-below}
use Rattle.tydi_base.specs.Width.{index_width}
use Rattle.tydi_base.proofs.WidthLaws.{index_width-least}
use Rattle.logical_types.specs.declared.ltype.Part.{Part}
use Rattle.logical_types.specs.Faults.{IsPlain}
use Rattle.logical_types.specs.Size.{number_of_nodes, nodes_in_parts}
use Rattle.logical_types.specs.Tree.{Ltype, Parts, number_of_parts, plain, plain_parts}
use Rattle.logical_types.specs.Tree as types
use Rattle.logical_types.specs.Width.{width_of, total_width, tag_width, greatest_width, saturated}
use Rattle.logical_types.proofs.PlainLemmas.{number_of_parts-plain, plain_parts-at, plain_parts-past}
use Rattle.logical_types.proofs.PlainTypes.{width-IsPlain}
use Rattle.logical_value.specs.Agreement.{Agrees, AgreeAll, AgreesVariant, IsFaultOf, IsUnpacked, Tells, bad_tag, bad_tag_of_parts, bad_tag_of_variant, first_of}
use Rattle.logical_value.specs.Element.{set_all_apart}
use Rattle.logical_value.specs.Tree.{Tree, group, union, Trees, no_trees, tree}
use Rattle.logical_value.specs.Tree.{plain as plain_value, plain_values}
use Rattle.logical_value.specs.Unpacking.{left_of, names_of, HasRead, CanRead, Reads, AreUnpacked, IsVariantUnpacked}
use Rattle.logical_value.specs.declared.fault.UnpackFault.{UnpackFault}
use Rattle.logical_value.specs.declared.fault.UnpackFault.TheVariants as faults
use Rattle.logical_value.specs.declared.unpacking.Unpacking.{Unpacking}
use Rattle.logical_value.specs.declared.value.Value.{Value}
use Rattle.logical_value.proofs.LawLemmas.{no_bad_tag}

-- ---- fronts of bits

pub take-less : (few many : ℕ) (bits : List Bool) → few ≤ many → take few (take many bits) ≡ take few bits
take-less zero many bits less = refl
take-less (suc few) zero bits less = absurd (omega (arith, less))
take-less (suc few) (suc many) [] less = refl
take-less (suc few) (suc many) (bit ∷ bits) less = ap (λ (l : List Bool). bit ∷ l) (take-less few many bits (omega (arith, less)))

pub drop-less : (few many : ℕ) (bits : List Bool) → few ≤ many → drop few (take many bits) ≡ take (many - few) (drop few bits)
drop-less few many bits less =
    let same : many ≡ few + (many - few) = omega (arith, less) in ap (λ (n : ℕ). drop few (take n bits)) same ∙ drop-take few (many - few) bits

-- bits above those of parts say nothing of them
agree-front : (parts : Parts) (many : ℕ) (bits : List Bool) (values : Trees) → total_width parts ≤ many → AgreeAll parts bits values → AgreeAll parts (take many bits) values
agree-front types.no_parts many bits no_trees wide agree = tt
agree-front (types.part name ltype more) many bits (tree value others) wide agree = (
  subst (λ (l : List Bool). Agrees ltype l value) (sym (take-less (width_of ltype) many bits (omega (arith, wide)))) agree.0,
  subst (λ (l : List Bool). AgreeAll more l others) (sym (drop-less (width_of ltype) many bits (omega (arith, wide))))
      (agree-front more (many - width_of ltype) (drop (width_of ltype) bits) others (omega (arith, wide)) agree.1),
)
agree-front parts many bits values wide agree = absurd agree

bad_tag-front : (names : List (List ℕ)) (parts : Parts) (many : ℕ) (bits : List Bool) → total_width parts ≤ many
    → bad_tag_of_parts names parts (take many bits) ≡ bad_tag_of_parts names parts bits
bad_tag-front names types.no_parts many bits wide = refl
bad_tag-front names (types.part name ltype more) many bits wide =
    ap (λ (l : List Bool). first_of (bad_tag (names ++ name ∷ []) ltype l) (bad_tag_of_parts names more (drop (width_of ltype) (take many bits))))
    (take-less (width_of ltype) many bits (omega (arith, wide)))
    ∙ ap (λ (o : Option (List (List ℕ))). first_of (bad_tag (names ++ name ∷ []) ltype (take (width_of ltype) bits)) o)
    (ap (bad_tag_of_parts names more) (drop-less (width_of ltype) many bits (omega (arith, wide)))
    ∙ bad_tag-front names more (many - width_of ltype) (drop (width_of ltype) bits) (omega (arith, wide)))

agrees-front_variant : (parts : Parts) (tag many : ℕ) (bits : List Bool) (value : Tree) → greatest_width parts ≤ many → AgreesVariant parts tag bits value
    → AgreesVariant parts tag (take many bits) value
agrees-front_variant types.no_parts tag many bits value wide agrees = absurd agrees
agrees-front_variant (types.part name ltype more) zero many bits value wide agrees =
    subst (λ (l : List Bool). Agrees ltype l value) (sym (take-less (width_of ltype) many bits (omega (arith, wide)))) agrees
agrees-front_variant (types.part name ltype more) (suc tag) many bits value wide agrees = agrees-front_variant more tag many bits value (omega (arith, wide)) agrees

bad_tag-front_variant : (path names : List (List ℕ)) (parts : Parts) (tag many : ℕ) (bits : List Bool) → greatest_width parts ≤ many
    → bad_tag_of_variant path names parts tag (take many bits) ≡ bad_tag_of_variant path names parts tag bits
bad_tag-front_variant path names types.no_parts tag many bits wide = refl
bad_tag-front_variant path names (types.part name ltype more) zero many bits wide =
    ap (λ (l : List Bool). bad_tag (names ++ name ∷ []) ltype l) (take-less (width_of ltype) many bits (omega (arith, wide)))
bad_tag-front_variant path names (types.part name ltype more) (suc tag) many bits wide = bad_tag-front_variant path names more tag many bits (omega (arith, wide))

-- ---- steps over bits

pub HasRead-then : (one two three : Unpacking) (first second : ℕ) → HasRead one two first → HasRead two three second → HasRead one three (first + second)
HasRead-then one two three first second read read' = record {
  left = read'.left ∙ ap (drop second) read.left ∙ drop-drop second first (left_of one);
  names = read'.names ∙ read.names;
}

-- ---- words and numbers

-- a number of few bits is read as it stands
pub number-few : (bits : List Bool) (found : Option ℕ) → found ≡ number_below 128 bits → length bits ≤ 32 → found ≡ Some (number_of_bits bits)
unfolding number_below no_ones
number-few bits found is few =
    let test : no_ones (drop 128 bits) ≡ true = ap no_ones (drop_all 128 bits (omega (arith, few))) in
    is ∙ ap (λ (b : Bool). if b then Some (number_of_bits bits) else None) test

pub read-number : {E : Type 0} (width : ℕ) (left bits : List Bool) (found : Option ℕ) (number : ℕ) (tried : Result ℕ E) (most over result : ℕ) → bits ≡ take width left
    → found ≡ number_below 128 bits → number ≡ unwrap_or found over → OkIff tried (number < 2 ^ 32) number → result ≡ result_unwrap_or tried most → width ≤ 32
    → result ≡ number_of_bits (take width left)
read-number width left bits found number tried most over result is_bits is_found is_number tries is few =
    let long : length bits ≤ 32 = (let front = length-take width left in let same = ap length is_bits in omega (arith, front, same, few)) in
    let value : number ≡ number_of_bits bits = is_number ∙ ap (λ (o : Option ℕ). unwrap_or o over) (number-few bits found is_found long) in
    let most_of = pow_mono long in
    let below = number_of_bits-below bits in
    is ∙ ap (λ r. result_unwrap_or r most) (Ok-from_Ok_iff tried (number < 2 ^ 32) number tries (omega (arith, value, below, most_of))) ∙ value ∙ ap number_of_bits is_bits

-- ---- the fields of a Group

past : {A : Type 0} (one other : Option A) → ((x : A) → one ≡ Some x → ⊥) → first_of one other ≡ other
past None other never = refl
past (Some x) other never = absurd (never x refl)

first_found : {A : Type 0} (one other : Option A) (x : A) → one ≡ Some x → first_of one other ≡ Some x
first_found None other x found = cc
first_found (Some y) other x found = found

-- values before others
abbrev pub put_before : Trees → Trees → Trees
put_before no_trees others = others
put_before (tree first more) others = tree first (put_before more others)

put_before-more : (values : List Value) (value : Value) (others : Trees) → put_before (plain_values (values ++ value ∷ [])) others
    ≡ put_before (plain_values values) (tree (plain_value value) others)
put_before-more [] value others = refl
put_before-more (first ∷ more) value others = ap (tree (plain_value first)) (put_before-more more value others)

put_before-none : (values : Trees) → put_before values no_trees ≡ values
put_before-none no_trees = refl
put_before-none (tree first more) = ap (tree first) (put_before-none more)

Tells-front : (fault : UnpackFault) (one other : Option (List (List ℕ))) → ((path : List (List ℕ)) → one ≡ Some path → other ≡ Some path) → Tells one fault → Tells other fault
Tells-front (faults.BadTag path) one other follows tells = follows path tells
Tells-front faults.Memory one other follows tells = tt

-- the values that are left are to be read, and once they are, all are
pub record AreLeft (first now : Unpacking) (all : Parts) (values : List Value) (more : Parts) : Type 0 where
  pub can : CanRead now (nodes_in_parts more) (total_width more)
  pub names : names_of now ≡ names_of first
  pub left : drop (total_width more) (left_of now) ≡ drop (total_width all) (left_of first)
  pub agree : (others : Trees) → AreUnpacked more (left_of now) others → AreUnpacked all (left_of first) (put_before (plain_values values) others)
  pub bad : bad_tag_of_parts (names_of first) more (left_of now) ≡ bad_tag_of_parts (names_of first) all (left_of first)

-- the first of parts can be read where they can
can_first : (now : Unpacking) (name : List ℕ) (ltype : Ltype) (more : Parts) (width : ℕ) → CanRead now (nodes_in_parts (types.part name ltype more)) width
    → width_of ltype ≤ width → CanRead now (number_of_nodes ltype) (width_of ltype)
can_first now name ltype more width can wide =
    record { few = omega (arith, can.few); narrow = omega (arith, can.narrow, wide); there = omega (arith, can.there, wide) }

pub AreLeft-step : (first now new : Unpacking) (all : Parts) (values more : List Value) (parts : List Part) (at : ℕ) (one : Part) (value : Value) → at < length parts → one ≡ get_or parts at one
    → more ≡ values ++ value ∷ [] → AreLeft first now all values (plain_parts (drop at parts))
    → (CanRead now (number_of_nodes (plain one.ltype)) (width_of (plain one.ltype))
    → HasRead now new (width_of (plain one.ltype)) × IsUnpacked (plain one.ltype) (take (width_of (plain one.ltype)) (left_of now)) (plain_value value))
    → AreLeft first new all more (plain_parts (drop (at + 1) parts))
AreLeft-step first now new all values more parts at one value within is grown left reads =
    let next = plain_parts (drop (at + 1) parts) in
    let t = plain one.ltype in
    let width = width_of t in
    let here : AreLeft first now all values (types.part one.name t next) = subst (AreLeft first now all values) (plain_parts-at parts at one within is) left in
    let read = reads (can_first now one.name t next (total_width (types.part one.name t next)) here.can (omega arith)) in
    let shorter : length (left_of new) ≡ length (left_of now) - width = ap length read.0.left ∙ length-drop width (left_of now) in
    record {
      can = record { few = omega (arith, here.can.few); narrow = omega (arith, here.can.narrow); there = omega (arith, shorter, here.can.there) };
      names = read.0.names ∙ here.names;
      left = ap (drop (total_width next)) read.0.left ∙ drop-drop (total_width next) width (left_of now) ∙ here.left;
      agree = λ others are.
          subst (λ vs. AreUnpacked all (left_of first) vs) (sym (ap (λ (vs : List Value). put_before (plain_values vs) others) grown ∙ put_before-more values value others))
          (here.agree (tree (plain_value value) others) (record {
            agree = (read.1.agrees, subst (λ (l : List Bool). AgreeAll next l others) read.0.left are.agree);
            streams = ap (λ v. tree v (set_all_apart next others)) read.1.streams ∙ ap (tree (plain_value value)) are.streams;
          }));
      bad = ap (bad_tag_of_parts (names_of first) next) read.0.left
          ∙ sym (past (bad_tag (names_of first ++ one.name ∷ []) t (take width (left_of now))) (bad_tag_of_parts (names_of first) next (drop width (left_of now)))
          (λ path found. no_bad_tag t (take width (left_of now)) (names_of first ++ one.name ∷ []) path (plain_value value) found read.1.agrees))
          ∙ here.bad;
    }

pub AreLeft-past : (first now : Unpacking) (all : Parts) (values : List Value) (parts : List Part) (at : ℕ) → length parts ≤ at
    → AreLeft first now all values (plain_parts (drop at parts))
    → HasRead first now (total_width all) × AreUnpacked all (left_of first) (plain_values values)
AreLeft-past first now all values parts at done left =
    let here : AreLeft first now all values types.no_parts = subst (AreLeft first now all values) (plain_parts-past parts at done) left in (
      record { left = here.left; names = here.names },
      subst (AreUnpacked all (left_of first)) (put_before-none (plain_values values)) (here.agree no_trees (record { agree = tt; streams = refl })),
    )

-- the error of a part is that of all
pub AreLeft-bad : (first now : Unpacking) (all : Parts) (values : List Value) (parts : List Part) (at : ℕ) (one : Part) (fault : UnpackFault) → at < length parts → one ≡ get_or parts at one
    → AreLeft first now all values (plain_parts (drop at parts))
    → (CanRead now (number_of_nodes (plain one.ltype)) (width_of (plain one.ltype))
    → Tells (bad_tag (names_of now ++ one.name ∷ []) (plain one.ltype) (take (width_of (plain one.ltype)) (left_of now))) fault)
    → Tells (bad_tag_of_parts (names_of first) all (left_of first)) fault
AreLeft-bad first now all values parts at one fault within is left reads =
    let next = plain_parts (drop (at + 1) parts) in
    let t = plain one.ltype in
    let here : AreLeft first now all values (types.part one.name t next) = subst (AreLeft first now all values) (plain_parts-at parts at one within is) left in
    let tells = reads (can_first now one.name t next (total_width (types.part one.name t next)) here.can (omega arith)) in
    Tells-front fault _ _ (λ path found. sym here.bad
    ∙ first_found (bad_tag (names_of first ++ one.name ∷ []) t (take (width_of t) (left_of now))) (bad_tag_of_parts (names_of first) next (drop (width_of t) (left_of now))) path
    (ap (λ (names : List (List ℕ)). bad_tag (names ++ one.name ∷ []) t (take (width_of t) (left_of now))) (sym here.names) ∙ found)) tells

can_inside : (unpacking : Unpacking) (number width : ℕ) → CanRead unpacking (suc number) width → CanRead unpacking number width
can_inside unpacking number width can = record { few = omega (arith, can.few); narrow = can.narrow; there = can.there }

-- the values that were read make the value of the Group
pub read-group : (old new : Unpacking) (ltype : Ltype) (parts : Parts) (values : List Value) (value : Value) → ltype ≡ types.group parts → plain_value value ≡ group (plain_values values)
    → (CanRead old (nodes_in_parts parts) (total_width parts) → HasRead old new (total_width parts) × AreUnpacked parts (left_of old) (plain_values values))
    → CanRead old (number_of_nodes ltype) (width_of ltype)
    → HasRead old new (width_of ltype) × IsUnpacked ltype (take (width_of ltype) (left_of old)) (plain_value value)
read-group old new ltype parts values value is_group is reads can =
    let read = reads (can_inside old (nodes_in_parts parts) (total_width parts) (subst (λ (t : Ltype). CanRead old (number_of_nodes t) (width_of t)) is_group can)) in
    subst (λ (t : Ltype). HasRead old new (width_of t) × IsUnpacked t (take (width_of t) (left_of old)) (plain_value value)) (sym is_group) (
      read.0,
      subst (IsUnpacked (types.group parts) (take (total_width parts) (left_of old))) (sym is) (record {
        agrees = agree-front parts (total_width parts) (left_of old) (plain_values values) (omega arith) read.1.agree;
        streams = ap group read.1.streams;
      }),
    )

pub bad-group : (old : Unpacking) (ltype : Ltype) (parts : Parts) (fault : UnpackFault) → ltype ≡ types.group parts
    → (CanRead old (nodes_in_parts parts) (total_width parts) → Tells (bad_tag_of_parts (names_of old) parts (left_of old)) fault)
    → CanRead old (number_of_nodes ltype) (width_of ltype) → Tells (bad_tag (names_of old) ltype (take (width_of ltype) (left_of old))) fault
bad-group old ltype parts fault is_group tells can =
    let told = tells (can_inside old (nodes_in_parts parts) (total_width parts) (subst (λ (t : Ltype). CanRead old (number_of_nodes t) (width_of t)) is_group can)) in
    subst (λ (t : Ltype). Tells (bad_tag (names_of old) t (take (width_of t) (left_of old))) fault) (sym is_group)
    (subst (λ found. Tells found fault) (sym (bad_tag-front (names_of old) parts (total_width parts) (left_of old) (omega arith))) told)

-- ---- the variants of a Union

-- nothing was read, and the variant that is looked for is among those that are left
pub record IsAmong (first now : Unpacking) (all : Parts) (tag room : ℕ) (more : Parts) (left : ℕ) : Type 0 where
  pub same : now ≡ first
  pub can : CanRead first (nodes_in_parts more) room
  pub wide : greatest_width more ≤ room
  pub is : (value : Tree) → IsVariantUnpacked more left (left_of first) value → IsVariantUnpacked all tag (left_of first) value
  pub bad : bad_tag_of_variant (names_of first) (names_of first) more left (left_of first) ≡ bad_tag_of_variant (names_of first) (names_of first) all tag (left_of first)

some_less : (n : ℕ) → (n ≡ 0 → ⊥) → n ≡ suc (n - 1)
some_less zero some = absurd (some refl)
some_less (suc n) some = omega arith

pub IsAmong-step : (first now : Unpacking) (all : Parts) (tag room : ℕ) (parts : List Part) (at : ℕ) (one : Part) (left : ℕ) → at < length parts → one ≡ get_or parts at one
    → (left ≡ 0 → ⊥) → IsAmong first now all tag room (plain_parts (drop at parts)) left → IsAmong first now all tag room (plain_parts (drop (at + 1) parts)) (left - 1)
IsAmong-step first now all tag room parts at one left within is some among =
    let more = some_less left some in
    let less = left - 1 in
    let next = plain_parts (drop (at + 1) parts) in
    let t = plain one.ltype in
    let here : IsAmong first now all tag room (types.part one.name t next) (suc less) =
    subst (IsAmong first now all tag room (types.part one.name t next)) more (subst (λ ps. IsAmong first now all tag room ps left) (plain_parts-at parts at one within is) among) in
    record {
      same = here.same;
      can = record { few = omega (arith, here.can.few); narrow = here.can.narrow; there = here.can.there };
      wide = omega (arith, here.wide);
      is = λ value unpacked. here.is value (record { agrees = unpacked.agrees; streams = unpacked.streams });
      bad = here.bad;
    }

-- ---- a Union

some_node : (ltype : Ltype) → 1 ≤ number_of_nodes ltype
some_node types.null = omega arith
some_node (types.bits width) = omega arith
some_node (types.group parts) = omega arith
some_node (types.union parts) = omega arith
some_node (types.stream element user settings) = omega arith

parts_few : (parts : Parts) → number_of_parts parts ≤ nodes_in_parts parts
parts_few types.no_parts = omega arith
parts_few (types.part name ltype more) =
    let some = some_node ltype in
    let less = parts_few more in
    omega (arith, some, less)

-- the tag of a Union was read, and the room of its variants is there
record TagRead (old middle : Unpacking) (parts : Parts) (room tag : ℕ) : Type 0 where
  read : HasRead old middle (tag_width (number_of_parts parts))
  can : CanRead middle (nodes_in_parts parts) room
  all : room ≡ greatest_width parts
  number : tag ≡ number_of_bits (take (tag_width (number_of_parts parts)) (take (width_of (types.union parts)) (left_of old)))
  rest : drop (tag_width (number_of_parts parts)) (take (width_of (types.union parts)) (left_of old)) ≡ take (greatest_width parts) (left_of middle)

tag_read : (old middle : Unpacking) (parts : List Part) (width whole room tag : ℕ) → width ≡ index_width (length parts) → whole ≡ saturated (width_of (types.union (plain_parts parts)))
    → room ≡ whole - width → (width ≤ length (left_of old) → HasRead old middle width)
    → (width ≤ 32 → width ≤ length (left_of old) → tag ≡ number_of_bits (take width (left_of old)))
    → CanRead old (number_of_nodes (types.union (plain_parts parts))) (width_of (types.union (plain_parts parts))) → TagRead old middle (plain_parts parts) room tag
unfolding tag_width
tag_read old middle parts width whole room tag is_width is_whole is_room reads numbers can =
    let variants = plain_parts parts in
    let same : width ≡ index_width (number_of_parts variants) = is_width ∙ ap index_width (sym (number_of_parts-plain parts)) in
    let few = parts_few variants in
    let small = (index_width-least (number_of_parts variants)).least 32 (omega (arith, few, can.few)) in
    let there = can.there in
    let read = subst (HasRead old middle) same (reads (omega (arith, same, there))) in
    let shorter : length (left_of middle) ≡ length (left_of old) - index_width (number_of_parts variants) =
    ap length read.left ∙ length-drop (index_width (number_of_parts variants)) (left_of old) in
    let all : room ≡ greatest_width variants = omega (arith, is_room, is_whole, same, can.narrow) in
    let width_all = width_of (types.union variants) in
    let within : index_width (number_of_parts variants) ≤ width_all = omega arith in
    let left : width_all - index_width (number_of_parts variants) ≡ greatest_width variants = omega arith in
    record {
      read = read;
      can = record { few = omega (arith, can.few); narrow = omega (arith, all, can.narrow); there = omega (arith, all, shorter, there) };
      all = all;
      number = numbers (omega (arith, same, small)) (omega (arith, same, there)) ∙ ap (λ (n : ℕ). number_of_bits (take n (left_of old))) same
          ∙ ap number_of_bits (sym (take-less (index_width (number_of_parts variants)) width_all (left_of old) within));
      rest = drop-less (index_width (number_of_parts variants)) width_all (left_of old) within
          ∙ ap (λ (n : ℕ). take n (drop (index_width (number_of_parts variants)) (left_of old))) left
          ∙ ap (take (greatest_width variants)) (sym read.left);
    }

pub read-union : (old middle new : Unpacking) (parts : List Part) (width whole room tag : ℕ) (part value : Value) → width ≡ index_width (length parts)
    → whole ≡ saturated (width_of (types.union (plain_parts parts))) → room ≡ whole - width → plain_value value ≡ union tag (plain_value part)
    → (width ≤ length (left_of old) → HasRead old middle width)
    → (width ≤ 32 → width ≤ length (left_of old) → tag ≡ number_of_bits (take width (left_of old)))
    → (CanRead middle (nodes_in_parts (plain_parts parts)) room → greatest_width (plain_parts parts) ≤ room
    → HasRead middle new room × IsVariantUnpacked (plain_parts parts) tag (left_of middle) (plain_value part))
    → CanRead old (number_of_nodes (types.union (plain_parts parts))) (width_of (types.union (plain_parts parts)))
    → HasRead old new (width_of (types.union (plain_parts parts)))
    × IsUnpacked (types.union (plain_parts parts)) (take (width_of (types.union (plain_parts parts))) (left_of old)) (plain_value value)
read-union old middle new parts width whole room tag part value is_width is_whole is_room is reads numbers variant can =
    let variants = plain_parts parts in
    let t = types.union variants in
    let told = tag_read old middle parts width whole room tag is_width is_whole is_room reads numbers can in
    let read = variant told.can (omega (arith, told.all)) in (
      HasRead-then old middle new (tag_width (number_of_parts variants)) (greatest_width variants) told.read (subst (HasRead middle new) told.all read.0),
      subst (IsUnpacked t (take (width_of t) (left_of old))) (sym is) (record {
        agrees = (
          sym told.number,
          subst (λ (l : List Bool). AgreesVariant variants tag l (plain_value part)) (sym told.rest)
              (agrees-front_variant variants tag (greatest_width variants) (left_of middle) (plain_value part) (omega arith) read.1.agrees),
        );
        streams = ap (union tag) read.1.streams;
      }),
    )

pub bad-union : (old middle : Unpacking) (parts : List Part) (width whole room tag : ℕ) (fault : UnpackFault) → width ≡ index_width (length parts)
    → whole ≡ saturated (width_of (types.union (plain_parts parts))) → room ≡ whole - width
    → (width ≤ length (left_of old) → HasRead old middle width)
    → (width ≤ 32 → width ≤ length (left_of old) → tag ≡ number_of_bits (take width (left_of old)))
    → (CanRead middle (nodes_in_parts (plain_parts parts)) room → greatest_width (plain_parts parts) ≤ room
    → Tells (bad_tag_of_variant (names_of middle) (names_of middle) (plain_parts parts) tag (left_of middle)) fault)
    → CanRead old (number_of_nodes (types.union (plain_parts parts))) (width_of (types.union (plain_parts parts)))
    → Tells (bad_tag (names_of old) (types.union (plain_parts parts)) (take (width_of (types.union (plain_parts parts))) (left_of old))) fault
bad-union old middle parts width whole room tag fault is_width is_whole is_room reads numbers variant can =
    let variants = plain_parts parts in
    let told = tag_read old middle parts width whole room tag is_width is_whole is_room reads numbers can in
    let tells = variant told.can (omega (arith, told.all)) in
    let same : bad_tag_of_variant (names_of middle) (names_of middle) variants tag (left_of middle)
    ≡ bad_tag (names_of old) (types.union variants) (take (width_of (types.union variants)) (left_of old)) =
    ap (λ (names : List (List ℕ)). bad_tag_of_variant names names variants tag (left_of middle)) told.read.names
    ∙ sym (bad_tag-front_variant (names_of old) (names_of old) variants tag (greatest_width variants) (left_of middle) (omega arith))
    ∙ ap (bad_tag_of_variant (names_of old) (names_of old) variants tag) (sym told.rest)
    ∙ ap (λ (n : ℕ). bad_tag_of_variant (names_of old) (names_of old) variants n (drop (tag_width (number_of_parts variants)) (take (width_of (types.union variants)) (left_of old)))) told.number in
    subst (λ found. Tells found fault) same tells

-- ---- a whole word

-- the result of reading a word of the element's width is the value that the word stands for, or its error
pub read-whole : (old new : Unpacking) (result : Result Value UnpackFault) (ltype : Ltype) (word : List Bool) → left_of old ≡ word → names_of old ≡ []
    → IsPlain ltype → number_of_nodes ltype ≤ 65536 → length word ≡ width_of ltype → Reads old new result ltype
    → MatchResult result (λ value. IsUnpacked ltype word (plain_value value)) (IsFaultOf ltype word)
read-whole old new result ltype word left names is_plain few long reads =
    let narrow = width-IsPlain ltype is_plain in
    let there = ap length left in
    let whole : take (width_of ltype) (left_of old) ≡ word = take_all (width_of ltype) (left_of old) (omega (arith, there, long)) ∙ left in
    MatchResult-weaker result (reads (record { few = few; narrow = narrow; there = omega (arith, there, long) }))
    (λ value read. subst (λ (bits : List Bool). IsUnpacked ltype bits (plain_value value)) whole read.1)
    (λ fault told. subst (λ found. Tells found fault) (ap (λ (ns : List (List ℕ)). bad_tag ns ltype (take (width_of ltype) (left_of old))) names ∙ ap (bad_tag [] ltype) whole) told)
