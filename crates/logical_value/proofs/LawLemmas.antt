-- Packing and agreement.
use Rattle.std.proofs.Common.{◌≡◌, ◌∙◌, ℕ, zero, suc, ◌+◌, ◌-◌, ◌^◌, ◌<◌, ◌≤◌, Bool, List, [], ◌∷◌, ◌++◌, length, take, drop, Option, Some, None, refl, sym, ap, subst, arith, length-drop}
use Rattle.std.proofs.lemmas.List.{append-nil, length-take}
use Rattle.std.proofs.Math.Seq.{take-append_seam, drop-append_seam}
use Rattle.tydi_base.specs.Bits.{bits_of, number_of_bits, zero_bits}
use Rattle.tydi_base.proofs.BitsLemmas.{length-bits_of, bits_of-number_of_bits, number_of_bits-bits_of}
use Rattle.tydi_base.proofs.WidthLaws.{index_width-enough}
use Rattle.logical_types.specs.Tree.{Ltype, Parts, number_of_parts}
use Rattle.logical_types.specs.Tree as types
use Rattle.logical_types.specs.Width.{width_of, total_width, tag_width, greatest_width}
use Rattle.logical_value.specs.Agreement.{Agrees, AgreeAll, AgreesVariant, bad_tag, bad_tag_of_parts, bad_tag_of_variant, first_of, cleared, cleared_parts, cleared_variant}
use Rattle.logical_value.specs.Element.{IsElement, AreElements, IsVariant, set_apart, set_all_apart, set_variant_apart}
use Rattle.logical_value.specs.Laws.{PackedIsUnpacked, UnpackedIsPacked, UnpackedAreElements, OneValue, BadTagsAgreeWithNone}
use Rattle.logical_value.specs.Packed.{pack_of, pack_parts, pack_variant}
use Rattle.logical_value.specs.Tree.{Tree, null, word, group, union, list, apart, Trees, no_trees, tree}
use Rattle.logical_value.proofs.PackingLemmas.{length-pack_of, tag-below}

take_seam : (front back : List Bool) (width : ℕ) → length front ≡ width → take width (front ++ back) ≡ front
take_seam front back width long = ap (λ (n : ℕ). take n (front ++ back)) (sym long) ∙ take-append_seam front back

drop_seam : (front back : List Bool) (width : ℕ) → length front ≡ width → drop width (front ++ back) ≡ back
drop_seam front back width long = ap (λ (n : ℕ). drop n (front ++ back)) (sym long) ∙ drop-append_seam front back

tag_fits : (parts : Parts) (tag : ℕ) (value : Tree) → IsVariant parts tag value → tag < 2 ^ tag_width (number_of_parts parts)
unfolding tag_width
tag_fits parts tag value is = let below = tag-below parts tag value is in let enough = index_width-enough (number_of_parts parts) in omega (arith, below, enough)

-- ---- the word of a value agrees with it

mutual
  agrees-pack_of : (ltype : Ltype) (value : Tree) → IsElement ltype value → Agrees ltype (pack_of ltype value) (set_apart ltype value)
  agrees-pack_of types.null null is = tt
  agrees-pack_of types.null value is = absurd is
  agrees-pack_of (types.bits width) (word bits) is = refl
  agrees-pack_of (types.bits width) value is = absurd is
  agrees-pack_of (types.group parts) (group values) is = agree-pack_parts parts values is
  agrees-pack_of (types.group parts) value is = absurd is
  agrees-pack_of (types.union parts) (union tag value) is =
      let width = tag_width (number_of_parts parts) in
      let rest = pack_variant (greatest_width parts) parts tag value in (
        ap number_of_bits (take_seam (bits_of width tag) rest width (length-bits_of width tag)) ∙ number_of_bits-bits_of width tag (tag_fits parts tag value is),
        subst (λ (l : List Bool). AgreesVariant parts tag l (set_variant_apart parts tag value)) (sym (drop_seam (bits_of width tag) rest width (length-bits_of width tag)))
            (agrees-pack_variant (greatest_width parts) parts tag value is),
      )
  agrees-pack_of (types.union parts) value is = absurd is
  agrees-pack_of (types.stream element user settings) value is = tt

  agree-pack_parts : (parts : Parts) (values : Trees) → AreElements parts values → AgreeAll parts (pack_parts parts values) (set_all_apart parts values)
  agree-pack_parts types.no_parts no_trees are = tt
  agree-pack_parts (types.part name ltype more) (tree value others) are =
      let long = length-pack_of ltype value are.0 in (
        subst (λ (l : List Bool). Agrees ltype l (set_apart ltype value)) (sym (take_seam (pack_of ltype value) (pack_parts more others) (width_of ltype) long)) (agrees-pack_of ltype value are.0),
        subst (λ (l : List Bool). AgreeAll more l (set_all_apart more others)) (sym (drop_seam (pack_of ltype value) (pack_parts more others) (width_of ltype) long)) (agree-pack_parts more others are.1),
      )
  agree-pack_parts parts values are = absurd are

  agrees-pack_variant : (room : ℕ) (parts : Parts) (tag : ℕ) (value : Tree) → IsVariant parts tag value
      → AgreesVariant parts tag (pack_variant room parts tag value) (set_variant_apart parts tag value)
  agrees-pack_variant room types.no_parts tag value is = absurd is
  agrees-pack_variant room (types.part name ltype more) zero value is =
      subst (λ (l : List Bool). Agrees ltype l (set_apart ltype value))
      (sym (take_seam (pack_of ltype value) (zero_bits (room - width_of ltype)) (width_of ltype) (length-pack_of ltype value is))) (agrees-pack_of ltype value is)
  agrees-pack_variant room (types.part name ltype more) (suc tag) value is = agrees-pack_variant room more tag value is

-- setting the Streams of a value apart twice is the same as once
mutual
  pub set_apart-again : (ltype : Ltype) (value : Tree) → set_apart ltype (set_apart ltype value) ≡ set_apart ltype value
  set_apart-again types.null value = refl
  set_apart-again (types.bits width) value = refl
  set_apart-again (types.group parts) (group values) = ap group (set_all_apart-again parts values)
  set_apart-again (types.group parts) null = refl
  set_apart-again (types.group parts) (word bits) = refl
  set_apart-again (types.group parts) (union tag value) = refl
  set_apart-again (types.group parts) (list values) = refl
  set_apart-again (types.group parts) apart = refl
  set_apart-again (types.union parts) (union tag value) = ap (union tag) (set_variant_apart-again parts tag value)
  set_apart-again (types.union parts) null = refl
  set_apart-again (types.union parts) (word bits) = refl
  set_apart-again (types.union parts) (group values) = refl
  set_apart-again (types.union parts) (list values) = refl
  set_apart-again (types.union parts) apart = refl
  set_apart-again (types.stream element user settings) value = refl

  pub set_all_apart-again : (parts : Parts) (values : Trees) → set_all_apart parts (set_all_apart parts values) ≡ set_all_apart parts values
  set_all_apart-again types.no_parts values = refl
  set_all_apart-again (types.part name ltype more) no_trees = refl
  set_all_apart-again (types.part name ltype more) (tree value others) =
      ap (λ v. tree v (set_all_apart more (set_all_apart more others))) (set_apart-again ltype value) ∙ ap (tree (set_apart ltype value)) (set_all_apart-again more others)

  pub set_variant_apart-again : (parts : Parts) (tag : ℕ) (value : Tree) → set_variant_apart parts tag (set_variant_apart parts tag value) ≡ set_variant_apart parts tag value
  set_variant_apart-again types.no_parts tag value = refl
  set_variant_apart-again (types.part name ltype more) zero value = set_apart-again ltype value
  set_variant_apart-again (types.part name ltype more) (suc tag) value = set_variant_apart-again more tag value

pub packed_is_unpacked : PackedIsUnpacked
packed_is_unpacked ltype value is = record { agrees = agrees-pack_of ltype value is; streams = set_apart-again ltype value }

-- ---- the word of a value that agrees with a word

no_bits : (bits : List Bool) → length bits ≡ 0 → [] ≡ bits
no_bits [] none = refl
no_bits (bit ∷ bits) none = absurd (omega (arith, none))

front_length : (bits : List Bool) (width : ℕ) → width ≤ length bits → length (take width bits) ≡ width
front_length bits width within = let long = length-take width bits in omega (arith, long, within)

mutual
  pack_of-agreed : (ltype : Ltype) (bits : List Bool) (value : Tree) → length bits ≡ width_of ltype → Agrees ltype bits value → pack_of ltype value ≡ cleared ltype bits
  pack_of-agreed types.null bits value long agrees = no_bits bits long
  pack_of-agreed (types.bits width) bits (word other) long agrees = agrees
  pack_of-agreed (types.bits width) bits value long agrees = absurd agrees
  pack_of-agreed (types.group parts) bits (group values) long agrees = pack_parts-agreed parts bits values long agrees
  pack_of-agreed (types.group parts) bits value long agrees = absurd agrees
  pack_of-agreed (types.union parts) bits (union tag value) long agrees =
      let width = tag_width (number_of_parts parts) in
      let low = front_length bits width (omega (arith, long)) in
      let rest : length (drop width bits) ≡ greatest_width parts = let left = length-drop width bits in omega (arith, left, long) in
      let tag_bits : bits_of width tag ≡ take width bits =
      ap (bits_of width) (sym agrees.0) ∙ ap (λ (n : ℕ). bits_of n (number_of_bits (take width bits))) (let same : width ≡ length (take width bits) + 0 = omega (arith, low) in same)
      ∙ bits_of-number_of_bits (take width bits) 0 ∙ append-nil (take width bits) in
      ap (λ (l : List Bool). l ++ pack_variant (greatest_width parts) parts tag value) tag_bits
      ∙ ap (λ (l : List Bool). take width bits ++ l) (pack_variant-agreed (greatest_width parts) parts tag (drop width bits) value (omega (arith, rest)) agrees.1)
      ∙ ap (λ (n : ℕ). take width bits ++ cleared_variant (greatest_width parts) parts n (drop width bits)) (sym agrees.0)
  pack_of-agreed (types.union parts) bits value long agrees = absurd agrees
  pack_of-agreed (types.stream element user settings) bits value long agrees = no_bits bits long

  pack_parts-agreed : (parts : Parts) (bits : List Bool) (values : Trees) → length bits ≡ total_width parts → AgreeAll parts bits values → pack_parts parts values ≡ cleared_parts parts bits
  pack_parts-agreed types.no_parts bits no_trees long agree = no_bits bits long
  pack_parts-agreed (types.part name ltype more) bits (tree value others) long agree =
      let left = length-drop (width_of ltype) bits in
      ap (λ (l : List Bool). l ++ pack_parts more others) (pack_of-agreed ltype (take (width_of ltype) bits) value (front_length bits (width_of ltype) (omega (arith, long))) agree.0)
      ∙ ap (λ (l : List Bool). cleared ltype (take (width_of ltype) bits) ++ l) (pack_parts-agreed more (drop (width_of ltype) bits) others (omega (arith, left, long)) agree.1)
  pack_parts-agreed parts bits values long agree = absurd agree

  pack_variant-agreed : (room : ℕ) (parts : Parts) (tag : ℕ) (bits : List Bool) (value : Tree) → greatest_width parts ≤ length bits → AgreesVariant parts tag bits value
      → pack_variant room parts tag value ≡ cleared_variant room parts tag bits
  pack_variant-agreed room types.no_parts tag bits value long agrees = absurd agrees
  pack_variant-agreed room (types.part name ltype more) zero bits value long agrees =
      ap (λ (l : List Bool). l ++ zero_bits (room - width_of ltype))
      (pack_of-agreed ltype (take (width_of ltype) bits) value (front_length bits (width_of ltype) (omega (arith, long))) agrees)
  pack_variant-agreed room (types.part name ltype more) (suc tag) bits value long agrees = pack_variant-agreed room more tag bits value (omega (arith, long)) agrees

pub unpacked_is_packed : UnpackedIsPacked
unpacked_is_packed = pack_of-agreed

-- ---- a value that agrees with a word is one of an element

mutual
  element-agreed : (ltype : Ltype) (bits : List Bool) (value : Tree) → length bits ≡ width_of ltype → Agrees ltype bits value → IsElement ltype value
  element-agreed types.null bits null long agrees = tt
  element-agreed types.null bits value long agrees = absurd agrees
  element-agreed (types.bits width) bits (word other) long agrees = ap length agrees ∙ long
  element-agreed (types.bits width) bits value long agrees = absurd agrees
  element-agreed (types.group parts) bits (group values) long agrees = elements-agreed parts bits values (omega (arith, long)) agrees
  element-agreed (types.group parts) bits value long agrees = absurd agrees
  element-agreed (types.union parts) bits (union tag value) long agrees =
      let width = tag_width (number_of_parts parts) in
      let left = length-drop width bits in variant-agreed parts tag (drop width bits) value (omega (arith, left, long)) agrees.1
  element-agreed (types.union parts) bits value long agrees = absurd agrees
  element-agreed (types.stream element user settings) bits value long agrees = tt

  elements-agreed : (parts : Parts) (bits : List Bool) (values : Trees) → total_width parts ≤ length bits → AgreeAll parts bits values → AreElements parts values
  elements-agreed types.no_parts bits no_trees long agree = tt
  elements-agreed (types.part name ltype more) bits (tree value others) long agree =
      let left = length-drop (width_of ltype) bits in (
        element-agreed ltype (take (width_of ltype) bits) value (front_length bits (width_of ltype) (omega (arith, long))) agree.0,
        elements-agreed more (drop (width_of ltype) bits) others (omega (arith, left, long)) agree.1,
      )
  elements-agreed parts bits values long agree = absurd agree

  variant-agreed : (parts : Parts) (tag : ℕ) (bits : List Bool) (value : Tree) → greatest_width parts ≤ length bits → AgreesVariant parts tag bits value → IsVariant parts tag value
  variant-agreed types.no_parts tag bits value long agrees = absurd agrees
  variant-agreed (types.part name ltype more) zero bits value long agrees =
      element-agreed ltype (take (width_of ltype) bits) value (front_length bits (width_of ltype) (omega (arith, long))) agrees
  variant-agreed (types.part name ltype more) (suc tag) bits value long agrees = variant-agreed more tag bits value (omega (arith, long)) agrees

pub unpacked_are_elements : UnpackedAreElements
unpacked_are_elements = element-agreed

-- ---- one value

mutual
  same_value : (ltype : Ltype) (bits : List Bool) (one other : Tree) → Agrees ltype bits one → Agrees ltype bits other
      → set_apart ltype one ≡ one → set_apart ltype other ≡ other → one ≡ other
  same_value types.null bits null null agrees agrees' is is' = refl
  same_value types.null bits null other agrees agrees' is is' = absurd agrees'
  same_value types.null bits one other agrees agrees' is is' = absurd agrees
  same_value (types.bits width) bits (word one) (word other) agrees agrees' is is' = ap word (agrees ∙ sym agrees')
  same_value (types.bits width) bits (word one) other agrees agrees' is is' = absurd agrees'
  same_value (types.bits width) bits one other agrees agrees' is is' = absurd agrees
  same_value (types.group parts) bits (group some) (group others) agrees agrees' is is' = ap group (same_values parts bits some others agrees agrees' (cc) (cc))
  same_value (types.group parts) bits (group some) other agrees agrees' is is' = absurd agrees'
  same_value (types.group parts) bits one other agrees agrees' is is' = absurd agrees
  same_value (types.union parts) bits (union tag one) (union tag' other) agrees agrees' is is' =
      let same : tag' ≡ tag = sym agrees'.0 ∙ agrees.0 in
      let rest = drop (tag_width (number_of_parts parts)) bits in
      let kept : set_variant_apart parts tag' other ≡ other = cc in
      ap (union tag) (same_variant parts tag rest one other agrees.1 (subst (λ (n : ℕ). AgreesVariant parts n rest other) same agrees'.1) (cc)
      (subst (λ (n : ℕ). set_variant_apart parts n other ≡ other) same kept)) ∙ ap (λ (n : ℕ). union n other) (sym same)
  same_value (types.union parts) bits (union tag one) other agrees agrees' is is' = absurd agrees'
  same_value (types.union parts) bits one other agrees agrees' is is' = absurd agrees
  same_value (types.stream element user settings) bits one other agrees agrees' is is' = sym is ∙ is'

  same_values : (parts : Parts) (bits : List Bool) (some others : Trees) → AgreeAll parts bits some → AgreeAll parts bits others
      → set_all_apart parts some ≡ some → set_all_apart parts others ≡ others → some ≡ others
  same_values types.no_parts bits no_trees no_trees agree agree' is is' = refl
  same_values types.no_parts bits no_trees others agree agree' is is' = absurd agree'
  same_values types.no_parts bits some others agree agree' is is' = absurd agree
  same_values (types.part name ltype more) bits (tree one some) (tree other others) agree agree' is is' =
      ap (λ v. tree v some) (same_value ltype (take (width_of ltype) bits) one other agree.0 agree'.0 (cc) (cc))
      ∙ ap (tree other) (same_values more (drop (width_of ltype) bits) some others agree.1 agree'.1 (cc) (cc))
  same_values (types.part name ltype more) bits (tree one some) no_trees agree agree' is is' = absurd agree'
  same_values (types.part name ltype more) bits no_trees others agree agree' is is' = absurd agree

  same_variant : (parts : Parts) (tag : ℕ) (bits : List Bool) (one other : Tree) → AgreesVariant parts tag bits one → AgreesVariant parts tag bits other
      → set_variant_apart parts tag one ≡ one → set_variant_apart parts tag other ≡ other → one ≡ other
  same_variant types.no_parts tag bits one other agrees agrees' is is' = absurd agrees
  same_variant (types.part name ltype more) zero bits one other agrees agrees' is is' = same_value ltype (take (width_of ltype) bits) one other agrees agrees' is is'
  same_variant (types.part name ltype more) (suc tag) bits one other agrees agrees' is is' = same_variant more tag bits one other agrees agrees' is is'

pub one_value : OneValue
one_value ltype bits one other is is' = same_value ltype bits one other is.agrees is'.agrees is.streams is'.streams

-- ---- tags that name no variant

first_found : {A : Type 0} (one other : Option A) (x : A) → first_of one other ≡ Some x → (one ≡ Some x → ⊥) → (other ≡ Some x → ⊥) → ⊥
first_found None other x found not_one not_other = not_other found
first_found (Some y) other x found not_one not_other = not_one found

mutual
  pub no_bad_tag : (ltype : Ltype) (bits : List Bool) (names path : List (List ℕ)) (value : Tree) → bad_tag names ltype bits ≡ Some path → Agrees ltype bits value → ⊥
  no_bad_tag types.null bits names path value bad agrees = cc
  no_bad_tag (types.bits width) bits names path value bad agrees = cc
  no_bad_tag (types.group parts) bits names path (group values) bad agrees = no_bad_tags parts bits names path values bad agrees
  no_bad_tag (types.group parts) bits names path value bad agrees = agrees
  no_bad_tag (types.union parts) bits names path (union tag value) bad agrees =
      let width = tag_width (number_of_parts parts) in
      no_bad_variant parts tag (drop width bits) names names path value
      (ap (λ (n : ℕ). bad_tag_of_variant names names parts n (drop width bits)) (sym agrees.0) ∙ bad) agrees.1
  no_bad_tag (types.union parts) bits names path value bad agrees = agrees
  no_bad_tag (types.stream element user settings) bits names path value bad agrees = cc

  no_bad_tags : (parts : Parts) (bits : List Bool) (names path : List (List ℕ)) (values : Trees) → bad_tag_of_parts names parts bits ≡ Some path → AgreeAll parts bits values → ⊥
  no_bad_tags types.no_parts bits names path values bad agree = cc
  no_bad_tags (types.part name ltype more) bits names path (tree value others) bad agree =
      first_found (bad_tag (names ++ name ∷ []) ltype (take (width_of ltype) bits)) (bad_tag_of_parts names more (drop (width_of ltype) bits)) path bad
      (λ here. no_bad_tag ltype (take (width_of ltype) bits) (names ++ name ∷ []) path value here agree.0)
      (λ there. no_bad_tags more (drop (width_of ltype) bits) names path others there agree.1)
  no_bad_tags (types.part name ltype more) bits names path no_trees bad agree = agree

  no_bad_variant : (parts : Parts) (tag : ℕ) (bits : List Bool) (at names path : List (List ℕ)) (value : Tree) → bad_tag_of_variant at names parts tag bits ≡ Some path
      → AgreesVariant parts tag bits value → ⊥
  no_bad_variant types.no_parts tag bits at names path value bad agrees = agrees
  no_bad_variant (types.part name ltype more) zero bits at names path value bad agrees = no_bad_tag ltype (take (width_of ltype) bits) (names ++ name ∷ []) path value bad agrees
  no_bad_variant (types.part name ltype more) (suc tag) bits at names path value bad agrees = no_bad_variant more tag bits at names path value bad agrees

pub bad_tags_agree_with_none : BadTagsAgreeWithNone
bad_tags_agree_with_none = no_bad_tag
