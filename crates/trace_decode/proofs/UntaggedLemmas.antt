-- Types without tags.
use Rattle.std.proofs.Common.{◌≡◌, ◌∙◌, ◌⊎◌, inl, inr, ℕ, ◌+◌, ◌<◌, ◌≤◌, Bool, true, false, ◌&&◌, ◌||◌, List, [], ◌∷◌, ◌++◌, take, drop, length, get_or, slice_get, Some, refl, sym, ap, subst, arith}
use Rattle.std.proofs.lemmas.Bool.{cases_lt}
use Rattle.std.proofs.lemmas.List.{length_push}
use Rattle.std.proofs.lemmas.Option.{slice_get-get_or, slice_get_within}
use Rattle.tydi_base.proofs.PlaceLemmas.{slice_get-front, slice_get-next}
use Rattle.physical_stream.specs.declared.item.Item.{Item}
use Rattle.physical_stream.specs.declared.item.Item.TheVariants as items
use Rattle.logical_types.specs.Tree.{Ltype, Parts, plain, plain_parts}
use Rattle.logical_types.specs.Tree as types
use Rattle.logical_types.specs.Width.{width_of}
use Rattle.logical_types.specs.declared.ltype.Part.{Part}
use Rattle.logical_types.proofs.PlainLemmas.{plain_parts-at, plain_parts-past}
use Rattle.type_split.specs.Streams.{PlainSplit}
use Rattle.logical_value.specs.Agreement.{name_variants, names_variants}
use Rattle.trace_decode.specs.Keeping.{are_named}
use Rattle.trace_decode.specs.Tagged.{AreTagged, has_tags, have_tags}
use Rattle.trace_decode.specs.Tags.{element_at}
use Rattle.trace_decode.proofs.RowLemmas.{same_some}

-- neither of two tests passes
neither : (one other : Bool) → (one || other) ≡ false → (one ≡ false) × (other ≡ false)
neither false other is = (refl, is)
neither true other is = cc

-- each word of a type without tags names variants
mutual
  pub names_untagged : (t : Ltype) (word : List Bool) → has_tags t ≡ false → names_variants t word ≡ true
  names_untagged types.null word none = refl
  names_untagged (types.bits width) word none = refl
  names_untagged (types.group parts) word none = name_untagged parts word none
  names_untagged (types.union parts) word none = cc
  names_untagged (types.stream element user settings) word none = refl

  name_untagged : (parts : Parts) (word : List Bool) → have_tags parts ≡ false → name_variants parts word ≡ true
  name_untagged types.no_parts word none = refl
  name_untagged (types.part name ltype more) word none =
      let both = neither (has_tags ltype) (have_tags more) none in
      ap (λ (b : Bool). b && name_variants more (drop (width_of ltype) word)) (names_untagged ltype (take (width_of ltype) word) both.0)
      ∙ name_untagged more (drop (width_of ltype) word) both.1

pub items_untagged : (t : Ltype) (some : List Item) → has_tags t ≡ false → are_named t some ≡ true
items_untagged t [] none = refl
items_untagged t (items.Elem word ∷ more) none = ap (λ (b : Bool). b && are_named t more) (names_untagged t word none) ∙ items_untagged t more none
items_untagged t (items.Close dim ∷ more) none = items_untagged t more none

-- ---- parts one after another

pub tagged-at : (parts : List Part) (at : ℕ) (one : Part) → at < length parts → one ≡ get_or parts at one → has_tags (plain one.ltype) ≡ true → have_tags (plain_parts (drop at parts)) ≡ true
tagged-at parts at one within is tagged = ap have_tags (plain_parts-at parts at one within is) ∙ ap (λ (b : Bool). b || have_tags (plain_parts (drop (at + 1) parts))) tagged

pub tagged-next : (parts : List Part) (at : ℕ) (one : Part) → at < length parts → one ≡ get_or parts at one → has_tags (plain one.ltype) ≡ false
    → have_tags (plain_parts (drop (at + 1) parts)) ≡ have_tags (plain_parts (drop at parts))
tagged-next parts at one within is none =
    sym (ap have_tags (plain_parts-at parts at one within is) ∙ ap (λ (b : Bool). b || have_tags (plain_parts (drop (at + 1) parts))) none)

pub tagged-past : (parts : List Part) (at : ℕ) → length parts ≤ at → have_tags (plain_parts (drop at parts)) ≡ false
tagged-past parts at done = ap have_tags (plain_parts-past parts at done)

-- ---- streams one after another

-- the streams before this number are looked at
pub record AreTaggedTo (split : PlainSplit) (number : ℕ) (tagged : List Bool) : Type 0 where
  pub many : length tagged ≡ number
  pub each : (i : ℕ) (tags : Bool) → slice_get tagged i ≡ Some tags → tags ≡ has_tags (element_at split i)

pub tagged_none : (split : PlainSplit) (tagged : List Bool) → tagged ≡ [] → AreTaggedTo split 0 tagged
tagged_none split tagged none = subst (AreTaggedTo split 0) (sym none) (record { many = refl; each = λ i tags found. absurd cc })

pub tagged_more : (split : PlainSplit) (number : ℕ) (tagged new : List Bool) (tags : Bool) → AreTaggedTo split number tagged → new ≡ tagged ++ tags ∷ [] → tags ≡ has_tags (element_at split number)
    → AreTaggedTo split (number + 1) new
tagged_more split number tagged new tags so_far pushed is =
    subst (AreTaggedTo split (number + 1)) (sym pushed)
    (record { many = omega (arith, length_push tagged tags, so_far.many); each = λ i other found. each i other found (cases_lt i (length tagged)) })
  where
    each : (i : ℕ) (other : Bool) → slice_get (tagged ++ tags ∷ []) i ≡ Some other → (i < length tagged) ⊎ (length tagged ≤ i) → other ≡ has_tags (element_at split i)
    each i other found (inl less) = so_far.each i other (sym (slice_get-front tagged (tags ∷ []) i less) ∙ found)
    each i other found (inr more) =
        let end : i ≡ length tagged = omega (arith, slice_get_within (tagged ++ tags ∷ []) i other found, length_push tagged tags) in
        let same : tags ≡ other = same_some (sym (slice_get-next tagged tags i end) ∙ found) in
        sym same ∙ is ∙ ap (λ (n : ℕ). has_tags (element_at split n)) (sym (end ∙ so_far.many))

-- the flag of a stream is that of its elements
pub tagged_at : (split : PlainSplit) (tagged : List Bool) (stream : ℕ) (tags : Bool) → AreTagged split tagged → stream < length tagged → tags ≡ get_or tagged stream tags → tags ≡ has_tags (element_at split stream)
tagged_at split tagged stream tags are within is = are.each stream tags (slice_get-get_or tagged stream tags within ∙ ap Some (sym is))
