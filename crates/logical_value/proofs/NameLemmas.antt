-- Tags that name a variant, and tags that name none.
use Rattle.std.proofs.Common.{◌≡◌, ◌∙◌, ℕ, zero, suc, Bool, true, false, ◌&&◌, Option, None, Some, is_none, List, [], ◌∷◌, ◌++◌, take, drop, refl, ap}
use Rattle.tydi_base.specs.Bits.{number_of_bits}
use Rattle.logical_types.specs.Tree.{Ltype, Parts, number_of_parts}
use Rattle.logical_types.specs.Tree as types
use Rattle.logical_types.specs.Width.{width_of, tag_width}
use Rattle.logical_value.specs.Agreement.{Agrees, AgreeAll, AgreesVariant, IsUnpacked, StandsForSome, bad_tag, bad_tag_of_parts, bad_tag_of_variant, first_of, names_variants, name_variants, names_in_variant}
use Rattle.logical_value.specs.Element.{set_all_apart}
use Rattle.logical_value.specs.Laws.{NamesWhereItStands, NamesWhereNoneIsBad}
use Rattle.logical_value.specs.Tree.{Tree, null, word, group, union, list, apart, Trees, no_trees, tree}
use Rattle.logical_value.specs.Unpacking.{AreUnpacked, IsVariantUnpacked}

-- ---- a word with such tags stands for a value

both_of : (one other : Bool) → (one && other) ≡ true → (one ≡ true) × (other ≡ true)
both_of true other is = (refl, is)
both_of false other is = cc

both : (one other : Bool) → one ≡ true → other ≡ true → (one && other) ≡ true
both true other is is' = is'
both false other is is' = cc

mutual
  names-agreed : (ltype : Ltype) (bits : List Bool) (value : Tree) → Agrees ltype bits value → names_variants ltype bits ≡ true
  names-agreed types.null bits value agrees = refl
  names-agreed (types.bits width) bits value agrees = refl
  names-agreed (types.group parts) bits (group values) agrees = name-agreed parts bits values agrees
  names-agreed (types.group parts) bits value agrees = absurd agrees
  names-agreed (types.union parts) bits (union tag value) agrees =
      let rest = drop (tag_width (number_of_parts parts)) bits in
      ap (λ (n : ℕ). names_in_variant parts n rest) agrees.0 ∙ names-agreed_variant parts tag rest value agrees.1
  names-agreed (types.union parts) bits value agrees = absurd agrees
  names-agreed (types.stream element user settings) bits value agrees = refl

  name-agreed : (parts : Parts) (bits : List Bool) (values : Trees) → AgreeAll parts bits values → name_variants parts bits ≡ true
  name-agreed types.no_parts bits values agree = refl
  name-agreed (types.part name ltype more) bits (tree value others) agree =
      both (names_variants ltype (take (width_of ltype) bits)) (name_variants more (drop (width_of ltype) bits)) (names-agreed ltype (take (width_of ltype) bits) value agree.0)
      (name-agreed more (drop (width_of ltype) bits) others agree.1)
  name-agreed (types.part name ltype more) bits no_trees agree = absurd agree

  names-agreed_variant : (parts : Parts) (tag : ℕ) (bits : List Bool) (value : Tree) → AgreesVariant parts tag bits value → names_in_variant parts tag bits ≡ true
  names-agreed_variant types.no_parts tag bits value agrees = absurd agrees
  names-agreed_variant (types.part name ltype more) zero bits value agrees = names-agreed ltype (take (width_of ltype) bits) value agrees
  names-agreed_variant (types.part name ltype more) (suc tag) bits value agrees = names-agreed_variant more tag bits value agrees

mutual
  value-named : (ltype : Ltype) (bits : List Bool) → names_variants ltype bits ≡ true → StandsForSome ltype bits
  value-named types.null bits names = (null, record { agrees = tt; streams = refl })
  value-named (types.bits width) bits names = (word bits, record { agrees = refl; streams = refl })
  value-named (types.group parts) bits names = let some = values-named parts bits names in
      (group some.0, record { agrees = some.1.agree; streams = ap group some.1.streams })
  value-named (types.union parts) bits names =
      let width = tag_width (number_of_parts parts) in
      let tag = number_of_bits (take width bits) in
      let some = variant-named parts tag (drop width bits) names in
      (union tag some.0, record { agrees = (refl, some.1.agrees); streams = ap (union tag) some.1.streams })
  value-named (types.stream element user settings) bits names = (apart, record { agrees = tt; streams = refl })

  values-named : (parts : Parts) (bits : List Bool) → name_variants parts bits ≡ true → (values : Trees) × AreUnpacked parts bits values
  values-named types.no_parts bits names = (no_trees, record { agree = tt; streams = refl })
  values-named (types.part name ltype more) bits names =
      let split = both_of (names_variants ltype (take (width_of ltype) bits)) (name_variants more (drop (width_of ltype) bits)) names in
      let here = value-named ltype (take (width_of ltype) bits) split.0 in
      let there = values-named more (drop (width_of ltype) bits) split.1 in (
        tree here.0 there.0,
        record {
          agree = (here.1.agrees, there.1.agree);
          streams = ap (λ v. tree v (set_all_apart more there.0)) here.1.streams ∙ ap (tree here.0) there.1.streams;
        },
      )

  variant-named : (parts : Parts) (tag : ℕ) (bits : List Bool) → names_in_variant parts tag bits ≡ true → (value : Tree) × IsVariantUnpacked parts tag bits value
  variant-named types.no_parts tag bits names = cc
  variant-named (types.part name ltype more) zero bits names = let here = value-named ltype (take (width_of ltype) bits) names in
      (here.0, record { agrees = here.1.agrees; streams = here.1.streams })
  variant-named (types.part name ltype more) (suc tag) bits names = let there = variant-named more tag bits names in
      (there.0, record { agrees = there.1.agrees; streams = there.1.streams })

pub names_where_it_stands : NamesWhereItStands
names_where_it_stands ltype bits = (value-named ltype bits, λ some. names-agreed ltype bits some.0 some.1.agrees)

-- ---- and has no bad tag

none-first : (one other : Option (List (List ℕ))) → (is_none one && is_none other) ≡ is_none (first_of one other)
none-first None other = refl
none-first (Some path) other = refl

mutual
  names-none_bad : (names : List (List ℕ)) (ltype : Ltype) (bits : List Bool) → names_variants ltype bits ≡ is_none (bad_tag names ltype bits)
  names-none_bad names types.null bits = refl
  names-none_bad names (types.bits width) bits = refl
  names-none_bad names (types.group parts) bits = name-none_bad names parts bits
  names-none_bad names (types.union parts) bits =
      names-none_bad_variant names names parts (number_of_bits (take (tag_width (number_of_parts parts)) bits)) (drop (tag_width (number_of_parts parts)) bits)
  names-none_bad names (types.stream element user settings) bits = refl

  name-none_bad : (names : List (List ℕ)) (parts : Parts) (bits : List Bool) → name_variants parts bits ≡ is_none (bad_tag_of_parts names parts bits)
  name-none_bad names types.no_parts bits = refl
  name-none_bad names (types.part name ltype more) bits =
      ap (λ b. b && name_variants more (drop (width_of ltype) bits)) (names-none_bad (names ++ name ∷ []) ltype (take (width_of ltype) bits))
      ∙ ap (λ b. is_none (bad_tag (names ++ name ∷ []) ltype (take (width_of ltype) bits)) && b) (name-none_bad names more (drop (width_of ltype) bits))
      ∙ none-first (bad_tag (names ++ name ∷ []) ltype (take (width_of ltype) bits)) (bad_tag_of_parts names more (drop (width_of ltype) bits))

  names-none_bad_variant : (path names : List (List ℕ)) (parts : Parts) (tag : ℕ) (bits : List Bool) → names_in_variant parts tag bits ≡ is_none (bad_tag_of_variant path names parts tag bits)
  names-none_bad_variant path names types.no_parts tag bits = refl
  names-none_bad_variant path names (types.part name ltype more) zero bits = names-none_bad (names ++ name ∷ []) ltype (take (width_of ltype) bits)
  names-none_bad_variant path names (types.part name ltype more) (suc tag) bits = names-none_bad_variant path names more tag bits

pub names_where_none_is_bad : NamesWhereNoneIsBad
names_where_none_is_bad = names-none_bad
