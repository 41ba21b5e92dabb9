-- Words and values of types without their levels: the same values fit, and the same words agree with them.
use Rattle.std.proofs.Common.{◌≡◌, ◌∙◌, ℕ, zero, suc, Bool, ◌&&◌, List, take, drop, refl, sym, ap, subst, if◌then◌else◌}
use Rattle.tydi_base.specs.Bits.{number_of_bits}
use Rattle.logical_types.specs.Synchronicity.{is_apart}
use Rattle.logical_types.specs.Tree.{Ltype, Parts, number_of_parts}
use Rattle.logical_types.specs.Tree as types
use Rattle.logical_types.specs.Width.{width_of, tag_width}
use Rattle.logical_value.specs.Agreement.{Agrees, AgreeAll, AgreesVariant}
use Rattle.logical_value.specs.Fits.{all_pass, fit_fields, fits_element, fits_variant, is_nest, stands_apart}
use Rattle.logical_value.specs.Tree.{Tree, null, word, group, union, list, apart, Trees, no_trees, tree}
use Rattle.carried_values.specs.WithoutLevels.{parts_without_levels, without_levels}
use Rattle.carried_values.proofs.TypeLemmas.{parts-stay, width-stays}

-- ---- values that fit

all-same : (test other : Tree → Bool) → ((value : Tree) → test value ≡ other value) → (values : Trees) → all_pass test values ≡ all_pass other values
all-same test other same no_trees = refl
all-same test other same (tree value more) = ap (λ b. b && all_pass test more) (same value) ∙ ap (λ b. other value && b) (all-same test other same more)

pub nest-same : (test other : Tree → Bool) → ((value : Tree) → test value ≡ other value) → (depth : ℕ) (value : Tree)
    → is_nest test depth value ≡ is_nest other depth value
nest-same test other same zero value = same value
nest-same test other same (suc depth) null = refl
nest-same test other same (suc depth) (word bits) = refl
nest-same test other same (suc depth) (group values) = refl
nest-same test other same (suc depth) (union tag value) = refl
nest-same test other same (suc depth) (list values) = all-same (is_nest test depth) (is_nest other depth) (nest-same test other same depth) values
nest-same test other same (suc depth) apart = refl

pub nests-same : (test other : Tree → Bool) → ((value : Tree) → test value ≡ other value) → (depth : ℕ) (values : Trees)
    → all_pass (is_nest test depth) values ≡ all_pass (is_nest other depth) values
nests-same test other same depth values = all-same (is_nest test depth) (is_nest other depth) (nest-same test other same depth) values

mutual
  pub fits-stay : (ltype : Ltype) (value : Tree) → fits_element (without_levels ltype) value ≡ fits_element ltype value
  fits-stay types.null value = refl
  fits-stay (types.bits width) value = refl
  fits-stay (types.group parts) null = refl
  fits-stay (types.group parts) (word bits) = refl
  fits-stay (types.group parts) (group values) = fields-stay parts values
  fits-stay (types.group parts) (union tag value) = refl
  fits-stay (types.group parts) (list values) = refl
  fits-stay (types.group parts) apart = refl
  fits-stay (types.union parts) null = refl
  fits-stay (types.union parts) (word bits) = refl
  fits-stay (types.union parts) (group values) = refl
  fits-stay (types.union parts) (union tag value) = variant-stays parts tag value
  fits-stay (types.union parts) (list values) = refl
  fits-stay (types.union parts) apart = refl
  fits-stay (types.stream element user settings) value =
      ap (λ b. if is_apart settings.sync then stands_apart value else b) (nest-same (fits_element (without_levels element)) (fits_element element)
      (λ v. fits-stay element v) settings.dims value)

  fields-stay : (parts : Parts) (values : Trees) → fit_fields (parts_without_levels parts) values ≡ fit_fields parts values
  fields-stay types.no_parts no_trees = refl
  fields-stay types.no_parts (tree value others) = refl
  fields-stay (types.part name ltype more) no_trees = refl
  fields-stay (types.part name ltype more) (tree value others) =
      ap (λ b. b && fit_fields (parts_without_levels more) others) (fits-stay ltype value) ∙ ap (λ b. fits_element ltype value && b) (fields-stay more others)

  variant-stays : (parts : Parts) (tag : ℕ) (value : Tree) → fits_variant (parts_without_levels parts) tag value ≡ fits_variant parts tag value
  variant-stays types.no_parts tag value = refl
  variant-stays (types.part name ltype more) zero value = fits-stay ltype value
  variant-stays (types.part name ltype more) (suc tag) value = variant-stays more tag value

-- ---- words that agree

mutual
  pub agrees-with : (ltype : Ltype) (bits : List Bool) (value : Tree) → Agrees (without_levels ltype) bits value → Agrees ltype bits value
  agrees-with types.null bits value agrees = agrees
  agrees-with (types.bits width) bits value agrees = agrees
  agrees-with (types.group parts) bits null agrees = agrees
  agrees-with (types.group parts) bits (word other) agrees = agrees
  agrees-with (types.group parts) bits (group values) agrees = all-agree-with parts bits values agrees
  agrees-with (types.group parts) bits (union tag value) agrees = agrees
  agrees-with (types.group parts) bits (list values) agrees = agrees
  agrees-with (types.group parts) bits apart agrees = agrees
  agrees-with (types.union parts) bits null agrees = agrees
  agrees-with (types.union parts) bits (word other) agrees = agrees
  agrees-with (types.union parts) bits (group values) agrees = agrees
  agrees-with (types.union parts) bits (union tag value) agrees = (
    subst (λ n. number_of_bits (take (tag_width n) bits) ≡ tag) (parts-stay parts) agrees.0,
    variant-agrees-with parts tag (drop (tag_width (number_of_parts parts)) bits) value
        (subst (λ n. AgreesVariant (parts_without_levels parts) tag (drop (tag_width n) bits) value) (parts-stay parts) agrees.1),
  )
  agrees-with (types.union parts) bits (list values) agrees = agrees
  agrees-with (types.union parts) bits apart agrees = agrees
  agrees-with (types.stream element user settings) bits value agrees = tt

  all-agree-with : (parts : Parts) (bits : List Bool) (values : Trees) → AgreeAll (parts_without_levels parts) bits values → AgreeAll parts bits values
  all-agree-with types.no_parts bits no_trees agrees = agrees
  all-agree-with types.no_parts bits (tree value others) agrees = agrees
  all-agree-with (types.part name ltype more) bits no_trees agrees = agrees
  all-agree-with (types.part name ltype more) bits (tree value others) agrees = (
    agrees-with ltype (take (width_of ltype) bits) value (subst (λ w. Agrees (without_levels ltype) (take w bits) value) (width-stays ltype) agrees.0),
    all-agree-with more (drop (width_of ltype) bits) others (subst (λ w. AgreeAll (parts_without_levels more) (drop w bits) others) (width-stays ltype)
        agrees.1),
  )

  variant-agrees-with : (parts : Parts) (tag : ℕ) (bits : List Bool) (value : Tree) → AgreesVariant (parts_without_levels parts) tag bits value
      → AgreesVariant parts tag bits value
  variant-agrees-with types.no_parts tag bits value agrees = agrees
  variant-agrees-with (types.part name ltype more) zero bits value agrees =
      agrees-with ltype (take (width_of ltype) bits) value (subst (λ w. Agrees (without_levels ltype) (take w bits) value) (width-stays ltype) agrees)
  variant-agrees-with (types.part name ltype more) (suc tag) bits value agrees = variant-agrees-with more tag bits value agrees

mutual
  pub agrees-without : (ltype : Ltype) (bits : List Bool) (value : Tree) → Agrees ltype bits value → Agrees (without_levels ltype) bits value
  agrees-without types.null bits value agrees = agrees
  agrees-without (types.bits width) bits value agrees = agrees
  agrees-without (types.group parts) bits null agrees = agrees
  agrees-without (types.group parts) bits (word other) agrees = agrees
  agrees-without (types.group parts) bits (group values) agrees = all-agree-without parts bits values agrees
  agrees-without (types.group parts) bits (union tag value) agrees = agrees
  agrees-without (types.group parts) bits (list values) agrees = agrees
  agrees-without (types.group parts) bits apart agrees = agrees
  agrees-without (types.union parts) bits null agrees = agrees
  agrees-without (types.union parts) bits (word other) agrees = agrees
  agrees-without (types.union parts) bits (group values) agrees = agrees
  agrees-without (types.union parts) bits (union tag value) agrees = (
    subst (λ n. number_of_bits (take (tag_width n) bits) ≡ tag) (sym (parts-stay parts)) agrees.0,
    subst (λ n. AgreesVariant (parts_without_levels parts) tag (drop (tag_width n) bits) value) (sym (parts-stay parts))
        (variant-agrees-without parts tag (drop (tag_width (number_of_parts parts)) bits) value agrees.1),
  )
  agrees-without (types.union parts) bits (list values) agrees = agrees
  agrees-without (types.union parts) bits apart agrees = agrees
  agrees-without (types.stream element user settings) bits value agrees = tt

  all-agree-without : (parts : Parts) (bits : List Bool) (values : Trees) → AgreeAll parts bits values → AgreeAll (parts_without_levels parts) bits values
  all-agree-without types.no_parts bits no_trees agrees = agrees
  all-agree-without types.no_parts bits (tree value others) agrees = agrees
  all-agree-without (types.part name ltype more) bits no_trees agrees = agrees
  all-agree-without (types.part name ltype more) bits (tree value others) agrees = (
    subst (λ w. Agrees (without_levels ltype) (take w bits) value) (sym (width-stays ltype)) (agrees-without ltype (take (width_of ltype) bits) value agrees.0),
    subst (λ w. AgreeAll (parts_without_levels more) (drop w bits) others) (sym (width-stays ltype))
        (all-agree-without more (drop (width_of ltype) bits) others agrees.1),
  )

  variant-agrees-without : (parts : Parts) (tag : ℕ) (bits : List Bool) (value : Tree) → AgreesVariant parts tag bits value
      → AgreesVariant (parts_without_levels parts) tag bits value
  variant-agrees-without types.no_parts tag bits value agrees = agrees
  variant-agrees-without (types.part name ltype more) zero bits value agrees =
      subst (λ w. Agrees (without_levels ltype) (take w bits) value) (sym (width-stays ltype)) (agrees-without ltype (take (width_of ltype) bits) value agrees)
  variant-agrees-without (types.part name ltype more) (suc tag) bits value agrees = variant-agrees-without more tag bits value agrees
