-- Types without their throughputs and levels: their widths, their values, and the words of these.
use Rattle.std.proofs.Common.{◌≡◌, ◌∙◌, ℕ, zero, suc, ◌+◌, ◌-◌, ◌&&◌, Bool, max, List, [], ◌∷◌, ◌++◌, map, refl, ap, if◌then◌else◌}
use Rattle.tydi_base.specs.Bits.{bits_of, zero_bits}
use Rattle.logical_types.specs.Synchronicity.{is_apart}
use Rattle.logical_types.specs.Tree.{Ltype, Parts, number_of_parts}
use Rattle.logical_types.specs.Tree as types
use Rattle.logical_types.specs.Width.{width_of, total_width, greatest_width, tag_width}
use Rattle.type_split.specs.Nodes.{number_of_streams, streams_in_parts}
use Rattle.logical_value.specs.Fits.{all_pass, fit_fields, fits_element, fits_variant, is_nest, stands_apart}
use Rattle.logical_value.specs.Packed.{pack_of, pack_parts, pack_variant}
use Rattle.logical_value.specs.Tree.{Tree, null, word, group, union, list, apart, Trees, no_trees, tree, members}
use Rattle.nest_shape.specs.Tree as nests
use Rattle.value_views.specs.Views.{nest_of, packed}
use Rattle.port_reshape.specs.Rates.{parts_without_rates, without_rates}

-- ---- widths and numbers

pub parts-stay : (parts : Parts) → number_of_parts (parts_without_rates parts) ≡ number_of_parts parts
parts-stay types.no_parts = refl
parts-stay (types.part name ltype more) = ap (λ n. suc n) (parts-stay more)

mutual
  pub width-stays : (ltype : Ltype) → width_of (without_rates ltype) ≡ width_of ltype
  width-stays types.null = refl
  width-stays (types.bits width) = refl
  width-stays (types.group parts) = total-stays parts
  width-stays (types.union parts) = ap (λ n. tag_width n + greatest_width (parts_without_rates parts)) (parts-stay parts)
      ∙ ap (λ w. tag_width (number_of_parts parts) + w) (greatest-stays parts)
  width-stays (types.stream element user settings) = refl

  pub total-stays : (parts : Parts) → total_width (parts_without_rates parts) ≡ total_width parts
  total-stays types.no_parts = refl
  total-stays (types.part name ltype more) = ap (λ w. w + total_width (parts_without_rates more)) (width-stays ltype)
      ∙ ap (λ w. width_of ltype + w) (total-stays more)

  pub greatest-stays : (parts : Parts) → greatest_width (parts_without_rates parts) ≡ greatest_width parts
  greatest-stays types.no_parts = refl
  greatest-stays (types.part name ltype more) = ap (λ w. max w (greatest_width (parts_without_rates more))) (width-stays ltype)
      ∙ ap (λ w. max (width_of ltype) w) (greatest-stays more)

mutual
  pub streams-stay : (ltype : Ltype) → number_of_streams (without_rates ltype) ≡ number_of_streams ltype
  streams-stay types.null = refl
  streams-stay (types.bits width) = refl
  streams-stay (types.group parts) = all-streams-stay parts
  streams-stay (types.union parts) = all-streams-stay parts
  streams-stay (types.stream element user settings) = ap (λ n. suc n) (streams-stay element)

  all-streams-stay : (parts : Parts) → streams_in_parts (parts_without_rates parts) ≡ streams_in_parts parts
  all-streams-stay types.no_parts = refl
  all-streams-stay (types.part name ltype more) = ap (λ n. n + streams_in_parts (parts_without_rates more)) (streams-stay ltype)
      ∙ ap (λ n. number_of_streams ltype + n) (all-streams-stay more)

-- ---- values that fit

all-same : (test other : Tree → Bool) → ((value : Tree) → test value ≡ other value) → (values : Trees) → all_pass test values ≡ all_pass other values
all-same test other same no_trees = refl
all-same test other same (tree value more) = ap (λ b. b && all_pass test more) (same value) ∙ ap (λ b. other value && b) (all-same test other same more)

pub nest-same : (test other : Tree → Bool) → ((value : Tree) → test value ≡ other value) → (depth : ℕ) (value : Tree)
    → is_nest test depth value ≡ is_nest other depth value
nest-same test other same zero value = same value
nest-same test other same (suc depth) null = refl
nest-same test other same (suc depth) (word bits) = refl
nest-same test other same (suc depth) (group values) = refl
nest-same test other same (suc depth) (union tag value) = refl
nest-same test other same (suc depth) (list values) = all-same (is_nest test depth) (is_nest other depth) (nest-same test other same depth) values
nest-same test other same (suc depth) apart = refl

pub nests-same : (test other : Tree → Bool) → ((value : Tree) → test value ≡ other value) → (depth : ℕ) (values : Trees)
    → all_pass (is_nest test depth) values ≡ all_pass (is_nest other depth) values
nests-same test other same depth values = all-same (is_nest test depth) (is_nest other depth) (nest-same test other same depth) values

mutual
  pub fits-stay : (ltype : Ltype) (value : Tree) → fits_element (without_rates ltype) value ≡ fits_element ltype value
  fits-stay types.null value = refl
  fits-stay (types.bits width) value = refl
  fits-stay (types.group parts) null = refl
  fits-stay (types.group parts) (word bits) = refl
  fits-stay (types.group parts) (group values) = fields-stay parts values
  fits-stay (types.group parts) (union tag value) = refl
  fits-stay (types.group parts) (list values) = refl
  fits-stay (types.group parts) apart = refl
  fits-stay (types.union parts) null = refl
  fits-stay (types.union parts) (word bits) = refl
  fits-stay (types.union parts) (group values) = refl
  fits-stay (types.union parts) (union tag value) = variant-stays parts tag value
  fits-stay (types.union parts) (list values) = refl
  fits-stay (types.union parts) apart = refl
  fits-stay (types.stream element user settings) value =
      ap (λ b. if is_apart settings.sync then stands_apart value else b) (nest-same (fits_element (without_rates element)) (fits_element element)
      (λ v. fits-stay element v) settings.dims value)

  fields-stay : (parts : Parts) (values : Trees) → fit_fields (parts_without_rates parts) values ≡ fit_fields parts values
  fields-stay types.no_parts no_trees = refl
  fields-stay types.no_parts (tree value others) = refl
  fields-stay (types.part name ltype more) no_trees = refl
  fields-stay (types.part name ltype more) (tree value others) =
      ap (λ b. b && fit_fields (parts_without_rates more) others) (fits-stay ltype value) ∙ ap (λ b. fits_element ltype value && b) (fields-stay more others)

  variant-stays : (parts : Parts) (tag : ℕ) (value : Tree) → fits_variant (parts_without_rates parts) tag value ≡ fits_variant parts tag value
  variant-stays types.no_parts tag value = refl
  variant-stays (types.part name ltype more) zero value = fits-stay ltype value
  variant-stays (types.part name ltype more) (suc tag) value = variant-stays more tag value

-- ---- words

mutual
  pub pack-stays : (ltype : Ltype) (value : Tree) → pack_of (without_rates ltype) value ≡ pack_of ltype value
  pack-stays types.null value = refl
  pack-stays (types.bits width) value = refl
  pack-stays (types.group parts) null = refl
  pack-stays (types.group parts) (word bits) = refl
  pack-stays (types.group parts) (group values) = fields-pack parts values
  pack-stays (types.group parts) (union tag value) = refl
  pack-stays (types.group parts) (list values) = refl
  pack-stays (types.group parts) apart = refl
  pack-stays (types.union parts) null = refl
  pack-stays (types.union parts) (word bits) = refl
  pack-stays (types.union parts) (group values) = refl
  pack-stays (types.union parts) (union tag value) =
      ap (λ n. bits_of (tag_width n) tag ++ pack_variant (greatest_width (parts_without_rates parts)) (parts_without_rates parts) tag value) (parts-stay parts)
      ∙ ap (λ room. bits_of (tag_width (number_of_parts parts)) tag ++ pack_variant room (parts_without_rates parts) tag value) (greatest-stays parts)
      ∙ ap (λ (l : List Bool). bits_of (tag_width (number_of_parts parts)) tag ++ l) (variant-packs (greatest_width parts) parts tag value)
  pack-stays (types.union parts) (list values) = refl
  pack-stays (types.union parts) apart = refl
  pack-stays (types.stream element user settings) value = refl

  fields-pack : (parts : Parts) (values : Trees) → pack_parts (parts_without_rates parts) values ≡ pack_parts parts values
  fields-pack types.no_parts values = refl
  fields-pack (types.part name ltype more) no_trees = refl
  fields-pack (types.part name ltype more) (tree value others) =
      ap (λ (l : List Bool). l ++ pack_parts (parts_without_rates more) others) (pack-stays ltype value) ∙ ap (λ (l : List Bool). pack_of ltype value ++ l) (fields-pack more others)

  variant-packs : (room : ℕ) (parts : Parts) (tag : ℕ) (value : Tree) → pack_variant room (parts_without_rates parts) tag value ≡ pack_variant room parts tag value
  variant-packs room types.no_parts tag value = refl
  variant-packs room (types.part name ltype more) zero value =
      ap (λ (l : List Bool). l ++ zero_bits (room - width_of (without_rates ltype))) (pack-stays ltype value) ∙ ap (λ w. pack_of ltype value ++ zero_bits (room - w)) (width-stays ltype)
  variant-packs room (types.part name ltype more) (suc tag) value = variant-packs room more tag value

map-same : {A B : Type 0} (one other : A → B) → ((x : A) → one x ≡ other x) → (xs : List A) → map one xs ≡ map other xs
map-same one other same [] = refl
map-same one other same (x ∷ xs) = ap (λ y. y ∷ map one xs) (same x) ∙ ap (λ l. other x ∷ l) (map-same one other same xs)

packed-stays : (element : Ltype) (depth : ℕ) (value : Tree) → packed (without_rates element) depth value ≡ packed element depth value
packed-stays element zero value = ap nests.leaf (pack-stays element value)
packed-stays element (suc depth) value = ap nest_of (map-same (packed (without_rates element) depth) (packed element depth) (packed-stays element depth) (members value))

pub all-packed : (element : Ltype) (depth : ℕ) (values : List Tree) → map (packed (without_rates element) depth) values ≡ map (packed element depth) values
all-packed element depth values = map-same (packed (without_rates element) depth) (packed element depth) (packed-stays element depth) values
