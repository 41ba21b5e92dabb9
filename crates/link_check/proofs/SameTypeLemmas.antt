-- The test whether two types are one decides it.
use Rattle.std.proofs.Common.{◌≡◌, ℕ, true, ◌&&◌, eqb, List, ◌∷◌, refl, ap}
use Rattle.std.specs.Bool.{beq}
use Rattle.std.specs.Cmp.{unsigned_Decides, booleans_Decides}
use denote.Enum.Bare.{same_true}
use Rattle.tydi_base.specs.Frac.{Fraction}
use Rattle.tydi_base.specs.Level.{LevelNumbers, at_most}
use Rattle.tydi_base.proofs.LevelOrder.{order_is_antisymmetric, order_is_reflexive}
use Rattle.logical_types.specs.contracts.ltype.Sync.{the_type}
use Rattle.logical_types.specs.declared.ltype.Sync.{Sync}
use Rattle.logical_types.specs.declared.ltype.Sync.TheVariants as syncs
use Rattle.logical_types.specs.Tree.{Ltype, null, bits, group, union, stream, Parts, no_parts, part, Settings, names_of}
use Rattle.link_check.specs.Kinds.{is_same_kind, has_same_shape}
use Rattle.link_check.specs.SameTypes.{is_same_fraction, is_same_sync, is_same_level, has_same_settings, holds_same, have_same_types, is_same_type}
use Rattle.link_check.proofs.TestLemmas.{both, and, clash}
use Rattle.link_check.proofs.ShapeLemmas.{shape-parts, shape-itself}

-- ---- the arguments of Streams

pub fractions-are : (one other : Fraction) → is_same_fraction one other ≡ true → one ≡ other
fractions-are one other e =
    let parts = both (eqb one.num other.num) (eqb one.den other.den) e in
    let num : one.num ≡ other.num = (unsigned_Decides one.num other.num).0 parts.0 in
    let den : one.den ≡ other.den = (unsigned_Decides one.den other.den).0 parts.1 in
    λ i. record { num = num i; den = den i }

pub fraction-itself : (one : Fraction) → is_same_fraction one one ≡ true
fraction-itself one = and (eqb one.num one.num) (eqb one.den one.den) ((unsigned_Decides one.num one.num).1 refl) ((unsigned_Decides one.den one.den).1 refl)

pub syncs-are : (one other : Sync) → is_same_sync one other ≡ true → one ≡ other
unfolding is_same_sync
syncs-are one other e = same_true the_type tt one other e

pub sync-itself : (one : Sync) → is_same_sync one one ≡ true
unfolding is_same_sync
sync-itself syncs.Sync = refl
sync-itself syncs.Flatten = refl
sync-itself syncs.Desync = refl
sync-itself syncs.FlatDesync = refl

levels-are : (one other : LevelNumbers) → is_same_level one other ≡ true → one ≡ other
levels-are one other e =
    let parts = both (at_most one other) (at_most other one) e in
    order_is_antisymmetric one other parts.0 parts.1

level-itself : (one : LevelNumbers) → is_same_level one one ≡ true
level-itself one = and (at_most one one) (at_most one one) (order_is_reflexive one) (order_is_reflexive one)

settings-are : (one other : Settings) → has_same_settings one other ≡ true → one ≡ other
settings-are one other e =
    let five = both _ (beq one.keep other.keep) e in
    let four = both _ (beq one.reverse other.reverse) five.0 in
    let three = both _ (is_same_level one.level other.level) four.0 in
    let two = both _ (is_same_sync one.sync other.sync) three.0 in
    let first = both (is_same_fraction one.throughput other.throughput) (eqb one.dims other.dims) two.0 in
    let throughput = fractions-are one.throughput other.throughput first.0 in
    let dims : one.dims ≡ other.dims = (unsigned_Decides one.dims other.dims).0 first.1 in
    let sync = syncs-are one.sync other.sync two.1 in
    let level = levels-are one.level other.level three.1 in
    let reverse : one.reverse ≡ other.reverse = (booleans_Decides one.reverse other.reverse).0 four.1 in
    let keep : one.keep ≡ other.keep = (booleans_Decides one.keep other.keep).0 five.1 in
    λ i. record { throughput = throughput i; dims = dims i; sync = sync i; level = level i; reverse = reverse i; keep = keep i }

settings-itself : (one : Settings) → has_same_settings one one ≡ true
settings-itself one =
    and _ (beq one.keep one.keep) (and _ (beq one.reverse one.reverse) (and _ (is_same_level one.level one.level) (and _ (is_same_sync one.sync one.sync)
    (and (is_same_fraction one.throughput one.throughput) (eqb one.dims one.dims) (fraction-itself one.throughput) ((unsigned_Decides one.dims one.dims).1 refl))
    (sync-itself one.sync)) (level-itself one.level)) ((booleans_Decides one.reverse one.reverse).1 refl)) ((booleans_Decides one.keep one.keep).1 refl)

-- ---- types

pub first-name : (name other : List ℕ) (names others : List (List ℕ)) → name ∷ names ≡ other ∷ others → (name ≡ other) × (names ≡ others)
first-name name other names others e = (cc, cc)

mutual
  unfolding is_same_kind

  types-are : (one other : Ltype) → has_same_shape one other ≡ true → holds_same one other ≡ true → one ≡ other
  types-are null null shape holds = refl
  types-are (bits width) (bits other) shape holds = ap bits (shape-parts (bits width) (bits other) shape).width
  types-are (group parts) (group others) shape holds = ap group (parts-are parts others (shape-parts (group parts) (group others) shape).names holds)
  types-are (union parts) (union others) shape holds = ap union (parts-are parts others (shape-parts (union parts) (union others) shape).names holds)
  types-are (stream element user settings) (stream other_element other_user others) shape holds =
      let outer = both (has_same_settings settings others && (has_same_shape element other_element && holds_same element other_element))
      (has_same_shape user other_user && holds_same user other_user) holds in
      let inner = both (has_same_settings settings others) (has_same_shape element other_element && holds_same element other_element) outer.0 in
      let elements = both (has_same_shape element other_element) (holds_same element other_element) inner.1 in
      let users = both (has_same_shape user other_user) (holds_same user other_user) outer.1 in
      let element_is = types-are element other_element elements.0 elements.1 in
      let user_is = types-are user other_user users.0 users.1 in
      let settings_is = settings-are settings others inner.0 in
      λ i. stream (element_is i) (user_is i) (settings_is i)
  types-are one other shape holds = clash (shape-parts one other shape).kind

  parts-are : (parts others : Parts) → names_of parts ≡ names_of others → have_same_types parts others ≡ true → parts ≡ others
  parts-are no_parts no_parts names holds = refl
  parts-are no_parts (part name ltype more) names holds = absurd cc
  parts-are (part name ltype more) no_parts names holds = absurd cc
  parts-are (part name ltype more) (part other_name other others) names holds =
      let outer = both (has_same_shape ltype other && holds_same ltype other) (have_same_types more others) holds in
      let inner = both (has_same_shape ltype other) (holds_same ltype other) outer.0 in
      let named = first-name name other_name (names_of more) (names_of others) names in
      let type_is = types-are ltype other inner.0 inner.1 in
      let rest_is = parts-are more others named.1 outer.1 in
      λ i. part (named.0 i) (type_is i) (rest_is i)

mutual
  holds-itself : (one : Ltype) → holds_same one one ≡ true
  holds-itself null = refl
  holds-itself (bits width) = refl
  holds-itself (group parts) = parts-itself parts
  holds-itself (union parts) = parts-itself parts
  holds-itself (stream element user settings) =
      and (has_same_settings settings settings && (has_same_shape element element && holds_same element element)) (has_same_shape user user && holds_same user user)
      (and (has_same_settings settings settings) (has_same_shape element element && holds_same element element) (settings-itself settings)
      (and (has_same_shape element element) (holds_same element element) (shape-itself element) (holds-itself element)))
      (and (has_same_shape user user) (holds_same user user) (shape-itself user) (holds-itself user))

  parts-itself : (parts : Parts) → have_same_types parts parts ≡ true
  parts-itself no_parts = refl
  parts-itself (part name ltype more) =
      and (has_same_shape ltype ltype && holds_same ltype ltype) (have_same_types more more)
      (and (has_same_shape ltype ltype) (holds_same ltype ltype) (shape-itself ltype) (holds-itself ltype)) (parts-itself more)

-- two types pass the test exactly where they are one
pub same_types-are : (one other : Ltype) → is_same_type one other ≡ true → one ≡ other
same_types-are one other e =
    let parts = both (has_same_shape one other) (holds_same one other) e in
    types-are one other parts.0 parts.1

pub same_type-itself : (one : Ltype) → is_same_type one one ≡ true
same_type-itself one = and (has_same_shape one one) (holds_same one one) (shape-itself one) (holds-itself one)
