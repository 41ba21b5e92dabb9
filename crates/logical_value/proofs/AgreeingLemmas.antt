-- A word agrees with a value exactly where it stands for it with its Streams apart.
use Rattle.std.proofs.Common.{◌≡◌, ◌∙◌, ℕ, zero, suc, Bool, List, refl, sym, subst, take, drop}
use Rattle.logical_types.specs.Tree.{Ltype, Parts, number_of_parts}
use Rattle.logical_types.specs.Tree as types
use Rattle.logical_types.specs.Width.{width_of, tag_width}
use Rattle.logical_value.specs.Agreement.{Agrees, AgreeAll, AgreesVariant, IsUnpacked}
use Rattle.logical_value.specs.Element.{IsElement, AreElements, IsVariant, set_apart, set_all_apart, set_variant_apart}
use Rattle.logical_value.specs.Tree.{Tree, null, word, group, union, list, apart, Trees, no_trees, tree}
use Rattle.logical_value.specs.Laws.{AgreesWithOne}
use Rattle.logical_value.proofs.LawLemmas.{one_value, set_apart-again}

mutual
  pub agrees-apart : (ltype : Ltype) (bits : List Bool) (value : Tree) → Agrees ltype bits value → Agrees ltype bits (set_apart ltype value)
  agrees-apart types.null bits null a = tt
  agrees-apart types.null bits value a = absurd a
  agrees-apart (types.bits width) bits (word other) a = a
  agrees-apart (types.bits width) bits value a = absurd a
  agrees-apart (types.group parts) bits (group values) a = agree-apart parts bits values a
  agrees-apart (types.group parts) bits value a = absurd a
  agrees-apart (types.union parts) bits (union tag value) a = (a.0, agrees_variant-apart parts tag (drop (tag_width (number_of_parts parts)) bits) value a.1)
  agrees-apart (types.union parts) bits value a = absurd a
  agrees-apart (types.stream element user settings) bits value a = tt

  agree-apart : (parts : Parts) (bits : List Bool) (values : Trees) → AgreeAll parts bits values → AgreeAll parts bits (set_all_apart parts values)
  agree-apart types.no_parts bits no_trees a = tt
  agree-apart (types.part name ltype more) bits (tree value others) a =
      (agrees-apart ltype (take (width_of ltype) bits) value a.0, agree-apart more (drop (width_of ltype) bits) others a.1)
  agree-apart parts bits values a = absurd a

  agrees_variant-apart : (parts : Parts) (tag : ℕ) (bits : List Bool) (value : Tree) → AgreesVariant parts tag bits value → AgreesVariant parts tag bits (set_variant_apart parts tag value)
  agrees_variant-apart types.no_parts tag bits value a = absurd a
  agrees_variant-apart (types.part name ltype more) zero bits value a = agrees-apart ltype (take (width_of ltype) bits) value a
  agrees_variant-apart (types.part name ltype more) (suc tag) bits value a = agrees_variant-apart more tag bits value a

mutual
  pub agrees-of_apart : (ltype : Ltype) (bits : List Bool) (value : Tree) → IsElement ltype value → Agrees ltype bits (set_apart ltype value) → Agrees ltype bits value
  agrees-of_apart types.null bits null is a = tt
  agrees-of_apart types.null bits value is a = absurd is
  agrees-of_apart (types.bits width) bits (word other) is a = a
  agrees-of_apart (types.bits width) bits value is a = absurd is
  agrees-of_apart (types.group parts) bits (group values) is a = agree-of_apart parts bits values is a
  agrees-of_apart (types.group parts) bits value is a = absurd is
  agrees-of_apart (types.union parts) bits (union tag value) is a = (a.0, agrees_variant-of_apart parts tag (drop (tag_width (number_of_parts parts)) bits) value is a.1)
  agrees-of_apart (types.union parts) bits value is a = absurd is
  agrees-of_apart (types.stream element user settings) bits value is a = tt

  agree-of_apart : (parts : Parts) (bits : List Bool) (values : Trees) → AreElements parts values → AgreeAll parts bits (set_all_apart parts values) → AgreeAll parts bits values
  agree-of_apart types.no_parts bits no_trees is a = tt
  agree-of_apart (types.part name ltype more) bits (tree value others) is a =
      (agrees-of_apart ltype (take (width_of ltype) bits) value is.0 a.0, agree-of_apart more (drop (width_of ltype) bits) others is.1 a.1)
  agree-of_apart parts bits values is a = absurd is

  agrees_variant-of_apart : (parts : Parts) (tag : ℕ) (bits : List Bool) (value : Tree) → IsVariant parts tag value → AgreesVariant parts tag bits (set_variant_apart parts tag value)
      → AgreesVariant parts tag bits value
  agrees_variant-of_apart types.no_parts tag bits value is a = absurd is
  agrees_variant-of_apart (types.part name ltype more) zero bits value is a = agrees-of_apart ltype (take (width_of ltype) bits) value is a
  agrees_variant-of_apart (types.part name ltype more) (suc tag) bits value is a = agrees_variant-of_apart more tag bits value is a

-- a word that stands for a value agrees with those values of the element that are this one with their Streams apart
pub agrees_with_one : AgreesWithOne
agrees_with_one ltype bits one value stands is = (
  λ agrees.
      one_value ltype bits (set_apart ltype value) one (record { agrees = agrees-apart ltype bits value agrees; streams = set_apart-again ltype value }) stands,
  λ same. agrees-of_apart ltype bits value is (subst (Agrees ltype bits) (sym same) stands.agrees),
)
