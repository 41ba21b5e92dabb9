-- The plain data of a value: its equations at each made value and at the values of a list, and that a value is known by it.
use Rattle.std.proofs.Common.{◌≡◌, ◌∙◌, ℕ, List, [], ◌∷◌, map, sym, ap, refl, subst}
use Rattle.std.specs.Prelude.{Bool}
use Rattle.logical_value.specs.declared.value.PortValue.{PortValue}
use Rattle.logical_value.specs.declared.value.Value.{Value, roll-Value, map-Value}
use Rattle.logical_value.specs.declared.value.Value.TheVariants as values
use Rattle.logical_value.specs.declared.value.Value.TheOpen.{Value-F}
use Rattle.logical_value.specs.declared.value.Value.TheFolds.{fold-roll-Value, ind-Value}
use Rattle.logical_value.specs.Laws.{PlainIsOneToOne}
use Rattle.logical_value.specs.Tree.{Tree, null, word, group, union, list, apart, Trees, no_trees, tree, trees_of, list_of, plain_layer, plain, plain_values, plain_port}

-- ---- lists of plain data

pub trees_of-list_of : (some : Trees) → trees_of (list_of some) ≡ some
trees_of-list_of no_trees = refl
trees_of-list_of (tree first more) = ap (tree first) (trees_of-list_of more)

pub list_of-trees_of : (some : List Tree) → list_of (trees_of some) ≡ some
list_of-trees_of [] = refl
list_of-trees_of (first ∷ more) = ap (λ (l : List Tree). first ∷ l) (list_of-trees_of more)

pub list_of-plain_values : (some : List Value) → list_of (plain_values some) ≡ map plain some
list_of-plain_values [] = refl
list_of-plain_values (first ∷ more) = ap (λ (l : List Tree). plain first ∷ l) (list_of-plain_values more)

-- ---- the plain data of a made value

pub trees_of-map : (some : List Value) → trees_of (map plain some) ≡ plain_values some
trees_of-map [] = refl
trees_of-map (first ∷ more) = ap (tree (plain first)) (trees_of-map more)

pub plain-Null : plain values.Null ≡ null
plain-Null = ap plain (sym values.rolls-Null) ∙ fold-roll-Value Tree plain_layer Value-F.Null

pub plain-Word : (bits : List Bool) → plain (values.Word bits) ≡ word bits
plain-Word bits = ap plain (sym (values.rolls-Word bits)) ∙ fold-roll-Value Tree plain_layer (Value-F.Word bits)

pub plain-Group : (parts : List Value) → plain (values.Group parts) ≡ group (plain_values parts)
plain-Group parts = ap plain (sym (values.rolls-Group parts)) ∙ fold-roll-Value Tree plain_layer (Value-F.Group parts) ∙ ap group (trees_of-map parts)

pub plain-Union : (tag : ℕ) (part : Value) → plain (values.Union tag part) ≡ union tag (plain part)
plain-Union tag part = ap plain (sym (values.rolls-Union tag part)) ∙ fold-roll-Value Tree plain_layer (Value-F.Union tag part)

pub plain-List : (parts : List Value) → plain (values.List parts) ≡ list (plain_values parts)
plain-List parts = ap plain (sym (values.rolls-List parts)) ∙ fold-roll-Value Tree plain_layer (Value-F.List parts) ∙ ap list (trees_of-map parts)

pub plain-Apart : plain values.Apart ≡ apart
plain-Apart = ap plain (sym values.rolls-Apart) ∙ fold-roll-Value Tree plain_layer Value-F.Apart

-- ---- the value of plain data

abbrev mutual
  of_plain : Tree → Value
  of_plain null = values.Null
  of_plain (word bits) = values.Word bits
  of_plain (group parts) = values.Group (of_trees parts)
  of_plain (union tag part) = values.Union tag (of_plain part)
  of_plain (list parts) = values.List (of_trees parts)
  of_plain apart = values.Apart

  of_trees : Trees → List Value
  of_trees no_trees = []
  of_trees (tree first more) = of_plain first ∷ of_trees more

abbrev IsOfPlain : Value → Type 0
IsOfPlain one = of_plain (plain one) ≡ one

of_trees-plain_values : (some : List ((one : Value) × IsOfPlain one)) → of_trees (plain_values (map (λ p. p.0) some)) ≡ map (λ p. p.0) some
of_trees-plain_values [] = refl
of_trees-plain_values (first ∷ more) =
    ap (λ v. v ∷ of_trees (plain_values (map (λ p. p.0) more))) first.1 ∙ ap (λ vs. first.0 ∷ vs) (of_trees-plain_values more)

of_plain-layer : (y : Value-F ((one : Value) × IsOfPlain one)) → IsOfPlain (roll-Value (map-Value _ _ (λ e. e.0) y))
of_plain-layer Value-F.Null = subst IsOfPlain (sym values.rolls-Null) (ap of_plain plain-Null)
of_plain-layer (Value-F.Word bits) = subst IsOfPlain (sym (values.rolls-Word bits)) (ap of_plain (plain-Word bits))
of_plain-layer (Value-F.Group parts) = let inner : List Value = map (λ p. p.0) parts in
    subst IsOfPlain (sym (values.rolls-Group inner)) (ap of_plain (plain-Group inner) ∙ ap values.Group (of_trees-plain_values parts))
of_plain-layer (Value-F.Union tag part) = subst IsOfPlain (sym (values.rolls-Union tag part.0)) (ap of_plain (plain-Union tag part.0) ∙ ap (values.Union tag) part.1)
of_plain-layer (Value-F.List parts) = let inner : List Value = map (λ p. p.0) parts in
    subst IsOfPlain (sym (values.rolls-List inner)) (ap of_plain (plain-List inner) ∙ ap values.List (of_trees-plain_values parts))
of_plain-layer Value-F.Apart = subst IsOfPlain (sym values.rolls-Apart) (ap of_plain plain-Apart)

of_plain-plain : (one : Value) → of_plain (plain one) ≡ one
of_plain-plain = ind-Value IsOfPlain (λ x y is. subst (λ z. IsOfPlain (roll-Value z)) is (of_plain-layer y))

-- values with the same plain data are the same
pub plain-injective : (one other : Value) → plain one ≡ plain other → one ≡ other
plain-injective one other same = sym (of_plain-plain one) ∙ ap of_plain same ∙ of_plain-plain other

pub map_plain-injective : (some others : List Value) → map plain some ≡ map plain others → some ≡ others
map_plain-injective some others same = sym (of_all some) ∙ ap (map of_plain) same ∙ of_all others
  where
    of_all : (vs : List Value) → map of_plain (map plain vs) ≡ vs
    of_all [] = refl
    of_all (first ∷ more) = ap (λ v. v ∷ map of_plain (map plain more)) (of_plain-plain first) ∙ ap (λ vs. first ∷ vs) (of_all more)

roots-injective : (some others : List (List Value)) → map (map plain) some ≡ map (map plain) others → some ≡ others
roots-injective some others same = sym (of_all some) ∙ ap (map (map of_plain)) same ∙ of_all others
  where
    of_series : (vs : List Value) → map of_plain (map plain vs) ≡ vs
    of_series [] = refl
    of_series (first ∷ more) = ap (λ v. v ∷ map of_plain (map plain more)) (of_plain-plain first) ∙ ap (λ vs. first ∷ vs) (of_series more)

    of_all : (series : List (List Value)) → map (map of_plain) (map (map plain) series) ≡ series
    of_all [] = refl
    of_all (first ∷ more) = ap (λ s. s ∷ map (map of_plain) (map (map plain) more)) (of_series first) ∙ ap (λ s. first ∷ s) (of_all more)

pub plain_is_one_to_one : PlainIsOneToOne
plain_is_one_to_one =
    (λ one other same. ap (λ (roots : List (List Value)). record { roots = roots }) (roots-injective one.roots other.roots same), plain-injective)
