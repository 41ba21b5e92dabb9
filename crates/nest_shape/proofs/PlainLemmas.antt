-- The plain data of a nest: its equations at each made value, and that a nest is known by it.
use Rattle.std.proofs.Common.{◌≡◌, ◌∙◌, List, [], ◌∷◌, map, refl, sym, ap, subst}
use Rattle.std.specs.Prelude.{Bool}
use Rattle.nest_shape.specs.declared.nest.Nest.{Nest, roll-Nest, map-Nest}
use Rattle.nest_shape.specs.declared.nest.Nest.TheVariants as nests
use Rattle.nest_shape.specs.declared.nest.Nest.TheOpen.{Nest-F}
use Rattle.nest_shape.specs.declared.nest.Nest.TheFolds.{fold-roll-Nest, ind-Nest}
use Rattle.nest_shape.specs.Tree.{Tree, leaf, list, Trees, no_trees, tree, trees_of, list_of, plain_layer, plain, plain_nests}

-- ---- lists of plain data

pub trees_of-list_of : (some : Trees) → trees_of (list_of some) ≡ some
trees_of-list_of no_trees = refl
trees_of-list_of (tree first more) = ap (tree first) (trees_of-list_of more)

pub list_of-trees_of : (some : List Tree) → list_of (trees_of some) ≡ some
list_of-trees_of [] = refl
list_of-trees_of (first ∷ more) = ap (λ (l : List Tree). first ∷ l) (list_of-trees_of more)

-- ---- the plain data of a made value

pub trees_of-map : (nests : List Nest) → trees_of (map plain nests) ≡ plain_nests nests
trees_of-map [] = refl
trees_of-map (first ∷ more) = ap (tree (plain first)) (trees_of-map more)

pub plain-Leaf : (word : List Bool) → plain (nests.Leaf word) ≡ leaf word
plain-Leaf word = ap plain (sym (nests.rolls-Leaf word)) ∙ fold-roll-Nest Tree plain_layer (Nest-F.Leaf word)

pub plain-List : (parts : List Nest) → plain (nests.List parts) ≡ list (plain_nests parts)
plain-List parts = ap plain (sym (nests.rolls-List parts)) ∙ fold-roll-Nest Tree plain_layer (Nest-F.List parts) ∙ ap list (trees_of-map parts)

-- ---- the nest of plain data

abbrev mutual
  of_plain : Tree → Nest
  of_plain (leaf word) = nests.Leaf word
  of_plain (list parts) = nests.List (of_trees parts)

  of_trees : Trees → List Nest
  of_trees no_trees = []
  of_trees (tree first more) = of_plain first ∷ of_trees more

abbrev IsOfPlain : Nest → Type 0
IsOfPlain one = of_plain (plain one) ≡ one

of_trees-plain_nests : (nests : List ((one : Nest) × IsOfPlain one)) → of_trees (plain_nests (map (λ p. p.0) nests)) ≡ map (λ p. p.0) nests
of_trees-plain_nests [] = refl
of_trees-plain_nests (first ∷ more) =
    ap (λ n. n ∷ of_trees (plain_nests (map (λ p. p.0) more))) first.1 ∙ ap (λ ns. first.0 ∷ ns) (of_trees-plain_nests more)

of_plain-layer : (y : Nest-F ((one : Nest) × IsOfPlain one)) → IsOfPlain (roll-Nest (map-Nest _ _ (λ e. e.0) y))
of_plain-layer (Nest-F.Leaf word) = subst IsOfPlain (sym (nests.rolls-Leaf word)) (ap of_plain (plain-Leaf word))
of_plain-layer (Nest-F.List parts) = let inner : List Nest = map (λ p. p.0) parts in
    subst IsOfPlain (sym (nests.rolls-List inner)) (ap of_plain (plain-List inner) ∙ ap nests.List (of_trees-plain_nests parts))

of_plain-plain : (one : Nest) → of_plain (plain one) ≡ one
of_plain-plain = ind-Nest IsOfPlain (λ x y is. subst (λ z. IsOfPlain (roll-Nest z)) is (of_plain-layer y))

-- nests with the same plain data are the same
pub plain_nests-injective : (some others : List Nest) → plain_nests some ≡ plain_nests others → some ≡ others
plain_nests-injective some others same = sym (of_all some) ∙ ap of_trees same ∙ of_all others
  where
    of_all : (nests : List Nest) → of_trees (plain_nests nests) ≡ nests
    of_all [] = refl
    of_all (first ∷ more) = ap (λ n. n ∷ of_trees (plain_nests more)) (of_plain-plain first) ∙ ap (λ ns. first ∷ ns) (of_all more)
