-- Nests of words of types without their levels.
use Rattle.std.proofs.Common.{◌∙◌, ℕ, zero, suc, List, [], ◌∷◌, sym}
use Rattle.logical_types.specs.Tree.{Ltype}
use Rattle.nest_shape.specs.Tree as nests
use Rattle.nest_shape.specs.Tree.{leaf, list_of}
use Rattle.logical_value.specs.Tree.{Tree, members}
use Rattle.value_views.specs.Views.{AgreesAt, EachPair}
use Rattle.carried_values.specs.WithoutLevels.{without_levels}
use Rattle.carried_values.proofs.TypeLemmas.{width-stays}
use Rattle.carried_values.proofs.WordLemmas.{agrees-with, agrees-without}

pub pairs-change : {A B : Type 0} (R S : A → B → Type 0) → ((one : A) (other : B) → R one other → S one other) → (ones : List A) (others : List B)
    → EachPair R ones others → EachPair S ones others
pairs-change R S change [] [] pairs = tt
pairs-change R S change [] (other ∷ others) pairs = absurd pairs
pairs-change R S change (one ∷ ones) [] pairs = absurd pairs
pairs-change R S change (one ∷ ones) (other ∷ others) pairs = (change one other pairs.0, pairs-change R S change ones others pairs.1)

pub nest-agrees-with : (element : Ltype) (depth : ℕ) (nest : nests.Tree) (value : Tree) → AgreesAt (without_levels element) depth nest value
    → AgreesAt element depth nest value
nest-agrees-with element zero (leaf bits) value agrees = (agrees.0 ∙ width-stays element, agrees-with element bits value agrees.1)
nest-agrees-with element zero (nests.list parts) value agrees = agrees
nest-agrees-with element (suc depth) (leaf bits) value agrees = agrees
nest-agrees-with element (suc depth) (nests.list parts) value agrees =
    pairs-change (AgreesAt (without_levels element) depth) (AgreesAt element depth) (λ one other agrees. nest-agrees-with element depth one other agrees)
    (list_of parts) (members value) agrees

pub nest-agrees-without : (element : Ltype) (depth : ℕ) (nest : nests.Tree) (value : Tree) → AgreesAt element depth nest value
    → AgreesAt (without_levels element) depth nest value
nest-agrees-without element zero (leaf bits) value agrees = (agrees.0 ∙ sym (width-stays element), agrees-without element bits value agrees.1)
nest-agrees-without element zero (nests.list parts) value agrees = agrees
nest-agrees-without element (suc depth) (leaf bits) value agrees = agrees
nest-agrees-without element (suc depth) (nests.list parts) value agrees =
    pairs-change (AgreesAt element depth) (AgreesAt (without_levels element) depth) (λ one other agrees. nest-agrees-without element depth one other agrees)
    (list_of parts) (members value) agrees
