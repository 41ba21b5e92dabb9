-- The flat form of nests, nest by nest.
use Rattle.std.proofs.Common.{◌≡◌, ◌∙◌, ℕ, ◌-◌, List, [], ◌∷◌, ◌++◌, sym, ap, append_assoc}
use Rattle.std.proofs.lemmas.List.{append-nil}
use Rattle.physical_stream.specs.declared.item.Item.{Item}
use Rattle.physical_stream.specs.declared.item.Item.TheVariants as items
use Rattle.nest_shape.specs.declared.nest.Nest.{Nest}
use Rattle.nest_shape.specs.declared.nest.Nest.TheVariants as nests
use Rattle.nest_shape.specs.Tree.{plain, plain_nests}
use Rattle.nest_shape.specs.Flat.{flat, flat_all, HasDepth, IsSeries, flat_form}
use Rattle.nest_shape.proofs.PlainLemmas.{plain-List}

-- the items of a list of nests are those of its parts, and then a Close
pub flat-list : (depth dim : ℕ) (nest : Nest) (parts slice : List Nest) (so_far mid new : List Item) → nest ≡ nests.List parts → slice ≡ parts → dim ≡ depth - 1
    → mid ≡ so_far ++ flat_all dim (plain_nests slice) → new ≡ mid ++ items.Close dim ∷ [] → new ≡ so_far ++ flat depth (plain nest)
flat-list depth dim nest parts slice so_far mid new is same below added closed =
    closed ∙ ap (λ (l : List Item). l ++ items.Close dim ∷ []) added
    ∙ append_assoc so_far (flat_all dim (plain_nests slice)) (items.Close dim ∷ [])
    ∙ ap (λ ns. so_far ++ (flat_all dim (plain_nests ns) ++ items.Close dim ∷ [])) same
    ∙ ap (λ (d : ℕ). so_far ++ (flat_all d (plain_nests parts) ++ items.Close d ∷ [])) below
    ∙ ap (λ t. so_far ++ flat depth t) (sym (ap plain is ∙ plain-List parts))

-- one nest more in a series
pub flat_form-one_more : (depth : ℕ) (members : List Nest) (one : Nest) → flat_form depth (members ++ one ∷ []) ≡ flat_form depth members ++ flat depth (plain one)
flat_form-one_more depth [] one = append-nil (flat depth (plain one))
flat_form-one_more depth (first ∷ more) one =
    ap (λ (l : List Item). flat depth (plain first) ++ l) (flat_form-one_more depth more one)
    ∙ sym (append_assoc (flat depth (plain first)) (flat_form depth more) (flat depth (plain one)))

pub IsSeries-one_more : (depth : ℕ) (members : List Nest) (one : Nest) → IsSeries depth members → HasDepth depth (plain one) → IsSeries depth (members ++ one ∷ [])
IsSeries-one_more depth [] one series deep = (deep, tt)
IsSeries-one_more depth (first ∷ more) one series deep = (series.0, IsSeries-one_more depth more one series.1 deep)
