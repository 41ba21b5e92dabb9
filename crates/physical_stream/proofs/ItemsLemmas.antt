-- The items of a transfer, step by step.
use Rattle.std.proofs.Common.{◌≡◌, ◌∙◌, ◌+◌, ℕ, if◌then◌else◌, List, [], ◌∷◌, ◌++◌, sym, ap, append_assoc, add-one}
use Rattle.physical_stream.specs.Params.{Parameters}
use Rattle.physical_stream.specs.Items.{last_bit, parts_below}
use Rattle.physical_stream.specs.declared.transfer.Transfer.{Transfer}
use Rattle.physical_stream.specs.declared.item.Item.{Item}
use Rattle.physical_stream.specs.declared.item.Item.TheVariants.{Close}

-- the end of this dimension, where this lane marks it
abbrev pub close_at : Parameters → Transfer → ℕ → ℕ → List Item
close_at p t lane dim = if last_bit p t lane dim then Close dim ∷ [] else []

pub parts_below-more : (f : ℕ → List Item) (n : ℕ) → parts_below f (n + 1) ≡ parts_below f n ++ f n
parts_below-more f n = ap (parts_below f) (add-one n)

-- one more list behind the parts so far
pub parts_joined : (f : ℕ → List Item) (n : ℕ) (start now next : List Item) →
    now ≡ start ++ parts_below f n → next ≡ now ++ f n → next ≡ start ++ parts_below f (n + 1)
parts_joined f n start now next so_far more =
    more ∙ ap (λ (items : List Item). items ++ f n) so_far ∙ append_assoc start (parts_below f n) (f n) ∙ sym (ap (λ (items : List Item). start ++ items) (parts_below-more f n))
