-- The laws of all series and their flat forms (this project's own).
use Rattle.std.specs.Prelude.{◌≡◌, ◌↔◌, ℕ, false, List, [], ◌∷◌, ◌++◌}
use Rattle.std.specs.List.{All}
use Rattle.physical_stream.specs.Shape.{tail_of, is_misplaced, IsNested}
use Rattle.physical_stream.specs.declared.item.Item.{Item}
use Rattle.nest_shape.specs.Flat.{IsSeries, flat_form}
use Rattle.nest_shape.specs.Shape.{AreWhole, ClosesBelow}
use Rattle.nest_shape.specs.declared.nest.Nest.{Nest}

-- two series with one flat form are equal
abbrev pub OneSeries : Type 0
OneSeries = (dims : ℕ) (one other : List Nest) → IsSeries dims one → IsSeries dims other → flat_form dims one ≡ flat_form dims other → one ≡ other

-- a flat form closes nothing outside its dimensions, is nested, and leaves nothing open
abbrev pub FlatFormsAreWhole : Type 0
FlatFormsAreWhole = (dims : ℕ) (series : List Nest) → IsSeries dims series → All (ClosesBelow dims) (flat_form dims series) × AreWhole dims (flat_form dims series)

-- items are nested exactly where those before the last are, and the last is no Close that may not stand after them
abbrev pub NestsItemByItem : Type 0
NestsItemByItem = (done : List Item) (item : Item) → IsNested (done ++ item ∷ []) ↔ (IsNested done × (is_misplaced (tail_of done) item ≡ false))
