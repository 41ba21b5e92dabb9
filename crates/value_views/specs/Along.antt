-- Parts of values inside one another, by their numbers. It serves the code, and no public clause. This project's own.
use Rattle.std.specs.Prelude.{ℕ, zero, suc, List, [], ◌∷◌, length, Option, Some}
use Rattle.std.specs.List.{filter_map}
use Rattle.logical_value.specs.Tree.{Tree}
use Rattle.value_views.specs.Series.{leaves, other_parts}
use Rattle.value_views.specs.Way.{and_then, part_of}

-- the part to which these numbers lead, one inside the other, none where a Union on the way selects another variant
abbrev pub along : List ℕ → Tree → Option Tree
along [] value = Some value
along (number ∷ more) value = and_then (along more) (part_of number value)

-- the parts behind so many
abbrev pub parts_behind : ℕ → Tree → Option Tree
parts_behind zero value = Some value
parts_behind (suc number) value = and_then (parts_behind number) (other_parts value)

-- how many leaves of nests of this depth have a part to which these numbers lead
abbrev pub selecting : List ℕ → ℕ → List Tree → ℕ
selecting way depth values = length (filter_map (along way) (leaves depth values))
