-- How many elements there are (this project's own).
use Rattle.std.specs.Prelude.{ℕ, suc, List, [], ◌∷◌}
use Rattle.physical_stream.specs.declared.item.Item.{Item}
use Rattle.physical_stream.specs.declared.item.Item.TheVariants.{Elem, Close}

-- how many of these items are elements
abbrev pub held_in : List Item → ℕ
held_in [] = 0
held_in (Elem word ∷ more) = suc (held_in more)
held_in (Close dim ∷ more) = held_in more
