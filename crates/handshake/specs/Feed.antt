-- The transfers that a feed gives (this project's own).
use Rattle.std.specs.Prelude.{◌≡◌, Bool, true, false, List, [], ◌∷◌}
use Rattle.physical_stream.specs.declared.transfer.Transfer.{Transfer}

-- the first of the rest stands in the place that was handed in, and is dropped from the rest; or nothing is left and nothing changes
abbrev pub Feeds : List Transfer → List Transfer → Transfer → Transfer → Bool → Type 0
Feeds old new held into true = old ≡ into ∷ new
Feeds old new held into false = (old ≡ []) × (new ≡ []) × (into ≡ held)
