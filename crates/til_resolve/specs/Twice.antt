-- Instances so far. It serves the search for what is declared twice, and no public clause.
use Rattle.std.specs.Prelude.{◌≡◌, ℕ, Bool, List, [], ◌∷◌, ◌++◌, Option, Some, None, Contains, if◌then◌else◌}
use Rattle.std.specs.List.{list_any}
use Rattle.std.specs.Option.{option_to_list}
use Rattle.std.specs.Str.{bytes_eq}
use Rattle.tydi_base.specs.declared.place.Place.{Place}
use Rattle.til_resolve.specs.Earliest.{IsEarliest}
use Rattle.til_resolve.specs.Names.{WrittenInstance}

-- a look-up finds the names of these instances
abbrev pub FindsNames : (List ℕ → Bool) → List WrittenInstance → Type 0
FindsNames find instances = (name : List ℕ) → find name ≡ list_any (λ one. bytes_eq one.name.name name) instances

-- the place of an instance, if it has the name of one of these before it
abbrev pub instance_again : List WrittenInstance → Option WrittenInstance → List Place
instance_again earlier None = []
instance_again earlier (Some one) = if list_any (λ other. bytes_eq other.name.name one.name.name) earlier then one.name.place ∷ [] else []

-- an instance, if there is one, was added to these, and is reported where it stands again
pub record AddsInstance (find : List ℕ → Bool) (earlier : List WrittenInstance) (one : Option WrittenInstance) (found : Option Place) : Type 0 where
  pub seen : FindsNames find (earlier ++ option_to_list one)
  pub again : IsEarliest (Contains (instance_again earlier one)) found
