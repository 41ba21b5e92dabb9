-- A declaration that may lead to itself, and the place of the report. It serves the search for cycles, and no public clause.
use Rattle.std.specs.Prelude.{◌≡◌, ℕ, List, Some}
use Rattle.tydi_base.specs.declared.place.Place.{Place}
use Rattle.til_resolve.specs.declared.cycles.Site.{Site}
use Rattle.til_resolve.specs.declared.cycles.Site.TheVariants as sites
use Rattle.til_resolve.specs.declared.cycles.Suspect.{Suspect}
use Rattle.til_resolve.specs.Cycles.{LeadsTo}
use Rattle.til_resolve.specs.Declarations.{Declaration, declaration}
use Rattle.til_resolve.specs.Graph.{Leads}
use Rattle.til_resolve.specs.Names.{implements, target_place}

-- a declaration itself, reported at its name; or the streamlet that it implements, if any, reported at the path after `of`
abbrev pub suspect_at : Site → List Declaration → ℕ → Suspect
suspect_at sites.Name all one = record { number = Some one; place = (declaration all one).name.place }
suspect_at sites.Target all one = record { number = implements all (declaration all one); place = target_place (declaration all one).kind }

-- at this place a declaration reports a number that leads to itself
pub record IsCyclicAt (site : Site) (all : List Declaration) (graph : List (List ℕ)) (one : ℕ) (place : Place) : Type 0 where
  pub at : (suspect_at site all one).place ≡ place
  pub number : ℕ
  pub is : (suspect_at site all one).number ≡ Some number
  pub leads : LeadsTo (Leads graph) number number
