-- The results of the look-ups of a project. This project's own.
use Rattle.std.specs.Prelude.{ℕ, List, [], ◌∷◌, ◌++◌, Option, Some, None, find}
use Rattle.til_resolve.specs.Paths.{is_same_path}
use Rattle.til_resolve.specs.declared.project.Streamlet.{Streamlet}
use Rattle.til_resolve.specs.declared.project.Port.{Port}

-- the path of a port: its streamlet's path, and then its name
abbrev pub port_path : Streamlet → Port → List (List ℕ)
port_path streamlet port = streamlet.path ++ port.name ∷ []

-- the first port of a streamlet that has this path
abbrev pub port_in : Streamlet → List (List ℕ) → Option Port
port_in streamlet path = find (λ port. is_same_path (port_path streamlet port) path) streamlet.ports

-- the one, or else the other
abbrev pub or_else : {A : Type 0} → Option A → Option A → Option A
or_else None other = other
or_else (Some one) other = Some one

-- the first port of all streamlets that has this path
abbrev pub port_at : List Streamlet → List (List ℕ) → Option Port
port_at [] path = None
port_at (streamlet ∷ more) path = or_else (port_in streamlet path) (port_at more path)
