-- Ports that name one type declaration have one type. The number of a declaration is its place among all of them, in text order. This project's own.
use Rattle.std.specs.Prelude.{◌≡◌, ℕ, zero, suc, List, length, All, Some, IfSome}
use Rattle.logical_types.specs.Tree.{Ltype, null, plain_of_stream}
use Rattle.til_resolve.specs.Declarations.{Declaration}
use Rattle.til_resolve.specs.Types.{meaning_of, type_of_number}
use Rattle.til_resolve.specs.declared.project.Port.{Port}
use Rattle.til_resolve.specs.declared.project.Streamlet.{Streamlet}

-- the type that the declaration of a number gives a name to, with so many names replaced inside one another at most
abbrev pub numbered_within : List Declaration → ℕ → ℕ → Ltype
numbered_within all zero number = null
numbered_within all (suc less) number = type_of_number (λ inner. meaning_of all less inner) all (Some number)

-- the type that the declaration of a number gives a name to
abbrev pub numbered_type : List Declaration → ℕ → Ltype
numbered_type all number = numbered_within all (length all) number

-- a port that names the declaration of a number has the type of this number
abbrev pub HasTypeBy : (ℕ → Ltype) → Port → Type 0
HasTypeBy types port = IfSome port.declared (λ number. plain_of_stream port.ltype.value ≡ types number)

-- so have all ports of these streamlets
abbrev pub HaveTypesBy : (ℕ → Ltype) → List Streamlet → Type 0
HaveTypesBy types streamlets = All (λ (streamlet : Streamlet). All (HasTypeBy types) streamlet.ports) streamlets

-- there is one type for each number, so that ports of one number have one type
abbrev pub AreNumbered : List Streamlet → Type 0
AreNumbered streamlets = (types : ℕ → Ltype) × HaveTypesBy types streamlets
