-- The error of a path that is looked for. It serves the search, and no public clause.
use Rattle.std.specs.Prelude.{ℕ, nat_lt, Bool, List, [], ◌++◌, Option, Some, None, if◌then◌else◌}
use Rattle.tydi_base.specs.declared.place.Place.{Place}
use Rattle.til_parser.specs.declared.tree.AstPath.{AstPath}
use Rattle.til_resolve.specs.declared.names.Sought.{Sought}
use Rattle.til_resolve.specs.declared.names.Sought.TheVariants as sought
use Rattle.til_resolve.specs.declared.kinds.Asked.{Asked}
use Rattle.til_resolve.specs.declared.fault.ResolveFault.{ResolveFault}
use Rattle.til_resolve.specs.declared.fault.ResolveFault.TheVariants as faults
use Rattle.til_resolve.specs.Declarations.{Declaration, declaration, before}
use Rattle.til_resolve.specs.Kinds.{asks}
use Rattle.til_resolve.specs.Names.{Use, asking, uses_in, is_unknown, is_wrong_kind, port_unknown, refused}

-- a path is refused for what is sought
abbrev pub is_refused : Sought → List Declaration → Use → Bool
is_refused sought.Unknown = is_unknown
is_refused sought.WrongKind = is_wrong_kind

-- a path with what its place asks
abbrev pub use_of : List (List ℕ) → Asked → AstPath → Use
use_of space asked path = record { space = space; path = path; asks = asks asked }

-- the places of the refused ones of these paths
abbrev pub refused_of : Sought → List Declaration → List (List ℕ) → Asked → List AstPath → List Place
refused_of wrong all space asked paths = refused (is_refused wrong all) (asking space (asks asked) paths)

-- the port of a test that its streamlet lacks, where unknown names are sought
abbrev pub port_refused : Sought → List Declaration → Declaration → List Place
port_refused sought.Unknown = port_unknown
port_refused sought.WrongKind = λ all one. []

-- all places that are refused in a declaration
abbrev pub refused_at : Sought → List Declaration → ℕ → List Place
refused_at wrong all number = refused (is_refused wrong all) (uses_in (declaration all number)) ++ port_refused wrong all (declaration all number)

-- all places that are refused
abbrev pub all_refused : Sought → List Declaration → ℕ → List Place
all_refused wrong all end = before (refused_at wrong all) end

-- the first of two places, as a fault: of a path that names nothing, and of one that names another kind
abbrev pub first_of_both : Option Place → Option Place → Option ResolveFault
first_of_both None None = None
first_of_both None (Some wrong) = Some (faults.WrongKind wrong)
first_of_both (Some unknown) None = Some (faults.UnknownName unknown)
first_of_both (Some unknown) (Some wrong) = if nat_lt wrong.offset unknown.offset then Some (faults.WrongKind wrong) else Some (faults.UnknownName unknown)
