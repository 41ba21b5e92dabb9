-- The ports of a streamlet stand among those that are written, and the type of a declaration that a path names is that of the path.
use Rattle.std.proofs.Common.{◌≡◌, ℕ, suc, ◌+◌, ◌<◌, ◌≤◌, ◌⊎◌, inl, inr, List, [], ◌∷◌, ◌++◌, length, map, take, get_or, Option, Some, None, IfSome, Contains, refl, sym, ap, subst, ◌∙◌, arith}
use Rattle.std.specs.List.{flat_map}
use Rattle.std.proofs.lemmas.List.{get_or-map, length-map, map-append, take_more, take_all}
use Rattle.std.proofs.lemmas.List.Elements.{Contains-append_left, Contains-append_right, Contains-append_cases, Contains-get_or}
use Rattle.til_parser.specs.declared.ltype.AstType.{AstType}
use Rattle.til_parser.specs.declared.ltype.AstType.TheVariants as types
use Rattle.til_parser.specs.declared.tree.AstKind.{AstKind}
use Rattle.til_parser.specs.declared.tree.AstKind.TheVariants as decls
use Rattle.til_parser.specs.declared.tree.AstName.{AstName}
use Rattle.til_parser.specs.declared.tree.AstPath.{AstPath}
use Rattle.til_parser.specs.declared.tree.AstPort.{AstPort}
use Rattle.til_parser.specs.declared.tree.AstPorts.TheVariants as ports
use Rattle.til_parser.specs.Tree.{plain}
use Rattle.til_parser.proofs.PlainLemmas.{plain-Path}
use Rattle.til_resolve.specs.Declarations.{Declaration, declaration, named, own_ports, PortOf, ports_in, ports_of, ports_of_number}
use Rattle.til_resolve.specs.Faults.{types_of_kind, types_in, written_types}
use Rattle.til_resolve.specs.declared.project.Port.{Port}
use Rattle.til_resolve.specs.Making.{type_of_port, written_in}
use Rattle.til_resolve.specs.Project.{IsPortOf, Pairwise}
use Rattle.til_resolve.specs.Ports.{owner_by, owner_of}
use Rattle.til_resolve.specs.Shapes.{type_at}
use Rattle.til_resolve.specs.Types.{type_of, type_of_number, meaning_of}
use Rattle.til_resolve.proofs.EarliestLemmas.{Contains-nil, Contains-one}
use Rattle.til_resolve.proofs.MakingLemmas.{Pairwise-push}

-- ---- the ports of a streamlet

ports-by : (all : List Declaration) (number owner : ℕ) (space : List (List ℕ)) (own : AstName) (kind : AstKind)
    → declaration all number ≡ record { space = space; name = own; kind = kind } → Some owner ≡ owner_by all number space kind
    → ports_of all (record { space = space; name = own; kind = kind }) ≡ ports_in (declaration all owner)
ports-by all number owner space own (decls.Alias ltype) is of = cc
ports-by all number owner space own (decls.Interface listed) is of = cc
ports-by all number owner space own (decls.Streamlet (ports.Own listed)) is of =
    let same : number ≡ owner = cc in
    ap ports_in (sym is) ∙ ap (λ n. ports_in (declaration all n)) same
ports-by all number owner space own (decls.Streamlet (ports.Named path)) is of = ap (ports_of_number all) (sym of)
ports-by all number owner space own (decls.Impl target body) is of = cc
ports-by all number owner space own (decls.Test target port value plan) is of = cc

pub ports_of-owner : (all : List Declaration) (number owner : ℕ) → Some owner ≡ owner_of all number → ports_of all (declaration all number) ≡ ports_in (declaration all owner)
ports_of-owner all number owner of =
    let one = declaration all number in
    ports-by all number owner one.space one.name one.kind refl of

no_ports-by : (all : List Declaration) (number : ℕ) (space : List (List ℕ)) (own : AstName) (kind : AstKind) → None ≡ owner_by all number space kind
    → ports_of all (record { space = space; name = own; kind = kind }) ≡ []
no_ports-by all number space own (decls.Alias ltype) of = refl
no_ports-by all number space own (decls.Interface listed) of = refl
no_ports-by all number space own (decls.Streamlet (ports.Own listed)) of = cc
no_ports-by all number space own (decls.Streamlet (ports.Named path)) of = ap (ports_of_number all) (sym of)
no_ports-by all number space own (decls.Impl target body) of = refl
no_ports-by all number space own (decls.Test target port value plan) of = refl

pub ports_of-none : (all : List Declaration) (number : ℕ) → None ≡ owner_of all number → ports_of all (declaration all number) ≡ []
ports_of-none all number of =
    let one = declaration all number in
    no_ports-by all number one.space one.name one.kind of

-- ---- written types

Contains-map : {X Y : Type 0} (f : X → Y) (xs : List X) (x : X) → Contains xs x → Contains (map f xs) (f x)
Contains-map f xs x there = (there.0, subst (λ n. there.0 < n) (sym (length-map xs f)) there.1, get_or-map f xs there.0 x (f x) there.1 ∙ ap f there.2)

Contains-flat_map : {X Y : Type 0} (f : X → List Y) (xs : List X) (x : X) (y : Y) → Contains xs x → Contains (f x) y → Contains (flat_map f xs) y
Contains-flat_map f [] x y there inside = absurd (Contains-nil x there)
Contains-flat_map {X} f (first ∷ more) x y there inside = by (Contains-append_cases (first ∷ []) more x there) (λ further. Contains-flat_map f more x y further inside)
  where
    by : Contains (first ∷ []) x ⊎ Contains more x → (Contains more x → Contains (flat_map f more) y) → Contains (f first ++ flat_map f more) y
    by (inl here) rest = Contains-append_left (f first) (flat_map f more) y (subst (λ (z : X). Contains (f z) y) (sym (Contains-one first x here)) inside)
    by (inr further) rest = Contains-append_right (f first) (flat_map f more) y (rest further)

types-by : (all : List Declaration) (space : List (List ℕ)) (name : AstName) (kind : AstKind) (port : AstPort) → Contains (own_ports kind) port
    → Contains (types_of_kind all space name kind) (type_of_port all space port)
types-by all space name (decls.Alias ltype) port there = absurd (Contains-nil port there)
types-by all space name (decls.Interface listed) port there = Contains-map (type_of_port all space) listed port there
types-by all space name (decls.Streamlet (ports.Own listed)) port there = Contains-map (type_of_port all space) listed port there
types-by all space name (decls.Streamlet (ports.Named path)) port there = absurd (Contains-nil port there)
types-by all space name (decls.Impl target body) port there = absurd (Contains-nil port there)
types-by all space name (decls.Test target own value plan) port there = absurd (Contains-nil port there)

pub port-written : (all : List Declaration) (number i : ℕ) (listed : List AstPort) (port : AstPort) → number < length all → listed ≡ own_ports (declaration all number).kind
    → i < length listed → port ≡ get_or listed i port → Contains (written_types all) (type_of_port all (declaration all number).space port)
port-written all number i listed port inside are within is =
    let one = declaration all number in
    Contains-flat_map (types_in all) all one (type_of_port all one.space port) (Contains-get_or all number _ inside)
    (types-by all one.space one.name one.kind port (subst (λ (l : List AstPort). Contains l port) are (i, within, sym is)))

-- ---- the type of a path

named-by_number : (all : List Declaration) (less : ℕ) (space : List (List ℕ)) (names : List AstName) (target : ℕ) → Some target ≡ named all space (record { names = names })
    → type_at all (suc less) target ≡ meaning_of all (suc less) space names
named-by_number all less space names target is = ap (type_of_number (λ inner. meaning_of all less inner) all) is

pub type_at-named : (all : List Declaration) (space : List (List ℕ)) (path : AstPath) (target : ℕ) → Some target ≡ named all space path → target < length all
    → type_at all (length all) target ≡ type_of all space (plain (types.Path path))
type_at-named [] space path target is within = absurd (omega (arith, within))
type_at-named (first ∷ more) space path target is within =
    named-by_number (first ∷ more) (length more) space path.names target is ∙ ap (type_of (first ∷ more) space) (sym (plain-Path path))

-- the same of a type that is a path, if the path names something
pub type_at-found : (all : List Declaration) (space : List (List ℕ)) (path : AstPath) (ltype : AstType) (found : Option ℕ) → ltype ≡ types.Path path → found ≡ named all space path
    → IfSome found (λ target. target < length all) → IfSome found (λ target. type_at all (length all) target ≡ type_of all space (plain ltype))
type_at-found all space path ltype None is at within = tt
type_at-found all space path ltype (Some target) is at within = type_at-named all space path target at within ∙ ap (λ (t : AstType). type_of all space (plain t)) (sym is)

-- ---- the ports that a declaration writes out, one after another

pub written-more : (all : List Declaration) (space : List (List ℕ)) (listed : List AstPort) (i : ℕ) (port : AstPort) (so_far : List Port) (made : Port)
    → i < length listed → port ≡ get_or listed i port → Pairwise (IsPortOf all) (written_in space (take i listed)) so_far → IsPortOf all (record { space = space; port = port }) made
    → Pairwise (IsPortOf all) (written_in space (take (i + 1) listed)) (so_far ++ made ∷ [])
written-more all space listed i port so_far made within is are one =
    let of_port : AstPort → PortOf = λ (it : AstPort). record { space = space; port = it } in
    subst (λ (l : List PortOf). Pairwise (IsPortOf all) l (so_far ++ made ∷ []))
    (sym (map-append of_port (take i listed) (port ∷ [])) ∙ ap (written_in space) (sym (take_more listed i port within ∙ ap (λ (p : AstPort). take i listed ++ p ∷ []) (sym is))))
    (Pairwise-push (IsPortOf all) (written_in space (take i listed)) so_far (record { space = space; port = port }) made are one)

pub written-all : (all : List Declaration) (number i : ℕ) (listed : List AstPort) (made : List Port) → listed ≡ own_ports (declaration all number).kind → length listed ≤ i
    → Pairwise (IsPortOf all) (written_in (declaration all number).space (take i listed)) made → Pairwise (IsPortOf all) (ports_in (declaration all number)) made
written-all all number i listed made are done so_far =
    subst (λ (l : List AstPort). Pairwise (IsPortOf all) (written_in (declaration all number).space l) made) (take_all i listed done ∙ are) so_far
