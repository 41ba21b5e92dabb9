-- The types of ports in a tree without faults.
use Rattle.std.proofs.Common.{◌≡◌, ℕ, zero, suc, ◌+◌, ◌<◌, ◌≤◌, ◌⊎◌, inl, inr, Bool, true, false, cond, List, [], ◌∷◌, ◌++◌, map, filter, length, get_or, slice_get, find, Option, Some, None, Contains, refl, sym, ap, subst, ◌∙◌, arith}
use Rattle.std.specs.List.{flat_map, range_with_len}
use Rattle.std.proofs.lemmas.List.{get_or_default}
use Rattle.std.proofs.lemmas.List.Elements.{Contains-append_cases, Contains-append_left, Contains-append_right}
use Rattle.til_parser.specs.declared.tree.Ast.{Ast}
use Rattle.til_parser.specs.declared.tree.AstKind.{AstKind}
use Rattle.til_parser.specs.declared.tree.AstKind.TheVariants as decls
use Rattle.til_parser.specs.declared.tree.AstName.{AstName}
use Rattle.til_parser.specs.declared.tree.AstPort.{AstPort}
use Rattle.til_parser.specs.declared.tree.AstPorts.TheVariants as ports
use Rattle.til_parser.specs.Tree.{plain}
use Rattle.logical_types.specs.Faults.{faults_of}
use Rattle.logical_types.specs.declared.fault.TypeFault.{TypeFault}
use Rattle.logical_types.specs.Size.{number_of_nodes}
use Rattle.til_resolve.specs.declared.fault.ResolveFault.TheVariants as faults
use Rattle.til_resolve.specs.Declarations.{Declaration, PortOf, declaration, declarations, kept_as, named, nowhere, is_interface, is_interface_kind, is_streamlet, named_as, ports_in, ports_of, ports_of_number}
use Rattle.til_resolve.specs.Faults.{IsSound, WrittenType, port_types, types_in, types_of_kind, written_types}
use Rattle.til_resolve.specs.Lookups.{or_else}
use Rattle.til_resolve.specs.Paths.{is_same_path}
use Rattle.til_resolve.specs.PlainProject.{HasPortTypes, PlainPort, PlainProject, PlainStreamlet, plain_port_at, plain_port_in, port_from, project_of, streamlet_from}
use Rattle.til_resolve.specs.PortTypes.{IsPortType, type_of_port}
use Rattle.til_resolve.specs.Project.{streamlet_numbers}
use Rattle.til_resolve.specs.Types.{type_of}
use Rattle.til_resolve.proofs.ToldLemmas.{less-or_not}
use Rattle.til_resolve.proofs.TypeGraphLemmas.{named-within}

-- ---- it is valid

-- the elements of a list, by their index
module _ {A B : Type 0} where
  mapped-at : (f : A → B) (xs : List A) (x : A) (n : ℕ) → n < length xs → get_or xs n x ≡ x → Contains (map f xs) (f x)
  mapped-at f [] x n within same = absurd (omega (arith, within))
  mapped-at f (first ∷ xs) x zero within same = (0, omega arith, ap f same)
  mapped-at f (first ∷ xs) x (suc n) within same = let rest = mapped-at f xs x n (omega (arith, within)) same in (suc rest.0, omega (arith, rest.1), rest.2)

  pub Contains-map : (f : A → B) (xs : List A) (x : A) → Contains xs x → Contains (map f xs) (f x)
  Contains-map f xs x there = mapped-at f xs x there.0 there.1 there.2

  pub record IsMapped (f : A → B) (xs : List A) (y : B) : Type 0 where
    pub one : A
    pub inside : Contains xs one
    pub same : f one ≡ y

  unmapped-at : (f : A → B) (xs : List A) (y : B) (n : ℕ) → n < length (map f xs) → get_or (map f xs) n y ≡ y → IsMapped f xs y
  unmapped-at f [] y n within same = absurd (omega (arith, within))
  unmapped-at f (first ∷ xs) y zero within same = record { one = first; inside = (0, omega arith, refl); same = same }
  unmapped-at f (first ∷ xs) y (suc n) within same =
      let rest = unmapped-at f xs y n (omega (arith, within)) same in
      record { one = rest.one; inside = (suc rest.inside.0, omega (arith, rest.inside.1), rest.inside.2); same = rest.same }

  pub Contains-mapped : (f : A → B) (xs : List A) (y : B) → Contains (map f xs) y → IsMapped f xs y
  Contains-mapped f xs y there = unmapped-at f xs y there.0 there.1 there.2

  flat-at : (of : A → List B) (xs : List A) (x : A) (y : B) (n : ℕ) → n < length xs → get_or xs n x ≡ x → Contains (of x) y → Contains (flat_map of xs) y
  flat-at of [] x y n within same inside = absurd (omega (arith, within))
  flat-at of (first ∷ xs) x y zero within same inside = Contains-append_left (of first) (flat_map of xs) y (subst (λ (a : A). Contains (of a) y) (sym same) inside)
  flat-at of (first ∷ xs) x y (suc n) within same inside = Contains-append_right (of first) (flat_map of xs) y (flat-at of xs x y n (omega (arith, within)) same inside)

  Contains-flat : (of : A → List B) (xs : List A) (x : A) (y : B) → Contains xs x → Contains (of x) y → Contains (flat_map of xs) y
  Contains-flat of xs x y there inside = flat-at of xs x y there.0 there.1 there.2 inside

  record IsFlattened (of : A → List B) (xs : List A) (y : B) : Type 0 where
    one : A
    inside : Contains xs one
    of_it : Contains (of one) y

  Contains-flattened : (of : A → List B) (xs : List A) (y : B) → Contains (flat_map of xs) y → IsFlattened of xs y
  Contains-flattened of [] y there = absurd (omega (arith, there.1))
  Contains-flattened of (first ∷ xs) y there = by (Contains-append_cases (of first) (flat_map of xs) y there) (Contains-flattened of xs y)
    where
      by : Contains (of first) y ⊎ Contains (flat_map of xs) y → (Contains (flat_map of xs) y → IsFlattened of xs y) → IsFlattened of (first ∷ xs) y
      by (inl here) rest = record { one = first; inside = (0, omega arith, refl); of_it = here }
      by (inr later) rest =
          let more = rest later in record { one = more.one; inside = (suc more.inside.0, omega (arith, more.inside.1), more.inside.2); of_it = more.of_it }

pub Contains-found : {A : Type 0} (test : A → Bool) (xs : List A) (x : A) → find test xs ≡ Some x → Contains xs x
Contains-found test [] x is = absurd cc
Contains-found {A} test (first ∷ xs) x is = by (test first) is (Contains-found test xs x)
  where
    by : (b : Bool) → cond b (Some first) (find test xs) ≡ Some x → (find test xs ≡ Some x → Contains xs x) → Contains (first ∷ xs) x
    by true is rest = (0, omega arith, (let e = is in cc))
    by false is rest = let more = rest is in (suc more.0, omega (arith, more.1), more.2)

-- the written type of a port
abbrev written_port : List Declaration → PortOf → WrittenType
written_port all one = record { place = one.port.name.place; ltype = type_of_port all one; in_port = true }

written-of_kind : (all : List Declaration) (space : List (List ℕ)) (listed : List AstPort) (one : PortOf) → Contains (map (λ port. record { space = space; port = port }) listed) one
    → Contains (port_types all space listed) (written_port all one)
written-of_kind all space listed one there =
    let found = Contains-mapped (λ (port : AstPort). record { space = space; port = port }) listed one there in
    subst (λ (p : PortOf). Contains (port_types all space listed) (written_port all p)) found.same
    (Contains-map (λ (port : AstPort). record { place = port.name.place; ltype = type_of all space (plain port.ltype); in_port = true }) listed found.one found.inside)

-- a declaration of an interface writes its ports
in-interface : (all : List Declaration) (space : List (List ℕ)) (name : AstName) (kind : AstKind) (one : PortOf) → is_interface_kind kind ≡ true
    → Contains (ports_in (record { space = space; name = name; kind = kind })) one → Contains (types_of_kind all space name kind) (written_port all one)
in-interface all space name (decls.Alias ltype) one is there = absurd cc
in-interface all space name (decls.Interface listed) one is there = written-of_kind all space listed one there
in-interface all space name (decls.Streamlet listed) one is there = absurd cc
in-interface all space name (decls.Impl target body) one is there = absurd cc
in-interface all space name (decls.Test target port value plan) one is there = absurd cc

-- a name of a kind is that of a declaration of the kind
pub named-is : (is : Declaration → Bool) (all : List Declaration) (found : Option ℕ) (number : ℕ) → kept_as is all found ≡ Some number
    → is (declaration all number) ≡ true
named-is is all None number same = absurd cc
named-is is all (Some other) number same = by (is (declaration all other)) refl same
  where
    by : (b : Bool) → is (declaration all other) ≡ b → cond b (Some other) None ≡ Some number → is (declaration all number) ≡ true
    by true holds same = let e : other ≡ number = cc in subst (λ n. is (declaration all n) ≡ true) e holds
    by false holds same = absurd cc

-- the declaration of a number is one of all
pub one-of : (all : List Declaration) (number : ℕ) → number < length all → Contains all (declaration all number)
one-of all number within = (number, within, get_or_default all number (declaration all number) (record { space = []; name = record { name = []; place = nowhere }; kind = decls.Interface [] }) within)

by-owner : (all : List Declaration) (found : Option ℕ) (one : PortOf) → ((number : ℕ) → found ≡ Some number → (number < length all) × (is_interface (declaration all number) ≡ true))
    → Contains (ports_of_number all found) one → Contains (written_types all) (written_port all one)
by-owner all None one owns there = absurd (omega (arith, there.1))
by-owner all (Some number) one owns there =
    let own = owns number refl in
    let it : Declaration = declaration all number in
    Contains-flat (types_in all) all it (written_port all one) (one-of all number own.0) (in-interface all it.space it.name it.kind one own.1 there)

in-streamlet : (all : List Declaration) (number : ℕ) (space : List (List ℕ)) (name : AstName) (kind : AstKind) (one : PortOf) → number < length all
    → declaration all number ≡ record { space = space; name = name; kind = kind } → Contains (ports_of all (record { space = space; name = name; kind = kind })) one
    → Contains (written_types all) (written_port all one)
in-streamlet all number space name (decls.Alias ltype) one within is there = absurd (omega (arith, there.1))
in-streamlet all number space name (decls.Interface listed) one within is there = absurd (omega (arith, there.1))
in-streamlet all number space name (decls.Streamlet (ports.Own listed)) one within is there =
    Contains-flat (types_in all) all (record { space = space; name = name; kind = decls.Streamlet (ports.Own listed) }) (written_port all one)
    (subst (Contains all) is (one-of all number within)) (written-of_kind all space listed one there)
in-streamlet all number space name (decls.Streamlet (ports.Named path)) one within is there =
    by-owner all (named_as is_interface all space path) one
    (λ n same. (named-within is_interface all space path n same, named-is is_interface all (named all space path) n same)) there
in-streamlet all number space name (decls.Impl target body) one within is there = absurd (omega (arith, there.1))
in-streamlet all number space name (decls.Test target port value plan) one within is there = absurd (omega (arith, there.1))

-- numbers that pass a test are below their end
first-or_rest : (first : ℕ) (xs : List ℕ) (number n : ℕ) → n < length (first ∷ xs) → get_or (first ∷ xs) n number ≡ number → (first ≡ number) ⊎ Contains xs number
first-or_rest first xs number zero within same = inl same
first-or_rest first xs number (suc n) within same = inr (n, omega (arith, within), same)

number-within : (test : ℕ → Bool) (begin count number : ℕ) → Contains (filter test (range_with_len begin count)) number → number < begin + count
number-within test begin zero number there = absurd (omega (arith, there.1))
number-within test begin (suc count) number there = by (test begin) there (number-within test (begin + 1) count number)
  where
    either : (begin ≡ number) ⊎ Contains (filter test (range_with_len (begin + 1) count)) number
        → (Contains (filter test (range_with_len (begin + 1) count)) number → number < begin + 1 + count) → number < begin + suc count
    either (inl same) rest = omega (arith, same)
    either (inr later) rest = omega (arith, rest later)

    by : (b : Bool) → Contains (cond b (begin ∷ filter test (range_with_len (begin + 1) count)) (filter test (range_with_len (begin + 1) count))) number
        → (Contains (filter test (range_with_len (begin + 1) count)) number → number < begin + 1 + count) → number < begin + suc count
    by false there rest = omega (arith, rest there)
    by true there rest = either (first-or_rest begin (filter test (range_with_len (begin + 1) count)) number there.0 there.1 there.2) rest

none-valid : (found : List TypeFault) → ((fault : TypeFault) → slice_get found 0 ≡ Some fault → ⊥) → found ≡ []
none-valid [] none = refl
none-valid (fault ∷ more) none = absurd (none fault refl)

sound-port : (ast : Ast) (one : PortOf) → IsSound ast → Contains (written_types (declarations ast)) (written_port (declarations ast) one) → IsPortType (type_of_port (declarations ast) one)
sound-port ast one sound there = record {
  valid = none-valid (faults_of (type_of_port (declarations ast) one))
      (λ fault is. sound (faults.BadType one.port.name.place fault) (record { one = written_port (declarations ast) one; written = there; at = refl; is = is }));
  few = by (less-or_not 65536 (number_of_nodes (type_of_port (declarations ast) one)));
}
  where
    by : (65536 < number_of_nodes (type_of_port (declarations ast) one)) ⊎ (number_of_nodes (type_of_port (declarations ast) one) ≤ 65536)
        → number_of_nodes (type_of_port (declarations ast) one) ≤ 65536
    by (inl large) = absurd (sound (faults.TypeTooLarge one.port.name.place) (record { one = written_port (declarations ast) one; written = there; at = refl; is = inl large }))
    by (inr few) = few

-- the ports of a tree without faults
pub ports-valid : (ast : Ast) → IsSound ast → HasPortTypes (project_of ast)
ports-valid ast sound = record { each = each }
  where
    each : (streamlet : PlainStreamlet) (port : PlainPort) → Contains (project_of ast).streamlets streamlet → Contains streamlet.ports port → IsPortType port.ltype
    each streamlet port there inside =
        let at = Contains-mapped (streamlet_from (declarations ast)) (streamlet_numbers (declarations ast)) streamlet there in
        let it : Declaration = declaration (declarations ast) at.one in
        let of_it : Contains (map (port_from (declarations ast)) (ports_of (declarations ast) it)) port = subst (λ (s : PlainStreamlet). Contains s.ports port) (sym at.same) inside in
        let one = Contains-mapped (port_from (declarations ast)) (ports_of (declarations ast) it) port of_it in
        let within = number-within (λ number. is_streamlet (declaration (declarations ast) number)) 0 (length (declarations ast)) at.one at.inside in
        let written = in-streamlet (declarations ast) at.one it.space it.name it.kind one.one (omega (arith, within)) refl one.inside in
        subst (λ (p : PlainPort). IsPortType p.ltype) one.same (sound-port ast one.one sound written)

-- a port that is found is one of them
pub found-valid : (project : PlainProject) (path : List (List ℕ)) (port : PlainPort) → HasPortTypes project → plain_port_at project.streamlets path ≡ Some port → IsPortType port.ltype
found-valid project path port types is = by project.streamlets (λ streamlet there. there) is
  where
    inside : (streamlet : PlainStreamlet) (more : List PlainStreamlet) (found : Option PlainPort) → plain_port_in streamlet path ≡ found → ((one : PlainStreamlet) → Contains (streamlet ∷ more) one → Contains project.streamlets one)
        → or_else found (plain_port_at more path) ≡ Some port → (plain_port_at more path ≡ Some port → IsPortType port.ltype) → IsPortType port.ltype
    inside streamlet more None found among is rest = rest is
    inside streamlet more (Some one) found among is rest =
        let same : one ≡ port = cc in
        types.each streamlet port (among streamlet (0, omega arith, refl))
        (Contains-found (λ (p : PlainPort). is_same_path (streamlet.path ++ p.name ∷ []) path) streamlet.ports port (found ∙ ap (λ (p : PlainPort). Some p) same))

    by : (streamlets : List PlainStreamlet) → ((one : PlainStreamlet) → Contains streamlets one → Contains project.streamlets one) → plain_port_at streamlets path ≡ Some port → IsPortType port.ltype
    by [] among is = absurd cc
    by (streamlet ∷ more) among is = inside streamlet more (plain_port_in streamlet path) refl among is
        (by more (λ one there. among one (Contains-append_right (streamlet ∷ []) more one there)))
