-- Each error of a tree stands at the place of one of its names.
use Rattle.std.proofs.Common.{◌≡◌, ℕ, zero, suc, ◌<◌, Bool, true, false, cond, List, [], ◌∷◌, ◌++◌, map, filter, take, length, Option, Some, None, All, Contains, refl, subst, arith}
use Rattle.std.specs.List.{flat_map, filter_map, list_any, cons_option}
use Rattle.std.specs.Str.{bytes_eq, str_eq_ignore_ascii_case}
use Rattle.std.proofs.lemmas.List.Elements.{All-append, All-contains, All-cons, All-filter, All-head, All-map, All-nil, All-tail}
use Rattle.tydi_base.specs.declared.place.Place.{Place}
use Rattle.tydi_reading.specs.Lists.{EachIs}
use Rattle.til_parser.specs.declared.tree.Ast.{Ast}
use Rattle.til_parser.specs.declared.tree.AstBody.{AstBody}
use Rattle.til_parser.specs.declared.tree.AstBody.TheVariants as bodies
use Rattle.til_parser.specs.declared.tree.AstDecl.{AstDecl}
use Rattle.til_parser.specs.declared.tree.AstKind.{AstKind}
use Rattle.til_parser.specs.declared.tree.AstKind.TheVariants as decls
use Rattle.til_parser.specs.declared.tree.AstName.{AstName}
use Rattle.til_parser.specs.declared.tree.AstNamespace.{AstNamespace}
use Rattle.til_parser.specs.declared.tree.AstPath.{AstPath}
use Rattle.til_parser.specs.declared.tree.AstPort.{AstPort}
use Rattle.til_parser.specs.declared.tree.AstPorts.TheVariants as ports
use Rattle.til_parser.specs.declared.tree.AstStmt.{AstStmt}
use Rattle.til_parser.specs.declared.tree.AstStmt.TheVariants as stmts
use Rattle.til_parser.specs.Tree as tree
use Rattle.til_parser.specs.Tree.{plain}
use Rattle.til_parser.specs.Trees.{PathWith, TypeWith, PartsWith, PortWith, StmtWith, BodyWith, KindWith, NamespaceWith, DeclWith}
use Rattle.til_resolve.specs.declared.fault.ResolveFault.{ResolveFault}
use Rattle.til_resolve.specs.declared.fault.ResolveFault.TheVariants as faults
use Rattle.til_resolve.specs.Declarations.{Declaration, before, declaration, declarations, declared_in, names_of, nowhere, own_ports, place_of}
use Rattle.til_resolve.specs.Declarations.{is_interface, is_streamlet, is_type, named_as, ports_of, ports_of_streamlet}
use Rattle.til_resolve.specs.Faults.{HasFault, HasTypeAt, WrittenType, place_of_fault, port_types, types_in, types_of_kind, written_types}
use Rattle.til_resolve.specs.Types.{type_of}
use Rattle.til_resolve.specs.Names.{Use, WrittenInstance, again, asking, declared_again, has_port, implemented_again, implements, instance_at, instances_again, instances_named_as_ports, instances_of, is_impl_of, is_unknown, is_wrong_kind}
use Rattle.til_resolve.specs.Names.{names_again_in_body, names_again_in_impl, paths_in, paths_in_parts, paths_in_ports, port_unknown, ports_again, refused, seconds, target_place, twice, twice_at, unknown, uses_in, uses_of_kind, wrong_kinds}

-- ---- lists

all_of : {A : Type 0} (Is : A → Type 0) (xs : List A) → EachIs Is xs → All Is xs
all_of Is [] each = All-nil Is
all_of Is (x ∷ xs) each = All-cons Is x xs each.0 (all_of Is xs each.1)

All-flat_map : {A B : Type 0} (Is : B → Type 0) (of : A → List B) (xs : List A) → ((x : A) → Contains xs x → All Is (of x)) → All Is (flat_map of xs)
All-flat_map Is of [] each = All-nil Is
All-flat_map Is of (x ∷ xs) each =
    All-append Is (of x) (flat_map of xs) (each x (0, omega arith, refl)) (All-flat_map Is of xs (λ y there. each y (suc there.0, omega (arith, there.1), there.2)))

All-filter_map : {A B : Type 0} (Is : B → Type 0) (of : A → Option B) (From : A → Type 0) → ((x : A) (y : B) → From x → of x ≡ Some y → Is y) → (xs : List A)
    → All From xs → All Is (filter_map of xs)
All-filter_map {A} {B} Is of From to [] each = All-nil Is
All-filter_map {A} {B} Is of From to (x ∷ xs) each = by (of x) refl (All-filter_map Is of From to xs (All-tail From x xs each))
  where
    by : (one : Option B) → of x ≡ one → All Is (filter_map of xs) → All Is (cons_option one (filter_map of xs))
    by None is rest = rest
    by (Some y) is rest = All-cons Is y (filter_map of xs) (to x y (All-head From x xs each) is) rest

All-before : {A : Type 0} (Is : A → Type 0) (of : ℕ → List A) (end : ℕ) → ((k : ℕ) → k < end → All Is (of k)) → All Is (before of end)
All-before Is of zero each = All-nil Is
All-before Is of (suc end) each = All-append Is (before of end) (of end) (All-before Is of end (λ k less. each k (omega arith))) (each end (omega arith))

All-one : {A : Type 0} (Is : A → Type 0) (x : A) → Is x → All Is (x ∷ [])
All-one Is x is = All-cons Is x [] is (All-nil Is)

-- one thing, or none
All-if : {A : Type 0} (Is : A → Type 0) (b : Bool) (x : A) → Is x → All Is (cond b (x ∷ []) [])
All-if Is true x is = All-one Is x is
All-if Is false x is = All-nil Is

All-again : {A : Type 0} (Is : A → Type 0) (same : A → A → Bool) (earlier all : List A) → All Is all → All Is (again same earlier all)
All-again Is same earlier [] each = All-nil Is
All-again {A} Is same earlier (one ∷ more) each =
    by (list_any (λ other. same other one) earlier) (All-again Is same (earlier ++ one ∷ []) more (All-tail Is one more each))
  where
    by : (b : Bool) → All Is (again same (earlier ++ one ∷ []) more)
        → All Is (cond b (one ∷ again same (earlier ++ one ∷ []) more) (again same (earlier ++ one ∷ []) more))
    by true rest = All-cons Is one (again same (earlier ++ one ∷ []) more) (All-head Is one more each) rest
    by false rest = rest

module _ (At : Place → Type 0) where
  -- a name stands at such a place
  abbrev Stands : AstName → Type 0
  Stands name = At name.place

  -- ---- the names of a tree

  path-stands : (path : AstPath) → PathWith Stands path.names → At (place_of path)
  path-stands path is = by path.names is
    where
      by : (names : List AstName) → PathWith Stands names → At (place_of (record { names = names }))
      by [] is = absurd (omega (arith, is.some))
      by (first ∷ more) is = is.each.0

  mutual
    paths-stand : (ltype : tree.Ltype) → TypeWith Stands ltype → All (λ path. At (place_of path)) (paths_in ltype)
    paths-stand tree.null is = All-nil (λ path. At (place_of path))
    paths-stand (tree.bits width) is = All-nil (λ path. At (place_of path))
    paths-stand (tree.group parts) is = parts-stand parts is
    paths-stand (tree.union parts) is = parts-stand parts is
    paths-stand (tree.stream element user settings) is =
        All-append (λ path. At (place_of path)) (paths_in element) (paths_in user) (paths-stand element is.0) (paths-stand user is.1)
    paths-stand (tree.path names) is = All-one (λ path. At (place_of path)) (record { names = names }) (path-stands (record { names = names }) is)

    parts-stand : (parts : tree.Parts) → PartsWith Stands parts → All (λ path. At (place_of path)) (paths_in_parts parts)
    parts-stand tree.no_parts is = All-nil (λ path. At (place_of path))
    parts-stand (tree.part name ltype more) is =
        All-append (λ path. At (place_of path)) (paths_in ltype) (paths_in_parts more) (paths-stand ltype is.1) (parts-stand more is.2)

  -- a declaration with the places of its names
  record Declares (one : Declaration) : Type 0 where
    name : At one.name.place
    kind : KindWith Stands one.kind

  namespace-stands : (namespace : AstNamespace) → NamespaceWith Stands namespace → All Declares (declared_in namespace)
  namespace-stands namespace is =
      All-map Declares (λ (decl : AstDecl). record { space = names_of namespace.path; name = decl.name; kind = decl.kind }) namespace.decls
      (λ k d within. let one = all_of (DeclWith Stands) namespace.decls is.decls k d within in record { name = one.name; kind = one.kind })

  declarations-stand : (ast : Ast) → EachIs (NamespaceWith Stands) ast.namespaces → All Declares (declarations ast)
  declarations-stand ast is =
      All-flat_map Declares declared_in ast.namespaces
      (λ namespace there. namespace-stands namespace (All-contains (NamespaceWith Stands) ast.namespaces namespace (all_of (NamespaceWith Stands) ast.namespaces is) there))

  one-declares : (all : List Declaration) → All Declares all → (k : ℕ) → k < length all → Declares (declaration all k)
  one-declares all each k within = each k (record { space = []; name = record { name = []; place = nowhere }; kind = decls.Interface [] }) within

  -- ---- names that are declared twice

  own_ports-stand : (kind : AstKind) → KindWith Stands kind → All (PortWith Stands) (own_ports kind)
  own_ports-stand (decls.Alias ltype) is = All-nil (PortWith Stands)
  own_ports-stand (decls.Interface listed) is = all_of (PortWith Stands) listed is
  own_ports-stand (decls.Streamlet (ports.Own listed)) is = all_of (PortWith Stands) listed is
  own_ports-stand (decls.Streamlet (ports.Named path)) is = All-nil (PortWith Stands)
  own_ports-stand (decls.Impl target body) is = All-nil (PortWith Stands)
  own_ports-stand (decls.Test target port value plan) is = All-nil (PortWith Stands)

  ports_again-stand : (listed : List AstPort) → All (PortWith Stands) listed → All At (ports_again listed)
  ports_again-stand listed each = All-map At (λ (port : AstPort). port.name.place) (seconds (λ (first second : AstPort). str_eq_ignore_ascii_case first.name.name second.name.name) listed)
      (λ k d within. (All-again (PortWith Stands) (λ first second. str_eq_ignore_ascii_case first.name.name second.name.name) [] listed each k d within).name)

  record InstanceStands (one : WrittenInstance) : Type 0 where
    name : At one.name.place
    streamlet : At (place_of one.streamlet)

  instance-stands : (stmt : AstStmt) (one : WrittenInstance) → StmtWith Stands stmt → instance_at stmt ≡ Some one → InstanceStands one
  instance-stands (stmts.Instance name streamlet) one is same =
      let e : ◌≡◌ {A = WrittenInstance} (record { name = name; streamlet = streamlet }) one = cc in
      subst InstanceStands e (record { name = is.0; streamlet = path-stands streamlet is.1 })
  instance-stands (stmts.Link first second) one is same = absurd cc

  instances-stand : (body : AstBody) → BodyWith Stands body → All InstanceStands (instances_of body)
  instances-stand (bodies.Linked text) is = All-nil InstanceStands
  instances-stand (bodies.Structural listed) is =
      All-filter_map InstanceStands instance_at (StmtWith Stands) instance-stands listed (all_of (StmtWith Stands) listed is)

  named-stand : (instances : List WrittenInstance) → All InstanceStands instances → All At (map (λ instance. instance.name.place) instances)
  named-stand instances each = All-map At (λ (instance : WrittenInstance). instance.name.place) instances (λ k d within. (each k d within).name)

  names_again-stand : (all : List Declaration) (space : List (List ℕ)) (target : AstPath) (body : AstBody) → BodyWith Stands body → All At (names_again_in_impl all space target body)
  names_again-stand all space target body is =
      let each = instances-stand body is in
      All-append At (instances_again (instances_of body)) (instances_named_as_ports (ports_of_streamlet all (named_as is_streamlet all space target)) (instances_of body))
      (named-stand (seconds (λ first second. bytes_eq first.name.name second.name.name) (instances_of body))
      (All-again InstanceStands (λ first second. bytes_eq first.name.name second.name.name) [] (instances_of body) each))
      (named-stand (filter (λ instance. has_port (ports_of_streamlet all (named_as is_streamlet all space target)) instance.name.name) (instances_of body))
      (All-filter (λ instance. has_port (ports_of_streamlet all (named_as is_streamlet all space target)) instance.name.name) InstanceStands (instances_of body) each))

  body-stands : (all : List Declaration) (space : List (List ℕ)) (name : AstName) (kind : AstKind) → KindWith Stands kind
      → All At (names_again_in_body all (record { space = space; name = name; kind = kind }))
  body-stands all space name (decls.Alias ltype) is = All-nil At
  body-stands all space name (decls.Interface listed) is = All-nil At
  body-stands all space name (decls.Streamlet listed) is = All-nil At
  body-stands all space name (decls.Impl target body) is = names_again-stand all space target body is.1
  body-stands all space name (decls.Test target port value plan) is = All-nil At

  implemented-stands : (all : List Declaration) (k : ℕ) → At (declaration all k).name.place → All At (implemented_again all k)
  implemented-stands all k at = by (implements all (declaration all k)) refl
    where
      by : (found : Option ℕ) → implements all (declaration all k) ≡ found → All At (implemented_again all k)
      by None is = rw is (All-nil At)
      by (Some streamlet) is = rw is (All-if At (list_any (is_impl_of all streamlet) (take k all)) (declaration all k).name.place at)

  twice-stand : (all : List Declaration) → All Declares all → All At (twice all)
  twice-stand all each = All-append At (before (twice_at all) (length all)) (before (implemented_again all) (length all)) (All-before At (twice_at all) (length all) one)
      (All-before At (implemented_again all) (length all) (λ k within. implemented-stands all k (one-declares all each k within).name))
    where
      one : (k : ℕ) → k < length all → All At (twice_at all k)
      one k within =
          let here = one-declares all each k within in
          let one : Declaration = declaration all k in
          All-append At (declared_again all k ++ ports_again (own_ports one.kind)) (names_again_in_body all one)
          (All-append At (declared_again all k) (ports_again (own_ports one.kind)) (All-if At _ one.name.place here.name) (ports_again-stand (own_ports one.kind) (own_ports-stand one.kind here.kind)))
          (body-stands all one.space one.name one.kind here.kind)

  -- ---- paths that are refused

  abbrev UseStands : Use → Type 0
  UseStands u = At (place_of u.path)

  asking-stand : (space : List (List ℕ)) (asks : Declaration → Bool) (paths : List AstPath) → All (λ path. At (place_of path)) paths → All UseStands (asking space asks paths)
  asking-stand space asks paths each = All-map UseStands (λ (path : AstPath). record { space = space; path = path; asks = asks }) paths each

  ports-stand : (listed : List AstPort) → All (PortWith Stands) listed → All (λ path. At (place_of path)) (paths_in_ports listed)
  ports-stand listed each = All-flat_map (λ path. At (place_of path)) (λ (port : AstPort). paths_in (plain port.ltype)) listed
      (λ port there. paths-stand (plain port.ltype) (All-contains (PortWith Stands) listed port each there).ltype)

  uses-stand : (space : List (List ℕ)) (kind : AstKind) → KindWith Stands kind → All UseStands (uses_of_kind space kind)
  uses-stand space (decls.Alias ltype) is = asking-stand space is_type (paths_in (plain ltype)) (paths-stand (plain ltype) is)
  uses-stand space (decls.Interface listed) is = asking-stand space is_type (paths_in_ports listed) (ports-stand listed (all_of (PortWith Stands) listed is))
  uses-stand space (decls.Streamlet (ports.Own listed)) is = asking-stand space is_type (paths_in_ports listed) (ports-stand listed (all_of (PortWith Stands) listed is))
  uses-stand space (decls.Streamlet (ports.Named path)) is = asking-stand space is_interface (path ∷ []) (All-one (λ path. At (place_of path)) path (path-stands path is))
  uses-stand space (decls.Impl target body) is = asking-stand space is_streamlet (target ∷ map (λ one. one.streamlet) (instances_of body))
      (All-cons (λ path. At (place_of path)) target (map (λ one. one.streamlet) (instances_of body)) (path-stands target is.0)
      (All-map (λ path. At (place_of path)) (λ (one : WrittenInstance). one.streamlet) (instances_of body) (λ k d within. (instances-stand body is.1 k d within).streamlet)))
  uses-stand space (decls.Test target port value plan) is = asking-stand space is_streamlet (target ∷ []) (All-one (λ path. At (place_of path)) target (path-stands target is.0))

  refused-stand : (is : Use → Bool) (one : Declaration) → Declares one → All At (refused is (uses_in one))
  refused-stand is one here =
      All-map At (λ (u : Use). place_of u.path) (filter is (uses_in one)) (All-filter is UseStands (uses_in one) (uses-stand one.space one.kind here.kind))

  port_unknown-stands : (all : List Declaration) (space : List (List ℕ)) (name : AstName) (kind : AstKind) → KindWith Stands kind
      → All At (port_unknown all (record { space = space; name = name; kind = kind }))
  port_unknown-stands all space name (decls.Alias ltype) is = All-nil At
  port_unknown-stands all space name (decls.Interface listed) is = All-nil At
  port_unknown-stands all space name (decls.Streamlet listed) is = All-nil At
  port_unknown-stands all space name (decls.Impl target body) is = All-nil At
  port_unknown-stands all space name (decls.Test target port value plan) is = by (named_as is_streamlet all space target) refl
    where
      unless : (b : Bool) → All At (cond b [] (port.place ∷ []))
      unless true = All-nil At
      unless false = All-one At port.place is.1

      by : (found : Option ℕ) → named_as is_streamlet all space target ≡ found
          → All At (port_unknown all (record { space = space; name = name; kind = decls.Test target port value plan }))
      by None found = rw found (All-nil At)
      by (Some streamlet) found = rw found (unless (has_port (ports_of all (declaration all streamlet)) port.name))

  unknown-stand : (all : List Declaration) → All Declares all → All At (unknown all)
  unknown-stand all each = All-before At (λ k. refused (is_unknown all) (uses_in (declaration all k)) ++ port_unknown all (declaration all k)) (length all)
      (λ k within. All-append At (refused (is_unknown all) (uses_in (declaration all k))) (port_unknown all (declaration all k))
      (refused-stand (is_unknown all) (declaration all k) (one-declares all each k within))
      (port_unknown-stands all (declaration all k).space (declaration all k).name (declaration all k).kind (one-declares all each k within).kind))

  wrong_kinds-stand : (all : List Declaration) → All Declares all → All At (wrong_kinds all)
  wrong_kinds-stand all each = All-before At (λ k. refused (is_wrong_kind all) (uses_in (declaration all k))) (length all)
      (λ k within. refused-stand (is_wrong_kind all) (declaration all k) (one-declares all each k within))

  -- ---- types, and implementations

  abbrev TypeStands : WrittenType → Type 0
  TypeStands one = At one.place

  port_types-stand : (all : List Declaration) (space : List (List ℕ)) (listed : List AstPort) → All (PortWith Stands) listed → All TypeStands (port_types all space listed)
  port_types-stand all space listed each =
      All-map TypeStands (λ (port : AstPort). record { place = port.name.place; ltype = type_of all space (plain port.ltype); in_port = true }) listed
      (λ k d within. (each k d within).name)

  types-stand : (all : List Declaration) (space : List (List ℕ)) (name : AstName) (kind : AstKind) → At name.place → KindWith Stands kind → All TypeStands (types_of_kind all space name kind)
  types-stand all space name (decls.Alias ltype) at is = All-one TypeStands _ at
  types-stand all space name (decls.Interface listed) at is = port_types-stand all space listed (all_of (PortWith Stands) listed is)
  types-stand all space name (decls.Streamlet (ports.Own listed)) at is = port_types-stand all space listed (all_of (PortWith Stands) listed is)
  types-stand all space name (decls.Streamlet (ports.Named path)) at is = All-nil TypeStands
  types-stand all space name (decls.Impl target body) at is = All-nil TypeStands
  types-stand all space name (decls.Test target port value plan) at is = All-nil TypeStands

  type-stands : (all : List Declaration) → All Declares all → (Is : WrittenType → Type 0) (place : Place) → HasTypeAt Is (written_types all) place → At place
  type-stands all each Is place there = subst At there.at (All-contains TypeStands (written_types all) there.one
      (All-flat_map TypeStands (types_in all) all (λ one within. let here = All-contains Declares all one each within in types-stand all one.space one.name one.kind here.name here.kind))
      there.written)

  target-stands : (all : List Declaration) (space : List (List ℕ)) (name : AstName) (kind : AstKind) (streamlet : ℕ) → KindWith Stands kind
      → implements all (record { space = space; name = name; kind = kind }) ≡ Some streamlet → At (target_place kind)
  target-stands all space name (decls.Alias ltype) streamlet is same = absurd cc
  target-stands all space name (decls.Interface listed) streamlet is same = absurd cc
  target-stands all space name (decls.Streamlet listed) streamlet is same = absurd cc
  target-stands all space name (decls.Impl target body) streamlet is same = path-stands target is.0
  target-stands all space name (decls.Test target port value plan) streamlet is same = absurd cc

  -- ---- each fault

  pub fault-stands : (ast : Ast) → EachIs (NamespaceWith Stands) ast.namespaces → (fault : ResolveFault) → HasFault (declarations ast) fault → At (place_of_fault fault)
  fault-stands ast is fault there = by (declarations ast) (declarations-stand ast is) fault there
    where
      by : (all : List Declaration) → All Declares all → (fault : ResolveFault) → HasFault all fault → At (place_of_fault fault)
      by all each (faults.DeclaredTwice place) there = All-contains At (twice all) place (twice-stand all each) there
      by all each (faults.UnknownName place) there = All-contains At (unknown all) place (unknown-stand all each) there
      by all each (faults.WrongKind place) there = All-contains At (wrong_kinds all) place (wrong_kinds-stand all each) there
      by all each (faults.CyclicType place) there = subst At there.at.at (one-declares all each there.one there.within).name
      by all each (faults.TypeTooLarge place) there = type-stands all each _ place there
      by all each (faults.BadType place fault) there = type-stands all each _ place there
      by all each (faults.PortNotStream place) there = type-stands all each _ place there
      by all each (faults.CyclicInstance place) there =
          let one : Declaration = declaration all there.one in
          subst At there.at.at (target-stands all one.space one.name one.kind there.at.streamlet (one-declares all each there.one there.within).kind there.at.implements)
      by all each faults.Memory there = absurd there
