-- The names of a project that is read from a text are names: those of ports and instances, and those along the paths of physical streams.
use Rattle.std.proofs.Common.{◌≡◌, ℕ, Bool, true, false, List, [], ◌∷◌, All, map, Option, Some, None, IfSome, Ok, IsTrue, Contains, cond, refl, sym, subst}
use Rattle.std.specs.List.{cons_option, filter_map}
use Rattle.std.specs.Option.{option_or}
use Rattle.std.proofs.lemmas.List.Elements.{All-contains}
use Rattle.tydi_base.specs.Name.{is_name}
use Rattle.tydi_reading.specs.Lists.{EachIs}
use Rattle.type_split.specs.Streams.{IsPortSplit, clash_of, split_of, streams_of}
use Rattle.type_split.specs.declared.split.Phys.{Phys}
use Rattle.til_parser.specs.Trees.{HasName, IsBody, IsKind, IsNamespace, IsStmt}
use Rattle.til_parser.specs.declared.tree.Ast.{Ast}
use Rattle.til_parser.specs.declared.tree.AstBody.{AstBody}
use Rattle.til_parser.specs.declared.tree.AstBody.TheVariants as bodies
use Rattle.til_parser.specs.declared.tree.AstKind.{AstKind}
use Rattle.til_parser.specs.declared.tree.AstKind.TheVariants as decls
use Rattle.til_parser.specs.declared.tree.AstName.{AstName}
use Rattle.til_parser.specs.declared.tree.AstPath.{AstPath}
use Rattle.til_parser.specs.declared.tree.AstStmt.{AstStmt}
use Rattle.til_parser.specs.declared.tree.AstStmt.TheVariants as stmts
use Rattle.til_parser.proofs.LawLemmas.{trees-have_form}
use Rattle.til_resolve.specs.Declarations.{Declaration, declarations}
use Rattle.til_resolve.specs.Faults.{IsSound}
use Rattle.til_resolve.specs.Names.{WrittenInstance, instance_at, is_impl_of}
use Rattle.til_resolve.specs.PlainProject.{PlainPort, PlainProject, PlainStreamlet, project_of, streamlet_from}
use Rattle.til_resolve.specs.Project.{body_of, first_of, impl_by, impl_of, instance_of, streamlet_numbers}
use Rattle.til_resolve.specs.SoundProject.{instances_inside}
use Rattle.til_resolve.specs.declared.project.Impl.{Impl}
use Rattle.til_resolve.specs.declared.project.Instance.{Instance}
use Rattle.til_resolve.proofs.PortTypeLemmas.{Contains-mapped, IsMapped}
use Rattle.value_text.specs.Laws.{PortSplitsAreNamed}
use Rattle.vhdl_writer.specs.Clashes.{clash_in, first_clash}
use Rattle.vhdl_writer.specs.WiringLaws.{HasNames}
use Rattle.tydi_tool.specs.Projects.{ReadsProject}
use Rattle.tydi_tool.proofs.FormLemmas.{IsDeclared, IsPortFormed, all-declared, each-inside, form-names, project-formed, streamlet-written, tree-of}

-- ---- lists of things that are such

-- what is kept of such things
each-kept : {A B : Type 0} (Is : A → Type 0) (Kept : B → Type 0) (keep : A → Option B) → ((x : A) → Is x → IfSome (keep x) Kept) → (xs : List A) → EachIs Is xs
    → EachIs Kept (filter_map keep xs)
each-kept Is Kept keep one [] each = tt
each-kept {A} {B} Is Kept keep one (x ∷ xs) each = by (keep x) (one x each.0) (each-kept Is Kept keep one xs each.1)
  where
    by : (kept : Option B) → IfSome kept Kept → EachIs Kept (filter_map keep xs) → EachIs Kept (cons_option kept (filter_map keep xs))
    by None is rest = rest
    by (Some y) is rest = (is, rest)

-- the first of them
first-each : {A : Type 0} (Is : A → Type 0) (xs : List A) → EachIs Is xs → IfSome (first_of xs) Is
first-each Is [] each = tt
first-each Is (x ∷ xs) each = each.0

-- ---- instances

abbrev IsNamedInstance : Instance → Type 0
IsNamedInstance one = IsTrue (is_name one.name)

statement-named : (stmt : AstStmt) → IsStmt stmt → IfSome (instance_at stmt) (λ (one : WrittenInstance). HasName one.name)
statement-named (stmts.Instance name streamlet) is = is.0
statement-named (stmts.Link first second) is = tt

instances-named : (all : List Declaration) (space : List (List ℕ)) (written : List WrittenInstance)
    → EachIs (λ (one : WrittenInstance). HasName one.name) written → EachIs IsNamedInstance (map (instance_of all space) written)
instances-named all space [] each = tt
instances-named all space (one ∷ more) each = (each.0, instances-named all space more each.1)

-- an implementation whose instances have names
abbrev IsNamedBody : Impl → Type 0
IsNamedBody body = EachIs IsNamedInstance (instances_inside (Some body))

body-named : (all : List Declaration) (space : List (List ℕ)) (target : AstPath) (body : AstBody) → IsBody body → IsNamedBody (impl_of all space target body)
body-named all space target (bodies.Linked text) is = tt
body-named all space target (bodies.Structural written) is =
    instances-named all space (filter_map instance_at written)
    (each-kept IsStmt (λ (one : WrittenInstance). HasName one.name) instance_at statement-named written is)

module _ (all : List Declaration) (number : ℕ) where
  -- the implementation that a declaration is of the streamlet of this number
  declared-named : (space : List (List ℕ)) (name : AstName) (kind : AstKind) → IsKind kind
      → IfSome (impl_by all number (record { space = space; name = name; kind = kind })) IsNamedBody
  declared-named space name (decls.Alias ltype) is = tt
  declared-named space name (decls.Interface listed) is = tt
  declared-named space name (decls.Streamlet listed) is = tt
  declared-named space name (decls.Test target port value plan) is = tt
  declared-named space name (decls.Impl target body) is =
      by (is_impl_of all number (record { space = space; name = name; kind = decls.Impl target body })) (body-named all space target body is.1)
    where
      by : (test : Bool) → IsNamedBody (impl_of all space target body) → IfSome (cond test (Some (impl_of all space target body)) None) IsNamedBody
      by true is = is
      by false is = tt

  -- the instances of that streamlet
  inside-named : EachIs IsDeclared all → EachIs IsNamedInstance (instances_inside (body_of all number))
  inside-named each =
      by (body_of all number) (first-each IsNamedBody (filter_map (impl_by all number) all)
      (each-kept IsDeclared IsNamedBody (impl_by all number) (λ one is. declared-named one.space one.name one.kind is) all each))
    where
      by : (body : Option Impl) → IfSome body IsNamedBody → EachIs IsNamedInstance (instances_inside body)
      by None is = tt
      by (Some body) is = is

-- ---- ports of which no two physical streams have one path

abbrev IsApart : PlainPort → Type 0
IsApart port = clash_of port.ltype ≡ None

abbrev HasPortsApart : PlainStreamlet → Type 0
HasPortsApart one = EachIs IsApart one.ports

ports-apart : (ports : List PlainPort) → clash_in ports ≡ None → EachIs IsApart ports
ports-apart [] none = tt
ports-apart (port ∷ more) none = by (clash_of port.ltype) refl none (ports-apart more)
  where
    by : (clash : Option (List (List ℕ))) → clash_of port.ltype ≡ clash → option_or clash (clash_in more) ≡ None → (clash_in more ≡ None → EachIs IsApart more)
        → EachIs IsApart (port ∷ more)
    by None is none rest = (is, rest none)
    by (Some path) is none rest = absurd cc

streamlets-apart : (streamlets : List PlainStreamlet) → first_clash streamlets ≡ None → EachIs HasPortsApart streamlets
streamlets-apart [] none = tt
streamlets-apart (one ∷ more) none = by (clash_in one.ports) refl none (streamlets-apart more)
  where
    by : (clash : Option (List (List ℕ))) → clash_in one.ports ≡ clash → option_or clash (first_clash more) ≡ None
        → (first_clash more ≡ None → EachIs HasPortsApart more) → EachIs HasPortsApart (one ∷ more)
    by None is none rest = (ports-apart one.ports is, rest none)
    by (Some path) is none rest = absurd cc

-- ---- all names of a streamlet

module _ (splits_named : PortSplitsAreNamed) where
  -- the paths of the physical streams of a port
  streams-named : (port : PlainPort) → IsPortFormed port.ltype → IsApart port → (stream : Phys) → Contains (streams_of port.ltype) stream
      → All (λ name. IsTrue (is_name name)) stream.path
  streams-named port formed apart stream there =
      All-contains (λ (one : Phys). All (λ name. IsTrue (is_name name)) one.path) (streams_of port.ltype) stream
      (splits_named (split_of port.ltype) split (form-names port.ltype formed.form)).streams there
    where
      split : IsPortSplit (split_of port.ltype)
      split = record { ltype = port.ltype; port = formed.port; valid = formed.valid.valid; few = formed.valid.few; apart = apart; is = refl }

  project-named : (ast : Ast) → IsSound ast → EachIs IsNamespace ast.namespaces → first_clash (project_of ast).streamlets ≡ None
      → (streamlet : PlainStreamlet) → Contains (project_of ast).streamlets streamlet → HasNames streamlet
  project-named ast sound each apart streamlet there = record {
    ports = λ port inside.
        let written = streamlet-written all declared at.one port (of_it port inside) in
        subst (λ (p : PlainPort). IsTrue (is_name p.name)) written.same written.written.name;
    streams = λ port stream inside stream_there. streams-named port (project-formed ast sound each streamlet port there inside)
        (each-inside IsApart streamlet.ports port
        (each-inside HasPortsApart (project_of ast).streamlets streamlet (streamlets-apart (project_of ast).streamlets apart) there) inside)
        stream stream_there;
    instances = λ instance inside. each-inside IsNamedInstance (instances_inside (body_of all at.one)) instance (inside-named all at.one declared)
        (subst (λ (s : PlainStreamlet). Contains (instances_inside s.body) instance) (sym at.same) inside);
  }
    where
      all : List Declaration
      all = declarations ast

      declared : EachIs IsDeclared all
      declared = all-declared ast.namespaces each

      at : IsMapped (streamlet_from (declarations ast)) (streamlet_numbers (declarations ast)) streamlet
      at = Contains-mapped (streamlet_from all) (streamlet_numbers all) streamlet there

      of_it : (port : PlainPort) → Contains streamlet.ports port → Contains (streamlet_from all at.one).ports port
      of_it port inside = subst (λ (s : PlainStreamlet). Contains s.ports port) (sym at.same) inside

  -- ---- the text of a project

  pub read-named : (word bytes : List ℕ) (read : PlainProject) → ReadsProject word bytes (Ok read) → first_clash read.streamlets ≡ None
      → (streamlet : PlainStreamlet) → Contains read.streamlets streamlet → HasNames streamlet
  read-named word bytes read reads apart =
      subst (λ (p : PlainProject). (streamlet : PlainStreamlet) → Contains p.streamlets streamlet → HasNames streamlet) (sym reads.1.1.1)
      (project-named reads.0 reads.1.1.0 (trees-have_form bytes reads.0 (tree-of word bytes reads.0 reads.1.0)).spellable.each
      (subst (λ (p : PlainProject). first_clash p.streamlets ≡ None) reads.1.1.1 apart))
