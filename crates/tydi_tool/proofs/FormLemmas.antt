-- The types of the ports of a project are Streams, and in form: the text of the project spells them.
use Rattle.std.proofs.Common.{◌≡◌, ◌∙◌, ℕ, zero, suc, ◌<◌, Bool, true, false, not, List, [], ◌∷◌, ◌++◌, map, length, get_or, Option, Some, None, option_and_then, Result, Ok, Err, IsTrue, Contains, refl, sym, ap, subst, inl, inr, arith}
use Rattle.std.specs.List.{flat_map}
use Rattle.std.specs.Str.{is_utf8}
use Rattle.std.proofs.lemmas.List.Elements.{Contains-append_left, Contains-append_right}
use Rattle.std.proofs.lemmas.Str.{IsUtf8-from_is_utf8}
use Rattle.tydi_reading.specs.Lists.{EachIs}
use Rattle.tydi_base.specs.declared.place.Place.{Place}
use Rattle.logical_types.specs.Tree.{Ltype, null, bits, group, union, stream}
use Rattle.type_split.specs.Streams.{IsPortSplit, IsStream, PlainSplit, clash_of, split_of}
use Rattle.til_lexer.specs.Tokens.{tokens_of}
use Rattle.til_lexer.specs.declared.fault.LexFault.{LexFault}
use Rattle.til_lexer.specs.declared.token.Token.{Token}
use Rattle.til_parser.specs.Laws.{IsTreeOf}
use Rattle.til_parser.specs.Tree as tree
use Rattle.til_parser.specs.Tree.{plain}
use Rattle.til_parser.specs.Trees.{AreParts, DeclWith, HasName, IsKind, IsNamespace, IsPort, IsType}
use Rattle.til_parser.specs.declared.tree.Ast.{Ast}
use Rattle.til_parser.specs.declared.tree.AstDecl.{AstDecl}
use Rattle.til_parser.specs.declared.tree.AstKind.{AstKind}
use Rattle.til_parser.specs.declared.tree.AstKind.TheVariants as decls
use Rattle.til_parser.specs.declared.tree.AstName.{AstName}
use Rattle.til_parser.specs.declared.tree.AstNamespace.{AstNamespace}
use Rattle.til_parser.specs.declared.tree.AstPort.{AstPort}
use Rattle.til_parser.specs.declared.tree.AstPorts.TheVariants as ports
use Rattle.til_parser.proofs.LawLemmas.{trees-have_form}
use Rattle.til_resolve.specs.Declarations.{Declaration, PortOf, declaration, declarations, declared_in, is_interface, names_of, named, named_as, nowhere, ports_in, ports_of, ports_of_number}
use Rattle.til_resolve.specs.Faults.{HasTypeAt, IsSound, WrittenType, port_types, types_in, types_of_kind, written_types}
use Rattle.til_resolve.specs.Lookups.{or_else}
use Rattle.til_resolve.specs.Paths.{is_same_path}
use Rattle.til_resolve.specs.PlainProject.{PlainPort, PlainProject, PlainStreamlet, plain_port_at, plain_port_in, port_from, project_of, streamlet_from}
use Rattle.til_resolve.specs.Project.{streamlet_numbers}
use Rattle.til_resolve.specs.PortTypes.{IsPortType, type_of_port}
use Rattle.til_resolve.specs.declared.fault.ResolveFault.TheVariants as faults
use Rattle.til_resolve.specs.Types.{is_stream, meaning_of, replaced, replaced_parts, type_by, type_of, type_of_number}
use Rattle.til_resolve.proofs.PortTypeLemmas.{Contains-found, Contains-mapped, ports-valid}
use Rattle.port_drive.specs.Forms.{ArePartsInForm, IsTypeInForm}
use Rattle.logical_types.specs.Tree as types
use Rattle.value_text.specs.Printable.{HasNames, HaveNames}
use Rattle.tydi_tool.specs.Ports.{port_named, port_path, split_at, split_found, split_unless}
use Rattle.tydi_tool.specs.Projects.{ReadsProject}
use Rattle.tydi_tool.specs.Trees.{ReadsCoded, ReadsTokens, ReadsTree, refusal_of_parsing}
use Rattle.tydi_tool.specs.Refusals.{Refusal, refusal_of_lexing}
use Rattle.tydi_tool.proofs.AnswerLemmas.{not_read, same_ok}

-- ---- lists of things that are such

pub each-append : {A : Type 0} (Is : A → Type 0) (xs ys : List A) → EachIs Is xs → EachIs Is ys → EachIs Is (xs ++ ys)
each-append Is [] ys front back = back
each-append Is (x ∷ xs) ys front back = (front.0, each-append Is xs ys front.1 back)

pub each-at : {A : Type 0} (Is : A → Type 0) (xs : List A) (number : ℕ) (other : A) → EachIs Is xs → Is other → Is (get_or xs number other)
each-at Is [] zero other each is = is
each-at Is [] (suc number) other each is = is
each-at Is (x ∷ xs) zero other each is = each.0
each-at Is (x ∷ xs) (suc number) other each is = each-at Is xs number other each.1 is

pub each-inside : {A : Type 0} (Is : A → Type 0) (xs : List A) (x : A) → EachIs Is xs → Contains xs x → Is x
each-inside {A} Is xs x each there = by xs there.0 each there.1 there.2
  where
    by : (rest : List A) (number : ℕ) → EachIs Is rest → number < length rest → get_or rest number x ≡ x → Is x
    by [] number all within same = absurd (omega (arith, within))
    by (one ∷ rest) zero all within same = subst Is same all.0
    by (one ∷ rest) (suc number) all within same = by rest number all.1 (omega (arith, within)) same

-- ---- a written type, its paths replaced

module _ (meaning : List AstName → Ltype) (meant : (names : List AstName) → IsTypeInForm (meaning names)) where
  mutual
    replaced-form : (ltype : tree.Ltype) → IsType ltype → IsTypeInForm (replaced meaning ltype)
    replaced-form tree.null is = tt
    replaced-form (tree.bits width) is = tt
    replaced-form (tree.group parts) is = parts-form parts is
    replaced-form (tree.union parts) is = parts-form parts is
    replaced-form (tree.stream element user settings) is =
        (replaced-form element is.0, record { throughput = is.2.throughput.spelled.value.terms.some; level = is.2.level })
    replaced-form (tree.path names) is = meant names

    parts-form : (parts : tree.Parts) → AreParts parts → ArePartsInForm (replaced_parts meaning parts)
    parts-form tree.no_parts is = tt
    parts-form (tree.part name ltype more) is = (is.0, replaced-form ltype is.1, parts-form more is.2)

-- ---- the types that declarations mean

-- a declaration of such a kind
abbrev pub IsDeclared : Declaration → Type 0
IsDeclared one = IsKind one.kind

pub declared-at : (all : List Declaration) (number : ℕ) → EachIs IsDeclared all → IsDeclared (declaration all number)
declared-at all number each = each-at IsDeclared all number (record { space = []; name = record { name = []; place = nowhere }; kind = decls.Interface [] }) each tt

by-kind : (meaning : List (List ℕ) → List AstName → Ltype) → ((space : List (List ℕ)) (names : List AstName) → IsTypeInForm (meaning space names)) → (space : List (List ℕ)) (name : AstName) (kind : AstKind) → IsKind kind
    → IsTypeInForm (type_by meaning (record { space = space; name = name; kind = kind }))
by-kind meaning meant space name (decls.Alias ltype) is = replaced-form (meaning space) (meant space) (plain ltype) is
by-kind meaning meant space name (decls.Interface listed) is = tt
by-kind meaning meant space name (decls.Streamlet listed) is = tt
by-kind meaning meant space name (decls.Impl target body) is = tt
by-kind meaning meant space name (decls.Test target port value plan) is = tt

module _ (all : List Declaration) (each : EachIs IsDeclared all) where
  meaning-form : (fuel : ℕ) (space : List (List ℕ)) (names : List AstName) → IsTypeInForm (meaning_of all fuel space names)
  meaning-form zero space names = tt
  meaning-form (suc less) space names = by (meaning-form less) (named all space (record { names = names }))
    where
      by : ((inner : List (List ℕ)) (path : List AstName) → IsTypeInForm (meaning_of all less inner path)) → (found : Option ℕ) → IsTypeInForm (type_of_number (λ inner. meaning_of all less inner) all found)
      by meant None = tt
      by meant (Some number) = by-kind (λ inner. meaning_of all less inner) meant (declaration all number).space (declaration all number).name (declaration all number).kind (declared-at all number each)

  type-form : (space : List (List ℕ)) (ltype : tree.Ltype) → IsType ltype → IsTypeInForm (type_of all space ltype)
  type-form space ltype is = replaced-form (meaning_of all (length all) space) (meaning-form (length all) space) ltype is

  -- ---- the ports of streamlets

  -- a port that is written in form
  abbrev IsWritten : PortOf → Type 0
  IsWritten one = IsPort one.port

  ports-written : (space : List (List ℕ)) (listed : List AstPort) → EachIs IsPort listed → EachIs IsWritten (map (λ (port : AstPort). record { space = space; port = port }) listed)
  ports-written space [] is = tt
  ports-written space (port ∷ listed) is = (is.0, ports-written space listed is.1)

  own-written : (space : List (List ℕ)) (name : AstName) (kind : AstKind) → IsKind kind → EachIs IsWritten (ports_in (record { space = space; name = name; kind = kind }))
  own-written space name (decls.Alias ltype) is = tt
  own-written space name (decls.Interface listed) is = ports-written space listed is
  own-written space name (decls.Streamlet (ports.Own listed)) is = ports-written space listed is
  own-written space name (decls.Streamlet (ports.Named path)) is = tt
  own-written space name (decls.Impl target body) is = tt
  own-written space name (decls.Test target port value plan) is = tt

  number-written : (found : Option ℕ) → EachIs IsWritten (ports_of_number all found)
  number-written None = tt
  number-written (Some number) = own-written (declaration all number).space (declaration all number).name (declaration all number).kind (declared-at all number each)

  all-written : (space : List (List ℕ)) (name : AstName) (kind : AstKind) → IsKind kind → EachIs IsWritten (ports_of all (record { space = space; name = name; kind = kind }))
  all-written space name (decls.Alias ltype) is = tt
  all-written space name (decls.Interface listed) is = tt
  all-written space name (decls.Streamlet (ports.Own listed)) is = ports-written space listed is
  all-written space name (decls.Streamlet (ports.Named path)) is = number-written (named_as is_interface all space path)
  all-written space name (decls.Impl target body) is = tt
  all-written space name (decls.Test target port value plan) is = tt

  -- a port of a project is one that is written in form
  pub record IsFormed (port : PlainPort) : Type 0 where
    pub one : PortOf
    pub written : IsWritten one
    pub same : port_from all one ≡ port

  -- so is each port of the streamlet of a number
  pub streamlet-written : (number : ℕ) (port : PlainPort) → Contains (streamlet_from all number).ports port → IsFormed port
  streamlet-written number port there =
      let it : Declaration = declaration all number in
      let one = Contains-mapped (port_from all) (ports_of all it) port there in
      record {
        one = one.one;
        written = each-inside IsWritten (ports_of all it) one.one (all-written it.space it.name it.kind (declared-at all number each)) one.inside;
        same = one.same;
      }

  -- its type is in form
  streamlet-form : (number : ℕ) (port : PlainPort) → Contains (streamlet_from all number).ports port → IsTypeInForm port.ltype
  streamlet-form number port there =
      let written = streamlet-written number port there in
      subst (λ (p : PlainPort). IsTypeInForm p.ltype) written.same (type-form written.one.space (plain written.one.port.ltype) written.written.ltype)

-- ---- the types of ports are Streams

module _ (all : List Declaration) where
  -- the type of a port is one of those that a tree writes
  abbrev IsAmong : PortOf → Type 0
  IsAmong one = Contains (written_types all) (record { place = one.port.name.place; ltype = type_of_port all one; in_port = true })

  listed-among : (space : List (List ℕ)) (listed : List AstPort) → ((x : WrittenType) → Contains (port_types all space listed) x → Contains (written_types all) x)
      → EachIs IsAmong (map (λ (port : AstPort). record { space = space; port = port }) listed)
  listed-among space [] inside = tt
  listed-among space (port ∷ listed) inside = (
    inside (record { place = port.name.place; ltype = type_of all space (plain port.ltype); in_port = true }) (0, omega arith, refl),
    listed-among space listed (λ x there. inside x (suc there.0, omega (arith, there.1), there.2)),
  )

  own-among : (space : List (List ℕ)) (name : AstName) (kind : AstKind) → ((x : WrittenType) → Contains (types_of_kind all space name kind) x → Contains (written_types all) x)
      → EachIs IsAmong (ports_in (record { space = space; name = name; kind = kind }))
  own-among space name (decls.Alias ltype) inside = tt
  own-among space name (decls.Interface listed) inside = listed-among space listed inside
  own-among space name (decls.Streamlet (ports.Own listed)) inside = listed-among space listed inside
  own-among space name (decls.Streamlet (ports.Named path)) inside = tt
  own-among space name (decls.Impl target body) inside = tt
  own-among space name (decls.Test target port value plan) inside = tt

  -- the ports that a declaration writes out
  abbrev AreAmong : Declaration → Type 0
  AreAmong one = EachIs IsAmong (ports_in one)

  each-among : (some : List Declaration) → ((x : WrittenType) → Contains (flat_map (types_in all) some) x → Contains (written_types all) x) → EachIs AreAmong some
  each-among [] inside = tt
  each-among (one ∷ some) inside = (
    own-among one.space one.name one.kind (λ x there. inside x (Contains-append_left (types_in all one) (flat_map (types_in all) some) x there)),
    each-among some (λ x there. inside x (Contains-append_right (types_in all one) (flat_map (types_in all) some) x there)),
  )

  among-at : (number : ℕ) → AreAmong (declaration all number)
  among-at number = each-at AreAmong all number (record { space = []; name = record { name = []; place = nowhere }; kind = decls.Interface [] }) (each-among all (λ x there. there)) tt

  number-among : (found : Option ℕ) → EachIs IsAmong (ports_of_number all found)
  number-among None = tt
  number-among (Some number) = among-at number

  all-among : (space : List (List ℕ)) (name : AstName) (kind : AstKind) → AreAmong (record { space = space; name = name; kind = kind }) → EachIs IsAmong (ports_of all (record { space = space; name = name; kind = kind }))
  all-among space name (decls.Alias ltype) own = tt
  all-among space name (decls.Interface listed) own = tt
  all-among space name (decls.Streamlet (ports.Own listed)) own = own
  all-among space name (decls.Streamlet (ports.Named path)) own = number-among (named_as is_interface all space path)
  all-among space name (decls.Impl target body) own = tt
  all-among space name (decls.Test target port value plan) own = tt

  -- the type of each port of the streamlet of a number
  streamlet-stream : ((place : Place) → HasTypeAt (λ one. IsTrue one.in_port × IsTrue (not (is_stream one.ltype))) (written_types all) place → ⊥) → (number : ℕ) (port : PlainPort) → Contains (streamlet_from all number).ports port
      → is_stream port.ltype ≡ true
  streamlet-stream sound number port there =
      let it : Declaration = declaration all number in
      let one = Contains-mapped (port_from all) (ports_of all it) port there in
      subst (λ (p : PlainPort). is_stream p.ltype ≡ true) one.same
      (by one.one (is_stream (type_of_port all one.one)) refl (each-inside IsAmong (ports_of all it) one.one (all-among it.space it.name it.kind (among-at number)) one.inside))
    where
      by : (one : PortOf) (test : Bool) → is_stream (type_of_port all one) ≡ test → IsAmong one → is_stream (type_of_port all one) ≡ true
      by one true is among = is
      by one false is among = absurd (sound one.port.name.place (record {
        one = record { place = one.port.name.place; ltype = type_of_port all one; in_port = true };
        written = among;
        at = refl;
        is = (refl, ap not is);
      }))

pub stream-of : (ltype : Ltype) → is_stream ltype ≡ true → IsStream ltype
stream-of null is = absurd cc
stream-of (bits width) is = absurd cc
stream-of (group parts) is = absurd cc
stream-of (union parts) is = absurd cc
stream-of (stream element user settings) is = record { element = element; user = user; settings = settings; is = refl }

-- ---- the declarations of a tree

decls-declared : (space : List (List ℕ)) (listed : List AstDecl) → EachIs (DeclWith HasName) listed → EachIs IsDeclared (map (λ (decl : AstDecl). record { space = space; name = decl.name; kind = decl.kind }) listed)
decls-declared space [] is = tt
decls-declared space (decl ∷ listed) is = (is.0.kind, decls-declared space listed is.1)

pub all-declared : (namespaces : List AstNamespace) → EachIs IsNamespace namespaces → EachIs IsDeclared (flat_map declared_in namespaces)
all-declared [] is = tt
all-declared (namespace ∷ more) is =
    each-append IsDeclared (declared_in namespace) (flat_map declared_in more) (decls-declared (names_of namespace.path) namespace.decls is.0.decls) (all-declared more is.1)

-- ---- the ports of a project

-- the type of a port is a Stream, valid and in form
pub record IsPortFormed (ltype : Ltype) : Type 0 where
  pub port : IsStream ltype
  pub valid : IsPortType ltype
  pub form : IsTypeInForm ltype

-- so are those of all ports of a project
abbrev pub AreFormed : PlainProject → Type 0
AreFormed project = (streamlet : PlainStreamlet) (port : PlainPort) → Contains project.streamlets streamlet → Contains streamlet.ports port → IsPortFormed port.ltype

pub project-formed : (ast : Ast) → IsSound ast → EachIs IsNamespace ast.namespaces → AreFormed (project_of ast)
project-formed ast sound each streamlet port there inside =
    let all = declarations ast in
    let at = Contains-mapped (streamlet_from all) (streamlet_numbers all) streamlet there in
    let of_it : Contains (streamlet_from all at.one).ports port = subst (λ (s : PlainStreamlet). Contains s.ports port) (sym at.same) inside in
    record {
      port = stream-of port.ltype (streamlet-stream all (λ place fault. sound (faults.PortNotStream place) fault) at.one port of_it);
      valid = (ports-valid ast sound).each streamlet port there inside;
      form = streamlet-form all (all-declared ast.namespaces each) at.one port of_it;
    }

-- a port that is found is one of them
found-formed : (streamlets : List PlainStreamlet) (path : List (List ℕ)) (port : PlainPort)
    → ((streamlet : PlainStreamlet) (one : PlainPort) → Contains streamlets streamlet → Contains streamlet.ports one → IsPortFormed one.ltype)
    → plain_port_at streamlets path ≡ Some port → IsPortFormed port.ltype
found-formed [] path port formed is = absurd cc
found-formed (streamlet ∷ more) path port formed is =
    by (plain_port_in streamlet path) refl is (found-formed more path port (λ s one there inside. formed s one (suc there.0, omega (arith, there.1), there.2) inside))
  where
    by : (found : Option PlainPort) → plain_port_in streamlet path ≡ found → or_else found (plain_port_at more path) ≡ Some port → (plain_port_at more path ≡ Some port → IsPortFormed port.ltype) → IsPortFormed port.ltype
    by None found is rest = rest is
    by (Some one) found is rest =
        let same : one ≡ port = cc in
        formed streamlet port (0, omega arith, refl)
        (Contains-found (λ (p : PlainPort). is_same_path (streamlet.path ++ p.name ∷ []) path) streamlet.ports port (found ∙ ap (λ (p : PlainPort). Some p) same))

-- ---- the text of a project

pub tree-of : (word bytes : List ℕ) (ast : Ast) → ReadsTree word bytes (Ok ast) → IsTreeOf bytes ast
tree-of word bytes ast reads = by (is_utf8 bytes) refl reads
  where
    by_tokens : (lexed : Result (List Token) LexFault) → is_utf8 bytes ≡ true → tokens_of bytes ≡ lexed → ReadsTokens word bytes lexed (Ok ast) → IsTreeOf bytes ast
    by_tokens (Ok tokens) coded is (inl tree) =
        let same = same_ok ast tree.ast tree.says in
        subst (IsTreeOf bytes) (sym same) (record { utf8 = IsUtf8-from_is_utf8 bytes coded; tokens = tokens; lexed = is; spelled = tree.is.spelled })
    by_tokens (Ok tokens) coded is (inr none) = absurd (not_read (refusal_of_parsing word tokens none.fault) ast none.says)
    by_tokens (Err fault) coded is refused = absurd (not_read (refusal_of_lexing word fault) ast refused)

    by : (coded : Bool) → is_utf8 bytes ≡ coded → ReadsCoded word bytes coded (Ok ast) → IsTreeOf bytes ast
    by true coded reads = by_tokens (tokens_of bytes) coded refl reads
    by false coded reads = absurd cc

-- the types of the ports of a project that is read from a text
pub read-formed : (word bytes : List ℕ) (read : PlainProject) → ReadsProject word bytes (Ok read) → AreFormed read
read-formed word bytes read reads = subst AreFormed (sym reads.1.1.1) (project-formed reads.0 reads.1.1.0
    (trees-have_form bytes reads.0 (tree-of word bytes reads.0 reads.1.0)).spellable.each)

-- and of one that a word names
pub port-formed : (word bytes : List ℕ) (read : PlainProject) (port : List ℕ) (found : PlainPort) → ReadsProject word bytes (Ok read) → port_named read port ≡ Some found → IsPortFormed found.ltype
port-formed word bytes read port found reads is = by (port_path port) is
  where
    by : (path : Option (List (List ℕ))) → option_and_then (plain_port_at read.streamlets) path ≡ Some found → IsPortFormed found.ltype
    by None none = absurd cc
    by (Some path) is = found-formed read.streamlets path found (read-formed word bytes read reads) is

-- ---- the split of a port

same_split : (one other : PlainSplit) → ◌≡◌ {A = Result PlainSplit Refusal} (Ok one) (Ok other) → one ≡ other
same_split one other e = cc

-- a split that is found is that of a port of a project that is read
pub port-split : (word bytes : List ℕ) (read : PlainProject) (port : List ℕ) (split : PlainSplit) → ReadsProject word bytes (Ok read) → split_at read port ≡ Ok split → IsPortSplit split
port-split word bytes read port split reads is = by (port_named read port) refl is
  where
    by_clash : (ltype : Ltype) → IsPortFormed ltype → (clash : Option (List (List ℕ))) → clash_of ltype ≡ clash → split_unless ltype clash ≡ Ok split → IsPortSplit split
    by_clash ltype formed None apart is =
        record { ltype = ltype; port = formed.port; valid = formed.valid.valid; few = formed.valid.few; apart = apart; is = sym (same_split (split_of ltype) split is) }
    by_clash ltype formed (Some path) apart is = absurd cc

    by : (found : Option PlainPort) → port_named read port ≡ found → split_found port found ≡ Ok split → IsPortSplit split
    by None none is = absurd cc
    by (Some found) some is = by_clash found.ltype (port-formed word bytes read port found reads some) (clash_of found.ltype) refl is

-- ---- names

mutual
  -- the fields and variants of a type in form have names
  pub form-names : (ltype : Ltype) → IsTypeInForm ltype → HasNames ltype
  form-names null is = tt
  form-names (bits width) is = tt
  form-names (group parts) is = form-named parts is
  form-names (union parts) is = form-named parts is
  form-names (stream element user settings) is = form-names element is.0

  form-named : (parts : types.Parts) → ArePartsInForm parts → HaveNames parts
  form-named types.no_parts is = tt
  form-named (types.part name ltype more) is = (is.0, form-names ltype is.1, form-named more is.2)
