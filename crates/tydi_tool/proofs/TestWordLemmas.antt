-- Each test of a project that is read drives a port, and this port has a word that names it.
use Rattle.std.proofs.Common.{◌≡◌, ◌≢◌, ℕ, zero, suc, ◌<◌, Bool, true, false, ◌&&◌, cond, List, [], ◌∷◌, ◌++◌, All, map, filter, find, length, get_or, slice_get, Option, Some, None, option_and_then, Ok, IsTrue, Contains, refl, sym, ap, ◌∙◌, subst, arith}
use Rattle.std.specs.Prelude.{codes}
use Rattle.std.specs.Cmp.Lexicographic.{bytes_decides, pointwise_decides}
use Rattle.std.specs.List.{flat_map, list_all, range_with_len}
use Rattle.std.specs.Str.{bytes_eq}
use Rattle.std.proofs.lemmas.List.{length-append}
use Rattle.std.proofs.lemmas.List.Elements.{All-append, All-cons, All-head, All-nil}
use Rattle.std.proofs.lemmas.Option.{cond_some}
use Rattle.std.proofs.lemmas.Slice.Eq.{bytes_eq-Decides}
use Rattle.tydi_base.specs.Name.{is_name}
use Rattle.tydi_base.specs.Path.{colon_text, names_of as names_at}
use Rattle.tydi_base.specs.Pieces.{Lacks, pieces_of}
use Rattle.tydi_base.proofs.PathLaws.{path_at-colon_text, path_of-path_text}
use Rattle.tydi_base.proofs.PieceLaws.{pieces_of-append, pieces_of-each_lacks}
use Rattle.tydi_reading.specs.Lists.{EachIs}
use Rattle.til_parser.specs.Trees.{DeclWith, HasName, IsNamespace}
use Rattle.til_parser.specs.declared.tree.Ast.{Ast}
use Rattle.til_parser.specs.declared.tree.AstDecl.{AstDecl}
use Rattle.til_parser.specs.declared.tree.AstKind.TheVariants as decls
use Rattle.til_parser.specs.declared.tree.AstName.{AstName}
use Rattle.til_parser.specs.declared.tree.AstNamespace.{AstNamespace}
use Rattle.til_parser.proofs.LawLemmas.{trees-have_form}
use Rattle.til_resolve.specs.Declarations.{Declaration, declaration, declarations, declared_in, is_streamlet, names_of, nowhere, path_of}
use Rattle.til_resolve.specs.Lookups.{or_else}
use Rattle.til_resolve.specs.Paths.{is_same_path}
use Rattle.til_resolve.specs.PlainProject.{PlainPort, PlainProject, PlainStreamlet, plain_port_at, plain_port_in, project_of, streamlet_from}
use Rattle.til_resolve.specs.Project.{streamlet_numbers}
use Rattle.til_resolve.specs.SoundProject.{DrivesPort, IsSoundProject}
use Rattle.til_resolve.specs.declared.project.Test.{Test}
use Rattle.til_resolve.proofs.PortTypeLemmas.{Contains-mapped}
use Rattle.tydi_tool.specs.Ports.{port_path, with_name}
use Rattle.tydi_tool.specs.Projects.{ReadsProject}
use Rattle.tydi_tool.specs.Tests.{HasPortWord, port_word, tested_port, tested_word}
use Rattle.tydi_tool.proofs.FormLemmas.{IsDeclared, all-declared, each-append, each-at, streamlet-written, tree-of}
use Rattle.tydi_tool.proofs.PortLemmas.{port-word}
use Rattle.tydi_tool.proofs.ProjectLemmas.{ReadsProject-sound}
use Rattle.tydi_tool.proofs.TestLemmas.{inside-at, port-there}

-- ---- the word of a path and a name

abbrev IsName : List ℕ → Type 0
IsName name = IsTrue (is_name name)

-- no name has a point in it
name-lacks : (name : List ℕ) → IsName name → Lacks 46 name
name-lacks name is = All-head (Lacks 46) name [] (subst (All (Lacks 46)) pieces (pieces_of-each_lacks 46 name))
  where
    by : (dash : Bool) → cond dash (Some []) (names_at false name) ≡ Some (name ∷ []) → pieces_of 46 name ≡ name ∷ []
    by true e = absurd cc
    by false e = (cond_some (list_all is_name (pieces_of 46 name)) (pieces_of 46 name) (name ∷ []) e).1

    pieces : pieces_of 46 name ≡ name ∷ []
    pieces = by (bytes_eq name (codes "-")) (path_of-path_text (name ∷ []) (All-cons IsName name [] is (All-nil IsName)))

more-lack : (names : List (List ℕ)) → EachIs IsName names → Lacks 46 (flat_map (λ next. 58 ∷ 58 ∷ next) names)
more-lack [] each = All-nil (λ byte. byte ≢ 46)
more-lack (name ∷ names) each =
    All-append (λ byte. byte ≢ 46) (58 ∷ 58 ∷ name) (flat_map (λ next. 58 ∷ 58 ∷ next) names)
    (All-cons (λ byte. byte ≢ 46) 58 (58 ∷ name) (omega arith) (All-cons (λ byte. byte ≢ 46) 58 name (omega arith) (name-lacks name each.0))) (more-lack names each.1)

path-lacks : (names : List (List ℕ)) → EachIs IsName names → Lacks 46 (colon_text names)
path-lacks [] each = All-cons (λ byte. byte ≢ 46) 45 [] (omega arith) (All-nil (λ byte. byte ≢ 46))
path-lacks (name ∷ names) each =
    All-append (λ byte. byte ≢ 46) name (flat_map (λ next. 58 ∷ 58 ∷ next) names) (name-lacks name each.0) (more-lack names each.1)

all-names : (names : List (List ℕ)) → EachIs IsName names → All IsName names
all-names [] each = All-nil IsName
all-names (name ∷ names) each = All-cons IsName name names each.0 (all-names names each.1)

word-path : (names : List (List ℕ)) (name : List ℕ) → 0 < length names → EachIs IsName names → IsName name → port_path (colon_text names ++ 46 ∷ name) ≡ Some (names ++ name ∷ [])
word-path names name some each is =
    port-word (colon_text names ++ 46 ∷ name) (colon_text names) name (pieces_of-append 46 (colon_text names) name (path-lacks names each))
    ∙ ap (λ (o : Option (List (List ℕ))). with_name o name) (path_at-colon_text names some (all-names names each))
    ∙ ap (λ (b : Bool). cond b (Some (names ++ name ∷ [])) None) is

-- ---- the port of a path

and_true : (b : Bool) → (b && true) ≡ b
and_true true = refl
and_true false = refl

-- behind one path the names decide
same-end : (path : List (List ℕ)) (name last : List ℕ) → is_same_path (path ++ name ∷ []) (path ++ last ∷ []) ≡ bytes_eq name last
same-end [] name last = and_true (bytes_eq name last)
same-end (first ∷ path) name last =
    ap (λ (b : Bool). b && is_same_path (path ++ name ∷ []) (path ++ last ∷ [])) ((bytes_eq-Decides first first).1 refl) ∙ same-end path name last

no-end : (path : List (List ℕ)) (last : List ℕ) → path ++ last ∷ [] ≡ [] → ⊥
no-end [] last e = cc
no-end (first ∷ path) last e = cc

same_rest : (first next : List ℕ) (one other : List (List ℕ)) → first ∷ one ≡ next ∷ other → one ≡ other
same_rest first next one other e = cc

same_first : (first next : List ℕ) (one other : List (List ℕ)) → first ∷ one ≡ next ∷ other → first ≡ next
same_first first next one other e = cc

front-same : (one other : List (List ℕ)) (name last : List ℕ) → one ++ name ∷ [] ≡ other ++ last ∷ [] → one ≡ other
front-same [] [] name last e = refl
front-same [] (next ∷ other) name last e = absurd (no-end other last (sym (same_rest name next [] (other ++ last ∷ []) e)))
front-same (first ∷ one) [] name last e = absurd (no-end one name (same_rest first last (one ++ name ∷ []) [] e))
front-same (first ∷ one) (next ∷ other) name last e =
    let rest = front-same one other name last (same_rest first next (one ++ name ∷ []) (other ++ last ∷ []) e) in
    let same = same_first first next (one ++ name ∷ []) (other ++ last ∷ []) e in
    ap (λ (l : List ℕ). l ∷ one) same ∙ ap (λ (l : List (List ℕ)). next ∷ l) rest

-- behind two paths no names are the same
other-end : (one other : List (List ℕ)) (name last : List ℕ) → (one ≡ other → ⊥) → is_same_path (one ++ name ∷ []) (other ++ last ∷ []) ≡ false
other-end one other name last apart = by (is_same_path (one ++ name ∷ []) (other ++ last ∷ [])) (pointwise_decides bytes_decides (one ++ name ∷ []) (other ++ last ∷ [])).0
  where
    by : (b : Bool) → (b ≡ true → one ++ name ∷ [] ≡ other ++ last ∷ []) → b ≡ false
    by true same = absurd (apart (front-same one other name last (same refl)))
    by false same = refl

-- the port of a name of a streamlet, by the streamlet's path
port-here : (path : List (List ℕ)) (name : List ℕ) (ports : List PlainPort)
    → find (λ (port : PlainPort). is_same_path (path ++ port.name ∷ []) (path ++ name ∷ [])) ports ≡ find (λ (port : PlainPort). bytes_eq port.name name) ports
port-here path name [] = refl
port-here path name (port ∷ ports) =
    ap (λ (b : Bool). cond b (Some port) (find (λ (one : PlainPort). is_same_path (path ++ one.name ∷ []) (path ++ name ∷ [])) ports)) (same-end path port.name name)
    ∙ ap (cond (bytes_eq port.name name) (Some port)) (port-here path name ports)

-- none, by another path
port-elsewhere : (path other : List (List ℕ)) (name : List ℕ) (ports : List PlainPort) → (path ≡ other → ⊥)
    → find (λ (port : PlainPort). is_same_path (path ++ port.name ∷ []) (other ++ name ∷ [])) ports ≡ None
port-elsewhere path other name [] apart = refl
port-elsewhere path other name (port ∷ ports) apart =
    ap (λ (b : Bool). cond b (Some port) (find (λ (one : PlainPort). is_same_path (path ++ one.name ∷ []) (other ++ name ∷ [])) ports)) (other-end path other port.name name apart)
    ∙ port-elsewhere path other name ports apart

same_streamlet : (one other : PlainStreamlet) → ◌≡◌ {A = Option PlainStreamlet} (Some one) (Some other) → one ≡ other
same_streamlet one other e = cc

-- the port of a streamlet whose path no streamlet before it has
port-at : (streamlets : List PlainStreamlet) (number : ℕ) (one : PlainStreamlet) (name : List ℕ) (port : PlainPort)
    → ((i : ℕ) (other : PlainStreamlet) → i < number → slice_get streamlets i ≡ Some other → other.path ≡ one.path → ⊥)
    → slice_get streamlets number ≡ Some one → find (λ (p : PlainPort). bytes_eq p.name name) one.ports ≡ Some port → plain_port_at streamlets (one.path ++ name ∷ []) ≡ Some port
port-at [] number one name port apart at found = absurd cc
port-at (first ∷ more) zero one name port apart at found =
    ap (λ (s : PlainStreamlet). or_else (plain_port_in s (one.path ++ name ∷ [])) (plain_port_at more (one.path ++ name ∷ []))) (same_streamlet first one at)
    ∙ ap (λ (o : Option PlainPort). or_else o (plain_port_at more (one.path ++ name ∷ []))) (port-here one.path name one.ports ∙ found)
port-at (first ∷ more) (suc number) one name port apart at found =
    ap (λ (o : Option PlainPort). or_else o (plain_port_at more (one.path ++ name ∷ []))) (port-elsewhere first.path one.path name first.ports (apart 0 first (omega arith) refl))
    ∙ port-at more number one name port (λ i other below there. apart (suc i) other (omega (arith, below)) there) at found

-- ---- the names of streamlets

-- the path of a declaration is of names, where it is a streamlet
abbrev IsPathed : Declaration → Type 0
IsPathed one = is_streamlet one ≡ true → EachIs IsName (path_of one)

names-each : (names : List AstName) → EachIs HasName names → EachIs IsName (map (λ (one : AstName). one.name) names)
names-each [] each = tt
names-each (one ∷ names) each = (each.0, names-each names each.1)

decls-pathed : (space : List (List ℕ)) → EachIs IsName space → (listed : List AstDecl) → EachIs (DeclWith HasName) listed
    → EachIs IsPathed (map (λ (decl : AstDecl). record { space = space; name = decl.name; kind = decl.kind }) listed)
decls-pathed space named [] each = tt
decls-pathed space named (decl ∷ listed) each = (λ is. each-append IsName space (decl.name.name ∷ []) named (each.0.name, tt), decls-pathed space named listed each.1)

all-pathed : (namespaces : List AstNamespace) → EachIs IsNamespace namespaces → EachIs IsPathed (flat_map declared_in namespaces)
all-pathed [] each = tt
all-pathed (namespace ∷ more) each = each-append IsPathed (declared_in namespace) (flat_map declared_in more)
    (decls-pathed (names_of namespace.path) (names-each namespace.path.names each.0.path.each) namespace.decls each.0.decls) (all-pathed more each.1)

-- what a filter keeps passes its test
kept-is : {A : Type 0} (test : A → Bool) (xs : List A) (x : A) (n : ℕ) → n < length (filter test xs) → get_or (filter test xs) n x ≡ x → test x ≡ true
kept-is test [] x n within same = absurd (omega (arith, within))
kept-is {A} test (first ∷ xs) x n within same = by (test first) refl n within same (kept-is test xs x)
  where
    by : (b : Bool) → test first ≡ b → (n : ℕ) → n < length (cond b (first ∷ filter test xs) (filter test xs)) → get_or (cond b (first ∷ filter test xs) (filter test xs)) n x ≡ x
        → ((m : ℕ) → m < length (filter test xs) → get_or (filter test xs) m x ≡ x → test x ≡ true) → test x ≡ true
    by true is zero within same rest = ap test (sym same) ∙ is
    by true is (suc n) within same rest = rest n (omega (arith, within)) same
    by false is n within same rest = rest n within same

-- a streamlet whose path and ports have names
record HasOwnNames (streamlet : PlainStreamlet) : Type 0 where
  some : 0 < length streamlet.path
  each : EachIs IsName streamlet.path
  ports : (port : PlainPort) → Contains streamlet.ports port → IsName port.name

number-named : (all : List Declaration) → EachIs IsDeclared all → EachIs IsPathed all → (number : ℕ) → Contains (streamlet_numbers all) number → HasOwnNames (streamlet_from all number)
number-named all declared pathed number there = record {
  some = omega (arith, length-append (declaration all number).space ((declaration all number).name.name ∷ []));
  each = each-at IsPathed all number (record { space = []; name = record { name = []; place = nowhere }; kind = decls.Interface [] }) pathed (λ e. absurd cc)
      (kept-is (λ n. is_streamlet (declaration all n)) (range_with_len 0 (length all)) number there.0 there.1 there.2);
  ports = λ port inside. let written = streamlet-written all declared number port inside in subst (λ (p : PlainPort). IsName p.name) written.same written.written.name;
}

project-named : (ast : Ast) → EachIs IsNamespace ast.namespaces → (streamlet : PlainStreamlet) → Contains (project_of ast).streamlets streamlet → HasOwnNames streamlet
project-named ast each streamlet there =
    let all = declarations ast in
    let at = Contains-mapped (streamlet_from all) (streamlet_numbers all) streamlet there in
    subst HasOwnNames at.same (number-named all (all-declared ast.namespaces each) (all-pathed ast.namespaces each) at.one at.inside)

read-named : (word bytes : List ℕ) (read : PlainProject) → ReadsProject word bytes (Ok read) → (streamlet : PlainStreamlet) → Contains read.streamlets streamlet → HasOwnNames streamlet
read-named word bytes read reads =
    subst (λ (p : PlainProject). (streamlet : PlainStreamlet) → Contains p.streamlets streamlet → HasOwnNames streamlet) (sym reads.1.1.1)
    (project-named reads.0 (trees-have_form bytes reads.0 (tree-of word bytes reads.0 reads.1.0)).spellable.each)

-- ---- the word of the port of a test

pub has-port_word : (word bytes : List ℕ) (read : PlainProject) → ReadsProject word bytes (Ok read) → (test : Test) → Contains read.tests test → HasPortWord read test
has-port_word word bytes read reads test inside = record { port = there.0; drives = there.1; named = ap (option_and_then (plain_port_at read.streamlets)) path ∙ at }
  where
    sound : IsSoundProject read
    sound = ReadsProject-sound word bytes read reads

    drives : DrivesPort read test
    drives = sound.tests test inside

    there : (port : PlainPort) × (tested_port read test ≡ Some port)
    there = port-there read test drives

    names : HasOwnNames drives.streamlet
    names = read-named word bytes read reads drives.streamlet (inside-at read.streamlets test.streamlet drives.streamlet drives.at)

    name : IsName test.port
    name = subst IsName drives.named (names.ports drives.port drives.inside)

    path : port_path (tested_word read test) ≡ Some (drives.streamlet.path ++ test.port ∷ [])
    path = ap (λ (o : Option PlainStreamlet). port_path (port_word o test.port)) drives.at ∙ word-path drives.streamlet.path test.port names.some names.each name

    before : (i : ℕ) (other : PlainStreamlet) → i < test.streamlet → slice_get read.streamlets i ≡ Some other → other.path ≡ drives.streamlet.path → ⊥
    before i other below is same = let e = sound.streamlet_paths i test.streamlet other drives.streamlet is drives.at same in omega (arith, below, e)

    at : plain_port_at read.streamlets (drives.streamlet.path ++ test.port ∷ []) ≡ Some there.0
    at = port-at read.streamlets test.streamlet drives.streamlet test.port there.0 before drives.at
        (sym (ap (option_and_then (λ (streamlet : PlainStreamlet). find (λ (p : PlainPort). bytes_eq p.name test.port) streamlet.ports)) drives.at) ∙ there.1)
