-- The declared tests of a project that is read: each drives a port that is there, its texts are no longer than the project's, and there is one
-- answer to it.
use Rattle.std.proofs.Common.{◌≡◌, ℕ, zero, suc, ◌-◌, ◌<◌, ◌≤◌, Bool, true, false, cond, nat_lt, List, [], ◌∷◌, ◌++◌, map, length, drop, get_or, find, slice_get, Option, Some, None, option_map, option_and_then, Result, Ok, Err, IfOk, IfSome, Contains, refl, sym, ap, ◌∙◌, subst, arith}
use Rattle.std.specs.List.{flat_map}
use Rattle.std.specs.Borrow.{Bor}
use Rattle.std.specs.Prelude.{is_some}
use Rattle.std.specs.Str.{bytes_eq}
use Rattle.std.proofs.lemmas.Bool.Decides.{nat_tests}
use Rattle.std.proofs.lemmas.List.{length-drop, length-take}
use Rattle.std.proofs.lemmas.Option.{slice_get-get_or}
use Rattle.std.proofs.lemmas.Slice.Eq.{bytes_eq-Decides}
use Rattle.tydi_io.specs.Store.{Files}
use Rattle.tydi_reading.specs.Lists.{Each, EachIs}
use Rattle.tydi_base.specs.Path.{path_at}
use Rattle.til_lexer.specs.declared.token.Token.{Token}
use Rattle.til_parser.specs.Grammar.{One, IsMarked, SpellsDecl, SpellsKind, SpellsNamespace}
use Rattle.til_parser.specs.Laws.{IsTreeOf}
use Rattle.til_parser.specs.Lexemes.{Lexeme, lexemes_of}
use Rattle.til_parser.specs.declared.tree.Ast.{Ast}
use Rattle.til_parser.specs.declared.tree.AstDecl.{AstDecl}
use Rattle.til_parser.specs.declared.tree.AstKind.{AstKind}
use Rattle.til_parser.specs.declared.tree.AstKind.TheVariants as decls
use Rattle.til_parser.specs.declared.tree.AstName.{AstName}
use Rattle.til_parser.specs.declared.tree.AstNamespace.{AstNamespace}
use Rattle.til_lexer.specs.declared.token.TokenKind.TheVariants as kinds
use Rattle.til_resolve.specs.Declarations.{Declaration, declarations, declared_in, names_of}
use Rattle.til_resolve.specs.PlainProject.{PlainPort, PlainProject, PlainStreamlet, plain_port, plain_streamlet, plain_test_at, project_of}
use Rattle.til_resolve.specs.Paths.{is_same_path}
use Rattle.til_resolve.specs.PortTypes.{IsPortType}
use Rattle.til_resolve.specs.Project.{tests_in}
use Rattle.til_resolve.specs.SoundProject.{DrivesPort, IsSoundProject}
use Rattle.til_resolve.specs.declared.project.Test.{Test}
use Rattle.til_resolve.proofs.PortTypeLemmas.{Contains-found}
use Rattle.til_resolve.specs.declared.project.Port.{Port}
use Rattle.til_resolve.specs.declared.project.Project.{Project}
use Rattle.til_resolve.specs.declared.project.Streamlet.{Streamlet}
use Rattle.til_resolve.specs.PlainProject.{plain_project}
use Rattle.tydi_tool.specs.declared.answer.Reply.{Reply}
use Rattle.tydi_tool.specs.Ask.{IsAsked}
use Rattle.tydi_tool.specs.Projects.{ReadsProject}
use Rattle.tydi_tool.specs.Reading.{Seen}
use Rattle.tydi_tool.specs.Words.{project_file}
use Rattle.tydi_tool.specs.Tests.{HasShortTests, test_named, tested_port}
use Rattle.tydi_tool.proofs.FileLemmas.{found-within}
use Rattle.tydi_tool.proofs.FormLemmas.{IsPortFormed, each-append, each-inside, read-formed, tree-of}

-- ---- the port of a test

-- what stands at a place of a list is in it
pub inside-at : {A : Type 0} (xs : List A) (number : ℕ) (x : A) → slice_get xs number ≡ Some x → Contains xs x
inside-at [] number x is = absurd cc
inside-at (first ∷ xs) zero x is = (0, omega arith, (let e = is in cc))
inside-at (first ∷ xs) (suc number) x is = let more = inside-at xs number x is in (suc more.0, omega (arith, more.1), more.2)

-- a port of this name is found among ports that have one
found-by_name : (name : List ℕ) (ports : List PlainPort) (port : PlainPort) (number : ℕ) → number < length ports → get_or ports number port ≡ port → port.name ≡ name
    → (one : PlainPort) × (find (λ (p : PlainPort). bytes_eq p.name name) ports ≡ Some one)
found-by_name name [] port number within same named = absurd (omega (arith, within))
found-by_name name (first ∷ ports) port zero within same named =
    (first, ap (λ (b : Bool). cond b (Some first) (find (λ (p : PlainPort). bytes_eq p.name name) ports)) ((bytes_eq-Decides first.name name).1 (ap (λ (p : PlainPort). p.name) same ∙ named)))
found-by_name name (first ∷ ports) port (suc number) within same named = by (bytes_eq first.name name) (found-by_name name ports port number (omega (arith, within)) same named)
  where
    by : (b : Bool) → (one : PlainPort) × (find (λ (p : PlainPort). bytes_eq p.name name) ports ≡ Some one)
        → (one : PlainPort) × (cond b (Some first) (find (λ (p : PlainPort). bytes_eq p.name name) ports) ≡ Some one)
    by true more = (first, refl)
    by false more = more

-- a test that drives a port has it
pub port-there : (project : PlainProject) (test : Test) → DrivesPort project test → (port : PlainPort) × (tested_port project test ≡ Some port)
port-there project test drives =
    let found = found-by_name test.port drives.streamlet.ports drives.port drives.inside.0 drives.inside.1 drives.inside.2 drives.named in
    (found.0, ap (option_and_then (λ (streamlet : PlainStreamlet). find (λ (p : PlainPort). bytes_eq p.name test.port) streamlet.ports)) drives.at ∙ found.1)

-- the port that a test drives is one of a streamlet of the project
pub record IsInside (project : PlainProject) (port : PlainPort) : Type 0 where
  pub streamlet : PlainStreamlet
  pub there : Contains project.streamlets streamlet
  pub inside : Contains streamlet.ports port

pub port-inside : (project : PlainProject) (test : Test) (port : PlainPort) → tested_port project test ≡ Some port → IsInside project port
port-inside project test port is = by (slice_get project.streamlets test.streamlet) refl is
  where
    by : (found : Option PlainStreamlet) → slice_get project.streamlets test.streamlet ≡ found
        → option_and_then (λ (streamlet : PlainStreamlet). find (λ (p : PlainPort). bytes_eq p.name test.port) streamlet.ports) found ≡ Some port → IsInside project port
    by None at is = absurd cc
    by (Some streamlet) at is = record {
      streamlet = streamlet;
      there = inside-at project.streamlets test.streamlet streamlet at;
      inside = Contains-found (λ (p : PlainPort). bytes_eq p.name test.port) streamlet.ports port is;
    }

-- the plain data of what is found of a project
found-plain : (name : List ℕ) (ports : List Port) → option_map plain_port (find (λ (port : Port). bytes_eq port.name name) ports) ≡ find (λ (port : PlainPort). bytes_eq port.name name) (map plain_port ports)
found-plain name [] = refl
found-plain name (port ∷ ports) = by (bytes_eq port.name name) (found-plain name ports)
  where
    by : (b : Bool) → option_map plain_port (find (λ (one : Port). bytes_eq one.name name) ports) ≡ find (λ (one : PlainPort). bytes_eq one.name name) (map plain_port ports)
        → option_map plain_port (cond b (Some port) (find (λ (one : Port). bytes_eq one.name name) ports))
        ≡ cond b (Some (plain_port port)) (find (λ (one : PlainPort). bytes_eq one.name name) (map plain_port ports))
    by true rest = refl
    by false rest = rest

plain-at : (streamlets : List Streamlet) (number : ℕ) → slice_get (map plain_streamlet streamlets) number ≡ option_map plain_streamlet (slice_get streamlets number)
plain-at [] number = refl
plain-at (streamlet ∷ more) zero = refl
plain-at (streamlet ∷ more) (suc number) = plain-at more number

-- nothing stands past the end of a list
none-past : (streamlets : List Streamlet) (number : ℕ) → length streamlets ≤ number → slice_get streamlets number ≡ None
none-past [] number past = refl
none-past (first ∷ more) zero past = absurd (omega (arith, past))
none-past (first ∷ more) (suc number) past = none-past more number (omega (arith, past))

below : (number n : ℕ) → nat_lt number n ≡ true → number < n
below number n h = grind (arith, nat_tests)

not_below : (number n : ℕ) → nat_lt number n ≡ false → n ≤ number
not_below number n h = grind (arith, nat_tests)

-- what a look-up by a place gives
module _ (all streamlets : List Streamlet) (number : ℕ) (result : Option (Bor Streamlet)) (same : all ≡ streamlets) (there : is_some result ≡ nat_lt number (length all)) where
  pub got-some : (held : Bor Streamlet) → result ≡ Some held → IfSome result (λ one. one.now ≡ get_or all number one.now) → slice_get streamlets number ≡ Some held.now
  got-some held is got =
      let within : number < length all = below number (length all) (sym there ∙ ap is_some is) in
      let at = subst (λ (o : Option (Bor Streamlet)). IfSome o (λ one. one.now ≡ get_or all number one.now)) is got in
      ap (λ (l : List Streamlet). slice_get l number) (sym same) ∙ slice_get-get_or all number held.now within ∙ ap (λ (one : Streamlet). Some one) (sym at)

  pub got-none : result ≡ None → slice_get streamlets number ≡ None
  got-none is = ap (λ (l : List Streamlet). slice_get l number) (sym same) ∙ none-past all number (not_below number (length all) (sym there ∙ ap is_some is))

pub tested-plain : (project : Project) (test : Test) (streamlet : Streamlet) (found : Option Port) → slice_get project.streamlets test.streamlet ≡ Some streamlet
    → found ≡ find (λ (port : Port). bytes_eq port.name test.port) streamlet.ports → option_map plain_port found ≡ tested_port (plain_project project) test
tested-plain project test streamlet found at is =
    ap (option_map plain_port) is ∙ found-plain test.port streamlet.ports
    ∙ sym (ap (option_and_then (λ (one : PlainStreamlet). find (λ (port : PlainPort). bytes_eq port.name test.port) one.ports))
    (plain-at project.streamlets test.streamlet ∙ ap (option_map plain_streamlet) at))

pub untested-plain : (project : Project) (test : Test) → slice_get project.streamlets test.streamlet ≡ None → None ≡ tested_port (plain_project project) test
untested-plain project test at =
    sym (ap (option_and_then (λ (one : PlainStreamlet). find (λ (port : PlainPort). bytes_eq port.name test.port) one.ports))
    (plain-at project.streamlets test.streamlet ∙ ap (option_map plain_streamlet) at))

-- a test that drives a port does not lack it
pub port-not_none : (project : PlainProject) (test : Test) → DrivesPort project test → None ≡ tested_port project test → ⊥
port-not_none project test drives none = let port = port-there project test drives in no_port port.0 (none ∙ port.1)
  where
    no_port : (port : PlainPort) → ◌≡◌ {A = Option PlainPort} None (Some port) → ⊥
    no_port port e = cc

-- so its type is that of a port
pub port-type : (project : PlainProject) (test : Test) (port : PlainPort) → IsSoundProject project → tested_port project test ≡ Some port → IsPortType port.ltype
port-type project test port sound is = let at = port-inside project test port is in sound.types.each at.streamlet port at.there at.inside

-- and in form
pub tested-formed : (word bytes : List ℕ) (read : PlainProject) (test : Test) (found : PlainPort) → ReadsProject word bytes (Ok read) → tested_port read test ≡ Some found → IsPortFormed found.ltype
tested-formed word bytes read test found reads is = let at = port-inside read test found is in read-formed word bytes read reads at.streamlet found at.there at.inside

-- a test that a word names is one of the project
pub test-inside : (project : PlainProject) (word : List ℕ) (test : Test) → test_named project word ≡ Some test → Contains project.tests test
test-inside project word test is = by (path_at true word) is
  where
    by : (path : Option (List (List ℕ))) → option_and_then (plain_test_at project.tests) path ≡ Some test → Contains project.tests test
    by None none = absurd cc
    by (Some path) is = Contains-found (λ (one : Test). is_same_path one.path path) project.tests test is

-- ---- the texts of tests

module _ (most : ℕ) where
  -- the text of a token has not more bytes
  abbrev IsFew : Lexeme → Type 0
  IsFew lexeme = length lexeme.spelling ≤ most

  abbrev AreFew : List Lexeme → Type 0
  AreFew = EachIs IsFew

  few-front : (front back all : List Lexeme) → all ≡ front ++ back → AreFew all → AreFew front
  few-front [] back all is few = tt
  few-front (first ∷ front) back all is few = let both : AreFew (first ∷ front ++ back) = subst AreFew is few in (both.0, few-front front back (front ++ back) refl both.1)

  few-back : (front back all : List Lexeme) → all ≡ front ++ back → AreFew all → AreFew back
  few-back [] back all is few = subst AreFew is few
  few-back (first ∷ front) back all is few = let both : AreFew (first ∷ front ++ back) = subst AreFew is few in few-back front back (front ++ back) refl both.1

  -- the text between the marks of a token
  marked-few : (text : List ℕ) (ts : List Lexeme) → One (IsMarked kinds.Quoted text) ts → AreFew ts → length text ≤ most
  marked-few text ts one few =
      let all : AreFew (one.lexeme ∷ []) = subst AreFew one.all few in
      let l = one.lexeme.spelling in
      let size = ap length one.is.text_is in
      let cut = length-take (length l - 2) (drop 1 l) in
      let rest = length-drop 1 l in
      let within = all.0 in
      omega (arith, size, cut, rest, within)

  -- the texts of a declaration, where it is a test
  abbrev KindIsFew : AstKind → Type 0
  KindIsFew (decls.Alias ltype) = Unit {0}
  KindIsFew (decls.Interface all) = Unit {0}
  KindIsFew (decls.Streamlet all) = Unit {0}
  KindIsFew (decls.Impl target body) = Unit {0}
  KindIsFew (decls.Test target port value plan) = (length value ≤ most) × (length plan ≤ most)

  kind-few : (name : AstName) (kind : AstKind) (ts : List Lexeme) → SpellsKind name kind ts → AreFew ts → KindIsFew kind
  kind-few name (decls.Alias ltype) ts spelled few = tt
  kind-few name (decls.Interface all) ts spelled few = tt
  kind-few name (decls.Streamlet all) ts spelled few = tt
  kind-few name (decls.Impl target body) ts spelled few = tt
  kind-few name (decls.Test target port value plan) ts s few =
      let few1 = few-back s.front s.back ts s.all few in
      let s1 = s.ends in
      let few2 = few-back s1.front s1.back s.back s1.all few1 in
      let s2 = s1.ends in
      let few3 = few-back s2.front s2.back s1.back s2.all few2 in
      let s3 = s2.ends in
      let few4 = few-back s3.front s3.back s2.back s3.all few3 in
      let s4 = s3.ends in
      let few5 = few-back s4.front s4.back s3.back s4.all few4 in
      let s5 = s4.ends in
      let few6 = few-back s5.front s5.back s4.back s5.all few5 in
      let s6 = s5.ends in
      let few7 = few-back s6.front s6.back s5.back s6.all few6 in
      let s7 = s6.ends in
      let few8 = few-back s7.front s7.back s6.back s7.all few7 in
      let s8 = s7.ends in
      let few9 = few-back s8.front s8.back s7.back s8.all few8 in (
        marked-few value s7.front s7.begins (few-front s7.front s7.back s6.back s7.all few7),
        marked-few plan s8.back s8.ends few9,
      )

  decl-few : (decl : AstDecl) (ts : List Lexeme) → SpellsDecl decl ts → AreFew ts → KindIsFew decl.kind
  decl-few decl ts s few =
      let few1 = few-back s.front s.back ts s.all few in
      kind-few decl.name decl.kind s.ends.front s.ends.begins (few-front s.ends.front s.ends.back s.back s.ends.all few1)

  abbrev IsDeclaredFew : Declaration → Type 0
  IsDeclaredFew one = KindIsFew one.kind

  decls-few : (space : List (List ℕ)) (listed : List AstDecl) (ts : List Lexeme) → Each SpellsDecl listed ts → AreFew ts
      → EachIs IsDeclaredFew (map (λ (decl : AstDecl). record { space = space; name = decl.name; kind = decl.kind }) listed)
  decls-few space [] ts s few = tt
  decls-few space (decl ∷ listed) ts s few =
      (decl-few decl s.front s.begins (few-front s.front s.back ts s.all few), decls-few space listed s.back s.ends (few-back s.front s.back ts s.all few))

  namespace-few : (namespace : AstNamespace) (ts : List Lexeme) → SpellsNamespace namespace ts → AreFew ts → EachIs IsDeclaredFew (declared_in namespace)
  namespace-few namespace ts s few =
      let few1 = few-back s.front s.back ts s.all few in
      let s1 = s.ends in
      let few2 = few-back s1.front s1.back s.back s1.all few1 in
      let s2 = s1.ends in
      let few3 = few-back s2.front s2.back s1.back s2.all few2 in
      let s3 = s2.ends in
      let few4 = few-back s3.front s3.back s2.back s3.all few3 in
      decls-few (names_of namespace.path) namespace.decls s3.ends.front s3.ends.begins (few-front s3.ends.front s3.ends.back s3.back s3.ends.all few4)

  all-few : (namespaces : List AstNamespace) (ts : List Lexeme) → Each SpellsNamespace namespaces ts → AreFew ts → EachIs IsDeclaredFew (flat_map declared_in namespaces)
  all-few [] ts s few = tt
  all-few (namespace ∷ more) ts s few =
      each-append IsDeclaredFew (declared_in namespace) (flat_map declared_in more) (namespace-few namespace s.front s.begins (few-front s.front s.back ts s.all few))
      (all-few more s.back s.ends (few-back s.front s.back ts s.all few))

  -- a test with such texts
  pub record IsTestFew (test : Test) : Type 0 where
    pub value : length test.value ≤ most
    pub plan : length test.plan ≤ most

  tests-few : (all some : List Declaration) → EachIs IsDeclaredFew some → EachIs IsTestFew (tests_in all some)
  tests-few all [] few = tt
  tests-few all (one ∷ some) few = by one.space one.name one.kind few.0 (tests-few all some few.1)
    where
      by : (space : List (List ℕ)) (name : AstName) (kind : AstKind) → KindIsFew kind → EachIs IsTestFew (tests_in all some)
          → EachIs IsTestFew (tests_in all (record { space = space; name = name; kind = kind } ∷ some))
      by space name (decls.Alias ltype) few more = more
      by space name (decls.Interface listed) few more = more
      by space name (decls.Streamlet listed) few more = more
      by space name (decls.Impl target body) few more = more
      by space name (decls.Test target port value plan) few more = (record { value = few.0; plan = few.1 }, more)

  -- the tokens of a text that has not more bytes
  tokens-few : (text : List ℕ) (tokens : List Token) → length text ≤ most → AreFew (lexemes_of text tokens)
  tokens-few text [] within = tt
  tokens-few text (token ∷ tokens) within =
      let cut = length-take (token.to - token.from) (drop token.from text) in
      let rest = length-drop token.from text in
      (omega (arith, cut, rest, within), tokens-few text tokens within)

-- the tests of a project that is read from a text of at most 4 MiB
pub tests-short : (word bytes : List ℕ) (read : PlainProject) → ReadsProject word bytes (Ok read) → length bytes ≤ 4194304 → HasShortTests read
tests-short word bytes read reads within = subst HasShortTests (sym reads.1.1.1) short
  where
    ast : Ast
    ast = reads.0

    tree : IsTreeOf bytes ast
    tree = tree-of word bytes ast reads.1.0

    few : EachIs (IsTestFew 4194304) (project_of ast).tests
    few = tests-few 4194304 (declarations ast) (declarations ast) (all-few 4194304 ast.namespaces (lexemes_of bytes tree.tokens) tree.spelled.each (tokens-few 4194304 bytes tree.tokens within))

    short : HasShortTests (project_of ast)
    short test there = let is = each-inside (IsTestFew 4194304) (project_of ast).tests test few there in record { value = is.value; plan = is.plan }

-- so are the tests of a project that was asked for
pub asked-short : (told : Option Files) (word : List ℕ) (old new : Option (List ℕ × ℕ)) (rose : Type 0) (result : Result Project Reply)
    → IsAsked told (project_file word) (λ bytes. Seen plain_project (ReadsProject word bytes)) old new rose result → IfOk result (λ project. HasShortTests (plain_project project))
asked-short told word old new rose (Ok project) asked =
    tests-short word asked.0 (plain_project project) asked.1.1.0 (found-within told (project_file word) asked.0 asked.1.0)
asked-short told word old new rose (Err reply) asked = tt
