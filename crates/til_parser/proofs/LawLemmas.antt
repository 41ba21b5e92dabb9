-- The laws of trees and their texts: no text spells two trees, and the tree of a text has its form and its places.
use Rattle.til_parser.proofs.rules.Common.{◌≡◌, ℕ, ◌≤◌, ◌+◌, List, [], ◌∷◌, All, length, Ok, ap, sym, ◌∙◌, subst, length-append, arith, ◌⋯◌, Each, EachIs, Outcome, took, Ast}
use Rattle.til_parser.proofs.rules.Common.{AstKind, AstName, AstNamespace, Form, Spells, SpellsDecl, SpellsNamespace, PortsWithin, KindWithin, IsWithin, Lexeme, IsFormed}
use Rattle.std.proofs.{Common.max, Common.IsUtf8, lemmas.List.Elements.All-map}
use Rattle.til_lexer.specs.{Places.IsPlaceIn, Tokens.tokens_of, declared.token.Token.Token}
use Rattle.til_lexer.proofs.{CountLemmas.tokens_of-few, FormLemmas.tokens-have_form, SliceLemmas.token-stands, SliceLemmas.tokens_of-are}
use Rattle.til_parser.specs.Laws.{IsTreeOf, TreesAreApart, TreesHaveTheirForm, TreesHaveTheirPlaces}
use Rattle.til_parser.specs.{declared.fault.ParseFault.ParseFault, declared.tree.AstDecl.AstDecl, declared.tree.AstPort.AstPort, Faults.NamesToken, Faults.IsFaultOf}
use Rattle.til_parser.specs.{Faults.TreesOrFaults, Lexemes.lexeme_of, Lexemes.lexemes_of, Tree.depth, Tree.plain, Trees.NamespaceWith, Trees.IsSpellable, Trees.number_of_decls}
use Rattle.til_parser.proofs.SpelledLemmas.{IsAt, Shows, each_of, namespace_of}
use Rattle.til_parser.proofs.{LexemeLemmas.length-lexemes, LexemeLemmas.lexemes_of-map, rules.ParseLemmas.project_complete, rules.ParseLemmas.tree_or_fault}
use Rattle.til_parser.proofs.{rules.ParseLemmas.named, rules.ProjectRules.decl-filled}
use Rattle.til_parser.specs.declared.tree.AstKind.TheVariants as decls
use Rattle.til_parser.specs.declared.tree.AstPorts.TheVariants as ports
use Rattle.til_parser.specs.declared.refusal.TooDeep.{TooDeep}

-- the tokens of a text have their form
pub formed_of : (text : List ℕ) (tokens : List Token) → IsUtf8 text → tokens_of text ≡ Ok tokens → All IsFormed (lexemes_of text tokens)
formed_of text tokens utf8 lexed = rw lexemes_of-map (All-map IsFormed (lexeme_of text) tokens (tokens-have_form text tokens utf8 lexed))

-- ---- how deep types nest

-- some types nest no deeper than so many levels, from this count of levels on
abbrev NestAt : (ℕ → Type 0) → Type 0
NestAt Within = (least : ℕ) × ((levels : ℕ) → least ≤ levels → Within levels)

each-nests : {X : Type 0} {Within : ℕ → X → Type 0} → ((x : X) → NestAt (λ n. Within n x)) → (all : List X) → NestAt (λ n. EachIs (Within n) all)
each-nests one [] = (0, λ n le. tt)
each-nests one (x ∷ all) =
    let more = each-nests one all in (max (one x).0 more.0, λ n le. ((one x).1 n (omega arith), more.1 n (omega arith)))

ports-nest : (all : List AstPort) → NestAt (λ n. PortsWithin n all)
ports-nest = each-nests (λ port. (depth (plain port.ltype), λ n le. le))

kind-nests : (kind : AstKind) → NestAt (λ n. KindWithin n kind)
kind-nests (decls.Alias ltype) = (depth (plain ltype), λ n le. le)
kind-nests (decls.Interface all) = ports-nest all
kind-nests (decls.Streamlet (ports.Own all)) = ports-nest all
kind-nests _ = (0, λ n le. tt)

tree-nests : (ast : Ast) → NestAt (λ n. IsWithin n ast)
tree-nests ast = each-nests (λ namespace. each-nests (λ decl. kind-nests decl.kind) namespace.decls) ast.namespaces

-- ---- no text spells two trees

pub trees_apart : TreesAreApart
trees_apart text one other s s' =
    let lexed : s'.tokens ≡ s.tokens = (let same = sym s'.lexed ∙ s.lexed in cc) in
    let spelled = subst (λ tokens. Spells other (lexemes_of text tokens)) lexed s'.spelled in
    let formed = formed_of text s.tokens s.utf8 s.lexed in
    let w = tree-nests one in
    let w' = tree-nests other in
    let levels = max w.0 w'.0 in
    let read = project_complete levels (lexemes_of text s.tokens) one formed (w.1 levels (omega arith)) s.spelled in
    let read' = project_complete levels (lexemes_of text s.tokens) other formed (w'.1 levels (omega arith)) spelled in
    let same : ◌≡◌ {A = Outcome TooDeep Lexeme Ast} (took one []) (took other []) = sym read ∙ read' in cc

pub trees_or_faults : TreesOrFaults
trees_or_faults text tokens utf8 lexed = tree_or_fault (lexemes_of text tokens) (formed_of text tokens utf8 lexed)

-- an error of the tokens of a text names one of them
pub names_token : (text : List ℕ) (tokens : List Token) (fault : ParseFault) → IsFaultOf (lexemes_of text tokens) fault → NamesToken (length tokens) fault
names_token text tokens fault is = named (lexemes_of text tokens) (length tokens) fault (sym (length-lexemes text tokens)) (λ _. is)

-- ---- how many declarations

sum : {F G : Form} {ts : List Lexeme} (b : (F ⋯ G) ts) → length ts ≡ length b.front + length b.back
sum b = ap length b.all ∙ length-append b.front b.back

decls-few : (all : List AstDecl) (ts : List Lexeme) → Each SpellsDecl all ts → length all ≤ length ts
decls-few [] ts s = omega arith
decls-few (decl ∷ all) ts s = omega (arith, sum s, decl-filled 0 decl s.front s.begins, decls-few all s.back s.ends)

namespaces-few : (all : List AstNamespace) (ts : List Lexeme) → Each SpellsNamespace all ts → number_of_decls all ≤ length ts
namespaces-few [] ts s = omega arith
namespaces-few (one ∷ all) ts s =
    let n = s.begins in
    let inside = n.ends.ends.ends.ends in
    omega (arith, sum s, sum n, sum n.ends, sum n.ends.ends, sum n.ends.ends.ends, sum inside, decls-few one.decls inside.front inside.begins, namespaces-few all s.back s.ends)

-- ---- the form of the tree, and its places

-- the tokens of a text show these properties of the tree that they spell
shown-of : {Named : AstName → Type 0} (text : List ℕ) → Shows (IsPlaceIn text) Named → (ast : Ast) → IsTreeOf text ast
    → EachIs (NamespaceWith Named) ast.namespaces
shown-of {Named} text shows ast is = each_of (NamespaceWith Named) SpellsNamespace (namespace_of shows) ast.namespaces (record {
  tokens = lexemes_of text is.tokens;
  each = rw lexemes_of-map (All-map (IsAt (IsPlaceIn text)) (lexeme_of text) is.tokens (λ k d within. record {
    formed = tokens-have_form text is.tokens is.utf8 is.lexed k d within;
    placed = token-stands text _ (tokens_of-are text is.tokens is.utf8 is.lexed k d within);
  }));
  spelled = is.spelled.each;
})

pub spellable-of : (text : List ℕ) (ast : Ast) → IsTreeOf text ast → IsSpellable ast
spellable-of text ast is = record { some = is.spelled.some; each = shown-of text (λ _ _ name _. name.named) ast is }

pub trees-have_places : TreesHaveTheirPlaces
trees-have_places text ast is = shown-of text (λ _ _ name at. subst (IsPlaceIn text) name.place at) ast is

pub trees-have_form : TreesHaveTheirForm
trees-have_form text ast is =
    let spellable = spellable-of text ast is in
    let few = namespaces-few ast.namespaces (lexemes_of text is.tokens) is.spelled.each in
    let tokens = length-lexemes text is.tokens in
    let bytes = tokens_of-few text is.tokens is.lexed in
    record { spellable = spellable; tree = λ short within. record { spellable = spellable; within = within; few = omega arith } }
