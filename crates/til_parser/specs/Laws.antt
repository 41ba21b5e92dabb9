-- The laws of trees and their texts.
use Rattle.std.specs.Prelude.{◌≡◌, ◌<◌, ◌^◌, ℕ, List, length, Ok}
use Rattle.std.specs.Str.{IsUtf8}
use Rattle.tydi_reading.specs.Lists.{EachIs}
use Rattle.til_lexer.specs.declared.token.Token.{Token}
use Rattle.til_lexer.specs.Places.{IsPlaceIn}
use Rattle.til_lexer.specs.Tokens.{tokens_of}
use Rattle.til_parser.specs.declared.tree.Ast.{Ast}
use Rattle.til_parser.specs.Canonical.{canonical}
use Rattle.til_parser.specs.Grammar.{Spells, IsWithin, most_levels}
use Rattle.til_parser.specs.Lexemes.{lexemes_of}
use Rattle.til_parser.specs.Same.{SameTree}
use Rattle.til_parser.specs.Trees.{IsSpellable, IsTree, NamespaceWith}

-- a text spells a tree
pub record IsTreeOf (text : List ℕ) (ast : Ast) : Type 0 where
  pub utf8 : IsUtf8 text
  pub tokens : List Token
  pub lexed : tokens_of text ≡ Ok tokens
  pub spelled : Spells ast (lexemes_of text tokens)

-- no text spells two trees
abbrev pub TreesAreApart : Type 0
TreesAreApart = (text : List ℕ) (one other : Ast) → IsTreeOf text one → IsTreeOf text other → one ≡ other

-- the tree of a text is spellable; it is one as `parse` gives them where the text has fewer than 2 ^ 32 bytes and no type of it nests
-- deeper than is allowed
pub record HasItsForm (text : List ℕ) (ast : Ast) : Type 0 where
  pub spellable : IsSpellable ast
  pub tree : length text < 2 ^ 32 → IsWithin most_levels ast → IsTree ast

-- each tree of a text has
abbrev pub TreesHaveTheirForm : Type 0
TreesHaveTheirForm = (text : List ℕ) (ast : Ast) → IsTreeOf text ast → HasItsForm text ast

-- each name of a tree stands at its place in a text
abbrev pub NamesStand : List ℕ → Ast → Type 0
NamesStand text ast = EachIs (NamespaceWith (λ name. IsPlaceIn text name.place)) ast.namespaces

-- so do the names of each tree of a text
abbrev pub TreesHaveTheirPlaces : Type 0
TreesHaveTheirPlaces = (text : List ℕ) (ast : Ast) → IsTreeOf text ast → NamesStand text ast

-- trees that are the same, places aside, have one canonical text; if the one is spellable, so is the other, and its types nest as deep
pub record AreAlike (one other : Ast) : Type 0 where
  pub text : canonical one ≡ canonical other
  pub spellable : IsSpellable one → IsSpellable other
  pub within : (levels : ℕ) → IsWithin levels one → IsWithin levels other

-- no place is looked at
abbrev pub PlacesAreLeftOut : Type 0
PlacesAreLeftOut = (one other : Ast) → SameTree one other → AreAlike one other

-- a text spells this tree, places aside, and the types of what it spells nest no deeper
pub record IsReadAgain (text : List ℕ) (ast : Ast) : Type 0 where
  pub again : Ast
  pub spelled : IsTreeOf text again
  pub same : SameTree ast again
  pub within : (levels : ℕ) → IsWithin levels ast → IsWithin levels again

-- the canonical text of each tree that is spellable, or that is the tree of some text, places aside, spells that tree again
pub record AreReadAsPrinted (ast : Ast) : Type 0 where
  pub spellable : IsSpellable ast → IsReadAgain (canonical ast) ast
  pub aside : (text : List ℕ) (tree : Ast) → IsTreeOf text tree → SameTree tree ast → IsReadAgain (canonical ast) ast

abbrev pub TreesAreReadAsPrinted : Type 0
TreesAreReadAsPrinted = (ast : Ast) → AreReadAsPrinted ast
