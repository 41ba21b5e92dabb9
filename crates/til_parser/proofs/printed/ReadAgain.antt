-- The canonical text of a spellable tree is lexed to the tokens of which it is printed, and so it spells that tree again.
use Rattle.til_parser.proofs.rules.Common.{◌≡◌, List, [], ◌++◌, refl, sym, ap, subst, ◌∙◌, append-nil, start, Ast, lexemes_of}
use Rattle.std.proofs.{Common.map, Common.IsUtf8, lemmas.Str.IsUtf8-append, lemmas.Simd.map-map}
use Rattle.til_lexer.specs.{Places.place_past, Tokens.tokens_of, Spelling.own_text, Spelling.spelled_text, Spelling.tokens_spelled, declared.token.Token.Token}
use Rattle.til_lexer.proofs.SpelledTokens.{gap_utf8, map-tokens_spelled, opens, spelled_behind-read}
use Rattle.til_parser.specs.{Canonical.canonical, Lexemes.lexeme_of, Laws.AreReadAsPrinted, Laws.IsReadAgain, Trees.IsSpellable}
use Rattle.til_parser.proofs.{LexemeLemmas.lexemes_of-map, PlacesLemmas.trees_alike, LawLemmas.spellable-of, printed.PrintedForms.shown, printed.PrintedTrees.printed_namespaces}

-- a spellable tree is read again
pub spellable_read : (ast : Ast) → IsSpellable ast → IsReadAgain (canonical ast) ast
spellable_read ast is =
    let printed = printed_namespaces ast.namespaces is.each in
    let s = printed.before [] [] refl (record { gap = []; pieces = []; is = refl; space = refl; spelled = tt; made = λ place. refl }) in
    let text : canonical ast ≡ s.gap ++ spelled_text s.pieces = sym (append-nil (canonical ast)) ∙ s.is in
    let tokens : List Token = tokens_spelled (place_past start s.gap) s.pieces in
    let matches : map shown (lexemes_of (canonical ast) tokens) ≡ printed.tokens = ap (map shown) (lexemes_of-map (canonical ast) tokens)
    ∙ map-map shown (lexeme_of (canonical ast)) tokens ∙ ap (λ l. map (λ (token : Token). (token.kind, own_text l token)) tokens) text
    ∙ map-tokens_spelled (λ kind text _. (kind, text)) s.gap s.pieces ∙ s.made (place_past start s.gap) ∙ append-nil printed.tokens in
    let found = printed.reads (lexemes_of (canonical ast) tokens) matches in
    let again : Ast = record { namespaces = found.0.0 } in
    let alike = trees_alike ast again found.0.1 in
    record {
      again = again;
      spelled = record {
        utf8 = subst IsUtf8 (sym text) (IsUtf8-append s.gap (spelled_text s.pieces) (gap_utf8 s.gap s.space) (opens s.pieces s.spelled).utf8);
        tokens = tokens;
        lexed = ap tokens_of text ∙ spelled_behind-read s.gap s.pieces s.space s.spelled;
        spelled = record { some = (alike.spellable is).some; each = found.1 };
      };
      same = found.0.1;
      within = alike.within;
    }

pub read_as_printed : (ast : Ast) → AreReadAsPrinted ast
read_as_printed ast = record {
  spellable = spellable_read ast;
  aside = λ text tree of same. spellable_read ast ((trees_alike tree ast same).spellable (spellable-of text tree of));
}
