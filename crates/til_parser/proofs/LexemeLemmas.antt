-- The tokens that are left.
use Rattle.til_parser.proofs.rules.Common.{◌≡◌, ◌-◌, ◌≤◌, ◌⊎◌, inl, inr, ◌∙◌, ℕ, true, false, cond, List, [], ◌∷◌, length, All, length-append, refl, ap, subst, rules, arith}
use Rattle.til_parser.proofs.rules.Common.{Outcome, stopped, unfit, tells, HasForm, IsBetween, TokenKind, AstType, Lexeme, lexemes_of, same_kind, begins_type}
use Rattle.std.proofs.Common.{◌==◌, ◌++◌, map, slice_index_or, IsUtf8, IsCharBoundary, take}
use Rattle.std.proofs.{lemmas.List.length-map, lemmas.Str.IsCharBoundary-at_seam, lemmas.Str.IsUtf8-append, Math.Seq.take-append_seam}
use Rattle.til_lexer.specs.{Spelling.own_text, declared.token.Token.Token}
use Rattle.til_lexer.proofs.FormBegins.{ascii_utf8}
use Rattle.til_parser.specs.Lexemes.{HasFormIn, between_marks, lexeme_of}
use Rattle.til_parser.proofs.rules.TokenRules.{kind_is}
use Rattle.tydi_reading.specs.declared.fault.Fault.TheVariants as reading
use Rattle.til_lexer.specs.declared.token.TokenKind.TheVariants as kinds
use Rattle.til_parser.specs.declared.refusal.TooDeep.{TooDeep}

-- each token makes one
pub lexemes_of-map : (text : List ℕ) (tokens : List Token) → lexemes_of text tokens ≡ map (lexeme_of text) tokens
lexemes_of-map text [] = refl
lexemes_of-map text (token ∷ tokens) = ap (λ l. lexeme_of text token ∷ l) (lexemes_of-map text tokens)

-- as many are left as there are
pub length-lexemes : (text : List ℕ) (tokens : List Token) → length (lexemes_of text tokens) ≡ length tokens
length-lexemes text tokens = ap length (lexemes_of-map text tokens) ∙ length-map tokens (lexeme_of text)

-- none is left exactly where there are none
pub at_end-lexemes : (text : List ℕ) (tokens : List Token) → tells (λ _. false) true (lexemes_of text tokens) ≡ (length tokens == 0)
at_end-lexemes text [] = refl
at_end-lexemes text (token ∷ tokens) = search rules

-- a token of this kind has its form
pub HasForm-first : (text : List ℕ) (tokens : List Token) (token : Token) (kind : TokenKind) (spelling : List ℕ) → All (HasFormIn text) tokens
    → 1 ≤ length tokens → same_kind (slice_index_or tokens 0 token).kind kind ≡ true → spelling ≡ own_text text (slice_index_or tokens 0 token) → HasForm kind spelling
HasForm-first text tokens token kind spelling formed some same is =
    rw is (subst (λ (k : TokenKind). HasForm k (own_text text (slice_index_or tokens 0 token))) (kind_is _ kind same) (formed 0 token (omega arith)))

-- a word, which has its form, begins a type
pub TooDeep-first : (text : List ℕ) (tokens : List Token) (token : Token) → All (HasFormIn text) tokens → 1 ≤ length tokens
    → same_kind (slice_index_or tokens 0 token).kind kinds.Word ≡ true
    → ◌≡◌ {A = Outcome TooDeep Lexeme AstType} (unfit (record {}) begins_type (lexemes_of text tokens)) (stopped (reading.Unfit (record {})) (lexemes_of text tokens))
TooDeep-first text [] token formed some same = absurd (omega arith)
TooDeep-first text (t ∷ tokens) token formed some same =
    let form = HasForm-first text (t ∷ tokens) t kinds.Word (own_text text t) formed some same refl in
    let test : begins_type (lexeme_of text t) ≡ true = rw (same) form in
    ap (λ b. stopped (cond b (reading.Unfit (record {})) reading.Refused) (lexemes_of text (t ∷ tokens))) test

-- ---- the text between two marks

pub between_marks-of : (mark : ℕ) (text : List ℕ) → between_marks (mark ∷ text ++ mark ∷ []) ≡ text
between_marks-of mark text =
    let size : length (mark ∷ text ++ mark ∷ []) - 2 ≡ length text = omega (arith, length-append text (mark ∷ [])) in
    ap (λ n. take n (text ++ mark ∷ [])) size ∙ take-append_seam text (mark ∷ [])

-- a text between two marks may be cut after the first and before the last
AreCuts-between : (mark : ℕ) (text : List ℕ) → IsUtf8 (mark ∷ []) → IsBetween mark text → IsCharBoundary text 1 × IsCharBoundary text (length text - 1)
AreCuts-between mark text utf8 between =
    let place : length text - 1 ≡ length (mark ∷ between.inside) = omega (arith, ap length between.marked, length-append between.inside (mark ∷ [])) in (
      IsCharBoundary-at_seam text (mark ∷ []) _ between.marked (IsUtf8-append between.inside (mark ∷ []) between.utf8 utf8),
      rw place (IsCharBoundary-at_seam text (mark ∷ between.inside) (mark ∷ []) between.marked utf8),
    )

pub AreCuts-marked : (text : List ℕ) → HasForm kinds.Quoted text ⊎ HasForm kinds.Doc text → IsCharBoundary text 1 × IsCharBoundary text (length text - 1)
AreCuts-marked text (inl quoted) = AreCuts-between 34 text (ascii_utf8 (34 ∷ []) refl) quoted
AreCuts-marked text (inr doc) = AreCuts-between 35 text (ascii_utf8 (35 ∷ []) refl) doc
