-- Tokens that spell a name, a path, a number, a marked text or a tree show its form.
use Rattle.til_parser.proofs.rules.Common.{◌≡◌, ℕ, List, [], ◌∷◌, Option, Some, None, All, refl, sym, ap, subst, ◌∙◌, arith, All-head}
use Rattle.til_parser.proofs.rules.Common.{Place, HasForm, IsBetween, TokenKind, ◌⋯◌, Each, EachIs, AstName, Form, Bracketed, Commas, Doc, IsNamed, Name, Number, One, Path, Quoted}
use Rattle.til_parser.proofs.rules.Common.{Whole, Lexeme, IsFormed, between_marks, ◌⊎◌, inl, inr, ◌++◌, Argument, AstKind, AstNamespace, IsDefault, Of, Second, SpellsType}
use Rattle.til_parser.proofs.rules.Common.{SpellsParts, SpellsPort, SpellsPorts, SpellsEnd, SpellsStmt, SpellsBody, SpellsKind, SpellsDecl, SpellsNamespace, ⊎_elim}
use Rattle.std.proofs.Common.{IsUtf8}
use Rattle.tydi_base.specs.{Frac.Fraction, Level.IsLevel, Level.whole_level, Pieces.Lacks}
use Rattle.tydi_reading.proofs.{StepLemmas.All-front, StepLemmas.All-back, ContainsLemmas.Inside, ContainsLemmas.named-or}
use Rattle.til_parser.specs.Trees.{PathWith, IsDoc, IsQuote, FitsBetween, IsShort, IsSpelledNumber, AreSettings, TypeWith, PartsWith, PortWith, SecondWith, EndWith}
use Rattle.til_parser.specs.Trees.{StmtWith, BodyWith, KindWith, DeclWith, NamespaceWith}
use Rattle.til_parser.specs.Tree.{Ltype, null, bits, group, union, stream, path, Parts, no_parts, part, Settings, plain}
use Rattle.til_parser.specs.declared.tree.{AstBody.AstBody, AstDecl.AstDecl, AstEnd.AstEnd, AstPort.AstPort, AstStmt.AstStmt}
use Rattle.til_parser.specs.{Grammar.Arguments, Grammar.Given, Grammar.Level}
use Rattle.til_parser.proofs.{LexemeLemmas.between_marks-of, rules.StreamFields.one_or_two, texts.NumberTextLemmas.one-is, texts.NumberTextLemmas.whole-short}
use Rattle.til_lexer.specs.declared.token.TokenKind.TheVariants as kinds
use Rattle.til_parser.specs.declared.keyword.Argument.TheVariants as arguments
use Rattle.til_parser.specs.declared.tree.AstBody.TheVariants as bodies
use Rattle.til_parser.specs.declared.tree.AstKind.TheVariants as decls
use Rattle.til_parser.specs.declared.tree.AstPorts.TheVariants as ports
use Rattle.til_parser.specs.declared.tree.AstStmt.TheVariants as stmts

-- ---- tokens that spell

-- a token has the form of its kind and stands at such a place
pub record IsAt (At : Place → Type 0) (lexeme : Lexeme) : Type 0 where
  pub formed : IsFormed lexeme
  pub placed : At lexeme.place

-- some tokens are of a form, each such a one
pub record Spelt (At : Place → Type 0) (F : Form) : Type 0 where
  pub tokens : List Lexeme
  pub each : All (IsAt At) tokens
  pub spelled : F tokens

pub first_of : {At : Place → Type 0} {F G : Form} → Spelt At (F ⋯ G) → Spelt At F
first_of {At} spelt =
    let s = spelt.spelled in record { tokens = s.front; each = All-front (IsAt At) spelt.tokens s.front s.back s.all spelt.each; spelled = s.begins }

pub second_of : {At : Place → Type 0} {F G : Form} → Spelt At (F ⋯ G) → Spelt At G
second_of {At} spelt =
    let s = spelt.spelled in record { tokens = s.back; each = All-back (IsAt At) spelt.tokens s.front s.back s.all spelt.each; spelled = s.ends }

pub third_of : {At : Place → Type 0} {F G H : Form} → Spelt At (F ⋯ G ⋯ H) → Spelt At H
third_of spelt = second_of (second_of spelt)

pub inside_of : {At : Place → Type 0} {F : Form} → Spelt At (Bracketed F) → Spelt At F
inside_of spelt = first_of (second_of spelt)

one_at : {At : Place → Type 0} {Is : Lexeme → Type 0} (spelt : Spelt At (One Is)) → IsAt At spelt.spelled.lexeme
one_at {At} spelt = All-head (IsAt At) spelt.spelled.lexeme [] (subst (All (IsAt At)) spelt.spelled.all spelt.each)

one_form : {At : Place → Type 0} {Is : Lexeme → Type 0} (kind : TokenKind) (spelt : Spelt At (One Is)) → spelt.spelled.lexeme.kind ≡ kind
    → HasForm kind spelt.spelled.lexeme.spelling
one_form kind spelt is = subst (λ k. HasForm k spelt.spelled.lexeme.spelling) is (one_at spelt).formed

-- ---- lists

module _ {At : Place → Type 0} {X : Type 0} (Is : X → Type 0) (Spell : X → Form) (of_one : (x : X) → Spelt At (Spell x) → Is x) where
  pub each_of : (all : List X) → Spelt At (Each Spell all) → EachIs Is all
  each_of [] spelt = tt
  each_of (x ∷ all) spelt = (of_one x (first_of spelt), each_of all (second_of spelt))

  pub commas_of : (all : List X) → Spelt At (Commas Spell all) → EachIs Is all
  commas_of [] spelt = tt
  commas_of (x ∷ []) spelt = (of_one x (first_of spelt), tt)
  commas_of (x ∷ next ∷ all) spelt = (of_one x (first_of spelt), commas_of (next ∷ all) (third_of spelt))

-- ---- names and paths

-- the token of a name shows this property of the name
abbrev pub Shows : (Place → Type 0) → (AstName → Type 0) → Type 0
Shows At Named = (name : AstName) (lexeme : Lexeme) → IsNamed name lexeme → At lexeme.place → Named name

pub name_of : {At : Place → Type 0} {Named : AstName → Type 0} → Shows At Named → (name : AstName) → Spelt At (Name name) → Named name
name_of shows name spelt = shows name spelt.spelled.lexeme spelt.spelled.is (one_at spelt).placed

pub path_of : {At : Place → Type 0} {Named : AstName → Type 0} → Shows At Named → (names : List AstName) → Spelt At (Path names) → PathWith Named names
path_of shows [] spelt = absurd spelt.spelled
path_of shows (name ∷ []) spelt = record { some = omega arith; each = (name_of shows name spelt, tt) }
path_of shows (name ∷ next ∷ names) spelt =
    record { some = omega arith; each = (name_of shows name (first_of spelt), (path_of shows (next ∷ names) (third_of spelt)).each) }

-- ---- numbers

pub whole_of : {At : Place → Type 0} → (whole : ℕ) → Spelt At (Whole whole) → IsShort whole
whole_of whole spelt =
    let is = spelt.spelled.is in omega (arith, is.value, whole-short spelt.spelled.lexeme.spelling (one_form kinds.Number spelt is.kind) is.digits)

pub number_of : {At : Place → Type 0} → (number : Fraction) → Spelt At (Number number) → IsSpelledNumber number
number_of number spelt = record {
  text = spelt.spelled.lexeme.spelling;
  spelled = record { form = one_form kinds.Number spelt spelt.spelled.is.kind; value = spelt.spelled.is.value };
}

-- ---- marked texts

fits_between : (mark : ℕ) (text spelling : List ℕ) → IsBetween mark spelling → text ≡ between_marks spelling → FitsBetween mark text
fits_between mark text spelling is same =
    let inside : is.inside ≡ text = sym (same ∙ ap between_marks is.marked ∙ between_marks-of mark is.inside) in
    record { lacks = subst (Lacks mark) inside is.lacks; utf8 = subst IsUtf8 inside is.utf8 }

pub quote_of : {At : Place → Type 0} → (text : List ℕ) → Spelt At (Quoted text) → IsQuote text
quote_of text spelt = fits_between 34 text spelt.spelled.lexeme.spelling (one_form kinds.Quoted spelt spelt.spelled.is.kind_is) spelt.spelled.is.text_is

pub doc_of : {At : Place → Type 0} → (doc : Option (List ℕ)) → Spelt At (Doc doc) → IsDoc doc
doc_of None spelt = tt
doc_of (Some text) spelt = fits_between 35 text spelt.spelled.lexeme.spelling (one_form kinds.Doc spelt spelt.spelled.is.kind_is) spelt.spelled.is.text_is

-- ---- the arguments of a Stream

-- 4 is a level
four-is : IsLevel (whole_level 4)
four-is = record { first = (omega arith, omega arith); second = omega arith; third = omega arith; fourth = omega arith }

module _ {At : Place → Type 0} (Element User : Form) (user : Ltype) (settings : Settings) (spelt : Spelt At (Arguments Element User user settings)) where
  has : (argument : Argument) → Spelt At (Given Element User settings argument) ⊎ IsDefault user settings argument
  has argument = ⊎_elim (λ (i : Inside (Given Element User settings argument) spelt.tokens). inl (record {
    tokens = i.middle;
    each = All-front (IsAt At) (i.middle ++ i.back) i.middle i.back refl (All-back (IsAt At) spelt.tokens i.front (i.middle ++ i.back) i.all spelt.each);
    spelled = i.spelled;
  })) inr (named-or one_or_two (Of kinds.Comma) _ _ spelt.tokens spelt.spelled argument)

  -- the tokens that spell the types of the arguments of a Stream, and the form of the others
  arguments-found : Spelt At Element × (Spelt At User ⊎ (user ≡ null)) × AreSettings settings
  arguments-found = (
    ⊎_elim third_of absurd (has arguments.Data),
    ⊎_elim (λ found. inl (third_of found)) inr (has arguments.User),
    record {
      throughput = ⊎_elim (λ found. number_of settings.throughput (third_of found)) (λ default. subst IsSpelledNumber (sym default) one-is) (has arguments.Throughput);
      dims = ⊎_elim (λ found. whole_of settings.dims (third_of found)) (λ default. omega (arith, default)) (has arguments.Dimensionality);
      level = ⊎_elim (λ found. (third_of {H = Level settings.level} found).spelled.within) (λ default. subst IsLevel (sym default) four-is) (has arguments.Complexity);
    },
  )

module _ {At : Place → Type 0} {Named : AstName → Type 0} (shows : Shows At Named) where
  -- ---- types

  mutual
    pub type_of : (one : Ltype) → Spelt At (SpellsType one) → TypeWith Named one
    type_of null spelt = tt
    type_of (bits width) spelt = whole_of width (inside_of (second_of spelt))
    type_of (group parts) spelt = parts_of parts (inside_of (second_of spelt))
    type_of (union parts) spelt = parts_of parts (inside_of (second_of spelt))
    type_of (stream element user settings) spelt =
        let found = arguments-found (SpellsType element) (SpellsType user) user settings (inside_of (second_of spelt)) in
        (type_of element found.0, ⊎_elim (type_of user) (λ default. subst (TypeWith Named) (sym default) tt) found.1, found.2)
    type_of (path names) spelt = path_of shows names spelt

    parts_of : (ones : Parts) → Spelt At (SpellsParts ones) → PartsWith Named ones
    parts_of no_parts spelt = tt
    parts_of (part name ltype no_parts) spelt = (name_of shows name (first_of (first_of spelt)), type_of ltype (third_of (first_of spelt)), tt)
    parts_of (part name ltype (part next other more)) spelt =
        (name_of shows name (first_of (first_of spelt)), type_of ltype (third_of (first_of spelt)), parts_of (part next other more) (third_of spelt))

  -- ---- ports and bodies

  port_of : (port : AstPort) → Spelt At (SpellsPort port) → PortWith Named port
  port_of port spelt = record {
    doc = doc_of port.doc (first_of spelt);
    name = name_of shows port.name (first_of (second_of spelt));
    ltype = type_of (plain port.ltype) (third_of (third_of spelt));
  }

  ports_of : (all : List AstPort) → Spelt At (SpellsPorts all) → EachIs (PortWith Named) all
  ports_of all spelt = commas_of (PortWith Named) SpellsPort port_of all (inside_of spelt)

  second_name : (second : Option AstName) → Spelt At (Second second) → SecondWith Named second
  second_name None spelt = tt
  second_name (Some name) spelt = name_of shows name (second_of spelt)

  end_of : (end : AstEnd) → Spelt At (SpellsEnd end) → EndWith Named end
  end_of end spelt = (name_of shows end.first (first_of spelt), second_name end.second (second_of spelt))

  stmt_of : (stmt : AstStmt) → Spelt At (SpellsStmt stmt) → StmtWith Named stmt
  stmt_of (stmts.Instance name streamlet) spelt = (name_of shows name (first_of spelt), path_of shows streamlet.names (first_of (third_of spelt)))
  stmt_of (stmts.Link first second) spelt = (end_of first (first_of spelt), end_of second (first_of (third_of spelt)))

  body_of : (body : AstBody) → Spelt At (SpellsBody body) → BodyWith Named body
  body_of (bodies.Linked text) spelt = quote_of text spelt
  body_of (bodies.Structural all) spelt = each_of (StmtWith Named) SpellsStmt stmt_of all (first_of (second_of spelt))

  -- ---- declarations

  -- the name of a declaration, and what follows it
  kind_of : (name : AstName) (kind : AstKind) → Spelt At (SpellsKind name kind) → Named name × KindWith Named kind
  kind_of name (decls.Alias ltype) spelt = (name_of shows name (first_of (second_of spelt)), type_of (plain ltype) (second_of (third_of spelt)))
  kind_of name (decls.Interface all) spelt = (name_of shows name (first_of (second_of spelt)), ports_of all (second_of (third_of spelt)))
  kind_of name (decls.Streamlet (ports.Own all)) spelt = (name_of shows name (first_of (second_of spelt)), ports_of all (second_of (third_of spelt)))
  kind_of name (decls.Streamlet (ports.Named target)) spelt = (name_of shows name (first_of (second_of spelt)), path_of shows target.names (second_of (third_of spelt)))
  kind_of name (decls.Impl target body) spelt =
      let after = second_of (third_of spelt) in
      (name_of shows name (first_of (second_of spelt)), (path_of shows target.names (first_of after), body_of body (third_of after)))
  kind_of name (decls.Test target port value plan) spelt =
      let after = second_of (third_of spelt) in
      let driven = third_of after in
      let texts = third_of driven in
      let paths = path_of shows target.names (first_of after) in
      (name_of shows name (first_of (second_of spelt)), (paths, name_of shows port (first_of driven), quote_of value (first_of texts), quote_of plan (third_of texts)))

  decl_of : (decl : AstDecl) → Spelt At (SpellsDecl decl) → DeclWith Named decl
  decl_of decl spelt =
      let kind = kind_of decl.name decl.kind (first_of (second_of spelt)) in
      record { doc = doc_of decl.doc (first_of spelt); name = kind.0; kind = kind.1 }

  pub namespace_of : (one : AstNamespace) → Spelt At (SpellsNamespace one) → NamespaceWith Named one
  namespace_of one spelt =
      let after = third_of spelt in
      record {
        doc = doc_of one.doc (first_of spelt);
        path = path_of shows one.path.names (first_of after);
        decls = each_of (DeclWith Named) SpellsDecl decl_of one.decls (first_of (third_of after));
      }
