-- Names, numbers, marked texts, lists, and from them whole trees are printed so that they are read again.
use Rattle.til_parser.proofs.rules.Common.{◌≡◌, ℕ, inl, true, false, List, [], ◌∷◌, ◌++◌, Option, Some, None, codes, refl, sym, ap, ◌∙◌, arith, append-nil, list_all}
use Rattle.til_parser.proofs.rules.Common.{has_name_form, HasForm, TokenKind, AstName, ◌⋯◌, Each, EachIs, Form, Doc, IsMarked, Name, Number, One, Path, Quoted, Whole}
use Rattle.til_parser.proofs.rules.Common.{Lexeme, between_marks, Bool, AstType, AstKind, AstNamespace, Bracketed, Commas, Of, Word, SpellsType, SpellsParts, SpellsPort}
use Rattle.til_parser.proofs.rules.Common.{SpellsPorts, SpellsEnd, SpellsStmt, SpellsBody, SpellsStreamletPorts, SpellsKind, SpellsDecl, SpellsNamespace, direction_word, sync_word}
use Rattle.til_parser.proofs.rules.Common.{truth_word, way_word, Ltype, null, plain, all_arguments}
use Rattle.std.proofs.{Common.flat_map, Common.decimal, lemmas.Bool.Decides.nat_tests}
use Rattle.tydi_base.specs.{Frac.Fraction}
use Rattle.til_lexer.specs.{Spans.is_space, Spelling.runs_on}
use Rattle.til_parser.specs.Canonical.{doc_text, names_text, number_text, quoted_text, type_text, but_first, more_parts_text, port_text, ports_text, stmt_text, spaced_text}
use Rattle.til_parser.specs.Canonical.{body_text, streamlet_text, kind_text, decl_text, doc_line, namespace_text, second_text}
use Rattle.til_parser.specs.Same.{Alike, SameName, SameNames, SameType, SameParts, SamePort, SameEnd, SameStmt, SameBody, SamePorts, SameKind, SameDecl, SameNamespace}
use Rattle.til_parser.specs.Trees.{HasName, IsPath, IsDoc, IsQuote, IsShort, IsSpelledNumber, IsType, AreParts, IsPort, IsEnd, IsStmt, IsBody, ArePorts, IsKind}
use Rattle.til_parser.specs.Tree.{bits, group, union, stream, path, Parts, no_parts, part}
use Rattle.til_parser.specs.declared.tree.{AstBody.AstBody, AstDecl.AstDecl, AstEnd.AstEnd, AstPort.AstPort, AstPorts.AstPorts, AstStmt.AstStmt}
use Rattle.til_parser.specs.{Grammar.LastComma, Grammar.Arguments, Trees.IsDecl, Trees.IsNamespace, Trees.IsSecond, declared.ltype.AstSync.AstSync}
use Rattle.til_parser.proofs.printed.PrintedForms.{Fixed, Printed, at_end, followed, free, joined, made, nothing, one_token, prefixed, seen, spaced, between_words, bracketed}
use Rattle.til_parser.proofs.printed.PrintedForms.{colon, comma, equals, indented, keyword, labelled, led, suffixed, symbol, word, worded}
use Rattle.til_lexer.proofs.SpelledPieces.{goes-less}
use Rattle.til_parser.proofs.printed.PrintedLevels.{printed_level}
use Rattle.til_parser.proofs.{texts.NumberTextLemmas.number_text-is, texts.NumberTextLemmas.decimal-are, PlainLemmas.with_plain}
use Rattle.til_parser.proofs.{LexemeLemmas.between_marks-of, rules.StreamFields.all_arguments-all, rules.StreamFields.all_arguments-apart}
use Rattle.til_lexer.specs.declared.token.TokenKind.TheVariants as kinds
use Rattle.til_parser.specs.declared.ltype.AstSync.TheVariants as syncs
use Rattle.til_parser.specs.declared.tree.AstBody.TheVariants as bodies
use Rattle.til_parser.specs.declared.tree.AstKind.TheVariants as decls
use Rattle.til_parser.specs.declared.tree.AstPorts.TheVariants as ports
use Rattle.til_parser.specs.declared.tree.AstStmt.TheVariants as stmts

-- a value that is read again, and is the same as this
abbrev Again : {X : Type 0} → (X → X → Type 0) → X → Type 0
Again {X} Same x = (again : X) × Same x again

-- ---- names

printed_name : (name : AstName) → HasName name → Printed kinds.Word name.name (λ (a : Again SameName name). Name a.0)
printed_name name named = one_token kinds.Word name.name (grind (arith, nat_tests)) (λ _ s. s) (λ lexeme kind_is text_is.
    ((record { name = name.name; place = lexeme.place }, refl), record { kind = kind_is; text = text_is; place = refl; named = named }))

-- ---- numbers

printed_whole : (whole : ℕ) → IsShort whole → Fixed kinds.Number (decimal whole) (Whole whole)
printed_whole whole below =
    let shown = decimal-are 18 whole (omega arith) (omega arith) below in
    one_token kinds.Number (decimal whole) (inl (record { digits = shown.0; few = shown.1 })) (goes-less kinds.Number (decimal whole))
    (λ lexeme kind_is text_is. (tt, record { kind = kind_is; digits = rw text_is shown.0.each; value = rw text_is (sym shown.2) }))

printed_number : (number : Fraction) → IsSpelledNumber number → Fixed kinds.Number (number_text number) (Number number)
printed_number number is =
    let shown = number_text-is number is.text is.spelled in
    one_token kinds.Number (number_text number) shown.form (goes-less kinds.Number (number_text number)) (λ lexeme kind_is text_is. (tt, record { kind = kind_is; value = rw text_is shown.value }))

-- ---- marked texts

printed_marked : (kind : TokenKind) (mark : ℕ) (text : List ℕ) → HasForm kind (mark ∷ text ++ mark ∷ []) → ((byte : ℕ) → runs_on kind byte ≡ false)
    → Fixed free (mark ∷ text ++ mark ∷ []) (One (IsMarked kind text))
printed_marked kind mark text form stops = one_token kind (mark ∷ text ++ mark ∷ []) form (λ byte _. goes-less kind (mark ∷ text ++ mark ∷ []) byte (stops byte))
    (λ lexeme kind_is text_is. (tt, record { kind_is = kind_is; text_is = sym (ap between_marks text_is ∙ between_marks-of mark text) }))

printed_quoted : (text : List ℕ) → IsQuote text → Fixed free (quoted_text text) (Quoted text)
printed_quoted text is = printed_marked kinds.Quoted 34 text (record { inside = text; marked = refl; lacks = is.lacks; utf8 = is.utf8 }) (λ _. refl)

-- documentation, and a byte of white space after it
printed_doc : (doc : Option (List ℕ)) (gap : ℕ) → is_space gap ≡ true → IsDoc doc → Fixed free (doc_text doc (gap ∷ [])) (Doc doc)
printed_doc None gap space is = nothing
printed_doc (Some text) gap space is =
    spaced gap space refl (printed_marked kinds.Doc 35 text (record { inside = text; marked = refl; lacks = is.lacks; utf8 = is.utf8 }) (λ _. refl))

-- ---- lists

with_no_comma : (P : Form) (ts : List Lexeme) → P ts → (P ⋯ LastComma) ts
with_no_comma P ts is = record { front = ts; back = []; all = sym (append-nil ts); begins = is; ends = inl refl }

module _ {X : Type 0} (Same : X → X → Type 0) (Is : X → Type 0) (Spell : X → Form) (text : X → List ℕ) where
  -- items one after another, each with white space at its end
  printed_each : (all : List X) → ((one : X) → Is one → Printed free (text one) (λ (a : Again Same one). Spell a.0))
      → EachIs Is all → Printed free (flat_map text all) (λ (a : Again (Alike Same) all). Each Spell a.0)
  printed_each [] printed are = seen (λ a. ([], tt)) nothing
  printed_each (one ∷ all) printed are = seen (λ a. (a.0.0 ∷ a.1.0, (a.0.1, a.1.1))) (followed (printed one are.0) (printed_each all printed are.1) (λ _ _. refl))

  module _ {byte second : ℕ} {Separator : Form} (All : List X → Form) (alone : (x : X) (ts : List Lexeme) → Spell x ts → All (x ∷ []) ts)
      (before : (x next : X) (more : List X) (ts : List Lexeme) → (Spell x ⋯ Separator ⋯ All (next ∷ more)) ts → All (x ∷ next ∷ more) ts)
      (separator : Fixed free (byte ∷ second ∷ []) Separator) (apart : runs_on kinds.Word byte ≡ false)
      (printed : (one : X) → Is one → Printed kinds.Word (text one) (λ (a : Again Same one). Spell a.0)) where
    -- items with a separator of two bytes between each two
    printed_list : (one : X) (all : List X) → EachIs Is (one ∷ all)
        → Printed kinds.Word (text one ++ flat_map (λ next. (byte ∷ second ∷ []) ++ text next) all)
        (λ (a : Again Same one × Again (Alike Same) all). All (a.0.0 ∷ a.1.0))
    printed_list one [] are = at_end (made (λ a. (a, ([], tt))) (λ a ts is. alone a.0 ts is) (printed one are.0))
    printed_list one (next ∷ all) are = made (λ a. (a.0, (a.1.0.0 ∷ a.1.1.0, (a.1.0.1, a.1.1.1)))) (λ a ts is. before a.0.0 a.1.0.0 a.1.1.0 ts is)
        (joined (printed one are.0) (prefixed separator (printed_list next all are.1)) apart)

printed_path : (names : List AstName) → IsPath names → Printed kinds.Word (names_text names) (λ (a : Again SameNames names). Path a.0)
printed_path [] is = absurd (let some = is.some in omega arith)
printed_path (name ∷ names) is =
    let joint = symbol kinds.DoubleColon (codes "::") refl (λ _. refl) in
    seen (λ a. (a.0.0 ∷ a.1.0, (a.0.1, a.1.1)))
    (printed_list SameName HasName Name (λ name. name.name) Path (λ _ _ s. s) (λ _ _ _ _ s. s) joint refl printed_name name names is.each)

-- a thing with this text is read again, where its last token goes on as a word does at most
abbrev PrintedAs : {X : Type 0} → List ℕ → (X → X → Type 0) → (X → Form) → X → Type 0
PrintedAs text Same Spell x = Printed kinds.Word text (λ (a : Again Same x). Spell a.0)

-- ---- words

either_word : (spell : Bool → List ℕ) → has_name_form (spell true) ≡ true → has_name_form (spell false) ≡ true → (b : Bool)
    → Fixed kinds.Word (spell b) (Word (spell b))
either_word spell one other true = word (spell true) one
either_word spell one other false = word (spell false) other

sync_form : (sync : AstSync) → has_name_form (sync_word sync) ≡ true
sync_form syncs.Sync = refl
sync_form _ = refl

-- ---- types

-- a word, and what is inside the round brackets after it
called : {A : Type 0} {P : A → Form} {last : TokenKind} {text : List ℕ} (spelling : List ℕ) → has_name_form spelling ≡ true → runs_on last 41 ≡ false
    → Printed last text P → Printed kinds.Word (spelling ++ (codes "(" ++ (text ++ codes ")"))) (λ a. Word spelling ⋯ Bracketed (P a))
called spelling form apart inside = worded (led (word spelling form) (bracketed apart inside) refl)

mutual
  printed_type : (one : Ltype) → IsType one → PrintedAs (type_text one) SameType SpellsType one
  printed_type null is = seen (λ a. (null, tt)) (word (codes "Null") refl)
  printed_type (bits width) is = seen (λ a. (bits width, refl)) (called (codes "Bits") refl refl (printed_whole width is))
  printed_type (group parts) is = seen (λ a. (group a.0, a.1)) (called (codes "Group") refl refl (printed_parts parts is))
  printed_type (union parts) is = seen (λ a. (union a.0, a.1)) (called (codes "Union") refl refl (printed_parts parts is))
  printed_type (stream element user settings) is =
      let kept = made (λ a. a) (λ a ts s. with_no_comma _ ts s) (labelled (codes "keep") refl (either_word truth_word refl refl settings.keep)) in
      let used = suffixed (labelled (codes "user") refl (printed_type user is.1)) (prefixed comma kept) refl in
      let directed = led (labelled (codes "direction") refl (either_word direction_word refl refl settings.reverse)) (prefixed comma used) refl in
      let levelled = led (labelled (codes "complexity") refl (printed_level settings.level is.2.level)) (prefixed comma directed) refl in
      let tied = led (labelled (codes "synchronicity") refl (word (sync_word settings.sync) (sync_form settings.sync))) (prefixed comma levelled) refl in
      let nested = led (labelled (codes "dimensionality") refl (printed_whole settings.dims is.2.dims)) (prefixed comma tied) refl in
      let counted = led (labelled (codes "throughput") refl (printed_number settings.throughput is.2.throughput)) (prefixed comma nested) refl in
      let arguments = made {Q = λ (a : Again SameType element × Again SameType user). Arguments (SpellsType a.0.0) (SpellsType a.1.0) a.1.0 settings} (λ a. a)
      (λ a ts s. record { order = all_arguments; apart = all_arguments-apart; others = λ argument none. absurd (none (all_arguments-all argument)); written = s })
      (joined (labelled (codes "data") refl (printed_type element is.0)) (prefixed comma counted) refl) in
      seen (λ a. (stream a.0.0 a.1.0 settings, (a.0.1, a.1.1, refl))) (called (codes "Stream") refl refl arguments)
  printed_type (path names) is = seen (λ a. (path a.0, a.1)) (printed_path names is)

  printed_parts : (ones : Parts) → AreParts ones → PrintedAs (but_first (more_parts_text ones)) SameParts SpellsParts ones
  printed_parts no_parts are = seen (λ a. (no_parts, tt)) nothing
  printed_parts (part name ltype more) are = seen (λ a. (part a.0.0.0 a.0.1.0 a.1.0, (a.0.0.1, a.0.1.1, a.1.1)))
      (printed_more name ltype more (joined (printed_name name are.0) (prefixed colon (printed_type ltype are.1)) refl) are.2)

  -- a part with those after it
  printed_more : (name : AstName) (ltype : Ltype) (more : Parts)
      → Printed kinds.Word (name.name ++ (codes ": " ++ type_text ltype)) (λ (a : Again SameName name × Again SameType ltype). Name a.0.0 ⋯ Of kinds.Colon ⋯ SpellsType a.1.0)
      → AreParts more → Printed kinds.Word ((name.name ++ (codes ": " ++ type_text ltype)) ++ more_parts_text more)
      (λ (a : (Again SameName name × Again SameType ltype) × Again SameParts more). SpellsParts (part a.0.0.0 a.0.1.0 a.1.0))
  printed_more name ltype no_parts one are = at_end (made (λ a. (a, (no_parts, tt))) (λ a ts is. with_no_comma _ ts is) one)
  printed_more name ltype (part next other more) one are =
      let rest = printed_more next other more (joined (printed_name next are.0) (prefixed colon (printed_type other are.1)) refl) are.2 in
      seen (λ a. (a.0, (part a.1.0.0.0 a.1.0.1.0 a.1.1.0, (a.1.0.0.1, a.1.0.1.1, a.1.1.1)))) (joined one (prefixed comma rest) refl)

printed_ast : (one : AstType) → IsType (plain one)
    → PrintedAs (type_text (plain one)) (λ a b. SameType (plain a) (plain b)) (λ t. SpellsType (plain t)) one
printed_ast one is = made (λ a. ((with_plain a.0).0, rw (with_plain a.0).1 a.1)) (λ a ts s. rw (with_plain a.0).1 s) (printed_type (plain one) is)

-- ---- ports

printed_port : (port : AstPort) → IsPort port → PrintedAs (port_text port) SamePort SpellsPort port
printed_port port is =
    let typed = led (either_word way_word refl refl port.inward) (indented (codes " ") refl (printed_ast port.ltype is.ltype)) refl in
    let named = joined (printed_name port.name is.name) (prefixed colon typed) refl in
    seen (λ a. (record { doc = port.doc; name = a.0.0; inward = port.inward; ltype = a.1.0 }, record { doc = refl; name = a.0.1; inward = refl; ltype = a.1.1 }))
    (prefixed (printed_doc port.doc 32 refl is.doc) named)

printed_ports : (all : List AstPort) → EachIs IsPort all → PrintedAs (ports_text all) (Alike SamePort) SpellsPorts all
printed_ports [] are = seen (λ a. ([], tt)) (worded (bracketed {last = free} refl nothing))
printed_ports (first ∷ more) are = seen (λ a. (a.0.0 ∷ a.1.0, (a.0.1, a.1.1))) (worded (bracketed refl
    (printed_list SamePort IsPort SpellsPort port_text (Commas SpellsPort) (λ _ _ is. with_no_comma _ _ is) (λ _ _ _ _ is. is) comma refl printed_port first more are)))

-- ---- statements and bodies

semicolon : Fixed free (codes ";") (Of kinds.Semicolon)
semicolon = symbol kinds.Semicolon (codes ";") refl (λ _. refl)

printed_end : (first : AstName) (second : Option AstName) → HasName first → IsSecond second
    → PrintedAs (first.name ++ second_text second) SameEnd SpellsEnd (record { first = first; second = second })
printed_end first None one other = seen (λ a. (record { first = a.0.0; second = None }, (a.0.1, a.1))) (followed (printed_name first one) nothing (λ _ stops. stops))
printed_end first (Some name) one other = seen (λ a. (record { first = a.0.0; second = Some a.1.0 }, (a.0.1, a.1.1)))
    (joined (printed_name first one) (prefixed (symbol kinds.Point (codes ".") refl (λ _. refl)) (printed_name name other)) refl)

printed_stmt : (stmt : AstStmt) → IsStmt stmt → Printed free (stmt_text stmt) (λ (a : Again SameStmt stmt). SpellsStmt a.0)
printed_stmt (stmts.Instance name streamlet) is = seen (λ a. (stmts.Instance a.0.0 (record { names = a.1.0 }), (a.0.1, a.1.1)))
    (joined (printed_name name is.0) (prefixed equals (suffixed (printed_path streamlet.names is.1) semicolon refl)) refl)
printed_stmt (stmts.Link first second) is =
    let link_end = λ (end : AstEnd) (is : IsEnd end). printed_end end.first end.second is.0 is.1 in
    let dashes = indented (codes " ") refl (spaced 32 refl refl (symbol kinds.DoubleDash (codes "--") refl (λ _. refl))) in
    seen (λ a. (stmts.Link a.0.0 a.1.0, (a.0.1, a.1.1)))
    (joined (link_end first is.0) (prefixed dashes (suffixed (link_end second is.1) semicolon refl)) refl)

printed_body : (body : AstBody) → IsBody body → PrintedAs (body_text body) SameBody SpellsBody body
printed_body (bodies.Linked text) is = seen (λ a. (bodies.Linked text, refl)) (worded (printed_quoted text is))
printed_body (bodies.Structural all) is =
    let inside = printed_each SameStmt IsStmt SpellsStmt spaced_text all (λ stmt s. indented (codes " ") refl (printed_stmt stmt s)) is in
    let close = indented (codes " ") refl (symbol kinds.CloseBrace (codes "}") refl (λ _. refl)) in
    seen (λ a. (bodies.Structural a.0, a.1)) (worded (prefixed (symbol kinds.OpenBrace (codes "{") refl (λ _. refl)) (suffixed inside close refl)))

-- ---- declarations

printed_streamlet : (all : AstPorts) → ArePorts all → PrintedAs (streamlet_text all) SamePorts SpellsStreamletPorts all
printed_streamlet (ports.Own all) are = seen (λ a. (ports.Own a.0, a.1)) (printed_ports all are)
printed_streamlet (ports.Named target) are = seen (λ a. (ports.Named (record { names = a.0 }), a.1)) (printed_path target.names are)

-- a name, and what follows it after an `=`
equated : {A : Type 0} {P : A → Form} {text : List ℕ} (name : AstName) → HasName name → Printed kinds.Word text P
    → Printed kinds.Word (name.name ++ (codes " = " ++ text)) (λ (a : Again SameName name × A). Name a.0.0 ⋯ Of kinds.Equals ⋯ P a.1)
equated name named printed = joined (printed_name name named) (prefixed equals printed) refl

printed_kind : (name : AstName) (kind : AstKind) → HasName name → IsKind kind
    → Printed kinds.Word (kind_text name.name kind) (λ (a : Again SameName name × Again SameKind kind). SpellsKind a.0.0 a.1.0)
printed_kind name (decls.Alias ltype) named is =
    seen (λ a. (a.0, (decls.Alias a.1.0, a.1.1))) (prefixed (keyword (codes "type") refl) (equated name named (printed_ast ltype is)))
printed_kind name (decls.Interface all) named is =
    seen (λ a. (a.0, (decls.Interface a.1.0, a.1.1))) (prefixed (keyword (codes "interface") refl) (equated name named (printed_ports all is)))
printed_kind name (decls.Streamlet all) named is =
    seen (λ a. (a.0, (decls.Streamlet a.1.0, a.1.1))) (prefixed (keyword (codes "streamlet") refl) (equated name named (printed_streamlet all is)))
printed_kind name (decls.Impl target body) named is =
    let aimed = joined (printed_path target.names is.0) (prefixed equals (printed_body body is.1)) refl in
    seen (λ a. (a.0, (decls.Impl (record { names = a.1.0.0 }) a.1.1.0, (a.1.0.1, a.1.1.1))))
    (prefixed (keyword (codes "impl") refl) (joined (printed_name name named) (prefixed (between_words (codes "of") refl) aimed) refl))
printed_kind name (decls.Test target port value plan) named is =
    let texts = prefixed (printed_quoted value is.2) (prefixed (between_words (codes "plan") refl) (worded (printed_quoted plan is.3))) in
    let driven = prefixed (between_words (codes "drive") refl) (equated port is.1 texts) in
    let aimed = joined (printed_path target.names is.0) driven refl in
    seen (λ a. (a.0, (decls.Test (record { names = a.1.0.0 }) a.1.1.0.0 value plan, (a.1.0.1, a.1.1.0.1, refl, refl))))
    (prefixed (keyword (codes "test") refl) (joined (printed_name name named) (prefixed (between_words (codes "of") refl) aimed) refl))

-- documentation on a line of its own
printed_doc_line : (indent : List ℕ) (doc : Option (List ℕ)) → list_all is_space indent ≡ true → IsDoc doc → Fixed free (doc_line indent doc) (Doc doc)
printed_doc_line indent None space is = nothing
printed_doc_line indent (Some text) space is = indented indent space (printed_doc (Some text) 10 refl is)

printed_decl : (decl : AstDecl) → IsDecl decl → Printed free (decl_text decl) (λ (a : Again SameDecl decl). SpellsDecl a.0)
printed_decl decl is =
    let kind = suffixed (printed_kind decl.name decl.kind is.name is.kind) (spaced 10 refl refl semicolon) refl in
    seen (λ a. (record { doc = decl.doc; name = a.0.0; kind = a.1.0 }, record { doc = refl; name = a.0.1; kind = a.1.1 }))
    (prefixed (printed_doc_line (codes "  ") decl.doc refl is.doc) (indented (codes "  ") refl kind))

-- ---- namespaces

printed_namespace : (one : AstNamespace) → IsNamespace one → Printed free (namespace_text one) (λ (a : Again SameNamespace one). SpellsNamespace a.0)
printed_namespace one is =
    let inside = printed_each SameDecl IsDecl SpellsDecl decl_text one.decls printed_decl is.decls in
    let open_brace = indented (codes " ") refl (spaced 10 refl refl (symbol kinds.OpenBrace (codes "{") refl (λ _. refl))) in
    let braced = prefixed open_brace (suffixed inside (spaced 10 refl refl (symbol kinds.CloseBrace (codes "}") refl (λ _. refl))) refl) in
    seen (λ a. (record { doc = one.doc; path = record { names = a.0.0 }; decls = a.1.0 }, record { doc = refl; path = a.0.1; decls = a.1.1 }))
    (prefixed (printed_doc_line [] one.doc refl is.doc) (prefixed (keyword (codes "namespace") refl) (joined (printed_path one.path.names is.path) braced refl)))

pub printed_namespaces : (all : List AstNamespace) → EachIs IsNamespace all
    → Printed free (flat_map namespace_text all) (λ (a : Again (Alike SameNamespace) all). Each SpellsNamespace a.0)
printed_namespaces all are = printed_each SameNamespace IsNamespace SpellsNamespace namespace_text all printed_namespace are
