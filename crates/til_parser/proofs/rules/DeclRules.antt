-- The rules of bodies, ports, and what follows the keyword of a declaration.
use Rattle.til_parser.proofs.rules.Common.{◌≡◌, ◌⊎◌, inl, inr, false, List, ◌++◌, Option, refl, ℕ, Bool, [], ◌∷◌, codes, Never, Anything, ◌⋯◌, Shrinks, tells, choose}
use Rattle.til_parser.proofs.rules.Common.{IsRule, Begins, begins-repeats, each_unit, with_ends, regroup, ungroup, as_rule, as_flat, of_flat, flat, flat_skip, flat_close}
use Rattle.til_parser.proofs.rules.Common.{both, flat_parted, viewed, Made, either-rule, optional-rule, front-marked, respelled, shrinks, skip, parted, made-rule}
use Rattle.til_parser.proofs.rules.Common.{Chained, chain-rule, AstName, AstPath, Form, Of, Name, Path, Quoted, SpellsEnd, Second, SpellsStmt, SpellsBody, Word}
use Rattle.til_parser.proofs.rules.Common.{SpellsPort, SpellsPorts, SpellsStreamletPorts, SpellsKind, StreamletWithin, PortsWithin, KindWithin, way_word, Lexeme}
use Rattle.til_parser.proofs.rules.Common.{IsFormed, same_kind, is_kind, one_more, bracketed, second, end, link_from, instance_of, stmt, body, port}
use Rattle.til_parser.proofs.rules.Common.{streamlet_ports, keyword, impl_kind, test_kind, kind_of, mapped-less, Keyword, AstType, AstKind, PortTo, PortsTo, RestTo}
use Rattle.til_parser.proofs.rules.Common.{keyword_word, all_keywords}
use Rattle.til_lexer.specs.declared.token.TokenKind.TheVariants as kinds
use Rattle.til_parser.specs.declared.tree.AstBody.TheVariants as bodies
use Rattle.til_parser.specs.declared.tree.{AstBody.AstBody, AstEnd.AstEnd, AstPort.AstPort, AstStmt.AstStmt}
use Rattle.til_parser.specs.declared.tree.AstStmt.TheVariants as stmts
use Rattle.til_parser.proofs.rules.LeafRules.{name-begins, name-rule, path-rule, quoted-rule, braced-rule, PathNext, path-front, optional-tells, documented, doc-begins, either_word-rule, bracketed-rule}
use Rattle.til_parser.proofs.rules.TokenRules.{NoneNext, Of-not, front-not, same_kind-is, kind-apart, kind_mark, equals, semicolon, word_mark, colon, open_paren, begins_item, item-apart, table-rule}
use Rattle.til_parser.specs.declared.keyword.Keyword.TheVariants as keywords
use Rattle.til_parser.specs.declared.tree.AstKind.TheVariants as decls
use Rattle.til_parser.specs.declared.tree.AstPorts.TheVariants as ports
use Rattle.til_parser.proofs.rules.StreamFields.{S}
use Rattle.til_parser.proofs.rules.TypeRules.{Fits, ltype-rule}
use Rattle.til_parser.specs.declared.refusal.TooDeep.{TooDeep}

-- ---- ends

second-rule : IsRule TooDeep IsFormed second Second (λ _. NoneNext kinds.Point) (λ _. Unit {0}) Never
unfolding second
second-rule = optional-rule (is_kind kinds.Point) (flat_skip (kind_mark kinds.Point _ refl) (as_flat name-rule))
    (λ n. front-marked (kind_mark kinds.Point _ refl) (Name n)) (λ n rest. tt)

end-rule : IsRule TooDeep IsFormed end SpellsEnd (λ _. NoneNext kinds.Point) (λ _. Unit {0}) Never
unfolding end
end-rule =
    viewed (λ (e : AstName × Option AstName). record { first = e.0; second = e.1 }) (λ (e : AstEnd). (e.first, e.second))
    (of_flat (flat (both (as_flat name-rule) (as_rule second-rule) (λ x y back rest s next. tt) (λ x back rest d. tt)) (λ ts d. d.1.ends) (λ x. tt))) (λ x. refl) (λ y. refl)

-- ---- statements

-- the form after the name of an instance, and after that of a link
abbrev StmtRest : AstName → AstStmt → Form
StmtRest called x ts = Made (stmts.Instance called) (λ p. Of kinds.Equals ⋯ (Path p.names ⋯ Of kinds.Semicolon)) x ts
    ⊎ Made (λ (l : Option AstName × AstEnd). stmts.Link (record { first = called; second = l.0 }) l.1)
    (λ l. Second l.0 ⋯ (Of kinds.DoubleDash ⋯ (SpellsEnd l.1 ⋯ Of kinds.Semicolon))) x ts

rest-rule : (called : AstName) → IsRule TooDeep IsFormed (choose (is_kind kinds.Equals) false (instance_of called) (link_from called)) (StmtRest called) (λ _. Anything) (λ _. Unit {0}) Never
unfolding link_from instance_of same_kind
rest-rule called =
    either-rule (is_kind kinds.Equals) _
    (of_flat (flat_skip equals (flat_close (as_flat path-rule) semicolon (λ p. Of-not kinds.Semicolon kinds.DoubleColon refl)))) _
    (flat_parted (as_flat second-rule) (kind_mark kinds.DoubleDash _ refl) (flat_close (as_flat end-rule) semicolon (λ e. Of-not kinds.Semicolon kinds.Point refl))
    (λ n. Of-not kinds.DoubleDash kinds.Point refl)) _ _ _
    (record {
      one = λ p ts s. inl (p, refl, s);
      other = λ l ts s. inr (l, refl, s);
      which = λ x ts s. s;
      one_next = λ p rest next. tt;
      other_next = λ l rest next. tt;
      one_begins = λ p. front-marked equals (Path p.names ⋯ Of kinds.Semicolon);
      unfit_begins = λ front rest d. absurd d;
      other_begins = λ l front rest s next.
          optional-tells (is_kind kinds.Equals) false _ (λ n. front-not kinds.Point kinds.Equals refl) (front-not kinds.DoubleDash kinds.Equals refl) l.0 front rest s;
      within_one = λ p w. tt;
      one_within = λ p w. tt;
      other_within = λ l. tt;
    })

stmt_back : (x : AstStmt) (ts : List Lexeme) → SpellsStmt x ts → Chained Name StmtRest x ts
stmt_back (stmts.Instance called p) ts s = (called, with_ends s (inl (p, refl, s.ends)))
stmt_back (stmts.Link first other) ts s = let t = regroup s in (first.first, with_ends t (inr ((first.second, other), refl, t.ends)))

pub stmt-rule : IsRule TooDeep IsFormed stmt SpellsStmt (λ _. Anything) (λ _. Unit {0}) Never
unfolding stmt
stmt-rule = (flat (as_rule (respelled (as_rule
    (chain-rule Name StmtRest _ _ _ (λ _. Anything) _ _ _ (λ called x back rest s next. tt) (λ called back rest d. tt) name-rule rest-rule))
    SpellsStmt (λ x ts c. elim c.1.ends [ inl i ↦ rw i.1 (with_ends c.1 i.2) | inr l ↦ rw l.1 (ungroup (with_ends c.1 l.2)) ]) stmt_back)) (λ ts d. d.1.ends) (λ x. tt)).is

stmt-begins : Begins (is_kind kinds.Word) SpellsStmt Never
stmt-begins = record { item = λ x front rest s. let c = stmt_back x front s in name-begins c.0 _ front rest c.1; unfit = λ front rest d. absurd d }

pub Shrinks-stmt : Shrinks stmt
Shrinks-stmt = shrinks (as_rule stmt-rule) stmt-begins

-- ---- bodies

pub body-rule : IsRule TooDeep IsFormed body SpellsBody (λ _. Anything) (λ _. Unit {0}) Never
unfolding body same_kind
body-rule =
    either-rule (is_kind kinds.Quoted) bodies.Linked (of_flat (as_flat quoted-rule)) bodies.Structural
    (flat (as_rule (braced-rule (begins-repeats (kind-apart kinds.Word kinds.CloseBrace refl) stmt-begins) stmt-rule)) (λ ts d. d.ends.1.ends) each_unit) _ _ _
    (record {
      one = λ text ts s. s;
      other = λ all ts s. s;
      which = elim [ bodies.Linked text ↦ λ ts s. inl (text, refl, s) | bodies.Structural all ↦ λ ts s. inr (all, refl, s) ];
      one_next = λ text rest next. tt;
      other_next = λ all rest next. tt;
      one_begins = λ text front rest s. rw (s.all) (same_kind-is s.lexeme.kind kinds.Quoted s.is.kind_is);
      unfit_begins = λ front rest d. absurd d;
      other_begins = λ all front rest s next. front-not kinds.OpenBrace kinds.Quoted refl front rest s;
      within_one = λ text w. tt;
      one_within = λ text w. tt;
      other_within = λ all. tt;
    })

-- ---- keywords

pub keyword-rule : IsRule TooDeep IsFormed keyword (λ x. Word (keyword_word x)) (λ _. Anything) (λ _. Unit {0}) Never
keyword-rule = table-rule keyword_word all_keywords (elim [ keywords.Type ↦ refl | _ ↦ refl ]) keywords.Type refl

-- the form after the keyword and the name of a declaration
abbrev pub KindForm : Keyword → AstKind → Form
KindForm keywords.Type = Made decls.Alias (λ x. Of kinds.Equals ⋯ S x)
KindForm keywords.Interface = Made decls.Interface (λ x. Of kinds.Equals ⋯ SpellsPorts x)
KindForm keywords.Streamlet = Made decls.Streamlet (λ x. Of kinds.Equals ⋯ SpellsStreamletPorts x)
KindForm keywords.Impl = Made (λ (i : AstPath × AstBody). decls.Impl i.0 i.1) (λ i. Word (codes "of") ⋯ (Path i.0.names ⋯ (Of kinds.Equals ⋯ SpellsBody i.1)))
KindForm keywords.Test = Made (λ (t : AstPath × (AstName × (List ℕ × List ℕ))). decls.Test t.0 t.1.0 t.1.1.0 t.1.1.1)
    (λ t. Word (codes "of") ⋯ (Path t.0.names ⋯ (Word (codes "drive") ⋯ (Name t.1.0 ⋯ (Of kinds.Equals ⋯ (Quoted t.1.1.0 ⋯ (Word (codes "plan") ⋯ Quoted t.1.1.1)))))))

pub kind_parts : (called : AstName) (kind : AstKind) (ts : List Lexeme) → SpellsKind called kind ts
    → (begun : Keyword) × ((Word (keyword_word begun) ⋯ (Name called ⋯ KindForm begun kind)) ts)
kind_parts called (decls.Alias x) ts s = (keywords.Type, with_ends s (with_ends s.ends (x, refl, s.ends.ends)))
kind_parts called (decls.Interface all) ts s = (keywords.Interface, with_ends s (with_ends s.ends (all, refl, s.ends.ends)))
kind_parts called (decls.Streamlet all) ts s = (keywords.Streamlet, with_ends s (with_ends s.ends (all, refl, s.ends.ends)))
kind_parts called (decls.Impl target inside) ts s = (keywords.Impl, with_ends s (with_ends s.ends ((target, inside), refl, s.ends.ends)))
kind_parts called (decls.Test target port value plan) ts s = (keywords.Test, with_ends s (with_ends s.ends ((target, (port, (value, plan))), refl, s.ends.ends)))

pub kind_of_parts : (begun : Keyword) (called : AstName) (kind : AstKind) (ts : List Lexeme) → (Word (keyword_word begun) ⋯ (Name called ⋯ KindForm begun kind)) ts
    → SpellsKind called kind ts
kind_of_parts keywords.Type called kind ts s = let m = s.ends.ends in rw m.1 (with_ends s (with_ends s.ends m.2))
kind_of_parts _ called kind ts s = let m = s.ends.ends in rw m.1 (with_ends s (with_ends s.ends m.2))

module _ (n : ℕ) where
  -- ---- ports

  port-rule : IsRule TooDeep IsFormed (port n) SpellsPort (λ _. PathNext) (λ p. Fits n p.ltype) (PortTo n)
  unfolding port
  port-rule =
      viewed (λ (p : Option (List ℕ) × (AstName × (Bool × AstType))). record { doc = p.0; name = p.1.0; inward = p.1.1.0; ltype = p.1.1.1 })
      (λ (p : AstPort). (p.doc, (p.name, (p.inward, p.ltype))))
      (documented (parted (as_flat name-rule) colon
      (both (as_flat (either_word-rule way_word refl refl)) (as_rule (ltype-rule n)) (λ b y back rest s next. tt) (λ b back rest d. tt)) (λ x front rest s. tt))
      (record { item = λ z. name-begins z.0 _; unfit = λ front rest d. name-begins d.0 _ front rest d.1 })) (λ x. refl) (λ y. refl)

  port-begins : Begins begins_item SpellsPort (PortTo n)
  port-begins = record {
    item = λ p. doc-begins _ (name-begins p.name _) p.doc;
    unfit = λ front rest d. doc-begins _ (λ back rest e. name-begins e.0 _ back rest e.1) d.0 front rest d.1;
  }

  pub Shrinks-port : (found : List AstPort) → Shrinks (one_more (port n) found)
  Shrinks-port found = mapped-less (λ x. found ++ x ∷ []) (port n) (shrinks (as_rule port-rule) port-begins)

  ports-rule : IsRule TooDeep IsFormed (bracketed (port n)) SpellsPorts (λ _. Anything) (PortsWithin n) (PortsTo n)
  unfolding same_kind
  ports-rule = bracketed-rule (begins-repeats (item-apart kinds.CloseParen refl refl) port-begins) port-rule

  -- ---- a streamlet's ports

  streamlet-rule : IsRule TooDeep IsFormed (streamlet_ports n) SpellsStreamletPorts (λ _. PathNext) (StreamletWithin n) (PortsTo n)
  unfolding streamlet_ports same_kind
  streamlet-rule =
      either-rule (is_kind kinds.OpenParen) ports.Own (as_rule ports-rule) ports.Named (as_flat path-rule) _ _ _
      (record {
        one = λ all ts s. s;
        other = λ p ts s. s;
        which = elim [ ports.Own all ↦ λ ts s. inl (all, refl, s) | ports.Named p ↦ λ ts s. inr (p, refl, s) ];
        one_next = λ all rest next. tt;
        other_next = λ p rest next. next;
        one_begins = λ all. front-marked open_paren _;
        unfit_begins = front-marked open_paren _;
        other_begins = λ p front rest s next. path-front (λ ts. tells (is_kind kinds.OpenParen) false ts ≡ false) (λ x t more is. rw is.kind refl) p.names front rest s;
        within_one = λ all w. w;
        one_within = λ all w. w;
        other_within = λ p. tt;
      })

  -- ---- a declaration, by its keyword

  pub kind-rule_of : (begun : Keyword) → IsRule TooDeep IsFormed (kind_of n begun) (KindForm begun) (λ _. PathNext) (KindWithin n) (RestTo n begun)
  unfolding impl_kind test_kind same_kind
  kind-rule_of keywords.Type = made-rule decls.Alias (skip equals (as_rule (ltype-rule n))) _ _ (λ x rest next. next) (λ x w. w) (λ x w. w)
  kind-rule_of keywords.Interface = made-rule decls.Interface (skip equals (as_rule ports-rule)) _ _ (λ x rest next. tt) (λ x w. w) (λ x w. w)
  kind-rule_of keywords.Streamlet = made-rule decls.Streamlet (skip equals (as_rule streamlet-rule)) _ _ (λ x rest next. next) (λ x w. w) (λ x w. w)
  kind-rule_of keywords.Impl =
      made-rule _ (of_flat (flat_skip (word_mark (codes "of") refl) (flat_parted (as_flat path-rule) equals (as_flat body-rule) (λ p. Of-not kinds.Equals kinds.DoubleColon refl))))
      _ _ (λ x rest next. tt) (λ x w. tt) (λ x w. tt)
  kind-rule_of keywords.Test =
      made-rule _ (of_flat (flat_skip (word_mark (codes "of") refl) (flat_parted (as_flat path-rule) (word_mark (codes "drive") refl)
      (flat_parted (as_flat name-rule) equals
      (flat_parted (as_flat quoted-rule) (word_mark (codes "plan") refl) (as_flat quoted-rule) (λ x front rest s. tt)) (λ x front rest s. tt))
      (λ p front rest s. rw (s.all, s.is.kind) refl))))
      _ _ (λ x rest next. tt) (λ x w. tt) (λ x w. tt)
