-- The rules of declarations, namespaces and projects.
use Rattle.til_parser.proofs.rules.Common.{◌≡◌, ℕ, ◌<◌, true, false, List, [], ◌∷◌, ◌++◌, length, Option, Some, None, refl, sym, ap, subst, arith, codes, none-some}
use Rattle.til_parser.proofs.rules.Common.{same_Some, append-nil, Anything, ◌⋯◌, GoesOn, Each, Shrinks, tells, IsRule, front-tells, Begins, begins-filled, begins-repeats}
use Rattle.til_parser.proofs.rules.Common.{repeated-rule, as_rule, as_flat, skip, close, both, viewed, respelled, shrinks, chain-rule, Ast, AstKind, AstName}
use Rattle.til_parser.proofs.rules.Common.{AstNamespace, AstPath, Form, Of, Word, Name, SpellsKind, SpellsDecl, SpellsNamespace, Spells, KindWithin, DeclsWithin}
use Rattle.til_parser.proofs.rules.Common.{IsWithin, Lexeme, IsFormed, KindTo, DeclTo, NamespaceTo, ProjectTo, same_kind, is_kind, named_kind, decl, namespace}
use Rattle.til_parser.proofs.rules.Common.{project_of, project, keyword_word, ◌↔◌}
use Rattle.tydi_reading.proofs.CheckedRule.{checked-rule}
use Rattle.til_lexer.specs.declared.token.TokenKind.TheVariants as kinds
use Rattle.til_parser.specs.{Grammar.NamespacesWithin, declared.tree.AstDecl.AstDecl}
use Rattle.til_parser.proofs.rules.DeclRules.{kind_parts, kind_of_parts, KindForm, keyword-rule, kind-rule_of}
use Rattle.til_parser.proofs.rules.LeafRules.{PathNext, name-rule, path-rule, documented, doc-begins, braced-rule}
use Rattle.til_parser.proofs.rules.TokenRules.{same_kind-is, word_mark, semicolon, begins_item, item-apart, Of-not, front-not}
use Rattle.til_parser.specs.declared.refusal.TooDeep.{TooDeep}

word-begins : (word : List ℕ) (Second : Form) (front rest : List Lexeme) → (Word word ⋯ Second) front → tells (is_kind kinds.Word) false (front ++ rest) ≡ true
word-begins word Second front rest = front-tells (is_kind kinds.Word) true (Word word) Second front rest (λ f r s. rw (s.all) (same_kind-is s.lexeme.kind kinds.Word s.is.kind))

-- nothing is left
abbrev pub AtEnd : Form
AtEnd rest = tells {T = Lexeme} (λ _. false) true rest ≡ true

module _ (n : ℕ) where
  -- ---- a keyword, a name, and what follows

  named-rule : IsRule TooDeep IsFormed (named_kind n) (λ z. SpellsKind z.0 z.1) (λ _. PathNext) (λ z. KindWithin n z.1) (KindTo n)
  unfolding named_kind
  named-rule = respelled (as_rule
      (chain-rule (λ begun. Word (keyword_word begun)) (λ begun z. Name z.0 ⋯ KindForm begun z.1) _ _ _ (λ _. Anything) _ _ _
      (λ begun z back rest s next. tt) (λ begun back rest d. tt) keyword-rule
      (λ begun. (both (as_flat name-rule) (as_rule (kind-rule_of n begun)) (λ x y back rest s next. tt) (λ x back rest d. tt)).is)))
      _ (λ z ts c. kind_of_parts c.0 z.0 z.1 ts c.1) (λ z. kind_parts z.0 z.1)

  ended-begins : Begins (is_kind kinds.Word) (λ (z : AstName × AstKind). SpellsKind z.0 z.1 ⋯ Of kinds.Semicolon) (KindTo n)
  ended-begins = record {
    item = λ z front rest. front-tells (is_kind kinds.Word) true (SpellsKind z.0 z.1) _ front rest
        (λ front rest s. let p = kind_parts z.0 z.1 front s in word-begins (keyword_word p.0) _ front rest p.1);
    unfit = λ front rest d. word-begins (keyword_word d.0) _ front rest d.1;
  }

  -- ---- declarations

  decl-rule : IsRule TooDeep IsFormed (decl n) SpellsDecl (λ _. Anything) (λ d. KindWithin n d.kind) (DeclTo n)
  unfolding decl same_kind
  decl-rule =
      viewed (λ (d : Option (List ℕ) × (AstName × AstKind)). record { doc = d.0; name = d.1.0; kind = d.1.1 }) (λ (d : AstDecl). (d.doc, (d.name, d.kind)))
      (documented (close (as_rule named-rule) semicolon (λ z. Of-not kinds.Semicolon kinds.DoubleColon refl)) ended-begins) (λ x. refl) (λ y. refl)

  decl-begins : Begins begins_item SpellsDecl (DeclTo n)
  decl-begins = record { item = λ d. doc-begins _ (ended-begins.item (d.name, d.kind)) d.doc; unfit = λ front rest d. doc-begins _ ended-begins.unfit d.0 front rest d.1 }

  pub decl-filled : (d : AstDecl) (ts : List Lexeme) → SpellsDecl d ts → 0 < length ts
  decl-filled d ts s = begins-filled begins_item ts (decl-begins.item d ts [] s)

  pub Shrinks-decl : Shrinks (decl n)
  Shrinks-decl = shrinks (as_rule decl-rule) decl-begins

  -- ---- namespaces

  namespace-rule : IsRule TooDeep IsFormed (namespace n) SpellsNamespace (λ _. Anything) (λ x. DeclsWithin n x.decls) (NamespaceTo n)
  unfolding namespace same_kind
  namespace-rule =
      viewed (λ (x : Option (List ℕ) × (AstPath × List AstDecl)). record { doc = x.0; path = x.1.0; decls = x.1.1 }) (λ (x : AstNamespace). (x.doc, (x.path, x.decls)))
      (documented (skip (word_mark (codes "namespace") refl)
      (both (as_flat path-rule) (as_rule (braced-rule (begins-repeats (item-apart kinds.CloseBrace refl refl) decl-begins) decl-rule))
      (λ p all back rest s next. front-not kinds.OpenBrace kinds.DoubleColon refl back rest s) (λ p. front-not kinds.OpenBrace kinds.DoubleColon refl)))
      (record { item = λ z. word-begins (codes "namespace") _; unfit = word-begins (codes "namespace") _ })) (λ x. refl) (λ y. refl)

  namespace-begins : Begins begins_item SpellsNamespace (NamespaceTo n)
  namespace-begins = record {
    item = λ x. doc-begins _ (word-begins (codes "namespace") _) x.doc;
    unfit = λ front rest d. doc-begins _ (word-begins (codes "namespace") _) d.0 front rest d.1;
  }

  pub Shrinks-namespace : Shrinks (namespace n)
  Shrinks-namespace = shrinks (as_rule namespace-rule) namespace-begins

  -- ---- projects

  -- the namespaces that make a project are these, one at least
  made_is : (all : List AstNamespace) (ast : Ast) → (project_of all ≡ Some ast) ↔ ((0 < length all) × (all ≡ ast.namespaces))
  made_is [] ast = (λ is. absurd (none-some ast is), λ some. absurd (omega (arith, some.0)))
  made_is (x ∷ all) ast = (λ is. (omega arith, ap (λ (a : Ast). a.namespaces) (same_Some _ ast is)), λ some. ap (λ l. Some (record { namespaces = l })) some.1)

  project_mends : (all : List AstNamespace) (ts : List Lexeme) → project_of all ≡ None → Each SpellsNamespace all ts → GoesOn IsFormed Spells ts
  project_mends [] ts is s = let g = namespace-rule.example in subst (GoesOn IsFormed Spells) (sym s) (record {
    value = record { namespaces = g.value ∷ [] };
    more = g.more;
    good = g.good;
    spelled = record { some = omega arith; each = record { front = g.more; back = []; all = sym (append-nil g.more); begins = g.spelled; ends = refl } };
  })
  project_mends (x ∷ all) ts is s = absurd (none-some _ (sym is))

  pub project-rule : IsRule TooDeep IsFormed (project n) Spells (λ _. AtEnd) (IsWithin n) (ProjectTo n)
  unfolding project
  project-rule =
      checked-rule IsFormed project_of _ (Each SpellsNamespace) (λ _. AtEnd) (NamespacesWithin n) (ProjectTo n) Spells (λ _. AtEnd) (IsWithin n)
      (record {
        there = λ all ast ts is s.
            let m = (made_is all ast).0 is in record { some = subst (λ l. 0 < length l) m.1 m.0; each = subst (λ l. Each SpellsNamespace l ts) m.1 s };
        back = λ ast ts s. (ast.namespaces, (made_is ast.namespaces ast).1 (s.some, refl), s.each);
        follow = λ all ast rest is next. next;
        within = λ all ast is. subst (NamespacesWithin n) ((made_is all ast).0 is).1;
        apart = λ all ast is. subst (NamespacesWithin n) (sym ((made_is all ast).0 is).1);
        mends = project_mends;
      })
      (repeated-rule _ _ _ _ _ _ _ (begins-repeats (λ t is. refl) namespace-begins) namespace-rule)
