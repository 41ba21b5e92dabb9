-- The rules of types: the word with which one begins, its parts, a type by the types inside it, and types of so many levels.
use Rattle.til_parser.proofs.rules.Common.{◌≡◌, ◌↔◌, ℕ, zero, suc, ◌≤◌, ◌⊎◌, inl, inr, ⊎_elim, true, false, List, [], ◌∷◌, ◌++◌, All, Option, Some, None, refl, sym, ap, ◌∙◌, subst}
use Rattle.til_parser.proofs.rules.Common.{arith, codes, true≢false, is_some, append-nil, All-nil, All-append, is_name, has_name_form, Never, Anything, ◌⋯◌, GoesOn, EachIs}
use Rattle.til_parser.proofs.rules.Common.{NeverGrows, Reader, Shrinks, tells, ◌<$>◌, IsRule, Contains-none, Contains-first, with_ends, joins, front-tells, mapped-less, Begins}
use Rattle.til_parser.proofs.rules.Common.{begins-repeats, as_rule, as_flat, flat_skip, flat_close, parted, viewed, Made, made-rule, respelled, shrinks, Only, pure-rule}
use Rattle.til_parser.proofs.rules.Common.{entry-none, AstStream, AstName, AstPath, Form, Of, Word, IsNamed, Whole, Path, Commas, Bracketed}
use Rattle.til_parser.proofs.rules.Common.{SpellsType, SpellsParts, Lexeme, IsFormed, SpellsPart, BracketedTo, PartTo, AfterTo, InsideTo, TypeTo, same_kind, is_kind, begins_type}
use Rattle.til_parser.proofs.rules.Common.{type_word, all_type_words, type_word_of, type_word_at, path, bits, part, one_more, bracketed, value, type_after}
use Rattle.til_parser.proofs.rules.Common.{type_with, ltype, Ltype, null, plain, depth, depth_of_parts}
use Rattle.tydi_reading.proofs.{ChoiceRules.unfit-rule, FormLemmas.goes_as, LedRule.led-rule, Rule.Flat, Rule.of_mark}
use Rattle.til_lexer.specs.declared.token.TokenKind.TheVariants as kinds
use Rattle.til_parser.specs.declared.keyword.Argument.TheVariants as arguments
use Rattle.til_parser.specs.declared.keyword.TypeWord.{TypeWord}
use Rattle.til_parser.specs.declared.keyword.TypeWord.TheVariants as words
use Rattle.til_parser.specs.declared.ltype.AstPart.{AstPart, roll-AstPart}
use Rattle.til_parser.specs.declared.ltype.AstType.{AstType, roll-AstType, TheOpen.AstType-F, TheViews.out-AstType, TheViews.roll-out-AstType}
use Rattle.til_parser.specs.declared.ltype.AstType.TheVariants as types
use Rattle.til_parser.proofs.PlainLemmas.{plain_parts, plain-Null, plain-Bits, plain-Group, plain-Union, plain-Stream, plain-Path}
use Rattle.til_parser.proofs.rules.LeafRules.{PathNext, name-rule, name-begins, whole-rule, path-rule, path-front, bracketed-rule}
use Rattle.til_parser.proofs.rules.StreamFields.{S, ArgumentsOf, least, default-is, stream-rule, value-grows}
use Rattle.til_parser.proofs.rules.TokenRules.{both, made, one, kind_is, kind-apart, colon, open_paren, close_paren, word_at-word, word_at-back, word_at-rule, word_at-there, word_mark}
use Rattle.til_parser.specs.declared.refusal.TooDeep.{TooDeep}

-- ---- the word with which a type begins

each_type_word : (x : TypeWord) → type_word_of (type_word x) ≡ Some x
each_type_word words.Null = refl
each_type_word _ = refl

abbrev Lead : TypeWord → Form
Lead k = Word (type_word k)

-- a name is none of the words
not_told : (x : AstName) (t : Lexeme) → IsNamed x t → (o : Option TypeWord) → type_word_at t ≡ o → is_some o ≡ false
not_told x t is None told = refl
not_told x t is (Some k) told =
    absurd (true≢false (sym is.named ∙ ap is_name (sym is.text ∙ (word_at-word type_word all_type_words each_type_word t k told).text)
    ∙ elim k as (λ k. is_name (type_word k) ≡ false) [ words.Null ↦ refl | _ ↦ refl ]))

-- ---- tokens that go on to something of a form

in_brackets : {A : Type 0} {Within : A → Form} → GoesOn IsFormed Within [] → GoesOn IsFormed (λ x. Bracketed (Within x)) []
in_brackets g = let opens = (of_mark {E = TooDeep} open_paren).is.example in let closes = (of_mark {E = TooDeep} close_paren).is.example in record {
  value = g.value;
  more = opens.more ++ (g.more ++ closes.more);
  good = All-append IsFormed opens.more _ opens.good (All-append IsFormed g.more closes.more g.good closes.good);
  spelled = joins opens.more _ opens.spelled (joins g.more closes.more g.spelled closes.spelled);
}

-- nothing more is needed
alone : {A : Type 0} {front : List Lexeme} (P : A → Form) (x : A) → P x (front ++ []) → GoesOn IsFormed P front
alone P x s = record { value = x; more = []; good = All-nil IsFormed; spelled = s }

abbrev null_word : Flat TooDeep IsFormed (Unit {0})
null_word = of_mark (word_mark (codes "Null") refl)

-- a Stream of `data: Null`
null_argument : GoesOn IsFormed ArgumentsOf []
null_argument = goes_as (λ _. least) (λ _ ts s. record {
  order = arguments.Data ∷ [];
  apart = (Contains-none arguments.Data, tt);
  others = λ name out. (default-is least name (λ e. out (Contains-first [] arguments.Data name (sym e)))).0 refl;
  written = record { front = ts; back = []; all = sym (append-nil ts); begins = rw plain-Null s; ends = inl refl };
}) (flat_skip (word_mark (codes "data") refl) (flat_skip colon null_word)).is.example

-- ---- a type is made of its word and what follows that, or is a path

parts-same : (parts : List AstPart) → SpellsParts (plain_parts parts) ≡ Commas SpellsPart parts
parts-same [] = refl
parts-same (p ∷ []) = refl
parts-same (p ∷ next ∷ parts) = ap (λ (More : Form). SpellsPart p ⋯ Of kinds.Comma ⋯ More) (parts-same (next ∷ parts))

bits-rule : IsRule TooDeep IsFormed bits (λ width. Bracketed (Whole width)) (λ _. Anything) (λ _. Unit {0}) Never
unfolding bits
bits-rule = (flat_skip open_paren (flat_close (as_flat whole-rule) close_paren (λ x front rest s. tt))).is

same_form : {One Other : Form} → One ≡ Other → (ts : List Lexeme) → One ts ↔ Other ts
same_form is ts = (subst (λ (F : Form). F ts) is, subst (λ (F : Form). F ts) (sym is))

null_spelled : (ts : List Lexeme) → S types.Null ts ↔ Lead words.Null ts
null_spelled = same_form (ap SpellsType plain-Null)

-- the content of a type of a word: the type of it, how tokens after the word spell it, some that do, and that the whole spells the
-- type
record Content (Leading : Form) : Type 1 where
  Held : Type 0
  made : Held → AstType
  Inside : Held → Form
  goes : GoesOn IsFormed Inside []
  spelled : (x : Held) (ts : List Lexeme) → S (made x) ts ↔ (Leading ⋯ Inside x) ts

abbrev held : {A : Type 0} {Leading : Form} (made : A → AstType) (Inside : A → Form) → GoesOn IsFormed Inside [] → ((x : A) → S (made x) ≡ (Leading ⋯ Inside x)) → Content Leading
held {A} made Inside goes same = record { Held = A; made = made; Inside = Inside; goes = goes; spelled = λ x. same_form (same x) }

abbrev content : (k : TypeWord) → Content (Lead k)
content words.Null = record {
  Held = Unit {0};
  made = λ x. types.Null;
  Inside = Only tt;
  goes = alone (Only tt) tt (refl, refl);
  spelled = λ x ts. (
    λ s. record { front = ts; back = []; all = sym (append-nil ts); begins = (null_spelled ts).0 s; ends = (refl, refl) },
    λ b. (null_spelled ts).1 (subst (Lead words.Null) (sym (b.all ∙ ap (λ l. b.front ++ l) b.ends.1 ∙ append-nil b.front)) b.begins),
  );
}
content words.Bits = held types.Bits (λ x. Bracketed (Whole x)) bits-rule.example (λ x. ap SpellsType (plain-Bits x))
content words.Group = held types.Group (λ x. Bracketed (Commas SpellsPart x)) (in_brackets (alone (Commas SpellsPart) [] refl))
    (λ x. ap SpellsType (plain-Group x) ∙ ap (λ (F : Form). Word (codes "Group") ⋯ Bracketed F) (parts-same x))
content words.Union = held types.Union (λ x. Bracketed (Commas SpellsPart x)) (in_brackets (alone (Commas SpellsPart) [] refl))
    (λ x. ap SpellsType (plain-Union x) ∙ ap (λ (F : Form). Word (codes "Union") ⋯ Bracketed F) (parts-same x))
content words.Stream = held types.Stream (λ x. Bracketed (ArgumentsOf x)) (in_brackets null_argument) (λ x. ap SpellsType (plain-Stream x))

abbrev IsMade : AstType → Type 0
IsMade y = ((k : TypeWord) × (x : (content k).Held) × (y ≡ (content k).made x)) ⊎ ((p : AstPath) × (y ≡ types.Path p))

is_made : (y : AstType-F AstType AstPart AstStream) → IsMade (roll-AstType y)
is_made AstType-F.Null = inl (words.Null, tt, types.rolls-Null)
is_made (AstType-F.Bits x) = inl (words.Bits, x, types.rolls-Bits x)
is_made (AstType-F.Group x) = inl (words.Group, x, types.rolls-Group x)
is_made (AstType-F.Union x) = inl (words.Union, x, types.rolls-Union x)
is_made (AstType-F.Stream x) = inl (words.Stream, x, types.rolls-Stream x)
is_made (AstType-F.Path p) = inr (p, types.rolls-Path p)

abbrev After : TypeWord → AstType → Form
After k = Made (content k).made (content k).Inside

abbrev Spelling : AstType → Form
Spelling y ts = ((k : TypeWord) × ((Lead k ⋯ After k y) ts)) ⊎ Made types.Path (λ x. Path x.names) y ts

spelling : (y : AstType) (ts : List Lexeme) → Spelling y ts ↔ S y ts
spelling y ts = (
  ⊎_elim
      (λ b. let m = b.1.ends in subst (λ z. S z ts) (sym m.1) (((content b.0).spelled m.0 ts).1 (with_ends b.1 m.2)))
      (λ p. subst (λ z. S z ts) (sym p.1) ((same_form (ap SpellsType (plain-Path p.0)) ts).1 p.2)),
  λ s. ⊎_elim
      (λ m. let b = ((content m.0).spelled m.1 ts).0 (subst (λ z. S z ts) m.2 s) in inl (m.0, with_ends b (m.1, m.2, b.ends)))
      (λ p. inr (p.0, p.1, (same_form (ap SpellsType (plain-Path p.0)) ts).0 (subst (λ z. S z ts) p.1 s)))
      (subst IsMade (roll-out-AstType y) (is_made (out-AstType y))),
)

-- ---- how deep

depth-some : (t : Ltype) → 1 ≤ depth t
depth-some null = omega arith
depth-some _ = omega arith

-- a type nests no deeper than so many levels
abbrev pub Fits : ℕ → AstType → Type 0
Fits n x = depth (plain x) ≤ n

parts-depth : (n : ℕ) (parts : List AstPart) → EachIs (λ p. Fits n p.ltype) parts ↔ (depth_of_parts (plain_parts parts) ≤ n)
parts-depth n [] = (λ each. omega arith, λ most. tt)
parts-depth n (p ∷ parts) = let more = parts-depth n parts in
    (λ each. omega (arith, each.0, more.0 each.1), λ most. (omega (arith, most), more.1 (omega (arith, most))))

null_within : (n : ℕ) (x : AstType) → Fits n x → Fits n types.Null
null_within n x fits = let some = depth-some (plain x) in let is = ap depth plain-Null in omega (arith, is, fits, some)

-- ---- a type, by the types inside it

module _ (n : ℕ) (inner : Reader TooDeep Lexeme AstType) (D : Form) (one : IsRule TooDeep IsFormed inner S (λ _. PathNext) (Fits n) D) where
  part-rule : IsRule TooDeep IsFormed (part inner) SpellsPart (λ _. PathNext) (λ p. Fits n p.ltype) (PartTo D)
  unfolding part
  part-rule =
      viewed (λ (p : AstName × AstType). roll-AstPart (record { name = p.0; ltype = p.1 })) (λ p. (p.name, p.ltype))
      (parted (as_flat name-rule) colon (as_rule one) (λ x front rest s. tt)) (λ x. refl) (λ y. refl)

  part-begins : Begins (is_kind kinds.Word) SpellsPart (PartTo D)
  part-begins = record { item = λ p. name-begins p.name _; unfit = λ front rest d. name-begins d.0 _ front rest d.1 }

  list-rule : (of : List AstPart → AstType) → ((x : List AstPart) → depth (plain (of x)) ≡ suc (depth_of_parts (plain_parts x)))
      → IsRule TooDeep IsFormed (of <$> bracketed (part inner)) (Made of (λ x. Bracketed (Commas SpellsPart x))) (λ _. PathNext) (Fits (suc n)) (BracketedTo SpellsPart (PartTo D))
  unfolding same_kind
  list-rule of is = made-rule of (as_rule (bracketed-rule (begins-repeats (kind-apart kinds.Word kinds.CloseParen refl) part-begins) part-rule))
      (λ _. PathNext) (Fits (suc n)) (λ x rest next. tt)
      (λ x each. omega (arith, is x, (parts-depth n x).0 each)) (λ x w. (parts-depth n x).1 (omega (arith, is x, w)))

  after-rule : (k : TypeWord) → IsRule TooDeep IsFormed (type_after inner k) (After k) (λ _. PathNext) (Fits (suc n)) (AfterTo D k)
  after-rule words.Null = made-rule (λ _. types.Null) (as_rule (pure-rule {A = Unit {0}} IsFormed (λ _. Unit {0}) tt tt)) (λ _. PathNext) (Fits (suc n))
      (λ x rest next. tt) (λ x w. rw plain-Null (omega arith)) (λ x w. tt)
  after-rule words.Bits = made-rule types.Bits (as_rule bits-rule) (λ _. PathNext) (Fits (suc n)) (λ x rest next. tt) (λ x w. rw (plain-Bits x) (omega arith)) (λ x w. tt)
  after-rule words.Group = list-rule types.Group (λ x. ap depth (plain-Group x))
  after-rule words.Union = list-rule types.Union (λ x. ap depth (plain-Union x))
  after-rule words.Stream = made-rule types.Stream (as_rule (stream-rule inner (Fits n) D one (null_within n))) (λ _. PathNext) (Fits (suc n))
      (λ x rest next. tt) (λ s w. rw (plain-Stream s) (omega (arith, w arguments.Data, w arguments.User)))
      (λ s w. let d = subst (λ t. depth t ≤ suc n) (plain-Stream s) w in elim [ arguments.Data ↦ omega (arith, d) | arguments.User ↦ omega (arith, d) | _ ↦ tt ])

  type-rule : IsRule TooDeep IsFormed (type_with inner) S (λ _. PathNext) (Fits (suc n)) (InsideTo D)
  unfolding type_with
  type-rule = respelled (as_rule
      (led-rule IsFormed type_word_at (type_after inner) (types.Path <$> path) Lead After (Made types.Path (λ x. Path x.names)) (λ _. PathNext) (Fits (suc n)) (AfterTo D)
      (word_at-back type_word all_type_words each_type_word)
      (λ y front rest s. path-front (λ ts. tells (λ t. is_some (type_word_at t)) false ts ≡ false) (λ x t more is. not_told x t is (type_word_at t) refl) s.0.names front rest s.2)
      (word_at-rule type_word all_type_words each_type_word words.Null refl) after-rule
      (made-rule types.Path (as_rule path-rule) (λ _. PathNext) (Fits (suc n)) (λ x rest next. next) (λ x w. rw (plain-Path x) (omega arith)) (λ x w. tt))))
      S (λ y ts. (spelling y ts).0) (λ y ts. (spelling y ts).1)

-- ---- types of so many levels

-- a word with which a type may begin goes on to one, by what the word holds, or as a path of one name
begun : (t : Lexeme) → begins_type t ≡ true → GoesOn IsFormed S (t ∷ [])
begun t is = of_word (type_word_at t) refl
  where
    tests : (same_kind t.kind kinds.Word ≡ true) × (has_name_form t.spelling ≡ true)
    tests = both (same_kind t.kind kinds.Word) (has_name_form t.spelling) is

    of_word : (o : Option TypeWord) → type_word_at t ≡ o → GoesOn IsFormed S (t ∷ [])
    of_word (Some k) told = let g = (content k).goes in record {
      value = (content k).made g.value;
      more = g.more;
      good = g.good;
      spelled = ((content k).spelled g.value (t ∷ g.more)).1 (joins (t ∷ []) g.more (word_at-there type_word all_type_words each_type_word k t told) g.spelled);
    }
    of_word None told =
        let out = entry-none type_word all_type_words t.spelling (rw tests.0 at told) in
        let named : is_name t.spelling ≡ true = rw (tests.1, out.0, out.1.0, out.1.1.0, out.1.1.1.0, out.1.1.1.1.0) refl in
        let path : AstPath = record { names = record { name = t.spelling; place = t.place } ∷ [] } in
        alone S (types.Path path) ((same_form (ap SpellsType (plain-Path path)) (t ∷ [])).1
        (one (IsNamed _) t (record { kind = kind_is t.kind kinds.Word tests.0; text = refl; place = refl; named = named })))

-- a type begins with one of the words, or with a name
starts : (y : AstType) (front : List Lexeme) → All IsFormed front → S y front → tells begins_type false front ≡ true
unfolding same_kind
starts y front good s = subst (λ l. tells begins_type false l ≡ true) (append-nil front) (⊎_elim
    (λ b. front-tells begins_type true (Lead b.0) _ front []
    (λ f r o. rw (o.all, o.is.kind, o.is.text) (elim b.0 as (λ k. has_name_form (type_word k) ≡ true) [ words.Null ↦ refl | _ ↦ refl ])) b.1)
    (λ p. path-front (λ ts. tells begins_type false ts ≡ true) (λ x t more is. rw (is.kind, is.text) (both (has_name_form x.name) _ is.named).0) p.0.names front [] p.2)
    ((spelling y front).1 s))

-- a type of at most so many levels
pub ltype-rule : (n : ℕ) → IsRule TooDeep IsFormed (ltype n) S (λ _. PathNext) (Fits n) (TypeTo n)
unfolding ltype TypeTo
ltype-rule zero = unfit-rule IsFormed (record {}) begins_type S (λ _. PathNext) (Fits 0) (λ x fits. let some = depth-some (plain x) in omega arith)
    (goes_as (λ _. types.Null) (λ _ ts. (null_spelled ts).1) null_word.is.example) begun starts
ltype-rule (suc n) = type-rule n (ltype n) (TypeTo n) (ltype-rule n)

-- ---- readers that take a token at least

pub Shrinks-part : (n : ℕ) (found : List AstPart) → Shrinks (one_more (part (ltype n)) found)
Shrinks-part n found = mapped-less (λ x. found ++ x ∷ []) (part (ltype n))
    (shrinks (as_rule (part-rule n (ltype n) (TypeTo n) (ltype-rule n))) (part-begins n (ltype n) (TypeTo n) (ltype-rule n)))

pub value-never-grows : (n : ℕ) → NeverGrows (value (ltype n))
value-never-grows n = value-grows (ltype n) (Fits n) (TypeTo n) (ltype-rule n) (null_within n)
