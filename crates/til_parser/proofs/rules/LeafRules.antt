-- The rules of names, numbers, marked texts, documentation, paths, and lists in brackets and in braces.
use Rattle.til_parser.proofs.rules.Common.{◌≡◌, ℕ, ◌^◌, ◌≤◌, nat_lt, Bool, true, false, cond, List, [], ◌∷◌, ◌++◌, length, Option, Some, None, inl, inr, refl, sym}
use Rattle.til_parser.proofs.rules.Common.{ap, subst, bytes_eq, arith, codes, length-append, not, list_all, none-some, same_Some, cond_some, is_name, has_name_form}
use Rattle.til_parser.proofs.rules.Common.{Place, Never, Anything, ◌⋯◌, Reader, Shrinks, tells, IsRule, bytes_eq-Decides, Each, EachIs, separated, Repeats}
use Rattle.til_parser.proofs.rules.Common.{repeated-rule, BracketedTo, BracedTo, braced, front-tells, follows-front, as_rule, as_flat, skip, close, viewed, optional-rule}
use Rattle.til_parser.proofs.rules.Common.{mark-tells, shrinks, HasForm, IsBetween, start, TokenKind, AstName, AstPath, Form, One, Of, Word, Commas}
use Rattle.til_parser.proofs.rules.Common.{Bracketed, Braced, IsNamed, Name, IsWhole, Whole, IsNumber, Number, IsMarked, Quoted, Doc, Path, sync_word, Lexeme}
use Rattle.til_parser.proofs.rules.Common.{IsFormed, whole_of, numerator_of, denominator_of, lowest, bracketed, bracketed_steps, name_at, name, whole, number}
use Rattle.til_parser.proofs.rules.Common.{marked, quoted, doc, path, either_word, sync, same_kind, is_kind, all_syncs, both, fewer, Begins}
use Rattle.std.specs.Char.{is_ascii_digit}
use Rattle.std.proofs.lemmas.{Bool.Decides.nat_tests, Str.IsUtf8-nil, Str.Parse.digits_value_short}
use Rattle.tydi_base.specs.{Decimal.read_on, Decimal.below}
use Rattle.tydi_base.proofs.DecimalLaws.{own}
use Rattle.tydi_reading.proofs.{JoinedRule.joined-rule, Rule.Rule, SeparatedRule.separated-rule}
use Rattle.tydi_reading.specs.Forms.{Optional}
use Rattle.til_lexer.specs.declared.token.TokenKind.TheVariants as kinds
use Rattle.til_parser.specs.declared.ltype.AstSync.TheVariants as syncs
use Rattle.til_parser.proofs.numbers.FractionLemmas.{IsReduced-lowest, lowest_from_IsReduced}
use Rattle.til_parser.proofs.numbers.NumberLemmas.{tens_pos}
use Rattle.til_parser.proofs.rules.TokenRules.{made, meant_is, same_kind-is, kind_mark, comma, open_paren, close_paren, NoneNext, kind-not, begins_item, token-rule, table-rule}
use Rattle.til_parser.specs.declared.refusal.TooDeep.{TooDeep}

-- ---- names

named : (place : Place) (spelling : List ℕ) (b : Bool) (x : AstName) → name_at place (cond b (Some spelling) None) ≡ Some x
    → (b ≡ true) × (x ≡ record { name = spelling; place = place })
named place spelling true x same = (refl, sym (same_Some _ x same))
named place spelling false x same = absurd (none-some x same)

pub name-rule : IsRule TooDeep IsFormed name Name (λ _. Anything) (λ _. Unit {0}) Never
name-rule = token-rule _ _ IsNamed (record {
  there = λ x t is means. let parts = named t.place t.spelling (is_name t.spelling) x means in rw parts.1 (record { kind = is; text = refl; place = refl; named = parts.0 });
  back = λ x t formed is. (is.kind, rw (is.text, is.place, is.named) refl);
}) (made kinds.Word (codes "a")) (record { name = codes "a"; place = start }) refl refl refl

-- a name is a word
pub name-begins : (x : AstName) (Second : Form) (front rest : List Lexeme) → (Name x ⋯ Second) front → tells (is_kind kinds.Word) false (front ++ rest) ≡ true
name-begins x Second front rest =
    front-tells (is_kind kinds.Word) true (Name x) Second front rest (λ f r s. rw (s.all) (same_kind-is s.lexeme.kind kinds.Word s.is.kind))

-- ---- whole numbers

-- the digits of a whole number are so few that they spell one that fits 64 bits
means_whole : (x : ℕ) (t : Lexeme) → IsFormed t → IsWhole x t → whole_of t.spelling ≡ Some x
unfolding whole_of
means_whole x t formed is =
    let few : length t.spelling ≤ 19 = elim (subst (λ kind. HasForm kind t.spelling) is.kind formed)
    [ inl whole ↦ omega (arith, whole.few) | inr point ↦ omega (arith, point.few, simp length-append at (ap length point.parts)) ] in
    let small = digits_value_short own t.spelling 19 is.digits few in
    let fits : nat_lt (read_on 0 t.spelling) (2 ^ 64) ≡ true = grind (arith, nat_tests) in
    rw (is.digits, fits, is.value)

is_whole : (x : ℕ) (lexeme : Lexeme) → lexeme.kind ≡ kinds.Number → whole_of lexeme.spelling ≡ Some x → IsWhole x lexeme
unfolding whole_of
is_whole x lexeme is means =
    let number = read_on 0 lexeme.spelling in
    let parts = meant_is (list_all is_ascii_digit lexeme.spelling) (below (2 ^ 64) (Some number)) x means in
    record { kind = is; digits = parts.0; value = sym (cond_some (nat_lt number (2 ^ 64)) number x parts.1).1 }

-- the number 1, as a token
abbrev pub one_token : Lexeme
one_token = made kinds.Number (codes "1")

pub one_formed : IsFormed one_token
one_formed = inl (record { digits = record { some = omega arith; each = refl }; few = omega arith })

pub whole-rule : IsRule TooDeep IsFormed whole Whole (λ _. Anything) (λ _. Unit {0}) Never
unfolding whole_of
whole-rule = token-rule _ _ IsWhole (record { there = is_whole; back = λ x t formed is. (is.kind, means_whole x t formed is) }) one_token 1 one_formed refl refl

-- ---- fractions

pub number-rule : IsRule TooDeep IsFormed number Number (λ _. Anything) (λ _. Unit {0}) Never
number-rule = token-rule kinds.Number (λ place spelling. Some (lowest (numerator_of spelling) (denominator_of spelling))) IsNumber (record {
  there = λ x t is means. record { kind = is; value = rw (← same_Some _ x means) (IsReduced-lowest _ _ (tens_pos _)) };
  back = λ x t formed is. (is.kind, ap Some (sym (lowest_from_IsReduced _ _ x (tens_pos _) is.value)));
}) one_token _ one_formed refl refl

-- ---- marked texts

empty_between : (mark : ℕ) → IsBetween mark (mark ∷ mark ∷ [])
empty_between mark = record { inside = []; marked = refl; lacks = λ k d less is. absurd (omega arith); utf8 = IsUtf8-nil }

marked-rule : (kind : TokenKind) (mark : ℕ) → HasForm kind (mark ∷ mark ∷ [])
    → IsRule TooDeep IsFormed (marked kind) (λ text. One (IsMarked kind text)) (λ _. Anything) (λ _. Unit {0}) Never
marked-rule kind mark form = token-rule _ _ (IsMarked kind) (record {
  there = λ x t is means. record { kind_is = is; text_is = sym (same_Some _ x means) };
  back = λ x t formed is. (is.kind_is, ap Some (sym is.text_is));
}) (made kind (mark ∷ mark ∷ [])) _ form refl refl

pub quoted-rule : IsRule TooDeep IsFormed quoted Quoted (λ _. Anything) (λ _. Unit {0}) Never
quoted-rule = marked-rule kinds.Quoted 34 (empty_between 34)

-- ---- documentation

pub doc-rule : IsRule TooDeep IsFormed doc Doc (λ _. NoneNext kinds.Doc) (λ _. Unit {0}) Never
unfolding doc
doc-rule =
    optional-rule (is_kind kinds.Doc) (as_flat (marked-rule kinds.Doc 35 (empty_between 35)))
    (λ text front rest s. rw (s.all) (same_kind-is s.lexeme.kind kinds.Doc s.is.kind_is)) (λ text rest. tt)

-- where a word follows, no documentation does
pub no_doc : (ts : List Lexeme) → tells (is_kind kinds.Word) false ts ≡ true → NoneNext kinds.Doc ts
unfolding same_kind
no_doc = kind-not kinds.Word kinds.Doc refl

-- an optional part begins so, and so does the form after it
pub optional-tells : {A : Type 0} {Spelled : A → Form} (test : Lexeme → Bool) (b : Bool) (Second : Form)
    → ((x : A) (front rest : List Lexeme) → Spelled x front → tells test false (front ++ rest) ≡ b)
    → ((back rest : List Lexeme) → Second back → tells test false (back ++ rest) ≡ b)
    → (o : Option A) (front rest : List Lexeme) → (Optional Spelled o ⋯ Second) front → tells test false (front ++ rest) ≡ b
optional-tells test b Second first second None front rest s = rw (s.all, s.begins) (second s.back rest s.ends)
optional-tells {Spelled = Spelled} test b Second first second (Some x) front rest s = front-tells test b (Spelled x) Second front rest (first x) s

-- documentation, or none, before what begins with a word
abbrev pub documented : {B : Type 0} (r : Rule TooDeep IsFormed B) → Begins (is_kind kinds.Word) r.Spelled r.Unfit → Rule TooDeep IsFormed (Option (List ℕ) × B)
documented r begins = both (as_flat doc-rule) r
    (λ text y back rest s next. no_doc (back ++ rest) (begins.item y back rest s)) (λ text back rest d. no_doc (back ++ rest) (begins.unfit back rest d))

pub doc-begins : (Second : Form) → ((back rest : List Lexeme) → Second back → tells (is_kind kinds.Word) false (back ++ rest) ≡ true)
    → (text : Option (List ℕ)) (front rest : List Lexeme) → (Doc text ⋯ Second) front → tells begins_item false (front ++ rest) ≡ true
unfolding same_kind
doc-begins Second second = optional-tells begins_item true Second (λ text front rest s. rw (s.all, s.is.kind_is) refl)
    (λ back rest s. (elim (back ++ rest) as (λ ts. tells (is_kind kinds.Word) false ts ≡ true → tells begins_item false ts ≡ true) [ [] ↦ λ is. is | t ∷ ts ↦ λ is. rw is refl ])
    (second back rest s))

-- ---- one of two words, and of some

pub either_word-rule : (word : Bool → List ℕ) → has_name_form (word true) ≡ true → bytes_eq (word false) (word true) ≡ false
    → IsRule TooDeep IsFormed (either_word (word true) (word false)) (λ b. Word (word b)) (λ _. Anything) (λ _. Unit {0}) Never
either_word-rule word form apart = table-rule word (true ∷ false ∷ [])
    (elim [ true ↦ rw ((bytes_eq-Decides (word true) (word true)).1 refl) refl | false ↦ rw (apart, (bytes_eq-Decides (word false) (word false)).1 refl) refl ]) true form

pub sync-rule : IsRule TooDeep IsFormed sync (λ x. Word (sync_word x)) (λ _. Anything) (λ _. Unit {0}) Never
sync-rule = table-rule sync_word all_syncs (elim [ syncs.Sync ↦ refl | _ ↦ refl ]) syncs.Sync refl

-- ---- paths

-- no `::` may follow
abbrev pub PathNext : Form
PathNext = NoneNext kinds.DoubleColon

not_next : (test : Lexeme → Bool) (rest : List Lexeme) → tells test false rest ≡ false → tells (λ t. not (test t)) true rest ≡ true
not_next test [] is = refl
not_next test (t ∷ rest) is = ap not is

pub path-rule : IsRule TooDeep IsFormed path (λ x. Path x.names) (λ _. PathNext) (λ _. Unit {0}) Never
unfolding path
path-rule =
    viewed (λ (names : List AstName). record { names = names }) (λ (x : AstPath). x.names)
    (as_rule (fewer (as_rule (joined-rule _ _ _ _ _ (kind_mark kinds.DoubleColon _ refl).is name-rule)) (λ _. PathNext) (λ x. not_next (is_kind kinds.DoubleColon))))
    (λ x. refl) (λ y. refl)

-- a name takes a token
pub Shrinks-name : Shrinks name
unfolding same_kind
Shrinks-name = shrinks {lead = is_kind kinds.Word} {Unfit = Never} (as_rule name-rule) (record { item = λ x front rest s. rw (s.all, s.is.kind) refl; unfit = λ front rest d. absurd d })

-- a path begins with a name
pub path-front : (P : List Lexeme → Type 0) → ((x : AstName) (t : Lexeme) (more : List Lexeme) → IsNamed x t → P (t ∷ more)) → (names : List AstName) (front rest : List Lexeme)
    → Path names front → P (front ++ rest)
path-front P named [] front rest s = absurd s
path-front P named (x ∷ []) front rest s = rw s.all (named x s.lexeme rest s.is)
path-front P named (x ∷ next ∷ names) front rest s = follows-front P (Name x) _ front rest (λ f r o. rw o.all (named x o.lexeme r o.is)) s

-- ---- lists

module _ {A : Type 0} {item : Reader TooDeep Lexeme A} {Item : A → Form} {Within : A → Type 0} {Unfit : Form} where
  -- in round brackets, with commas: an item does not begin with a closing bracket
  pub bracketed-rule : Repeats (is_kind kinds.CloseParen) false Item Unfit → IsRule TooDeep IsFormed item Item (λ _. PathNext) Within Unfit
      → IsRule TooDeep IsFormed (bracketed item) (λ items. Bracketed (Commas Item items)) (λ _. Anything) (EachIs Within) (BracketedTo Item Unfit)
  unfolding bracketed_steps separated same_kind
  bracketed-rule repeats one =
      (skip open_paren (close
      (as_rule (separated-rule IsFormed (is_kind kinds.CloseParen) false (is_kind kinds.Comma) (Of kinds.Comma) item Item PathNext Within Unfit (record {
        mark = comma.is;
        repeats = repeats;
        before_end = kind-not kinds.CloseParen kinds.DoubleColon refl;
        before_separator = λ t rest. kind-not kinds.Comma kinds.DoubleColon refl (t ∷ rest);
        apart = kind-not kinds.CloseParen kinds.Comma refl;
      }) one))
      close_paren (λ items. mark-tells close_paren))).is

  -- in braces: an item does not begin with a closing brace
  pub braced-rule : Repeats (is_kind kinds.CloseBrace) false Item Unfit → IsRule TooDeep IsFormed item Item (λ _. Anything) Within Unfit
      → IsRule TooDeep IsFormed (braced item) (λ items. Braced (Each Item items)) (λ _. Anything) (EachIs Within) (BracedTo Item Unfit)
  unfolding braced
  braced-rule repeats one =
      (skip (kind_mark kinds.OpenBrace _ refl) (close (as_rule (repeated-rule _ _ _ _ _ _ _ repeats one)) (kind_mark kinds.CloseBrace _ refl)
      (λ items. mark-tells (kind_mark kinds.CloseBrace _ refl)))).is
