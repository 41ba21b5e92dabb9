-- The reader of a text is a rule of the grammar: it takes exactly what has the form.
use Rattle.std.proofs.Common.{◌≡◌, ◌∙◌, inr, ⊎_elim, MatchOption, is_none, ℕ, zero, suc, ◌<◌, ◌==◌, Bool, true, false, not, ◌&&◌, List, [], ◌∷◌, ◌++◌, All, length, Option, Some, None, is_some, refl, sym, ap, subst, append-nil, codes, arith}
use Rattle.std.proofs.lemmas.Bool.Decides.{nat_tests}
use Rattle.tydi_reading.specs.Forms.{◌⋯◌, Form, GoesOn, Never, Anything}
use Rattle.tydi_reading.specs.Lists.{Beginning, mark}
use Rattle.tydi_reading.specs.Reading.{Outcome, Shrinks, leaf as leaf_of, stopped, tells, took}
use Rattle.tydi_reading.specs.Rules.{IsRule}
use Rattle.tydi_reading.specs.declared.fault.Fault.{Fault}
use Rattle.tydi_reading.proofs.BeginningRule.{followed-rule}
use Rattle.tydi_reading.proofs.FilledLemmas.{filled-first, shrinks-rule}
use Rattle.tydi_reading.proofs.FormLemmas.{front-tells}
use Rattle.tydi_reading.proofs.LedRule.{led-rule}
use Rattle.tydi_reading.proofs.ListedRule.{Lists, listed-rule}
use Rattle.tydi_reading.proofs.MarkLemmas.{IsMark, mark-rule}
use Rattle.tydi_reading.proofs.RepeatedRule.{Repeats, each_unit, repeated-rule}
use Rattle.tydi_reading.proofs.Rule.{Flat, Mark, as_flat, as_rule, close, flat, flat_close, flat_skip, made-rule, mark-tells, of_flat, respelled}
use Rattle.tydi_reading.proofs.StepRules.{leaf-rule}
use Rattle.value_text.specs.declared.fault.Why.{Why}
use Rattle.value_text.specs.declared.opening.Opening.{Opening}
use Rattle.value_text.specs.declared.opening.Opening.TheVariants as openings
use Rattle.value_text.specs.declared.token.TokenKind.{TokenKind}
use Rattle.value_text.specs.declared.token.TokenKind.TheVariants as kinds
use Rattle.value_text.specs.Grammar.{Byte, Commas, Field, Inside, Is, Member, Opens, Root, Series, Text, most_levels}
use Rattle.value_text.specs.Syntax.{Reader, field, inside, items, member, member_with, passed, root, series, text}
use Rattle.value_text.specs.Tokens.{PlainToken}
use Rattle.value_text.specs.Words.{field_name, is_byte, is_call, is_leaf, is_only, is_spaced, leaf, opening, root_path, root_word, variant_name}
use Rattle.tydi_base.specs.Name.{is_name}

-- any token may stand in a text
abbrev pub Good : PlainToken → Type 0
Good token = Unit {0}

good : (ts : List PlainToken) → All Good ts
good ts = λ i d within. tt

-- a rule of one form, after which anything may follow
abbrev Passes : Reader (Unit {0}) → Form PlainToken → Type 0
Passes read Spelled = IsRule Why Good read (λ _. Spelled) (λ _. Anything) (λ _. Unit {0}) Never

-- ---- one token

abbrev token : TokenKind → List ℕ → PlainToken
token kind text = record { kind = kind; text = text; spaced = true; left = 0 }

is-mark : (test : PlainToken → Bool) (thing : PlainToken) → test thing ≡ true → IsMark Good test (Is test)
is-mark test thing holds = record { thing = thing; good = tt; holds = holds; there = λ t is. (t, refl, is); back = λ ts s. s }

abbrev such : (test : PlainToken → Bool) (thing : PlainToken) → test thing ≡ true → Mark Good
such test thing holds = record { test = test; Spelled = Is test; is = is-mark test thing holds }

abbrev byte : (b : ℕ) → (b == b) ≡ true → Mark Good
byte b same = such (is_byte b) (token kinds.Sign (b ∷ [])) same

abbrev leaf_mark : Mark Good
leaf_mark = such leaf (token kinds.Word (codes "null")) refl

abbrev comma : Mark Good
comma = byte 44 refl

-- ---- a byte is no member, and opens none

only-same : (b : ℕ) (text : List ℕ) → is_only b text ≡ true → text ≡ b ∷ []
only-same b [] is = absurd cc
only-same b (x ∷ []) is = let same : x ≡ b = grind (arith, nat_tests) in ap (λ (y : ℕ). y ∷ []) same
only-same b (x ∷ y ∷ more) is = absurd cc

both : (a b : Bool) → (a && b) ≡ true → (a ≡ true) × (b ≡ true)
both true b e = (refl, e)
both false b e = absurd cc

-- a token of which a test of its text holds is not a byte of which it does not
pub not_byte : (b : ℕ) (test : List ℕ → Bool) (text : List ℕ) → test (b ∷ []) ≡ false → test text ≡ true → is_only b text ≡ false
not_byte b test text none some = other (is_only b text) refl
  where
    other : (o : Bool) → is_only b text ≡ o → o ≡ false
    other false is = refl
    other true is = absurd (let no : true ≡ false = sym some ∙ ap test (only-same b text is) ∙ none in cc)

leaf-byte : (b : ℕ) (t : PlainToken) → is_leaf (b ∷ []) ≡ false → leaf t ≡ true → is_byte b t ≡ false
leaf-byte b t none is = not_byte b is_leaf t.text none (both _ _ is).1

word-call : (kind : TokenKind) (b : Bool) → is_call kind && b ≡ true → Rattle.value_text.specs.Words.is_word kind ≡ false
word-call kinds.Call b is = refl
word-call kinds.Word b is = absurd cc
word-call kinds.Key b is = absurd cc
word-call kinds.Path b is = absurd cc
word-call kinds.Empty b is = absurd cc
word-call kinds.Sign b is = absurd cc

leaf-call : (t : PlainToken) → leaf t ≡ true → variant_name t ≡ false
leaf-call t is = other (variant_name t) refl
  where
    other : (o : Bool) → variant_name t ≡ o → o ≡ false
    other false told = refl
    other true told = absurd (let no : true ≡ false = sym (both _ _ is).0 ∙ word-call t.kind (is_name t.text) told in cc)

-- a word alone opens nothing
leaf-opens : (t : PlainToken) → leaf t ≡ true → opening t ≡ None
unfolding opening
leaf-opens t is = rw (leaf-byte 91 t refl is, leaf-byte 123 t refl is, leaf-call t is) refl

-- a token that opens something is no other byte
opens-byte : (b : ℕ) (t : PlainToken) (what : Opening) → (b == 91) ≡ false → (b == 123) ≡ false → is_name (b ∷ []) ≡ false → opening t ≡ Some what → is_byte b t ≡ false
unfolding opening
opens-byte b t what one other name is = decide (is_byte b t) refl
  where
    none : (kind : TokenKind) → (is_call kind && false) ≡ false
    none kind = choice (is_call kind)
      where
        choice : (c : Bool) → (c && false) ≡ false
        choice true = refl
        choice false = refl

    decide : (o : Bool) → is_byte b t ≡ o → o ≡ false
    decide false told = refl
    decide true told = absurd (let text = only-same b t.text told in
        let first : is_byte 91 t ≡ false = ap (is_only 91) text ∙ one in
        let second : is_byte 123 t ≡ false = ap (is_only 123) text ∙ other in
        let third : variant_name t ≡ false = ap (λ l. is_call t.kind && is_name l) text ∙ ap (λ n. is_call t.kind && n) name ∙ none t.kind in
        let no : None ≡ Some what = rw (first, second, third) at is in cc)

-- ---- the first token of a member

front-is : (Test : PlainToken → Type 0) (test : PlainToken → Bool) (front rest : List PlainToken) → ((t : PlainToken) → Test t → test t ≡ false)
    → (t : PlainToken) × (front ≡ t ∷ []) × Test t → tells test false (front ++ rest) ≡ false
front-is Test test front rest none s = rw s.1 (none s.0 s.2)

first-is : (Test : PlainToken → Type 0) (test : PlainToken → Bool) (Second : Form PlainToken) (front rest : List PlainToken) → ((t : PlainToken) → Test t → test t ≡ false)
    → ((λ ts. (t : PlainToken) × (ts ≡ t ∷ []) × Test t) ⋯ Second) front → tells test false (front ++ rest) ≡ false
first-is Test test Second front rest none b = front-tells test false (λ ts. (t : PlainToken) × (ts ≡ t ∷ []) × Test t) Second front rest (λ f r s. front-is Test test f r none s) b

-- the error at a byte with which no member begins
pub record IsApart (b : ℕ) : Type 0 where
  pub list : (b == 91) ≡ false
  pub group : (b == 123) ≡ false
  pub name : is_name (b ∷ []) ≡ false
  pub leaf : is_leaf (b ∷ []) ≡ false

pub member-byte : (levels b : ℕ) (front rest : List PlainToken) → IsApart b → Member levels front → tells (is_byte b) false (front ++ rest) ≡ false
member-byte zero b front rest apart s = front-is (λ t. leaf t ≡ true) (is_byte b) front rest (λ t is. leaf-byte b t apart.leaf is) s
member-byte (suc levels) b front rest apart s = ⊎_elim
    (λ o. first-is (λ t. opening t ≡ Some o.0) (is_byte b) (Inside (Member levels) o.0) front rest (λ t is. opens-byte b t o.0 apart.list apart.group apart.name is) o.1)
    (λ l. front-is (λ t. leaf t ≡ true) (is_byte b) front rest (λ t is. leaf-byte b t apart.leaf is) l)
    s

field-byte : (b : ℕ) (Item : Form PlainToken) (front rest : List PlainToken) → IsApart b → Field Item front → tells (is_byte b) false (front ++ rest) ≡ false
field-byte b Item front rest apart s =
    first-is (λ t. field_name t ≡ true) (is_byte b) Item front rest (λ t is. not_byte b is_name t.text apart.name (both _ _ is).1) s

member-filled : (levels : ℕ) (front : List PlainToken) → Member levels front → 0 < length front
member-filled zero front s = let one = ap length s.1 in omega (arith, one)
member-filled (suc levels) front s = ⊎_elim
    (λ o. filled-first (Opens o.0) (Inside (Member levels) o.0) front (λ f p. let one = ap length p.1 in omega (arith, one)) o.1)
    (λ l. let one = ap length l.1 in omega (arith, one))
    s

field-filled : (Item : Form PlainToken) (front : List PlainToken) → Field Item front → 0 < length front
field-filled Item front s = filled-first (Is field_name) Item front (λ f p. let one = ap length p.1 in omega (arith, one)) s

pub leaf-member : (levels : ℕ) (ts : List PlainToken) → Is leaf ts → Member levels ts
leaf-member zero ts s = s
leaf-member (suc levels) ts s = inr s

-- ---- things with commas between them

commas-lists : (close : ℕ) (Item : Form PlainToken) → ((front rest : List PlainToken) → Item front → tells (is_byte close) false (front ++ rest) ≡ false) → (44 == close) ≡ false
    → Lists {A = Unit {0}} Good (is_byte close) false (is_byte 44) (Byte 44) (λ _. Item)
commas-lists close Item starts other = record { mark = comma.is; starts = λ u. starts; apart = apart }
  where
    apart : (rest : List PlainToken) → tells (is_byte close) false rest ≡ true → tells (λ t. not (is_byte 44 t)) true rest ≡ true
    apart [] stop = refl
    apart (t ∷ rest) stop = let text = only-same close t.text stop in ap (λ l. not (is_only 44 l)) text ∙ apart_byte
      where
        apart_byte : not (is_only 44 (close ∷ [])) ≡ true
        apart_byte = grind (arith, nat_tests)

pub items-rule : (close : ℕ) (same : (close == close) ≡ true) (other : (44 == close) ≡ false) (item : Reader (Unit {0})) (Item : Form PlainToken)
    → ((front rest : List PlainToken) → Item front → tells (is_byte close) false (front ++ rest) ≡ false) → Passes item Item → Passes (items close item) (Commas Item ⋯ Byte close)
unfolding items
items-rule close same other item Item starts rule = respelled (as_rule (made-rule passed (of_flat closed) (λ _. Anything) (λ _. Unit {0}) (λ x rest next. tt) (λ x w. tt) (λ x w. tt)))
    (λ _. Commas Item ⋯ Byte close)
    (λ u ts m. record { front = m.2.front; back = m.2.back; all = m.2.all; begins = (m.0, m.2.begins); ends = m.2.ends })
    (λ u ts s. (s.begins.0, refl, record { front = s.front; back = s.back; all = s.all; begins = s.begins.1; ends = s.ends }))
  where
    closed : Flat Why Good (List (Unit {0}))
    closed = flat_close (as_flat (listed-rule Good (is_byte close) false (is_byte 44) (Byte 44) item (λ _. Item) (commas-lists close Item starts other) rule))
        (byte close same) (λ x front rest s. mark-tells (byte close same) front rest s)

field-rule : (item : Reader (Unit {0})) (Item : Form PlainToken) → Passes item Item → Passes (field item) (Field Item)
unfolding field
field-rule item Item rule = (flat_skip (such field_name (token kinds.Key (codes "a")) refl) (as_flat rule)).is

-- ---- a member

apart-list : IsApart 93
apart-list = record { list = refl; group = refl; name = refl; leaf = refl }

apart-group : IsApart 125
apart-group = record { list = refl; group = refl; name = refl; leaf = refl }

apart-root : IsApart 59
apart-root = record { list = refl; group = refl; name = refl; leaf = refl }

leaf-rule-is : Passes (mark leaf) (Is leaf)
leaf-rule-is = mark-rule Good leaf (Is leaf) leaf_mark.is

opens-rule : IsRule Why Good (leaf_of opening) Opens (λ _. Anything) (λ _. Unit {0}) Never
unfolding opening
opens-rule = leaf-rule Good opening Opens (token kinds.Sign (codes "[")) openings.List tt refl (record { there = λ k t is. (t, refl, is); back = λ k ts each s. s })

module _ (levels : ℕ) (rule : Passes (member levels) (Member levels)) where
  inside-rule : (what : Opening) → Passes (inside (member levels) what) (Inside (Member levels) what)
  inside-rule openings.List = items-rule 93 refl refl (member levels) (Member levels) (λ front rest s. member-byte levels 93 front rest apart-list s) rule
  inside-rule openings.Group = items-rule 125 refl refl (field (member levels)) (Field (Member levels)) (λ front rest s. field-byte 125 (Member levels) front rest apart-group s)
      (field-rule (member levels) (Member levels) rule)
  inside-rule openings.Variant = (flat_close (as_flat rule) (byte 41 refl) (λ x front rest s. tt)).is

  with-rule : Passes (member_with (member levels)) (Member (suc levels))
  unfolding member_with
  with-rule = (flat
      (as_rule (led-rule Good opening (inside (member levels)) (mark leaf) Opens (λ what _. Inside (Member levels) what) (λ _. Is leaf) (λ _. Anything) (λ _. Unit {0}) (λ _. Never)
      (λ k ts s. s)
      (λ x front rest s. front-is (λ t. leaf t ≡ true) (λ t. is_some (opening t)) front rest (λ t is. ap is_some (leaf-opens t is)) s)
      opens-rule inside-rule leaf-rule-is))
      (λ ts d. d.1.ends) (λ x. tt)).is

pub member-rule : (levels : ℕ) → Passes (member levels) (Member levels)
unfolding member
member-rule zero = leaf-rule-is
member-rule (suc levels) = with-rule levels (member-rule levels)

pub Shrinks-member : (levels : ℕ) → Shrinks (member levels)
Shrinks-member levels = shrinks-rule Good (member levels) (λ _. Member levels) (λ _. Anything) (λ _. Unit {0}) Never (λ x front s. member-filled levels front s) (member-rule levels)

pub Shrinks-field : (levels : ℕ) → Shrinks (field (member levels))
Shrinks-field levels = shrinks-rule Good (field (member levels)) (λ _. Field (Member levels)) (λ _. Anything) (λ _. Unit {0}) Never
    (λ x front s. field-filled (Member levels) front s) (field-rule (member levels) (Member levels) (member-rule levels))

-- ---- the lines of roots

series-rule : (levels : ℕ) → Passes (series (member levels)) (Series (Member levels))
unfolding series
series-rule levels = respelled (as_rule (made-rule passed (of_flat closed) (λ _. Anything) (λ _. Unit {0}) (λ x rest next. tt) (λ x w. tt) (λ x w. tt)))
    (λ _. Series (Member levels))
    (λ u ts m. record { front = m.2.front; back = m.2.back; all = m.2.all; begins = (m.0, m.2.begins); ends = m.2.ends })
    (λ u ts s. (s.begins.0, refl, record { front = s.front; back = s.back; all = s.all; begins = s.begins.1; ends = s.ends }))
  where
    example : GoesOn Good (Beginning is_spaced (λ (_ : Unit {0}). Member levels)) []
    example = record {
      value = tt;
      more = token kinds.Word (codes "null") ∷ [];
      good = good (token kinds.Word (codes "null") ∷ []);
      spelled = (leaf-member levels (token kinds.Word (codes "null") ∷ []) (token kinds.Word (codes "null"), refl, refl), refl);
    }

    closed : Flat Why Good (List (Unit {0}))
    closed = flat_close (as_flat
        (followed-rule Good is_spaced (member levels) (λ _. Member levels) example (λ x front s. member-filled levels front s) (member-rule levels) (is_byte 59) false
        (λ x front rest s. member-byte levels 59 front rest apart-root s)))
        (byte 59 refl) (λ x front rest s. mark-tells (byte 59 refl) front rest s)

pub root-rule : Passes root Root
unfolding root
root-rule = (flat_skip (such root_word (token kinds.Word (codes "root")) refl)
    (flat_skip (such root_path (token kinds.Path (codes "-")) refl) (as_flat (series-rule most_levels)))).is

pub root-filled : (front : List PlainToken) → Root front → 0 < length front
root-filled front s = filled-first (Is root_word) (Is root_path ⋯ Series (Member most_levels)) front (λ f p. let one = ap length p.1 in omega (arith, one)) s

pub Shrinks-root : Shrinks root
Shrinks-root = shrinks-rule Good root (λ _. Root) (λ _. Anything) (λ _. Unit {0}) Never (λ x front s. root-filled front s) root-rule

-- ---- a text

repeats : Repeats {A = Unit {0}} (λ (t : PlainToken). false) true (λ _. Root) Never
repeats = record {
  filled = λ x front s. root-filled front s;
  starts = λ x front rest s. starts front rest s;
  starts_unfit = λ front rest d. absurd d;
}
  where
    starts : (front rest : List PlainToken) → Root front → tells (λ (t : PlainToken). false) true (front ++ rest) ≡ false
    starts [] rest s = absurd (let some = root-filled [] s in omega (arith, some))
    starts (t ∷ front) rest s = refl

lines : Flat Why Good (List (Unit {0}))
lines = flat (as_rule (repeated-rule Good (λ t. false) true root (λ _. Root) (λ _. Unit {0}) Never repeats root-rule)) (λ ts d. d.1.ends) (λ x. each_unit x)

pub text-rule : IsRule Why Good text (λ _. Text) (λ _ rest. tells (λ t. false) true rest ≡ true) (λ _. Unit {0}) Never
unfolding text lines
text-rule = respelled (as_rule (made-rule passed
    (of_flat lines)
    (λ _ rest. tells (λ t. false) true rest ≡ true) (λ _. Unit {0}) (λ x rest next. next) (λ x w. tt) (λ x w. tt)))
    (λ _. Text)
    (λ u ts m. (m.0, m.2))
    (λ u ts s. (s.0, refl, s.1))

-- tokens that are read to their end are a text
pub text-some : (ts rest : List PlainToken) → text ts ≡ took tt rest → rest ≡ [] → Text ts
text-some ts rest read end =
    let f = text-rule.sound ts rest tt read in subst Text (sym (f.split ∙ ap (λ l. f.front ++ l) end ∙ append-nil f.front)) f.spelled

-- a text is read to its end
pub text-read : (ts : List PlainToken) → Text ts → text ts ≡ took tt []
text-read ts spelled = ⊎_elim (λ read. ap text (sym (append-nil ts)) ∙ read) (λ far. absurd (far.beyond tt)) (text-rule.complete ts [] tt (good ts) spelled refl)

-- tokens that are not read to their end are none
pub text-none : (ts rest : List PlainToken) (e : Fault Why) → text ts ≡ stopped e rest → Text ts → ⊥
text-none ts rest e read spelled = let no : ◌≡◌ {A = Outcome Why PlainToken (Unit {0})} (took tt []) (stopped e rest) = sym (text-read ts spelled) ∙ read in cc

pub text-more : (ts rest : List PlainToken) → text ts ≡ took tt rest → (rest ≡ [] → ⊥) → Text ts → ⊥
text-more ts rest read more spelled =
    let no : ◌≡◌ {A = Outcome Why PlainToken (Unit {0})} (took tt []) (took tt rest) = sym (text-read ts spelled) ∙ read in
    let end : rest ≡ [] = cc in more end

-- whether reading came to the end decides
pub text-told : (ts rest : List PlainToken) (stop : Option ℕ) → text ts ≡ took tt rest → is_none stop ≡ tells (λ t. false) true rest
    → MatchOption stop (Text ts) (λ left. Text ts → ⊥)
text-told ts [] None read is = text-some ts [] read refl
text-told ts [] (Some left) read is = absurd cc
text-told ts (t ∷ rest) None read is = absurd cc
text-told ts (t ∷ rest) (Some left) read is = text-more ts (t ∷ rest) read (λ none. absurd (let one = ap length none in omega (arith, one)))
