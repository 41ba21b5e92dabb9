-- Groups that are printed: their tokens have the form of a member, and are read as the value.
use Rattle.std.proofs.Common.{◌≡◌, ◌∙◌, inl, ℕ, zero, suc, ◌+◌, ◌≤◌, Bool, true, false, ◌==◌, ◌&&◌, List, [], ◌∷◌, ◌++◌, get_or, Some, refl, sym, ap, subst, append_assoc, append-nil, arith, codes}
use Rattle.std.specs.List.{list_all}
use Rattle.std.specs.Str.{bytes_eq}
use Rattle.std.proofs.lemmas.Bool.{and_parts}
use Rattle.std.proofs.lemmas.Slice.Eq.{bytes_eq-Decides}
use Rattle.tydi_base.specs.Name.{begins_with_letter, is_name, is_name_byte}
use Rattle.tydi_reading.specs.Lists.{Joined}
use Rattle.tydi_reading.specs.Reading.{took, tells, ◌>>◌}
use Rattle.logical_types.specs.Tree.{Ltype, Parts, names_of}
use Rattle.logical_types.specs.Tree as types
use Rattle.logical_value.specs.Tree.{Tree, group, Trees, no_trees, tree, plain_values}
use Rattle.logical_value.specs.declared.value.Value.{Value}
use Rattle.logical_value.specs.declared.value.Value.TheVariants as values
use Rattle.logical_value.proofs.PlainLemmas.{plain-Group}
use Rattle.value_text.specs.Canonical.{◌⁀◌}
use Rattle.value_text.specs.Grammar.{Byte, Commas, Field, Member}
use Rattle.value_text.specs.Printable.{depth_of, empty_leaf, greatest_depth, leaves_in_all}
use Rattle.value_text.specs.Syntax.{Reader}
use Rattle.value_text.specs.Tokens.{PlainToken, after_gap, is_word_byte, tokens_of}
use Rattle.value_text.specs.Typed.{comma, element, fields, group_end, key, next_field, shaped}
use Rattle.value_text.specs.Words.{is_byte, opening}
use Rattle.value_text.specs.declared.opening.Opening.TheVariants as openings
use Rattle.value_text.specs.declared.token.TokenKind.TheVariants as kinds
use Rattle.value_text.proofs.SyntaxRules.{not_byte}
use Rattle.value_text.proofs.printed.LexedTexts.{Begins, Ends, IsBare, IsEnd, IsRun, IsSign, begins-more, begins-run, ends-byte, gap-begins, is_blank, is_some_gap, one_byte, run, tokens-brace, tokens-empty, tokens-key, tokens-sign}
use Rattle.value_text.proofs.printed.PrintedMembers.{IsMember, Lexes, comma_token, count, count-append, end-comma, front-assoc, lexes-both, sign-comma}

-- ---- signs

bare-close : IsBare 125
bare-close = record { space = refl; slash = refl }

sign-close : IsSign 125
sign-close = record { bare = bare-close; word = refl; dash = refl; brace = refl }

pub end-close : IsEnd 125
end-close = record { bare = bare-close; word = refl; key = refl; call = refl; path = refl }

-- ---- names

-- a name is a run
name-bytes : (a b c d e : Bool) → (a && b && c && d && e) ≡ true → (a ≡ true) × (b ≡ true)
name-bytes true true c d e is = (refl, refl)
name-bytes true false c d e is = absurd cc
name-bytes false b c d e is = absurd cc

name-each : (name : List ℕ) → list_all is_name_byte name ≡ true → list_all is_word_byte name ≡ true
name-each [] each = refl
name-each (byte ∷ name) each =
    let both = and_parts (is_name_byte byte) (list_all is_name_byte name) each in let more = name-each name both.1 in rw (both.0) more

pub name-run : (name : List ℕ) → is_name name ≡ true → IsRun name
name-run [] is = absurd cc
name-run (byte ∷ name) is = record { some = omega arith; each = name-each (byte ∷ name) (name-bytes (begins_with_letter (byte ∷ name)) (list_all is_name_byte (byte ∷ name)) _ _ _ is).1 }

pub same-bytes : (name : List ℕ) → bytes_eq name name ≡ true
same-bytes name = (bytes_eq-Decides name name).1 refl

-- ---- fields

-- the token of the name of a field, with its colon
abbrev key_token : List ℕ → List ℕ → List ℕ → PlainToken
key_token gap name rest = run kinds.Key gap name (58 ∷ rest)

key-reads : (all : Parts) (gap name rest : List ℕ) → is_name name ≡ true → (ts : List PlainToken) → key all name (key_token gap name rest ∷ ts) ≡ took tt ts
unfolding key
key-reads all gap name rest named ts = rw (named, same-bytes name) refl

-- fields, each with a comma before it
pub record AreMoreFields (all parts : Parts) (some : Trees) (text rest : List ℕ) : Type 0 where
  pub tokens : List PlainToken
  pub made : List Value
  pub lexed : Lexes text rest tokens
  pub ends : Ends (text ++ rest)
  pub same : plain_values made ≡ some
  pub reads : (found : List Value) (ts : List PlainToken) → fields all parts found (tokens ++ ts) ≡ took (found ++ made) ts
  pub spelled : (levels : ℕ) → greatest_depth some ≤ levels → (front : List PlainToken) → Field (Member levels) front
      → (items : List (Unit {0})) × Joined (Byte 44) (λ (_ : Unit {0}). Field (Member levels)) (tt ∷ items) (front ++ tokens)
  pub counts : count tokens ≡ leaves_in_all some

-- fields with commas between them, behind the brace that opens them
pub record AreFields (parts : Parts) (some : Trees) (text gap rest : List ℕ) : Type 0 where
  pub open_token : PlainToken
  pub tokens : List PlainToken
  pub made : List Value
  pub lexed : tokens_of (gap ++ 123 ∷ (text ++ rest)) ≡ open_token ∷ (tokens ++ tokens_of rest)
  pub opens : open_token.text ≡ 123 ∷ []
  pub spaced : open_token.spaced ≡ is_some_gap gap
  pub same : plain_values made ≡ some
  pub reads : (ts : List PlainToken) → fields parts parts [] (tokens ++ ts) ≡ took made ts
  pub spelled : (levels : ℕ) → greatest_depth some ≤ levels → Commas (Field (Member levels)) tokens
  pub counts : count (open_token ∷ tokens) ≡ empty_leaf some + leaves_in_all some

-- the text of a field behind white space: its name, its colon, and its value
field-lexed : (read : Reader Value) (value : Tree) (gap name text rest : List ℕ) → is_blank gap ≡ true → is_name name ≡ true → (one : IsMember read value text (32 ∷ []) rest)
    → Lexes (gap ++ ((name ++ 58 ∷ 32 ∷ []) ++ text)) rest (key_token gap name ((32 ∷ text) ++ rest) ∷ one.tokens)
field-lexed read value gap name text rest blank named one =
    ap tokens_of (append_assoc gap ((name ++ 58 ∷ 32 ∷ []) ++ text) rest ∙ ap (λ (l : List ℕ). gap ++ (l ++ rest)) (append_assoc name (58 ∷ 32 ∷ []) text) ∙ ap (λ (l : List ℕ). gap ++ l) (append_assoc name (58 ∷ 32 ∷ text) rest))
    ∙ tokens-key gap name ((32 ∷ text) ++ rest) blank (name-run name named) ∙ ap (λ (ts : List PlainToken). key_token gap name ((32 ∷ text) ++ rest) ∷ ts) one.lexed

-- a field's tokens have the form of one
field-spelled : (read : Reader Value) (value : Tree) (gap name text rest more : List ℕ) → is_name name ≡ true → (one : IsMember read value text gap rest) → (levels : ℕ) → depth_of value ≤ levels
    → (before : List ℕ) → Field (Member levels) (key_token before name more ∷ one.tokens)
field-spelled read value gap name text rest more named one levels less before = record {
  front = key_token before name more ∷ [];
  back = one.tokens;
  all = refl;
  begins = (key_token before name more, refl, named);
  ends = one.spelled levels less;
}

next-reads : (all : Parts) (name : List ℕ) (read : Reader Value) (found : List Value) (ts back rest : List PlainToken) (x : Value) → comma ts ≡ took tt back → (key all name >> read) back ≡ took x rest
    → next_field all name read found ts ≡ took (found ++ x ∷ []) rest
unfolding next_field
next-reads all name read found ts back rest x passes is = rw (passes, is) refl

named-reads : (all : Parts) (gap name text : List ℕ) (read : Reader Value) (ts rest : List PlainToken) (x : Value) → is_name name ≡ true → read ts ≡ took x rest
    → (key all name >> read) (key_token gap name text ∷ ts) ≡ took x rest
named-reads all gap name text read ts rest x named is = rw (key-reads all gap name text named ts) is

fields-next : (all : Parts) (name : List ℕ) (ltype : Ltype) (more : Parts) (found : List Value) (ts rest : List PlainToken) (x : Value) → next_field all name (element ltype) found ts ≡ took (found ++ x ∷ []) rest
    → fields all (types.part name ltype more) found ts ≡ fields all more (found ++ x ∷ []) rest
fields-next all name ltype more found ts rest x is = rw is refl

comma-taken : (text : List ℕ) (ts : List PlainToken) → comma (comma_token text ∷ ts) ≡ took tt ts
unfolding comma
comma-taken text ts = refl

comma-none : (ts : List PlainToken) → tells (is_byte 44) false ts ≡ false → comma ts ≡ took tt ts
unfolding comma
comma-none ts none = rw none refl

key-no_comma : (gap name rest : List ℕ) → is_name name ≡ true → is_byte 44 (key_token gap name rest) ≡ false
key-no_comma gap name rest named = not_byte 44 is_name name refl named

-- ---- Groups

group-end : (parts : Parts) (rest : List ℕ) (ts : List PlainToken) → (comma >> group_end parts) (one_byte kinds.Sign [] 125 rest ∷ ts) ≡ took tt ts
unfolding comma group_end
group-end parts rest ts = refl

-- a Group
pub group-member : (parts : Parts) (some : Trees) (text gap rest : List ℕ) → is_blank gap ≡ true → AreFields parts some text gap (125 ∷ rest)
    → IsMember (element (types.group parts)) (group some) (codes "{" ⁀ text ⁀ codes "}") gap rest
unfolding shaped opening
group-member parts some text gap rest blank inner = record {
  tokens = inner.open_token ∷ (inner.tokens ++ close_token ∷ []);
  made = values.Group inner.made;
  lexed = ap tokens_of (append_assoc gap (123 ∷ (text ++ 125 ∷ [])) rest ∙ ap (λ (l : List ℕ). gap ++ 123 ∷ l) (append_assoc text (125 ∷ []) rest)) ∙ inner.lexed
      ∙ ap (λ (ts : List PlainToken). inner.open_token ∷ (inner.tokens ++ ts)) (tokens-sign [] 125 rest refl sign-close)
      ∙ ap (λ (ts : List PlainToken). inner.open_token ∷ ts) (sym (append_assoc inner.tokens (close_token ∷ []) (tokens_of rest)));
  begins = record { byte = 123; more = text ++ 125 ∷ []; is = refl; first = record { bare = record { space = refl; slash = refl }; key = refl; call = refl; path = refl; close = refl } };
  same = plain-Group inner.made ∙ ap group inner.same;
  reads = reads;
  spelled = spelled;
  counts = omega (arith, count-append (inner.open_token ∷ inner.tokens) (close_token ∷ []), inner.counts);
  spaced = inner.spaced;
}
  where
    close_token : PlainToken
    close_token = one_byte kinds.Sign [] 125 rest

    reads : (ts : List PlainToken) → element (types.group parts) (inner.open_token ∷ ((inner.tokens ++ close_token ∷ []) ++ ts)) ≡ took (values.Group inner.made) ts
    reads ts = rw (inner.opens, append_assoc inner.tokens (close_token ∷ []) ts, inner.reads (close_token ∷ ts), group-end parts rest ts) refl

    opens : opening inner.open_token ≡ Some openings.Group
    opens = rw inner.opens refl

    spelled : (levels : ℕ) → depth_of (group some) ≤ levels → Member levels (inner.open_token ∷ (inner.tokens ++ close_token ∷ []))
    spelled zero less = absurd (omega (arith, less))
    spelled (suc levels) less = inl (
      openings.Group,
      record {
        front = inner.open_token ∷ [];
        back = inner.tokens ++ close_token ∷ [];
        all = refl;
        begins = (inner.open_token, refl, opens);
        ends = record { front = inner.tokens; back = close_token ∷ []; all = refl; begins = inner.spelled levels (omega (arith, less)); ends = (close_token, refl, refl) };
      },
    )

-- the fields of a Group with none
pub no-fields : (gap rest : List ℕ) → is_blank gap ≡ true → AreFields types.no_parts no_trees [] gap (125 ∷ rest)
no-fields gap rest blank = record {
  open_token = one_byte kinds.Empty gap 123 (125 ∷ rest);
  tokens = [];
  made = [];
  lexed = tokens-empty gap rest blank;
  opens = refl;
  spaced = refl;
  same = refl;
  reads = λ ts. refl;
  spelled = λ levels less. ([], refl);
  counts = refl;
}

module _ (name : List ℕ) (ltype : Ltype) (more : Parts) (value : Tree) (others : Trees) (text behind gap rest : List ℕ) (named : is_name name ≡ true) (blank : is_blank gap ≡ true)
    (tail : AreMoreFields (types.part name ltype more) more others behind (125 ∷ rest)) (one : IsMember (element ltype) value text (32 ∷ []) (behind ++ 125 ∷ rest)) where
  -- the first field and the others
  pub some-fields : AreFields (types.part name ltype more) (tree value others) (((name ++ 58 ∷ 32 ∷ []) ++ text) ++ behind) gap (125 ∷ rest)
  some-fields = record {
    open_token = one_byte kinds.Sign gap 123 (field_text ++ 125 ∷ rest);
    tokens = (first_key ∷ one.tokens) ++ tail.tokens;
    made = one.made ∷ tail.made;
    lexed = tokens-brace gap (field_text ++ 125 ∷ rest) blank no_close
        ∙ ap (λ (ts : List PlainToken). one_byte kinds.Sign gap 123 (field_text ++ 125 ∷ rest) ∷ ts)
        (lexes-both ((name ++ 58 ∷ 32 ∷ []) ++ text) behind (125 ∷ rest) (first_key ∷ one.tokens) tail.tokens (field-lexed (element ltype) value [] name text (behind ++ 125 ∷ rest) refl named one) tail.lexed);
    opens = refl;
    spaced = refl;
    same = cc (one.same, tail.same);
    reads = reads;
    spelled = λ levels less.
        let next = tail.spelled levels (omega (arith, less)) (first_key ∷ one.tokens)
        (field-spelled (element ltype) value (32 ∷ []) name text (behind ++ 125 ∷ rest) ((32 ∷ text) ++ (behind ++ 125 ∷ rest)) named one levels (omega (arith, less)) []) in (tt ∷ next.0, next.1);
    counts = omega (arith, count-append one.tokens tail.tokens, one.counts, tail.counts);
  }
    where
      field_text : List ℕ
      field_text = ((name ++ 58 ∷ 32 ∷ []) ++ text) ++ behind

      first_key : PlainToken
      first_key = key_token [] name ((32 ∷ text) ++ (behind ++ 125 ∷ rest))

      begins : Begins field_text
      begins = begins-more ((name ++ 58 ∷ 32 ∷ []) ++ text) behind (begins-more (name ++ 58 ∷ 32 ∷ []) text (begins-more name (58 ∷ 32 ∷ []) (begins-run name (name-run name named))))

      no_close : (get_or (after_gap (field_text ++ 125 ∷ rest)) 0 0 == 125) ≡ false
      no_close = ap (λ (l : List ℕ). get_or l 0 0 == 125) (gap-begins field_text (125 ∷ rest) begins) ∙ begins.first.close

      reads : (ts : List PlainToken) → fields (types.part name ltype more) (types.part name ltype more) [] (((first_key ∷ one.tokens) ++ tail.tokens) ++ ts) ≡ took (one.made ∷ tail.made) ts
      reads ts =
          fields-next (types.part name ltype more) name ltype more [] (first_key ∷ ((one.tokens ++ tail.tokens) ++ ts)) (tail.tokens ++ ts) one.made
          (next-reads (types.part name ltype more) name (element ltype) [] (first_key ∷ ((one.tokens ++ tail.tokens) ++ ts)) (first_key ∷ ((one.tokens ++ tail.tokens) ++ ts)) (tail.tokens ++ ts) one.made
          (comma-none (first_key ∷ ((one.tokens ++ tail.tokens) ++ ts)) (key-no_comma [] name ((32 ∷ text) ++ (behind ++ 125 ∷ rest)) named))
          (named-reads (types.part name ltype more) [] name ((32 ∷ text) ++ (behind ++ 125 ∷ rest)) (element ltype) ((one.tokens ++ tail.tokens) ++ ts) (tail.tokens ++ ts) one.made named
          (front-assoc (element ltype) one.tokens tail.tokens ts (tail.tokens ++ ts) one.made (one.reads (tail.tokens ++ ts)))))
          ∙ tail.reads (one.made ∷ []) ts

module _ (all : Parts) (name : List ℕ) (ltype : Ltype) (more : Parts) (value : Tree) (others : Trees) (text behind rest : List ℕ) (named : is_name name ≡ true)
    (tail : AreMoreFields all more others behind rest) (one : IsMember (element ltype) value text (32 ∷ []) (behind ++ rest)) where
  -- one field more, with a comma before it, and the others
  pub more-fields : AreMoreFields all (types.part name ltype more) (tree value others) (((44 ∷ 32 ∷ (name ++ 58 ∷ 32 ∷ [])) ++ text) ++ behind) rest
  more-fields = record {
    tokens = comma_token begun ∷ ((next_key ∷ one.tokens) ++ tail.tokens);
    made = one.made ∷ tail.made;
    lexed = tokens-sign [] 44 begun refl sign-comma
        ∙ ap (λ (ts : List PlainToken). comma_token begun ∷ ts)
        (lexes-both (32 ∷ ((name ++ 58 ∷ 32 ∷ []) ++ text)) behind rest (next_key ∷ one.tokens) tail.tokens (field-lexed (element ltype) value (32 ∷ []) name text (behind ++ rest) refl named one) tail.lexed);
    ends = ends-byte 44 begun end-comma;
    same = cc (one.same, tail.same);
    reads = reads;
    spelled = λ levels less front field.
        let next = tail.spelled levels (omega (arith, less)) (next_key ∷ one.tokens)
        (field-spelled (element ltype) value (32 ∷ []) name text (behind ++ rest) ((32 ∷ text) ++ (behind ++ rest)) named one levels (omega (arith, less)) (32 ∷ [])) in (
          tt ∷ next.0,
          record {
            front = front;
            back = comma_token begun ∷ ((next_key ∷ one.tokens) ++ tail.tokens);
            all = refl;
            begins = field;
            ends = record { front = comma_token begun ∷ []; back = (next_key ∷ one.tokens) ++ tail.tokens; all = refl; begins = (comma_token begun, refl, refl); ends = next.1 };
          },
        );
    counts = omega (arith, count-append one.tokens tail.tokens, one.counts, tail.counts);
  }
    where
      begun : List ℕ
      begun = (32 ∷ (((name ++ 58 ∷ 32 ∷ []) ++ text) ++ behind)) ++ rest

      next_key : PlainToken
      next_key = key_token (32 ∷ []) name ((32 ∷ text) ++ (behind ++ rest))

      reads : (found : List Value) (ts : List PlainToken) → fields all (types.part name ltype more) found ((comma_token begun ∷ ((next_key ∷ one.tokens) ++ tail.tokens)) ++ ts) ≡ took (found ++ one.made ∷ tail.made) ts
      reads found ts =
          fields-next all name ltype more found (comma_token begun ∷ next_key ∷ ((one.tokens ++ tail.tokens) ++ ts)) (tail.tokens ++ ts) one.made
          (next-reads all name (element ltype) found (comma_token begun ∷ next_key ∷ ((one.tokens ++ tail.tokens) ++ ts)) (next_key ∷ ((one.tokens ++ tail.tokens) ++ ts)) (tail.tokens ++ ts) one.made
          (comma-taken begun (next_key ∷ ((one.tokens ++ tail.tokens) ++ ts)))
          (named-reads all (32 ∷ []) name ((32 ∷ text) ++ (behind ++ rest)) (element ltype) ((one.tokens ++ tail.tokens) ++ ts) (tail.tokens ++ ts) one.made named
          (front-assoc (element ltype) one.tokens tail.tokens ts (tail.tokens ++ ts) one.made (one.reads (tail.tokens ++ ts)))))
          ∙ tail.reads (found ++ one.made ∷ []) ts ∙ ap (λ (l : List Value). took l ts) (append_assoc found (one.made ∷ []) tail.made)

-- no field more
pub no-more : (all : Parts) (rest : List ℕ) → Ends rest → AreMoreFields all types.no_parts no_trees [] rest
no-more all rest ends = record {
  tokens = [];
  made = [];
  lexed = refl;
  ends = ends;
  same = refl;
  reads = λ found ts. ap (λ (l : List Value). took l ts) (sym (append-nil found));
  spelled = λ levels less front field. ([], subst (Field (Member levels)) (sym (append-nil front)) field);
  counts = refl;
}
