-- Words and nests that are printed: their tokens have the form of a member, and are read as the value.
use Rattle.std.proofs.Common.{◌≡◌, ◌∙◌, inl, ℕ, zero, suc, ◌+◌, ◌≤◌, Bool, true, false, List, [], ◌∷◌, ◌++◌, length, Some, refl, sym, ap, subst, append_assoc, append-nil, length-append, arith, codes}
use Rattle.std.specs.List.{filter}
use Rattle.std.proofs.lemmas.Bool.{and_parts}
use Rattle.std.proofs.lemmas.Bool.Decides.{nat_tests}
use Rattle.std.proofs.lemmas.List.Elements.{filter-append}
use Rattle.tydi_reading.specs.Lists.{Joined, repeated, repeated_turn}
use Rattle.tydi_reading.specs.Reading.{Shrinks, loop, took, tells, ◌<$>◌}
use Rattle.tydi_reading.proofs.LoopLemmas.{repeated-unfold}
use Rattle.logical_types.specs.Tree.{Ltype, Parts}
use Rattle.logical_types.specs.Tree as types
use Rattle.logical_value.specs.Fits.{all_pass, fits_element, is_nest, stands_apart}
use Rattle.logical_value.specs.Tree.{Tree, null, word, group, union, list, apart, Trees, no_trees, tree, plain, plain_values}
use Rattle.logical_value.specs.declared.value.Value.{Value}
use Rattle.logical_value.specs.declared.value.Value.TheVariants as values
use Rattle.logical_value.proofs.PlainLemmas.{plain-Apart, plain-List, plain-Null, plain-Word}
use Rattle.value_text.specs.Canonical.{element_text, nest_text, nests_text, word_text, ◌⁀◌}
use Rattle.value_text.specs.Grammar.{Byte, Commas, Member}
use Rattle.value_text.specs.Leaves.{begins_leaf}
use Rattle.value_text.specs.Printable.{depth_of, greatest_depth, leaves_in, leaves_in_all}
use Rattle.value_text.specs.Syntax.{Reader}
use Rattle.value_text.specs.Tokens.{PlainToken, tokens_of}
use Rattle.value_text.specs.Typed.{apart_word, bits_word, comma, element, list_value, listed_values, nest, next_value, shaped, text_word, token_word}
use Rattle.value_text.specs.Words.{is_byte, is_leaf, is_spaced, number_of, opening}
use Rattle.value_text.specs.declared.opening.Opening.TheVariants as openings
use Rattle.value_text.specs.declared.token.TokenKind.TheVariants as kinds
use Rattle.value_text.proofs.SyntaxRules.{IsApart, leaf-member, member-byte}
use Rattle.value_text.proofs.TypedLemmas.{less-nest, less-next}
use Rattle.value_text.proofs.printed.LexedTexts.{Begins, Ends, IsBare, IsEnd, IsRun, IsSign, begins-run, ends-byte, is_blank, is_some_gap, one_byte, run, tokens-sign, tokens-word}
use Rattle.value_text.proofs.printed.PrintedWords.{IsWordText, word_text-is}

-- ---- tokens of texts

-- the tokens of a text before another are these
abbrev pub Lexes : (text rest : List ℕ) → List PlainToken → Type 0
Lexes text rest tokens = tokens_of (text ++ rest) ≡ tokens ++ tokens_of rest

pub lexes-both : (one other rest : List ℕ) (first second : List PlainToken) → Lexes one (other ++ rest) first → Lexes other rest second → Lexes (one ++ other) rest (first ++ second)
lexes-both one other rest first second begun ended =
    ap tokens_of (append_assoc one other rest) ∙ begun ∙ ap (λ (ts : List PlainToken). first ++ ts) ended ∙ sym (append_assoc first second (tokens_of rest))

-- how many leaves begin with tokens
abbrev pub count : List PlainToken → ℕ
count tokens = length (filter begins_leaf tokens)

pub count-append : (one other : List PlainToken) → count (one ++ other) ≡ count one + count other
count-append one other = ap (λ (ts : List PlainToken). length ts) (filter-append begins_leaf one other) ∙ length-append (filter begins_leaf one) (filter begins_leaf other)

-- ---- signs

bare-list : IsBare 91
bare-list = record { space = refl; slash = refl }

pub sign-list : IsSign 91
sign-list = record { bare = bare-list; word = refl; dash = refl; brace = refl }

bare-list_end : IsBare 93
bare-list_end = record { space = refl; slash = refl }

pub sign-list_end : IsSign 93
sign-list_end = record { bare = bare-list_end; word = refl; dash = refl; brace = refl }

pub end-list_end : IsEnd 93
end-list_end = record { bare = bare-list_end; word = refl; key = refl; call = refl; path = refl }

bare-comma : IsBare 44
bare-comma = record { space = refl; slash = refl }

pub sign-comma : IsSign 44
sign-comma = record { bare = bare-comma; word = refl; dash = refl; brace = refl }

pub end-comma : IsEnd 44
end-comma = record { bare = bare-comma; word = refl; key = refl; call = refl; path = refl }

pub apart-comma : IsApart 44
apart-comma = record { list = refl; group = refl; name = refl; leaf = refl }

apart-list_end : IsApart 93
apart-list_end = record { list = refl; group = refl; name = refl; leaf = refl }

-- a comma before this text
abbrev pub comma_token : List ℕ → PlainToken
comma_token rest = one_byte kinds.Sign [] 44 rest

-- ---- members

-- the text of a member behind white space and before a rest: its tokens have the form of a member, and are read as the value
pub record IsMember (read : Reader Value) (value : Tree) (text gap rest : List ℕ) : Type 0 where
  pub tokens : List PlainToken
  pub made : Value
  pub lexed : Lexes (gap ++ text) rest tokens
  pub begins : Begins text
  pub same : plain made ≡ value
  pub reads : (ts : List PlainToken) → read (tokens ++ ts) ≡ took made ts
  pub spelled : (levels : ℕ) → depth_of value ≤ levels → Member levels tokens
  pub counts : count tokens ≡ leaves_in value
  pub spaced : tells is_spaced false tokens ≡ is_some_gap gap

-- each value that passes a test has such a text
abbrev pub Prints : (Tree → Bool) → (Tree → List ℕ) → Reader Value → Type 0
Prints test text read = (value : Tree) → test value ≡ true → (gap rest : List ℕ) → is_blank gap ≡ true → Ends rest → IsMember read value (text value) gap rest

-- ---- words

-- a word alone
word-member : (read : Reader Value) (value : Tree) (made : Value) (text gap rest : List ℕ) → is_blank gap ≡ true → Ends rest → IsRun text → is_leaf text ≡ true → plain made ≡ value → leaves_in value ≡ 1
    → ((ts : List PlainToken) → read (run kinds.Word gap text rest ∷ ts) ≡ took made ts) → IsMember read value text gap rest
word-member read value made text gap rest blank ends is leaf_is same one reads = record {
  tokens = token ∷ [];
  made = made;
  lexed = ap tokens_of (append_assoc gap text rest) ∙ tokens-word gap text rest blank is ends;
  begins = begins-run text is;
  same = same;
  reads = reads;
  spelled = λ levels less. leaf-member levels (token ∷ []) (token, refl, leaf_is);
  counts = rw leaf_is (sym one);
  spaced = refl;
}
  where
    token : PlainToken
    token = run kinds.Word gap text rest

pub prints-null : Prints (fits_element types.null) (element_text types.null) (element types.null)
unfolding shaped
prints-null null fits gap rest blank ends =
    word-member (element types.null) null values.Null (codes "null") gap rest blank ends (record { some = omega arith; each = refl }) refl plain-Null refl (λ ts. refl)
prints-null (word bits) fits gap rest blank ends = absurd cc
prints-null (group parts) fits gap rest blank ends = absurd cc
prints-null (union tag inner) fits gap rest blank ends = absurd cc
prints-null (list parts) fits gap rest blank ends = absurd cc
prints-null apart fits gap rest blank ends = absurd cc

pub prints-apart : Prints stands_apart (λ value. codes "apart") ((λ _. values.Apart) <$> shaped apart_word)
unfolding shaped
prints-apart apart fits gap rest blank ends =
    word-member ((λ _. values.Apart) <$> shaped apart_word) apart values.Apart (codes "apart") gap rest blank ends (record { some = omega arith; each = refl }) refl plain-Apart refl (λ ts. refl)
prints-apart null fits gap rest blank ends = absurd cc
prints-apart (word bits) fits gap rest blank ends = absurd cc
prints-apart (group parts) fits gap rest blank ends = absurd cc
prints-apart (union tag inner) fits gap rest blank ends = absurd cc
prints-apart (list parts) fits gap rest blank ends = absurd cc

pub prints-bits : (width : ℕ) → Prints (fits_element (types.bits width)) (element_text (types.bits width)) (element (types.bits width))
unfolding bits_word token_word
prints-bits width (word bits) fits gap rest blank ends =
    let is = word_text-is bits in
    let wide : length bits ≡ width = grind (arith, nat_tests) in
    word-member (element (types.bits width)) (word bits) (values.Word bits) (word_text bits) gap rest blank ends is.run is.leaf (plain-Word bits) refl (reads wide is)
  where
    reads : length bits ≡ width → IsWordText bits (word_text bits) → (ts : List PlainToken) → (values.Word <$> bits_word width) (run kinds.Word gap (word_text bits) rest ∷ ts) ≡ took (values.Word bits) ts
    reads wide is ts = rw (ap (λ (n : ℕ). text_word n (word_text bits) (number_of (word_text bits))) (sym wide) ∙ is.word) refl
prints-bits width null fits gap rest blank ends = absurd cc
prints-bits width (group parts) fits gap rest blank ends = absurd cc
prints-bits width (union tag inner) fits gap rest blank ends = absurd cc
prints-bits width (list parts) fits gap rest blank ends = absurd cc
prints-bits width apart fits gap rest blank ends = absurd cc

-- ---- the turns of a list

pub turn-stops : {A : Type 0} (test : PlainToken → Bool) (item : Reader A) → Shrinks item → (found : List A) (ts : List PlainToken) → tells test false ts ≡ true
    → loop (repeated_turn test false item) found ts ≡ took found ts
unfolding repeated_turn
turn-stops test item shrinks found ts stop = repeated-unfold test false item shrinks found ts ∙ rw stop refl

pub turn-goes : {A : Type 0} (test : PlainToken → Bool) (item : Reader A) → Shrinks item → (found : List A) (ts rest : List PlainToken) (x : A) → tells test false ts ≡ false → item ts ≡ took x rest
    → loop (repeated_turn test false item) found ts ≡ loop (repeated_turn test false item) (found ++ x ∷ []) rest
unfolding repeated_turn
turn-goes test item shrinks found ts rest x goes read = repeated-unfold test false item shrinks found ts ∙ rw (goes, read) refl

-- ---- nests

-- values, each with a comma before it
record AreMore (read : Reader Value) (some : Trees) (text rest : List ℕ) : Type 0 where
  tokens : List PlainToken
  made : List Value
  lexed : Lexes text rest tokens
  ends : Ends (text ++ rest)
  same : plain_values made ≡ some
  reads : (found : List Value) (ts : List PlainToken) → tells (is_byte 93) false ts ≡ true → loop (repeated_turn (is_byte 93) false (next_value read)) found (tokens ++ ts) ≡ took (found ++ made) ts
  spelled : (levels : ℕ) → greatest_depth some ≤ levels → (front : List PlainToken) → Member levels front
      → (items : List (Unit {0})) × Joined (Byte 44) (λ (_ : Unit {0}). Member levels) (tt ∷ items) (front ++ tokens)
  counts : count tokens ≡ leaves_in_all some

-- values with commas between them
record AreValues (read : Reader Value) (some : Trees) (text rest : List ℕ) : Type 0 where
  tokens : List PlainToken
  made : List Value
  lexed : Lexes text rest tokens
  same : plain_values made ≡ some
  reads : (ts : List PlainToken) → tells (is_byte 93) false ts ≡ true → loop (repeated_turn (is_byte 93) false (next_value read)) [] (tokens ++ ts) ≡ took made ts
  spelled : (levels : ℕ) → greatest_depth some ≤ levels → Commas (Member levels) tokens
  counts : count tokens ≡ leaves_in_all some

next-comma : (read : Reader Value) (before rest : List PlainToken) (text : List ℕ) (x : Value) → read before ≡ took x rest → next_value read (comma_token text ∷ before) ≡ took x rest
unfolding next_value comma
next-comma read before rest text x is = is

next-first : (read : Reader Value) (ts rest : List PlainToken) (x : Value) → tells (is_byte 44) false ts ≡ false → read ts ≡ took x rest → next_value read ts ≡ took x rest
unfolding next_value comma
next-first read ts rest x none is = rw none is

pub front-assoc : {A : Type 0} (read : Reader A) (front back ts rest : List PlainToken) (x : A) → read (front ++ (back ++ ts)) ≡ took x rest → read ((front ++ back) ++ ts) ≡ took x rest
front-assoc read front back ts rest x is = ap read (append_assoc front back ts) ∙ is

module _ (test : Tree → Bool) (text : Tree → List ℕ) (read : Reader Value) (prints : Prints test text read) (shrinks : Shrinks read) where
  more_values : (some : Trees) → all_pass test some ≡ true → (rest : List ℕ) → Ends rest → AreMore read some (nests_text text (codes ", ") (codes ", ") some) rest
  more_values no_trees pass rest ends = record {
    tokens = [];
    made = [];
    lexed = refl;
    ends = ends;
    same = refl;
    reads = λ found ts stop. turn-stops (is_byte 93) (next_value read) (less-next read shrinks) found ts stop ∙ ap (λ (l : List Value). took l ts) (sym (append-nil found));
    spelled = λ levels less front member. ([], subst (Member levels) (sym (append-nil front)) member);
    counts = refl;
  }
  more_values (tree value others) pass rest ends =
      let both = and_parts (test value) (all_pass test others) pass in
      let tail = more_values others both.1 rest ends in
      let behind : List ℕ = nests_text text (codes ", ") (codes ", ") others in
      let one = prints value both.0 (32 ∷ []) (behind ++ rest) refl tail.ends in
      let begun : List ℕ = (32 ∷ (text value ++ behind)) ++ rest in
      record {
        tokens = comma_token begun ∷ (one.tokens ++ tail.tokens);
        made = one.made ∷ tail.made;
        lexed = tokens-sign [] 44 begun refl sign-comma
            ∙ ap (λ (ts : List PlainToken). comma_token begun ∷ ts) (lexes-both (32 ∷ text value) behind rest one.tokens tail.tokens one.lexed tail.lexed);
        ends = ends-byte 44 begun end-comma;
        same = cc (one.same, tail.same);
        reads = λ found ts stop.
            turn-goes (is_byte 93) (next_value read) (less-next read shrinks) found (comma_token begun ∷ ((one.tokens ++ tail.tokens) ++ ts)) (tail.tokens ++ ts) one.made refl
            (next-comma read ((one.tokens ++ tail.tokens) ++ ts) (tail.tokens ++ ts) begun one.made (front-assoc read one.tokens tail.tokens ts (tail.tokens ++ ts) one.made (one.reads (tail.tokens ++ ts))))
            ∙ tail.reads (found ++ one.made ∷ []) ts stop ∙ ap (λ (l : List Value). took l ts) (append_assoc found (one.made ∷ []) tail.made);
        spelled = λ levels less front member.
            let next = tail.spelled levels (omega (arith, less)) one.tokens (one.spelled levels (omega (arith, less))) in (
              tt ∷ next.0,
              record {
                front = front;
                back = comma_token begun ∷ (one.tokens ++ tail.tokens);
                all = refl;
                begins = member;
                ends = record { front = comma_token begun ∷ []; back = one.tokens ++ tail.tokens; all = refl; begins = (comma_token begun, refl, refl); ends = next.1 };
              },
            );
        counts = omega (arith, count-append one.tokens tail.tokens, one.counts, tail.counts);
      }

  all_values : (some : Trees) → all_pass test some ≡ true → (rest : List ℕ) → Ends rest → AreValues read some (nests_text text (codes ", ") [] some) rest
  all_values no_trees pass rest ends = record {
    tokens = [];
    made = [];
    lexed = refl;
    same = refl;
    reads = λ ts stop. turn-stops (is_byte 93) (next_value read) (less-next read shrinks) [] ts stop;
    spelled = λ levels less. ([], refl);
    counts = refl;
  }
  all_values (tree value others) pass rest ends =
      let both = and_parts (test value) (all_pass test others) pass in
      let tail = more_values others both.1 rest ends in
      let behind : List ℕ = nests_text text (codes ", ") (codes ", ") others in
      let one = prints value both.0 [] (behind ++ rest) refl tail.ends in
      let member = one.spelled (depth_of value) (omega arith) in
      record {
        tokens = one.tokens ++ tail.tokens;
        made = one.made ∷ tail.made;
        lexed = lexes-both (text value) behind rest one.tokens tail.tokens one.lexed tail.lexed;
        same = cc (one.same, tail.same);
        reads = λ ts stop.
            let all = append_assoc one.tokens tail.tokens ts in
            turn-goes (is_byte 93) (next_value read) (less-next read shrinks) [] ((one.tokens ++ tail.tokens) ++ ts) (tail.tokens ++ ts) one.made
            (ap (tells (is_byte 93) false) all ∙ member-byte (depth_of value) 93 one.tokens (tail.tokens ++ ts) apart-list_end member)
            (next-first read ((one.tokens ++ tail.tokens) ++ ts) (tail.tokens ++ ts) one.made
            (ap (tells (is_byte 44) false) all ∙ member-byte (depth_of value) 44 one.tokens (tail.tokens ++ ts) apart-comma member)
            (front-assoc read one.tokens tail.tokens ts (tail.tokens ++ ts) one.made (one.reads (tail.tokens ++ ts))))
            ∙ tail.reads (one.made ∷ []) ts stop;
        spelled = λ levels less.
            let next = tail.spelled levels (omega (arith, less)) one.tokens (one.spelled levels (omega (arith, less))) in (tt ∷ next.0, next.1);
        counts = omega (arith, count-append one.tokens tail.tokens, one.counts, tail.counts);
      }

  -- a list of values
  list-member : (some : Trees) → all_pass test some ≡ true → (gap rest : List ℕ) → is_blank gap ≡ true
      → IsMember (list_value read) (list some) (codes "[" ⁀ nests_text text (codes ", ") [] some ⁀ codes "]") gap rest
  unfolding list_value listed_values repeated shaped opening
  list-member some pass gap rest blank = record {
    tokens = open_token ∷ (inner.tokens ++ close_token ∷ []);
    made = values.List inner.made;
    lexed = ap tokens_of (append_assoc gap (91 ∷ (inside ++ 93 ∷ [])) rest) ∙ tokens-sign gap 91 ((inside ++ 93 ∷ []) ++ rest) blank sign-list
        ∙ ap (λ (ts : List PlainToken). open_token ∷ ts) (lexes-both inside (93 ∷ []) rest inner.tokens (close_token ∷ []) inner.lexed (tokens-sign [] 93 rest refl sign-list_end));
    begins = record { byte = 91; more = inside ++ 93 ∷ []; is = refl; first = record { bare = bare-list; key = refl; call = refl; path = refl; close = refl } };
    same = plain-List inner.made ∙ ap list inner.same;
    reads = reads;
    spelled = spelled;
    counts = omega (arith, count-append inner.tokens (close_token ∷ []), inner.counts);
    spaced = refl;
  }
    where
      inside : List ℕ
      inside = nests_text text (codes ", ") [] some

      inner : AreValues read some inside (93 ∷ rest)
      inner = all_values some pass (93 ∷ rest) (ends-byte 93 rest end-list_end)

      open_token : PlainToken
      open_token = one_byte kinds.Sign gap 91 ((inside ++ 93 ∷ []) ++ rest)

      close_token : PlainToken
      close_token = one_byte kinds.Sign [] 93 rest

      reads : (ts : List PlainToken) → list_value read (open_token ∷ ((inner.tokens ++ close_token ∷ []) ++ ts)) ≡ took (values.List inner.made) ts
      reads ts = rw (append_assoc inner.tokens (close_token ∷ []) ts, inner.reads (close_token ∷ ts) refl) refl

      opens : opening open_token ≡ Some openings.List
      opens = refl

      spelled : (levels : ℕ) → depth_of (list some) ≤ levels → Member levels (open_token ∷ (inner.tokens ++ close_token ∷ []))
      spelled zero less = absurd (omega (arith, less))
      spelled (suc levels) less = inl (
        openings.List,
        record {
          front = open_token ∷ [];
          back = inner.tokens ++ close_token ∷ [];
          all = refl;
          begins = (open_token, refl, opens);
          ends = record { front = inner.tokens; back = close_token ∷ []; all = refl; begins = inner.spelled levels (omega (arith, less)); ends = (close_token, refl, refl) };
        },
      )

pub prints-nest : (test : Tree → Bool) (text : Tree → List ℕ) (read : Reader Value) → Prints test text read → Shrinks read → (depth : ℕ)
    → Prints (is_nest test depth) (nest_text text depth) (nest read depth)
prints-nest test text read prints shrinks zero value fits gap rest blank ends = prints value fits gap rest blank ends
prints-nest test text read prints shrinks (suc depth) (list some) fits gap rest blank ends =
    list-member (is_nest test depth) (nest_text text depth) (nest read depth) (prints-nest test text read prints shrinks depth) (less-nest read depth shrinks) some fits gap rest blank
prints-nest test text read prints shrinks (suc depth) null fits gap rest blank ends = absurd cc
prints-nest test text read prints shrinks (suc depth) (word bits) fits gap rest blank ends = absurd cc
prints-nest test text read prints shrinks (suc depth) (group parts) fits gap rest blank ends = absurd cc
prints-nest test text read prints shrinks (suc depth) (union tag inner) fits gap rest blank ends = absurd cc
prints-nest test text read prints shrinks (suc depth) apart fits gap rest blank ends = absurd cc
