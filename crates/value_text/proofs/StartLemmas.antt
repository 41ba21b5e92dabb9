-- A text has no more leaves than runs of word bytes and `{`.
use Rattle.std.proofs.Common.{◌≡◌, ◌∙◌, ℕ, zero, suc, ◌+◌, ◌≤◌, max, Bool, true, false, ◌==◌, not, ◌&&◌, cond, List, [], ◌∷◌, length, map, drop, get_or, None, refl, sym, ap, arith}
use Rattle.std.specs.List.{filter}
use Rattle.value_text.specs.declared.token.TokenKind.{TokenKind}
use Rattle.value_text.specs.declared.token.TokenKind.TheVariants as kinds
use Rattle.value_text.specs.Leaves.{begins_leaf, behind, is_empty, leaves_of, surplus}
use Rattle.value_text.specs.Starts.{begins, starts}
use Rattle.value_text.specs.Tokens.{PlainToken, after_gap, after_token, begins_comment, but_first, gap_from, is_space, is_word_byte, kind_at, kind_of, next_token, takes_next, token_at, tokens_of, tokens_within, with_next, word_length}
use Rattle.value_text.specs.Words.{is_word}

-- ---- a text without bytes at its front has no more starts

one : (b : Bool) → cond b 1 0 ≤ 1
one true = omega arith
one false = omega arith

within-more : (bytes : List ℕ) → starts false bytes ≤ 1 + starts true bytes
within-more [] = omega arith
within-more (byte ∷ bytes) = let few = one (begins false byte) in omega (arith, few)

more : (byte : ℕ) (bytes : List ℕ) → starts false bytes ≤ starts false (byte ∷ bytes)
more byte bytes = by_test (is_word_byte byte) refl
  where
    by_test : (word : Bool) → is_word_byte byte ≡ word → starts false bytes ≤ starts false (byte ∷ bytes)
    by_test true is = let few = within-more bytes in rw is (omega (arith, few))
    by_test false is = rw is (omega arith)

gap-choice : (byte : ℕ) (bytes : List ℕ) (comment blank : Bool) → starts false (gap_from true bytes) ≤ starts false bytes → starts false (gap_from false bytes) ≤ starts false bytes
    → starts false (cond comment (gap_from true bytes) (cond blank (gap_from false bytes) (byte ∷ bytes))) ≤ starts false (byte ∷ bytes)
gap-choice byte bytes true blank less also = let step = more byte bytes in omega (arith, less, step)
gap-choice byte bytes false true less also = let step = more byte bytes in omega (arith, also, step)
gap-choice byte bytes false false less also = omega arith

after-gap : (in_comment : Bool) (bytes : List ℕ) → starts false (gap_from in_comment bytes) ≤ starts false bytes
after-gap true [] = omega arith
after-gap false [] = omega arith
after-gap true (byte ∷ bytes) = let less = after-gap (not (byte == 10)) bytes in let step = more byte bytes in omega (arith, less, step)
after-gap false (byte ∷ bytes) = gap-choice byte bytes (begins_comment (byte ∷ bytes)) (is_space byte) (after-gap true bytes) (after-gap false bytes)

after-first : (bytes : List ℕ) → starts false (but_first bytes) ≤ starts false bytes
after-first [] = omega arith
after-first (byte ∷ bytes) = more byte bytes

after-kind : (kind : TokenKind) (tail : List ℕ) → starts false (after_token kind tail) ≤ starts false tail
after-kind kind tail = choice (takes_next kind)
  where
    choice : (takes : Bool) → starts false (cond takes (but_first (after_gap tail)) tail) ≤ starts false tail
    choice true = let step = after-first (after_gap tail) in let gap = after-gap false tail in omega (arith, step, gap)
    choice false = omega arith

-- ---- a leaf has a start

behind-run : (bytes : List ℕ) → starts false (drop (word_length bytes) bytes) ≤ starts true bytes
behind-run [] = omega arith
behind-run (byte ∷ bytes) = by_test (is_word_byte byte) refl (behind-run bytes)
  where
    by_test : (word : Bool) → is_word_byte byte ≡ word → starts false (drop (word_length bytes) bytes) ≤ starts true bytes → starts false (drop (word_length (byte ∷ bytes)) (byte ∷ bytes)) ≤ starts true (byte ∷ bytes)
    by_test true is less =
        let run : word_length (byte ∷ bytes) ≡ suc (word_length bytes) = rw is (omega arith) in
        let passed : starts true (byte ∷ bytes) ≡ cond (byte == 123) 1 0 + starts true bytes = rw is refl in
        rw run (omega (arith, less, passed))
    by_test false is less =
        let none : word_length (byte ∷ bytes) ≡ 0 = rw is refl in
        let same : starts false (byte ∷ bytes) ≡ starts true (byte ∷ bytes) = rw is refl in
        rw none (omega (arith, same))

no_word-kind : (byte next : ℕ) → is_word (kind_of false byte next) ≡ false
unfolding kind_of
no_word-kind byte next = choice ((byte == 45) && (next == 61)) ((byte == 123) && (next == 125))
  where
    choice : (path both : Bool) → is_word (cond path kinds.Path (cond both kinds.Empty kinds.Sign)) ≡ false
    choice true both = refl
    choice false true = refl
    choice false false = refl

empty-kind : (byte next : ℕ) → is_empty (kind_of false byte next) ≡ true → (byte == 123) ≡ true
unfolding kind_of
empty-kind byte next is = choice ((byte == 45) && (next == 61)) (byte == 123) (next == 125) is
  where
    choice : (path brace other : Bool) → is_empty (cond path kinds.Path (cond (brace && other) kinds.Empty kinds.Sign)) ≡ true → brace ≡ true
    choice true brace other told = absurd (let no : false ≡ true = told in cc)
    choice false true other told = refl
    choice false false other told = absurd (let no : false ≡ true = told in cc)

no_word-leaf : (t : PlainToken) → is_word t.kind ≡ false → begins_leaf t ≡ is_empty t.kind
no_word-leaf t is = rw is refl

token-starts : (spaced : Bool) (byte : ℕ) (bytes : List ℕ) → cond (begins_leaf (token_at spaced (byte ∷ bytes)).token) 1 0 + starts false (token_at spaced (byte ∷ bytes)).after ≤ starts false (byte ∷ bytes)
token-starts spaced byte bytes = by_test (is_word_byte byte) refl
  where
    by_test : (word : Bool) → is_word_byte byte ≡ word → cond (begins_leaf (token_at spaced (byte ∷ bytes)).token) 1 0 + starts false (token_at spaced (byte ∷ bytes)).after ≤ starts false (byte ∷ bytes)
    by_test true is =
        let few = one (begins_leaf (token_at spaced (byte ∷ bytes)).token) in
        let after = after-kind (kind_at (byte ∷ bytes)) (drop (max (word_length (byte ∷ bytes)) 1) (byte ∷ bytes)) in
        let long : max (word_length (byte ∷ bytes)) 1 ≡ suc (word_length bytes) = rw is (omega arith) in
        let tail : starts false (drop (max (word_length (byte ∷ bytes)) 1) (byte ∷ bytes)) ≤ starts true bytes = rw long (behind-run bytes) in
        let all : starts false (byte ∷ bytes) ≡ 1 + starts true bytes = rw is refl in
        omega (arith, few, after, tail, all)
    by_test false is =
        let after = after-kind (kind_at (byte ∷ bytes)) (drop (max (word_length (byte ∷ bytes)) 1) (byte ∷ bytes)) in
        let short : max (word_length (byte ∷ bytes)) 1 ≡ 1 = rw is refl in
        let tail : starts false (drop (max (word_length (byte ∷ bytes)) 1) (byte ∷ bytes)) ≡ starts false bytes = rw short refl in
        let kind : kind_at (byte ∷ bytes) ≡ kind_of false byte (get_or (after_gap bytes) 0 0) = rw is refl in
        let word : is_word (kind_at (byte ∷ bytes)) ≡ false = ap is_word kind ∙ no_word-kind byte (get_or (after_gap bytes) 0 0) in
        let leaf = no_word-leaf (token_at spaced (byte ∷ bytes)).token word in
        let all : starts false (byte ∷ bytes) ≡ cond (byte == 123) 1 0 + starts false bytes = rw is refl in
        let brace = counted-by (is_empty (kind_at (byte ∷ bytes))) (byte == 123) (λ told. empty-kind byte (get_or (after_gap bytes) 0 0) (sym (ap is_empty kind) ∙ told)) in
        let counted = ap {B = ℕ} (λ (b : Bool). cond b 1 0) leaf in
        omega (arith, after, tail, all, brace, counted)
      where
        counted-by : (empty brace : Bool) → (empty ≡ true → brace ≡ true) → cond empty 1 0 ≤ cond brace 1 0
        counted-by true brace by = rw (by refl) (omega arith)
        counted-by false true by = omega arith
        counted-by false false by = omega arith

-- ---- all tokens

length-leaves : (t : PlainToken) (ts : List PlainToken) → length (leaves_of (t ∷ ts)) ≡ cond (begins_leaf t) 1 0 + length (leaves_of ts)
length-leaves t ts = choice (begins_leaf t)
  where
    choice : (counts : Bool) → length (map (λ (token : PlainToken). token.left) (cond counts (t ∷ filter begins_leaf ts) (filter begins_leaf ts))) ≡ cond counts 1 0 + length (leaves_of ts)
    choice true = omega arith
    choice false = omega arith

next-leaves : (others : List ℕ → List PlainToken) → ((bytes : List ℕ) → length (leaves_of (others bytes)) ≤ starts false bytes) → (spaced : Bool) (rest : List ℕ)
    → length (leaves_of (with_next others (next_token spaced rest))) ≤ starts false rest
next-leaves others few spaced [] = omega arith
next-leaves others few spaced (byte ∷ bytes) =
    let all = length-leaves (token_at spaced (byte ∷ bytes)).token (others (token_at spaced (byte ∷ bytes)).after) in
    let rest = few (token_at spaced (byte ∷ bytes)).after in
    let here = token-starts spaced byte bytes in
    omega (arith, all, rest, here)

leaves-within : (most : ℕ) (bytes : List ℕ) → length (leaves_of (tokens_within most bytes)) ≤ starts false bytes
unfolding tokens_within
leaves-within zero bytes = omega arith
leaves-within (suc most) bytes =
    let next = next-leaves (tokens_within most) (leaves-within most) (not (length (after_gap bytes) == length bytes)) (after_gap bytes) in
    let gap = after-gap false bytes in
    omega (arith, next, gap)

none-behind : (most : ℕ) (l : List ℕ) → length l ≤ most → behind most l ≡ None
none-behind most [] few = refl
none-behind zero (x ∷ l) few = absurd (omega (arith, few))
none-behind (suc most) (x ∷ l) few = none-behind most l (omega (arith, few))

-- a text with so few starts has no more leaves
pub no_surplus : (most : ℕ) (text : List ℕ) → starts false text ≤ most → surplus most (tokens_of text) ≡ None
unfolding tokens_of
no_surplus most text few = let leaves = leaves-within (length text) text in none-behind most (leaves_of (tokens_within (length text) text)) (omega (arith, leaves, few))
