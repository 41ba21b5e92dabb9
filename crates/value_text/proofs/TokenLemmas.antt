-- The tokens of a text, one after another.
use Rattle.std.proofs.Common.{◌≡◌, ◌∙◌, ℕ, zero, suc, ◌-◌, ◌<◌, ◌≤◌, max, Bool, true, false, ◌==◌, not, ◌&&◌, cond, nat_lt, List, [], ◌∷◌, length, take, drop, get_or, Option, Some, None, option_map, is_some, refl, sym, ap, arith}
use Rattle.std.proofs.lemmas.Bool.Decides.{nat_tests}
use Rattle.std.proofs.lemmas.List.{length-drop}
use Rattle.tydi_reading.specs.Reading.{first, rest_of}
use Rattle.value_text.specs.declared.token.Token.{Token}
use Rattle.value_text.specs.declared.token.TokenKind.{TokenKind}
use Rattle.value_text.specs.declared.token.TokenKind.TheVariants as kinds
use Rattle.value_text.specs.Source.{with_token}
use Rattle.value_text.specs.Tokens.{PlainToken, PlainFound, token_view, after_gap, after_token, begins_comment, but_first, gap_from, is_sign, is_space, is_word_byte, kind_at, kind_of, next_token, takes_next, token_at, token_in, tokens_of, tokens_within, with_next, word_length}

-- ---- what follows a token is shorter

gap_choice : (bytes : List ℕ) (byte : ℕ) (begins blank : Bool) → length (gap_from true bytes) ≤ length bytes → length (gap_from false bytes) ≤ length bytes
    → length (cond begins (gap_from true bytes) (cond blank (gap_from false bytes) (byte ∷ bytes))) ≤ length (byte ∷ bytes)
gap_choice bytes byte true blank comment space = omega (arith, comment)
gap_choice bytes byte false true comment space = omega (arith, space)
gap_choice bytes byte false false comment space = omega arith

gap-less : (in_comment : Bool) (bytes : List ℕ) → length (gap_from in_comment bytes) ≤ length bytes
gap-less true [] = omega arith
gap-less false [] = omega arith
gap-less true (byte ∷ bytes) = let less = gap-less (not (byte == 10)) bytes in omega (arith, less)
gap-less false (byte ∷ bytes) = gap_choice bytes byte (begins_comment (byte ∷ bytes)) (is_space byte) (gap-less true bytes) (gap-less false bytes)

but_first-less : (bytes : List ℕ) → length (but_first bytes) ≤ length bytes
but_first-less [] = omega arith
but_first-less (byte ∷ bytes) = omega arith

after-less : (kind : TokenKind) (tail : List ℕ) → length (after_token kind tail) ≤ length tail
after-less kind tail = choice (takes_next kind)
  where
    choice : (takes : Bool) → length (cond takes (but_first (after_gap tail)) tail) ≤ length tail
    choice true = let one = but_first-less (after_gap tail) in let two = gap-less false tail in omega (arith, one, two)
    choice false = omega arith

found-in : (spaced : Bool) (rest : List ℕ) (found : PlainFound) → next_token spaced rest ≡ Some found → length found.after < length rest
found-in spaced [] found is = absurd (let no : ◌≡◌ {A = Option PlainFound} None (Some found) = is in cc)
found-in spaced (byte ∷ bytes) found is =
    let rest = byte ∷ bytes in
    let same : after_token (kind_at rest) (drop (max (word_length rest) 1) rest) ≡ found.after = cc in
    let less = after-less (kind_at rest) (drop (max (word_length rest) 1) rest) in
    let dropped = length-drop (max (word_length rest) 1) rest in
    let shorter = ap length same in
    omega (arith, less, dropped, shorter)

found-less : (bytes : List ℕ) (found : PlainFound) → token_in bytes ≡ Some found → length found.after < length bytes
found-less bytes found is =
    let less = found-in (not (length (after_gap bytes) == length bytes)) (after_gap bytes) found is in let gap = gap-less false bytes in omega (arith, less, gap)

-- ---- as many tokens as a text has

next-same : (others more : List ℕ → List PlainToken) (o : Option PlainFound) → ((found : PlainFound) → o ≡ Some found → others found.after ≡ more found.after)
    → with_next others o ≡ with_next more o
next-same others more None same = refl
next-same others more (Some found) same = ap (λ (l : List PlainToken). found.token ∷ l) (same found refl)

within-same : (one other : ℕ) (bytes : List ℕ) → length bytes ≤ one → length bytes ≤ other → tokens_within one bytes ≡ tokens_within other bytes
unfolding tokens_within
within-same zero zero bytes few also = refl
within-same zero (suc other) [] few also = refl
within-same zero (suc other) (byte ∷ bytes) few also = absurd (omega (arith, few))
within-same (suc one) zero [] few also = refl
within-same (suc one) zero (byte ∷ bytes) few also = absurd (omega (arith, also))
within-same (suc one) (suc other) bytes few also = next-same (tokens_within one) (tokens_within other) (token_in bytes)
    (λ found is. let less = found-less bytes found is in within-same one other found.after (omega (arith, less, few)) (omega (arith, less, also)))

pub tokens-step : (bytes : List ℕ) → tokens_of bytes ≡ with_next tokens_of (token_in bytes)
unfolding tokens_of tokens_within
tokens-step [] = refl
tokens-step (byte ∷ bytes) = next-same (tokens_within (length bytes)) (λ l. tokens_within (length l) l) (token_in (byte ∷ bytes))
    (λ found is. let less = found-less (byte ∷ bytes) found is in within-same (length bytes) (length found.after) found.after (omega (arith, less)) (omega arith))

-- ---- the next token of what is left

pub first-is : (bytes after : List ℕ) (next : Option Token) → token_in bytes ≡ with_token next after → option_map token_view next ≡ first (tokens_of bytes)
first-is bytes after None is = sym (ap first (tokens-step bytes ∙ ap (with_next tokens_of) is))
first-is bytes after (Some token) is = sym (ap first (tokens-step bytes ∙ ap (with_next tokens_of) is))

pub rest-some : (bytes after : List ℕ) (next : Option Token) → token_in bytes ≡ with_token next after → is_some next ≡ true → tokens_of after ≡ rest_of (tokens_of bytes)
rest-some bytes after None is some = absurd cc
rest-some bytes after (Some token) is some = sym (ap rest_of (tokens-step bytes ∙ ap (with_next tokens_of) is))

pub rest-none : (bytes after : List ℕ) (next : Option Token) → token_in bytes ≡ with_token next after → is_some next ≡ false → tokens_of bytes ≡ rest_of (tokens_of bytes)
rest-none bytes after None is none = let empty = tokens-step bytes ∙ ap (with_next tokens_of) is in empty ∙ sym (ap rest_of empty)
rest-none bytes after (Some token) is none = absurd cc

-- ---- tokens of one byte

no_run : (byte : ℕ) (rest : List ℕ) → is_word_byte byte ≡ false → word_length (byte ∷ rest) ≡ 0
no_run byte rest no_word = rw no_word refl

pub kind_of-sign : (byte next : ℕ) → (byte == 45) ≡ false → (byte == 123) ≡ false → kind_of false byte next ≡ kinds.Sign
unfolding kind_of
kind_of-sign byte next dash brace = rw (dash, brace) refl

-- the token of such a kind at the front of a text
pub at-byte : (kind : TokenKind) (spaced : Bool) (byte : ℕ) (rest : List ℕ) → is_word_byte byte ≡ false → kind_of false byte (get_or (after_gap rest) 0 0) ≡ kind
    → token_at spaced (byte ∷ rest) ≡ record { token = record { kind = kind; text = byte ∷ []; spaced = spaced; left = suc (length rest) }; after = after_token kind rest }
at-byte kind spaced byte rest no_word is = rw (no_run byte rest no_word, is) refl

-- a byte that is a token by itself, as the code has it
sign-at : (spaced : Bool) (text : List ℕ) → 0 < length text → is_sign (get_or text 0 0) ≡ true
    → record { token = record { kind = kinds.Sign; text = take 1 text; spaced = spaced; left = length text }; after = take (length text - 1) (drop 1 text) } ≡ token_at spaced text
sign-at spaced [] some is = absurd (omega (arith, some))
sign-at spaced (byte ∷ rest) some is =
    let tests = three (not (is_word_byte byte)) (not (byte == 45)) (not (byte == 123)) is in
    let less : suc (length rest) - 1 ≡ length rest = omega arith in
    ap (λ (after : List ℕ). found after) (ap (λ (n : ℕ). take n rest) less ∙ take-all rest)
    ∙ sym (at-byte kinds.Sign spaced byte rest (is_not (is_word_byte byte) tests.0) (kind_of-sign byte (get_or (after_gap rest) 0 0) (is_not (byte == 45) tests.1) (is_not (byte == 123) tests.2)))
  where
    found : List ℕ → PlainFound
    found after = record { token = record { kind = kinds.Sign; text = byte ∷ []; spaced = spaced; left = suc (length rest) }; after = after }

    take-all : (l : List ℕ) → take (length l) l ≡ l
    take-all [] = refl
    take-all (x ∷ l) = ap (λ (m : List ℕ). x ∷ m) (take-all l)

    is_not : (b : Bool) → not b ≡ true → b ≡ false
    is_not true other = absurd cc
    is_not false other = refl

    three : (a b c : Bool) → (a && b && c) ≡ true → (a ≡ true) × (b ≡ true) × (c ≡ true)
    three true true true all = (refl, refl, refl)
    three true true false all = absurd cc
    three true false c all = absurd cc
    three false b c all = absurd cc

-- the same, with the kind that a number stands for
pub sign-coded : (kind : TokenKind) (spaced : Bool) (text : List ℕ) → kind ≡ kinds.Sign → 0 < length text → is_sign (get_or text 0 0) ≡ true
    → record { token = record { kind = kind; text = take 1 text; spaced = spaced; left = length text }; after = take (length text - 1) (drop 1 text) } ≡ token_at spaced text
sign-coded kind spaced text is some sign = rw is (sign-at spaced text some sign)

-- ---- the next token, as the code finds it

pub found-at : (bytes rest : List ℕ) (gap : ℕ) (found : PlainFound) → rest ≡ after_gap bytes → (length rest == 0) ≡ false → gap ≡ length bytes - length rest
    → found ≡ token_at (nat_lt 0 gap) rest → Some found ≡ token_in bytes
found-at bytes [] gap found is some less same = absurd (let no : true ≡ false = some in cc)
found-at bytes (byte ∷ rest) gap found is some less same =
    let shorter : length (byte ∷ rest) ≤ length bytes = (let most = gap-less false bytes in let long = ap length is in omega (arith, most, long)) in
    let told : nat_lt 0 gap ≡ not (length (byte ∷ rest) == length bytes) = grind (arith, nat_tests, less, shorter) in
    ap Some (same ∙ ap (λ (spaced : Bool). token_at spaced (byte ∷ rest)) told)
    ∙ ap (λ (l : List ℕ). next_token (not (length l == length bytes)) l) is
