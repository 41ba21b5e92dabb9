-- The first token of a text that is printed, and what follows it.
use Rattle.std.proofs.Common.{◌≡◌, ◌∙◌, ℕ, suc, ◌<◌, max, Bool, true, false, ◌==◌, not, ◌||◌, nat_lt, List, [], ◌∷◌, ◌++◌, length, get_or, Some, refl, ap, length-append, arith}
use Rattle.std.specs.List.{list_all}
use Rattle.std.proofs.lemmas.Bool.Decides.{nat_tests}
use Rattle.std.proofs.lemmas.Grind.{common_steps}
use Rattle.std.proofs.lemmas.List.{drop_at, take_at}
use Rattle.value_text.specs.declared.token.TokenKind.{TokenKind}
use Rattle.value_text.specs.declared.token.TokenKind.TheVariants as kinds
use Rattle.value_text.specs.Tokens.{PlainFound, PlainToken, after_gap, after_token, but_first, gap_from, is_space, is_word_byte, kind_of, token_at, token_in, tokens_of, with_next, word_length}
use Rattle.value_text.proofs.TokenLemmas.{at-byte, kind_of-sign, tokens-step}

-- ---- white space

-- a text is white space
abbrev pub is_blank : List ℕ → Bool
is_blank gap = list_all is_space gap

-- there is some of it
abbrev pub is_some_gap : List ℕ → Bool
is_some_gap [] = false
is_some_gap (byte ∷ gap) = true

-- a byte that is no white space, and begins no comment
pub record IsBare (byte : ℕ) : Type 0 where
  pub space : is_space byte ≡ false
  pub slash : (byte == 47) ≡ false

pub gap-bare : (byte : ℕ) (bytes : List ℕ) → IsBare byte → after_gap (byte ∷ bytes) ≡ byte ∷ bytes
gap-bare byte bytes bare = rw (bare.slash, bare.space) refl

space-slash : (byte : ℕ) → is_space byte ≡ true → (byte == 47) ≡ false
space-slash byte is = grind (arith, nat_tests)

pub gap-blank : (gap bytes : List ℕ) → is_blank gap ≡ true → after_gap (gap ++ bytes) ≡ after_gap bytes
gap-blank [] bytes blank = refl
gap-blank (byte ∷ gap) bytes blank =
    let first : is_space byte ≡ true = grind (arith, common_steps) in
    let rest : is_blank gap ≡ true = grind (arith, common_steps) in
    rw (space-slash byte first, first) (gap-blank gap bytes rest)

token_in-gap : (gap : List ℕ) (byte : ℕ) (bytes : List ℕ) → is_blank gap ≡ true → IsBare byte → token_in (gap ++ byte ∷ bytes) ≡ Some (token_at (is_some_gap gap) (byte ∷ bytes))
token_in-gap gap byte bytes blank bare = rw (gap-blank gap (byte ∷ bytes) blank, gap-bare byte bytes bare) (ap (λ (b : Bool). Some (token_at b (byte ∷ bytes))) (spaced gap))
  where
    spaced : (some : List ℕ) → not (length (byte ∷ bytes) == length (some ++ byte ∷ bytes)) ≡ is_some_gap some
    spaced [] = grind (arith, nat_tests)
    spaced (first ∷ more) = grind (arith, nat_tests, length-append more (byte ∷ bytes))

-- the tokens of a text are the first token, and those behind it
pub tokens-first : (gap : List ℕ) (byte : ℕ) (bytes : List ℕ) → is_blank gap ≡ true → IsBare byte
    → tokens_of (gap ++ byte ∷ bytes) ≡ (token_at (is_some_gap gap) (byte ∷ bytes)).token ∷ tokens_of (token_at (is_some_gap gap) (byte ∷ bytes)).after
tokens-first gap byte bytes blank bare = tokens-step (gap ++ byte ∷ bytes) ∙ ap (with_next tokens_of) (token_in-gap gap byte bytes blank bare)

-- ---- tokens of one byte

-- a byte that is a token by itself, whatever follows it
pub record IsSign (byte : ℕ) : Type 0 where
  pub bare : IsBare byte
  pub word : is_word_byte byte ≡ false
  pub dash : (byte == 45) ≡ false
  pub brace : (byte == 123) ≡ false

-- the token of a byte with this text behind it
abbrev pub one_byte : TokenKind → List ℕ → ℕ → List ℕ → PlainToken
one_byte kind gap byte rest = record { kind = kind; text = byte ∷ []; spaced = is_some_gap gap; left = suc (length rest) }

-- a byte that is a token by itself, and the tokens behind it
pub tokens-sign : (gap : List ℕ) (byte : ℕ) (rest : List ℕ) → is_blank gap ≡ true → IsSign byte → tokens_of (gap ++ byte ∷ rest) ≡ one_byte kinds.Sign gap byte rest ∷ tokens_of rest
tokens-sign gap byte rest blank is = tokens-first gap byte rest blank is.bare
    ∙ ap (λ (found : PlainFound). found.token ∷ tokens_of found.after) (at-byte kinds.Sign (is_some_gap gap) byte rest is.word (kind_of-sign byte (get_or (after_gap rest) 0 0) is.dash is.brace))

kind_of-brace : (next : ℕ) → (next == 125) ≡ false → kind_of false 123 next ≡ kinds.Sign
unfolding kind_of
kind_of-brace next other = rw other refl

bare-brace : IsBare 123
bare-brace = record { space = refl; slash = refl }

-- a `{` before anything but a `}`
pub tokens-brace : (gap rest : List ℕ) → is_blank gap ≡ true → (get_or (after_gap rest) 0 0 == 125) ≡ false
    → tokens_of (gap ++ 123 ∷ rest) ≡ one_byte kinds.Sign gap 123 rest ∷ tokens_of rest
tokens-brace gap rest blank other = tokens-first gap 123 rest blank bare-brace
    ∙ ap (λ (found : PlainFound). found.token ∷ tokens_of found.after) (at-byte kinds.Sign (is_some_gap gap) 123 rest refl (kind_of-brace (get_or (after_gap rest) 0 0) other))

kind_of-empty : kind_of false 123 125 ≡ kinds.Empty
unfolding kind_of
kind_of-empty = refl

bare-close : IsBare 125
bare-close = record { space = refl; slash = refl }

-- a `{` before a `}`
pub tokens-empty : (gap rest : List ℕ) → is_blank gap ≡ true
    → tokens_of (gap ++ 123 ∷ 125 ∷ rest) ≡ one_byte kinds.Empty gap 123 (125 ∷ rest) ∷ tokens_of (125 ∷ rest)
tokens-empty gap rest blank = tokens-first gap 123 (125 ∷ rest) blank bare-brace
    ∙ ap (λ (found : PlainFound). found.token ∷ tokens_of found.after) (at-byte kinds.Empty (is_some_gap gap) 123 (125 ∷ rest) refl (ap (λ (l : List ℕ). kind_of false 123 (get_or l 0 0)) (gap-bare 125 rest bare-close) ∙ kind_of-empty))

-- ---- runs

-- a run of letters, digits, `_` and `.`
pub record IsRun (text : List ℕ) : Type 0 where
  pub some : 0 < length text
  pub each : list_all is_word_byte text ≡ true

-- the token of a run with this text behind it
abbrev pub run : TokenKind → List ℕ → List ℕ → List ℕ → PlainToken
run kind gap text rest = record { kind = kind; text = text; spaced = is_some_gap gap; left = length (text ++ rest) }

run-length : (text rest : List ℕ) → list_all is_word_byte text ≡ true → is_word_byte (get_or rest 0 0) ≡ false → word_length (text ++ rest) ≡ length text
run-length [] [] each stops = refl
run-length [] (byte ∷ rest) each stops = rw stops refl
run-length (byte ∷ text) rest each stops =
    let first : is_word_byte byte ≡ true = grind (arith, common_steps) in
    let more : list_all is_word_byte text ≡ true = grind (arith, common_steps) in
    rw (first, run-length text rest more stops) (omega arith)

bare-word : (byte : ℕ) → is_word_byte byte ≡ true → IsBare byte
bare-word byte is = record { space = grind (arith, nat_tests); slash = grind (arith, nat_tests) }

at-run : (kind : TokenKind) (spaced : Bool) (first : ℕ) (more rest : List ℕ) → list_all is_word_byte (first ∷ more) ≡ true → is_word_byte (get_or rest 0 0) ≡ false
    → kind_of true first (get_or (after_gap rest) 0 0) ≡ kind
    → token_at spaced ((first ∷ more) ++ rest)
    ≡ record { token = record { kind = kind; text = first ∷ more; spaced = spaced; left = length ((first ∷ more) ++ rest) }; after = after_token kind rest }
at-run kind spaced first more rest each stops is =
    let text = first ∷ more in
    let long : max (length text) 1 ≡ length text = omega arith in
    let some : nat_lt 0 (length text) ≡ true = grind (arith, nat_tests) in
    rw (run-length text rest each stops, long, some, take_at text rest (length text) refl, drop_at text rest (length text) refl, is) refl

tokens-run : (kind : TokenKind) (gap text rest : List ℕ) → is_blank gap ≡ true → IsRun text → is_word_byte (get_or rest 0 0) ≡ false
    → ((first : ℕ) → kind_of true first (get_or (after_gap rest) 0 0) ≡ kind) → tokens_of (gap ++ (text ++ rest)) ≡ run kind gap text rest ∷ tokens_of (after_token kind rest)
tokens-run kind gap [] rest blank is stops told = absurd (let some = is.some in omega (arith, some))
tokens-run kind gap (first ∷ more) rest blank is stops told =
    let bare : is_word_byte first ≡ true = (let each = is.each in grind (arith, common_steps, each)) in
    tokens-first gap first (more ++ rest) blank (bare-word first bare)
    ∙ ap (λ (found : PlainFound). found.token ∷ tokens_of found.after) (at-run kind (is_some_gap gap) first more rest is.each stops (told first))

-- a text ends a word: it goes on with no byte of one, and with none that makes it anything else
pub record Ends (rest : List ℕ) : Type 0 where
  pub cut : is_word_byte (get_or rest 0 0) ≡ false
  pub key : (get_or (after_gap rest) 0 0 == 58) ≡ false
  pub call : (get_or (after_gap rest) 0 0 == 40) ≡ false
  pub path : (get_or (after_gap rest) 0 0 == 61) ≡ false

kind_of-word : (first : ℕ) (rest : List ℕ) → Ends rest → kind_of true first (get_or (after_gap rest) 0 0) ≡ kinds.Word
unfolding kind_of
kind_of-word first rest ends = rw (ends.key, ends.call, ends.path) refl

-- a word, and the tokens behind it
pub tokens-word : (gap text rest : List ℕ) → is_blank gap ≡ true → IsRun text → Ends rest → tokens_of (gap ++ (text ++ rest)) ≡ run kinds.Word gap text rest ∷ tokens_of rest
tokens-word gap text rest blank is ends = tokens-run kinds.Word gap text rest blank is ends.cut (λ first. kind_of-word first rest ends)

bare-colon : IsBare 58
bare-colon = record { space = refl; slash = refl }

bare-bracket : IsBare 40
bare-bracket = record { space = refl; slash = refl }

bare-equals : IsBare 61
bare-equals = record { space = refl; slash = refl }

kind_of-key : (first : ℕ) → kind_of true first 58 ≡ kinds.Key
unfolding kind_of
kind_of-key first = refl

kind_of-call : (first : ℕ) → kind_of true first 40 ≡ kinds.Call
unfolding kind_of
kind_of-call first = refl

kind_of-path : (is_run : Bool) (first : ℕ) → (is_run || first == 45) ≡ true → (is_run ≡ false → first ≡ 45) → kind_of is_run first 61 ≡ kinds.Path
unfolding kind_of
kind_of-path true first either dash = refl
kind_of-path false first either dash = rw either refl

-- a name with its colon
pub tokens-key : (gap text rest : List ℕ) → is_blank gap ≡ true → IsRun text → tokens_of (gap ++ (text ++ 58 ∷ rest)) ≡ run kinds.Key gap text (58 ∷ rest) ∷ tokens_of rest
tokens-key gap text rest blank is =
    tokens-run kinds.Key gap text (58 ∷ rest) blank is refl (λ first. ap (λ (l : List ℕ). kind_of true first (get_or l 0 0)) (gap-bare 58 rest bare-colon) ∙ kind_of-key first)
    ∙ ap (λ (l : List ℕ). run kinds.Key gap text (58 ∷ rest) ∷ tokens_of (but_first l)) (gap-bare 58 rest bare-colon)

-- a name with its opening bracket
pub tokens-call : (gap text rest : List ℕ) → is_blank gap ≡ true → IsRun text → tokens_of (gap ++ (text ++ 40 ∷ rest)) ≡ run kinds.Call gap text (40 ∷ rest) ∷ tokens_of rest
tokens-call gap text rest blank is =
    tokens-run kinds.Call gap text (40 ∷ rest) blank is refl (λ first. ap (λ (l : List ℕ). kind_of true first (get_or l 0 0)) (gap-bare 40 rest bare-bracket) ∙ kind_of-call first)
    ∙ ap (λ (l : List ℕ). run kinds.Call gap text (40 ∷ rest) ∷ tokens_of (but_first l)) (gap-bare 40 rest bare-bracket)

-- a path with its equals sign
after-equals : (rest : List ℕ) → after_gap (32 ∷ 61 ∷ rest) ≡ 61 ∷ rest
after-equals rest = gap-blank (32 ∷ []) (61 ∷ rest) refl ∙ gap-bare 61 rest bare-equals

pub tokens-path : (gap text rest : List ℕ) → is_blank gap ≡ true → IsRun text
    → tokens_of (gap ++ (text ++ 32 ∷ 61 ∷ rest)) ≡ run kinds.Path gap text (32 ∷ 61 ∷ rest) ∷ tokens_of rest
tokens-path gap text rest blank is =
    tokens-run kinds.Path gap text (32 ∷ 61 ∷ rest) blank is refl (λ first. ap (λ (l : List ℕ). kind_of true first (get_or l 0 0)) (after-equals rest) ∙ kind_of-path true first refl (λ no. absurd cc))
    ∙ ap (λ (l : List ℕ). run kinds.Path gap text (32 ∷ 61 ∷ rest) ∷ tokens_of (but_first l)) (after-equals rest)

pub tokens-dash : (gap rest : List ℕ) → is_blank gap ≡ true → tokens_of (gap ++ 45 ∷ 32 ∷ 61 ∷ rest) ≡ one_byte kinds.Path gap 45 (32 ∷ 61 ∷ rest) ∷ tokens_of rest
tokens-dash gap rest blank = tokens-first gap 45 (32 ∷ 61 ∷ rest) blank (record { space = refl; slash = refl })
    ∙ ap (λ (found : PlainFound). found.token ∷ tokens_of found.after) (at-byte kinds.Path (is_some_gap gap) 45 (32 ∷ 61 ∷ rest) refl
    (ap (λ (l : List ℕ). kind_of false 45 (get_or l 0 0)) (after-equals rest) ∙ kind_of-path false 45 refl (λ no. refl)))
    ∙ ap (λ (l : List ℕ). one_byte kinds.Path gap 45 (32 ∷ 61 ∷ rest) ∷ tokens_of (but_first l)) (after-equals rest)

-- ---- what ends a word

-- such a byte ends a word
pub record IsEnd (byte : ℕ) : Type 0 where
  pub bare : IsBare byte
  pub word : is_word_byte byte ≡ false
  pub key : (byte == 58) ≡ false
  pub call : (byte == 40) ≡ false
  pub path : (byte == 61) ≡ false

pub ends-byte : (byte : ℕ) (rest : List ℕ) → IsEnd byte → Ends (byte ∷ rest)
ends-byte byte rest is = record {
  cut = is.word;
  key = ap (λ (l : List ℕ). get_or l 0 0 == 58) (gap-bare byte rest is.bare) ∙ is.key;
  call = ap (λ (l : List ℕ). get_or l 0 0 == 40) (gap-bare byte rest is.bare) ∙ is.call;
  path = ap (λ (l : List ℕ). get_or l 0 0 == 61) (gap-bare byte rest is.bare) ∙ is.path;
}

-- a byte with which a member begins
pub record IsFirst (byte : ℕ) : Type 0 where
  pub bare : IsBare byte
  pub key : (byte == 58) ≡ false
  pub call : (byte == 40) ≡ false
  pub path : (byte == 61) ≡ false
  pub close : (byte == 125) ≡ false

-- a text begins so
pub record Begins (text : List ℕ) : Type 0 where
  pub byte : ℕ
  pub more : List ℕ
  pub is : text ≡ byte ∷ more
  pub first : IsFirst byte

-- no white space stands before it
pub gap-begins : (text rest : List ℕ) (b : Begins text) → after_gap (text ++ rest) ≡ b.byte ∷ (b.more ++ rest)
gap-begins text rest b = ap (λ (l : List ℕ). after_gap (l ++ rest)) b.is ∙ gap-bare b.byte (b.more ++ rest) b.first.bare

-- a space before a member ends a word
pub ends-space : (text rest : List ℕ) → Begins text → Ends (32 ∷ (text ++ rest))
ends-space text rest b =
    let all : after_gap (32 ∷ (text ++ rest)) ≡ b.byte ∷ (b.more ++ rest) = gap-blank (32 ∷ []) (text ++ rest) refl ∙ gap-begins text rest b in
    record {
      cut = refl;
      key = ap (λ (l : List ℕ). get_or l 0 0 == 58) all ∙ b.first.key;
      call = ap (λ (l : List ℕ). get_or l 0 0 == 40) all ∙ b.first.call;
      path = ap (λ (l : List ℕ). get_or l 0 0 == 61) all ∙ b.first.path;
    }

word-first : (byte : ℕ) → is_word_byte byte ≡ true → IsFirst byte
word-first byte is = record {
  bare = bare-word byte is;
  key = grind (arith, nat_tests);
  call = grind (arith, nat_tests);
  path = grind (arith, nat_tests);
  close = grind (arith, nat_tests);
}

-- a run begins a member
pub begins-run : (text : List ℕ) → IsRun text → Begins text
begins-run [] is = absurd (let some = is.some in omega (arith, some))
begins-run (byte ∷ more) is = record {
  byte = byte;
  more = more;
  is = refl;
  first = word-first byte (let each = is.each in grind (arith, common_steps, each));
}

pub begins-more : (text more : List ℕ) → Begins text → Begins (text ++ more)
begins-more text more b = record { byte = b.byte; more = b.more ++ more; is = ap (λ (l : List ℕ). l ++ more) b.is; first = b.first }

-- ---- lines of user words

-- a comment up to the end of its line is passed
pub gap-comment : (line rest : List ℕ) → list_all (λ byte. not (byte == 10)) line ≡ true → gap_from true (line ++ 10 ∷ rest) ≡ after_gap rest
gap-comment [] rest each = refl
gap-comment (byte ∷ line) rest each =
    let first : not (byte == 10) ≡ true = grind (arith, common_steps) in
    let more : list_all (λ byte. not (byte == 10)) line ≡ true = grind (arith, common_steps) in
    ap (λ (b : Bool). gap_from b (line ++ 10 ∷ rest)) first ∙ gap-comment line rest more

-- a text of nothing but white space and comments has no tokens
pub tokens-none : (text : List ℕ) → after_gap text ≡ [] → tokens_of text ≡ []
tokens-none text none = tokens-step text ∙ rw none refl
