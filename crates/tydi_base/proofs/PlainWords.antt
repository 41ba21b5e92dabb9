-- Words without spaces and line feeds, and what they spell together.
use Rattle.std.proofs.Common.{◌≡◌, ◌≢◌, ℕ, ◌^◌, ◌<◌, ◌≤◌, Bool, true, false, ◌&&◌, nat_lt, eqb, List, [], ◌∷◌, ◌++◌, length, refl, ◌∙◌, arith, All}
use Rattle.std.specs.Char.{is_ascii_digit}
use Rattle.std.specs.List.{list_all, join_with_byte}
use Rattle.std.specs.Fmt.{decimal}
use Rattle.std.proofs.lemmas.Bool.Decides.{nat_tests}
use Rattle.std.proofs.lemmas.Fmt.{digits_decimal}
use Rattle.std.proofs.lemmas.List.Elements.{All-cons, All-nil, All-head, All-tail, All-get_or, All-from_get_or}
use Rattle.std.proofs.lemmas.List.Folds.{list_all-append}
use Rattle.std.proofs.lemmas.List.Splits.{length-slice_split}
use Rattle.std.proofs.lemmas.List.Sums.{AllPass-from_list_all}
use Rattle.tydi_base.specs.Bits.{number_of_bits}
use Rattle.tydi_base.specs.Hex.{hex_digit, hex_of}
use Rattle.tydi_base.specs.Name.{is_name, is_name_byte}
use Rattle.tydi_base.specs.Path.{path_text}
use Rattle.tydi_base.specs.Pieces.{Lacks, words_of, lines_of}
use Rattle.tydi_base.proofs.DecimalLaws.{own}
use Rattle.tydi_base.proofs.PieceLaws.{pieces_of-join, pieces_of-append}

-- each byte stands after this one
abbrev pub is_after : ℕ → List ℕ → Bool
is_after low word = list_all (λ byte. nat_lt low byte) word

-- each byte stands after the space
abbrev pub is_plain : List ℕ → Bool
is_plain word = is_after 32 word

abbrev pub are_plain : List (List ℕ) → Bool
are_plain words = list_all is_plain words

-- ---- tests of two parts

pub and_parts : (a b : Bool) → (a && b) ≡ true → (a ≡ true) × (b ≡ true)
and_parts true b e = (refl, e)
and_parts false b e = absurd cc

pub both : (a b : Bool) → a ≡ true → b ≡ true → (a && b) ≡ true
both a b e f = rw (e, f) refl

-- ---- bytes after one

-- bytes that pass a test that only bytes after this one pass
is_after-by : (low : ℕ) (test : ℕ → Bool) → ((byte : ℕ) → test byte ≡ true → nat_lt low byte ≡ true) → (word : List ℕ) → list_all test word ≡ true → is_after low word ≡ true
is_after-by low test after [] e = refl
is_after-by low test after (byte ∷ word) e =
    let parts = and_parts (test byte) (list_all test word) e in
    both (nat_lt low byte) (is_after low word) (after byte parts.0) (is_after-by low test after word parts.1)

is_after-append : (low : ℕ) (front rest : List ℕ) → is_after low front ≡ true → is_after low rest ≡ true → is_after low (front ++ rest) ≡ true
is_after-append low front rest e f = list_all-append (λ byte. nat_lt low byte) front rest ∙ both (is_after low front) (is_after low rest) e f

is_after-join : (low separator : ℕ) (words : List (List ℕ)) → nat_lt low separator ≡ true → list_all (is_after low) words ≡ true → is_after low (join_with_byte separator words) ≡ true
is_after-join low separator [] after e = refl
is_after-join low separator (word ∷ []) after e = (and_parts (is_after low word) true e).0
is_after-join low separator (word ∷ next ∷ words) after e =
    let parts = and_parts (is_after low word) (list_all (is_after low) (next ∷ words)) e in
    let rest = is_after-join low separator (next ∷ words) after parts.1 in
    is_after-append low word (separator ∷ join_with_byte separator (next ∷ words)) parts.0
    (both (nat_lt low separator) (is_after low (join_with_byte separator (next ∷ words))) after rest)

is_after-lacks : (low separator : ℕ) (word : List ℕ) → separator ≤ low → is_after low word ≡ true → Lacks separator word
is_after-lacks low separator word less e = All-from_get_or (λ byte. byte ≢ separator) word 0 (λ k lt same.
    let test = All-get_or (λ byte. nat_lt low byte ≡ true) word k 0 lt (AllPass-from_list_all (λ byte. nat_lt low byte) word e) in
    absurd (grind (arith, nat_tests)))

-- ---- plain words

pub are_plain-append : (front rest : List (List ℕ)) → are_plain front ≡ true → are_plain rest ≡ true → are_plain (front ++ rest) ≡ true
are_plain-append front rest e f = list_all-append is_plain front rest ∙ both (are_plain front) (are_plain rest) e f

pub plain-append : (front rest : List ℕ) → is_plain front ≡ true → is_plain rest ≡ true → is_plain (front ++ rest) ≡ true
plain-append = is_after-append 32

digit-plain : (byte : ℕ) → is_ascii_digit byte ≡ true → nat_lt 32 byte ≡ true
digit-plain byte e = grind (arith, nat_tests)

pub decimal-plain : (n : ℕ) → n < 2 ^ 64 → is_plain (decimal n) ≡ true
decimal-plain n lt = is_after-by 32 is_ascii_digit digit-plain (decimal n) (digits_decimal own n lt)

digit-after_point : (byte : ℕ) → is_ascii_digit byte ≡ true → nat_lt 46 byte ≡ true
digit-after_point byte e = grind (arith, nat_tests)

pub decimal-lacks_point : (n : ℕ) → n < 2 ^ 64 → Lacks 46 (decimal n)
decimal-lacks_point n lt = is_after-lacks 46 46 (decimal n) (omega arith) (is_after-by 46 is_ascii_digit digit-after_point (decimal n) (digits_decimal own n lt))

hex_one-plain : (value : ℕ) → is_plain (hex_digit value ∷ []) ≡ true
unfolding hex_digit
hex_one-plain value = let test : nat_lt 32 (hex_digit value) ≡ true = grind (arith, nat_tests) in both (nat_lt 32 (hex_digit value)) true test refl

pub hex_of-plain : (bits : List Bool) → is_plain (hex_of bits) ≡ true
unfolding hex_of
hex_of-plain [] = refl
hex_of-plain (a ∷ []) = hex_one-plain (number_of_bits (a ∷ []))
hex_of-plain (a ∷ b ∷ []) = hex_one-plain (number_of_bits (a ∷ b ∷ []))
hex_of-plain (a ∷ b ∷ c ∷ []) = hex_one-plain (number_of_bits (a ∷ b ∷ c ∷ []))
hex_of-plain (a ∷ b ∷ c ∷ d ∷ bits) =
    let value = number_of_bits (a ∷ b ∷ c ∷ d ∷ []) in is_after-append 32 (hex_of bits) (hex_digit value ∷ []) (hex_of-plain bits) (hex_one-plain value)

name_byte-plain : (byte : ℕ) → is_name_byte byte ≡ true → nat_lt 32 byte ≡ true
name_byte-plain byte e = grind (arith, nat_tests)

name_bytes : (a b c d e : Bool) → (a && b && c && d && e) ≡ true → b ≡ true
name_bytes true true c d e h = refl
name_bytes true false c d e h = absurd cc
name_bytes false b c d e h = absurd cc

name-plain : (name : List ℕ) → is_name name ≡ true → is_plain name ≡ true
name-plain name e = is_after-by 32 is_name_byte name_byte-plain name (name_bytes _ (list_all is_name_byte name) _ _ _ e)

names-plain : (names : List (List ℕ)) → All (λ name. is_name name ≡ true) names → are_plain names ≡ true
names-plain [] each = refl
names-plain (name ∷ names) each =
    both (is_plain name) (are_plain names) (name-plain name (All-head (λ n. is_name n ≡ true) name names each)) (names-plain names (All-tail (λ n. is_name n ≡ true) name names each))

pub path_text-plain : (names : List (List ℕ)) → All (λ name. is_name name ≡ true) names → is_plain (path_text names) ≡ true
path_text-plain [] each = refl
path_text-plain (name ∷ names) each = is_after-join 32 46 (name ∷ names) refl (names-plain (name ∷ names) each)

-- ---- lines of plain words

pub plain-lacks : (word : List ℕ) → is_plain word ≡ true → Lacks 32 word
plain-lacks word e = is_after-lacks 32 32 word (omega arith) e

each-lacks : (words : List (List ℕ)) → are_plain words ≡ true → All (Lacks 32) words
each-lacks [] e = All-nil (Lacks 32)
each-lacks (word ∷ words) e =
    let parts = and_parts (is_plain word) (are_plain words) e in
    All-cons (Lacks 32) word words (plain-lacks word parts.0) (each-lacks words parts.1)

-- a line of plain words, one at least, has these words
pub words_of-plain : (words : List (List ℕ)) → 0 < length words → are_plain words ≡ true → words_of (join_with_byte 32 words) ≡ words
words_of-plain words some e = pieces_of-join 32 words some (each-lacks words e)

plain-line : (byte : ℕ) → nat_lt 32 byte ≡ true → nat_lt 10 byte ≡ true
plain-line byte e = grind (arith, nat_tests)

each-line : (words : List (List ℕ)) → are_plain words ≡ true → list_all (is_after 10) words ≡ true
each-line [] e = refl
each-line (word ∷ words) e =
    let parts = and_parts (is_plain word) (are_plain words) e in
    both (is_after 10 word) (list_all (is_after 10) words) (is_after-by 10 (λ byte. nat_lt 32 byte) plain-line word parts.0) (each-line words parts.1)

-- a text whose first line has plain words
pub lines_of-plain : (words : List (List ℕ)) (rest : List ℕ) → are_plain words ≡ true → lines_of (join_with_byte 32 words ++ 10 ∷ rest) ≡ join_with_byte 32 words ∷ lines_of rest
lines_of-plain words rest e =
    let line = join_with_byte 32 words in
    pieces_of-append 10 line rest (is_after-lacks 10 10 line (omega arith) (is_after-join 10 32 words refl (each-line words e)))

-- a text has one line at least
pub some_line : (text : List ℕ) → 0 < length (lines_of text)
some_line text = omega (arith, length-slice_split (λ byte. eqb byte 10) text)
