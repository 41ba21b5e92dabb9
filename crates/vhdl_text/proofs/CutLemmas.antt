-- Texts that are cut at bytes of one kind, and bytes that a text lacks.
use Rattle.std.proofs.Common.{◌≡◌, ◌≢◌, ℕ, nat_lt, ◌<◌, ◌^◌, Bool, true, false, not, ◌&&◌, ◌||◌, ◌==◌, cond, List, [], ◌∷◌, ◌++◌, Option, Some, None, All, refl, sym, ap, ◌∙◌, arith}
use Rattle.std.specs.List.{list_all, join_with_byte}
use Rattle.std.specs.Fmt.{decimal}
use Rattle.std.proofs.lemmas.Bool.{eqb-true}
use Rattle.std.proofs.lemmas.Bool.Decides.{nat_tests}
use Rattle.std.proofs.lemmas.List.Elements.{All-cons, All-nil, All-head, All-tail}
use Rattle.std.proofs.lemmas.List.Folds.{list_all-append}
use Rattle.std.proofs.lemmas.Option.{none-some, same_Some}
use Rattle.tydi_base.specs.Binary.{binary_bits, binary_of, binary_word, is_binary_digit}
use Rattle.tydi_base.specs.Name.{is_name, is_name_byte}
use Rattle.tydi_base.specs.Path.{path_text}
use Rattle.tydi_base.specs.Pieces.{Lacks, pieces_of}
use Rattle.tydi_base.proofs.BinaryLemmas.{binary_spelled}
use Rattle.tydi_base.proofs.PieceLaws.{join-pieces_of, pieces_of-append, pieces_of-lacks}
use Rattle.tydi_base.proofs.PlainWords.{and_parts, are_plain, both, decimal-plain, is_plain, plain-lacks}
use Rattle.vhdl_text.specs.Lines.{Between, Cut, between, cut_after, cut_last, three}

-- ---- bytes that all pass a test

pub all-weaker : (test other : ℕ → Bool) → ((byte : ℕ) → test byte ≡ true → other byte ≡ true) → (text : List ℕ) → list_all test text ≡ true → list_all other text ≡ true
all-weaker test other weaker [] e = refl
all-weaker test other weaker (byte ∷ text) e =
    let parts = and_parts (test byte) (list_all test text) e in
    both (other byte) (list_all other text) (weaker byte parts.0) (all-weaker test other weaker text parts.1)

pub all-append : (test : ℕ → Bool) (front rest : List ℕ) → list_all test front ≡ true → list_all test rest ≡ true → list_all test (front ++ rest) ≡ true
all-append test front rest e f = list_all-append test front rest ∙ both (list_all test front) (list_all test rest) e f

-- a byte that does not pass
abbrev pub is_not : ℕ → ℕ → Bool
is_not mark byte = not (byte == mark)

pub lacks-by : (mark : ℕ) (text : List ℕ) → list_all (is_not mark) text ≡ true → Lacks mark text
lacks-by mark [] e = All-nil (λ byte. byte ≢ mark)
lacks-by mark (byte ∷ text) e =
    let parts = and_parts (is_not mark byte) (list_all (is_not mark) text) e in
    All-cons (λ b. b ≢ mark) byte text (λ same. absurd (grind (arith, nat_tests))) (lacks-by mark text parts.1)

-- ---- paths and digits

-- the bytes of the texts of paths
abbrev pub is_path_byte : ℕ → Bool
is_path_byte byte = is_name_byte byte || (byte == 46 || byte == 45)

name_bytes : (a b c d e : Bool) → (a && b && c && d && e) ≡ true → b ≡ true
name_bytes true true c d e h = refl
name_bytes true false c d e h = absurd cc
name_bytes false b c d e h = absurd cc

or-left : (a b : Bool) → a ≡ true → (a || b) ≡ true
or-left a b e = rw e refl

name-path_bytes : (name : List ℕ) → is_name name ≡ true → list_all is_path_byte name ≡ true
name-path_bytes name e = all-weaker is_name_byte is_path_byte (λ byte h. or-left (is_name_byte byte) (byte == 46 || byte == 45) h) name (name_bytes _ (list_all is_name_byte name) _ _ _ e)

join-path_bytes : (names : List (List ℕ)) → All (λ name. is_name name ≡ true) names → list_all is_path_byte (join_with_byte 46 names) ≡ true
join-path_bytes [] each = refl
join-path_bytes (name ∷ []) each = name-path_bytes name (All-head (λ n. is_name n ≡ true) name [] each)
join-path_bytes (name ∷ next ∷ names) each =
    all-append is_path_byte name (46 ∷ join_with_byte 46 (next ∷ names)) (name-path_bytes name (All-head (λ n. is_name n ≡ true) name (next ∷ names) each))
    (join-path_bytes (next ∷ names) (All-tail (λ n. is_name n ≡ true) name (next ∷ names) each))

pub path_text-bytes : (names : List (List ℕ)) → All (λ name. is_name name ≡ true) names → list_all is_path_byte (path_text names) ≡ true
path_text-bytes [] each = refl
path_text-bytes (name ∷ names) each = join-path_bytes (name ∷ names) each

pub path_bytes-not : (mark : ℕ) (text : List ℕ) → is_path_byte mark ≡ false → list_all is_path_byte text ≡ true → list_all (is_not mark) text ≡ true
path_bytes-not mark text other e = all-weaker is_path_byte (is_not mark) (λ byte is. by_test byte is (byte == mark) refl) text e
  where
    by_test : (byte : ℕ) → is_path_byte byte ≡ true → (same : Bool) → (byte == mark) ≡ same → not same ≡ true
    by_test byte is false differs = refl
    by_test byte is true equals = let here : byte ≡ mark = eqb-true byte mark equals in absurd (cc (sym is ∙ ap is_path_byte here ∙ other))

pub path_bytes-lack : (mark : ℕ) (text : List ℕ) → is_path_byte mark ≡ false → list_all is_path_byte text ≡ true → Lacks mark text
path_bytes-lack mark text other e = lacks-by mark text (path_bytes-not mark text other e)

pub binary-digits : (bits : List Bool) → list_all is_binary_digit (binary_of bits) ≡ true
unfolding binary_word
binary-digits bits = by_test (list_all is_binary_digit (binary_of bits)) (binary_bits (binary_of bits)) bits (binary_spelled bits)
  where
    by_test : (test : Bool) (x y : List Bool) → cond {A = Option (List Bool)} test (Some x) None ≡ Some y → test ≡ true
    by_test true x y e = refl
    by_test false x y e = absurd (none-some y e)

pub binary-lacks : (mark : ℕ) (digits : List ℕ) → is_binary_digit mark ≡ false → list_all is_binary_digit digits ≡ true → Lacks mark digits
binary-lacks mark digits other e = lacks-by mark digits (all-weaker is_binary_digit (is_not mark) (λ byte is. by_test byte is (byte == mark) refl) digits e)
  where
    by_test : (byte : ℕ) → is_binary_digit byte ≡ true → (same : Bool) → (byte == mark) ≡ same → not same ≡ true
    by_test byte is false differs = refl
    by_test byte is true equals = let here : byte ≡ mark = eqb-true byte mark equals in absurd (cc (sym is ∙ ap is_binary_digit here ∙ other))

pub decimal-lacks_space : (n : ℕ) → n < 2 ^ 64 → Lacks 32 (decimal n)
decimal-lacks_space n lt = plain-lacks (decimal n) (decimal-plain n lt)

-- ---- lines

-- no LF stands in it
abbrev pub is_line : List ℕ → Bool
is_line line = list_all (is_not 10) line

above-line : (byte : ℕ) → nat_lt 32 byte ≡ true → is_not 10 byte ≡ true
above-line byte e = let other : (byte == 10) ≡ false = grind (arith, nat_tests) in rw other refl

pub plain-line : (word : List ℕ) → is_plain word ≡ true → is_line word ≡ true
plain-line word e = all-weaker (λ byte. nat_lt 32 byte) (is_not 10) above-line word e

pub words-line : (words : List (List ℕ)) → are_plain words ≡ true → is_line (join_with_byte 32 words) ≡ true
words-line [] e = refl
words-line (word ∷ []) e = plain-line word (and_parts (is_plain word) true e).0
words-line (word ∷ next ∷ words) e =
    let parts = and_parts (is_plain word) (are_plain (next ∷ words)) e in
    all-append (is_not 10) word (32 ∷ join_with_byte 32 (next ∷ words)) (plain-line word parts.0) (words-line (next ∷ words) parts.1)

-- lines in which no LF stands lack it
pub are_lines-lack : (lines : List (List ℕ)) → list_all is_line lines ≡ true → All (Lacks 10) lines
are_lines-lack [] e = All-nil (Lacks 10)
are_lines-lack (line ∷ lines) e = let parts = and_parts (is_line line) (list_all is_line lines) e in All-cons (Lacks 10) line lines (lacks-by 10 line parts.0) (are_lines-lack lines parts.1)

-- ---- the last byte of a kind

pub cut_last-lacks : (mark : ℕ) (text : List ℕ) → Lacks mark text → cut_last mark text ≡ None
cut_last-lacks mark [] lacks = refl
cut_last-lacks mark (byte ∷ text) lacks =
    let other : byte ≢ mark = All-head (λ b. b ≢ mark) byte text lacks in
    let test : (byte == mark) ≡ false = grind (arith, nat_tests) in
    rw (cut_last-lacks mark text (All-tail (λ b. b ≢ mark) byte text lacks), test) refl

pub cut_last-append : (mark : ℕ) (front back : List ℕ) → Lacks mark back → cut_last mark (front ++ mark ∷ back) ≡ Some (record { front = front; back = back })
cut_last-append mark [] back lacks = let test : (mark == mark) ≡ true = grind (arith, nat_tests) in rw (cut_last-lacks mark back lacks, test) refl
cut_last-append mark (byte ∷ front) back lacks = rw (cut_last-append mark front back lacks) refl

cut_after-some : (mark byte : ℕ) (text : List ℕ) (found : Option Cut) (cut : Cut) → ((c : Cut) → found ≡ Some c → text ≡ c.front ++ mark ∷ c.back) → cut_after mark byte text found ≡ Some cut
    → byte ∷ text ≡ cut.front ++ mark ∷ cut.back
cut_after-some mark byte text (Some c) cut later e = let same = same_Some (record { front = byte ∷ c.front; back = c.back }) cut e in rw (← same) (ap (λ (t : List ℕ). byte ∷ t) (later c refl))
cut_after-some mark byte text None cut later e = by_test (byte == mark) refl e
  where
    by_test : (test : Bool) → (byte == mark) ≡ test → cond {A = Option Cut} test (Some (record { front = []; back = text })) None ≡ Some cut → byte ∷ text ≡ cut.front ++ mark ∷ cut.back
    by_test true is e = let same = same_Some (record { front = []; back = text }) cut e in rw (← same) (ap (λ (b : ℕ). b ∷ text) (eqb-true byte mark is))
    by_test false is e = absurd (none-some cut e)

pub cut_last-some : (mark : ℕ) (text : List ℕ) (cut : Cut) → cut_last mark text ≡ Some cut → text ≡ cut.front ++ mark ∷ cut.back
cut_last-some mark [] cut e = absurd (none-some cut e)
cut_last-some mark (byte ∷ text) cut e = cut_after-some mark byte text (cut_last mark text) cut (λ c is. cut_last-some mark text c is) e

-- ---- two bytes of a kind

pub between-append : (mark : ℕ) (front inside back : List ℕ) → Lacks mark front → Lacks mark inside → Lacks mark back
    → between mark (front ++ mark ∷ (inside ++ mark ∷ back)) ≡ Some (record { front = front; inside = inside; back = back })
unfolding between
between-append mark front inside back first second third =
    ap three (pieces_of-append mark front (inside ++ mark ∷ back) first
    ∙ ap (λ (l : List (List ℕ)). front ∷ l) (pieces_of-append mark inside back second ∙ ap (λ (l : List (List ℕ)). inside ∷ l) (pieces_of-lacks mark back third)))

three-some : (pieces : List (List ℕ)) (parts : Between) → three pieces ≡ Some parts → pieces ≡ parts.front ∷ parts.inside ∷ parts.back ∷ []
three-some (front ∷ inside ∷ back ∷ []) parts e = let same = same_Some (record { front = front; inside = inside; back = back }) parts e in rw (← same) refl
three-some [] parts e = absurd (none-some parts e)
three-some (a ∷ []) parts e = absurd (none-some parts e)
three-some (a ∷ b ∷ []) parts e = absurd (none-some parts e)
three-some (a ∷ b ∷ c ∷ d ∷ more) parts e = absurd (none-some parts e)

pub between-some : (mark : ℕ) (text : List ℕ) (parts : Between) → between mark text ≡ Some parts → text ≡ parts.front ++ mark ∷ (parts.inside ++ mark ∷ parts.back)
unfolding between
between-some mark text parts e = sym (join-pieces_of mark text) ∙ ap (join_with_byte mark) (three-some (pieces_of mark text) parts e)
