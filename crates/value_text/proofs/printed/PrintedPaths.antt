-- Paths that are printed: a path before its `=`, and the lines of user words, which are comments.
use Rattle.std.proofs.Common.{◌≡◌, ◌∙◌, ℕ, ◌<◌, Bool, true, false, ◌==◌, not, cond, nat_lt, List, [], ◌∷◌, ◌++◌, All, length, Option, Some, refl, sym, ap, append_assoc, length-append, arith, codes}
use Rattle.std.specs.List.{flat_map, join_with_byte, list_all}
use Rattle.std.specs.Str.{bytes_eq}
use Rattle.std.proofs.lemmas.Bool.{and_from, or_left, or_right}
use Rattle.std.proofs.lemmas.Bool.Decides.{nat_tests}
use Rattle.std.proofs.lemmas.List.Elements.{All-head, All-tail}
use Rattle.std.proofs.lemmas.List.Folds.{list_all-append}
use Rattle.std.proofs.lemmas.Option.{cond_some}
use Rattle.tydi_base.specs.Hex.{hex_of}
use Rattle.tydi_base.specs.Name.{is_name}
use Rattle.tydi_base.specs.Path.{names_of, path_text}
use Rattle.tydi_base.specs.Pieces.{pieces_of}
use Rattle.tydi_base.proofs.PathLaws.{path_of-path_text}
use Rattle.tydi_base.proofs.PlainWords.{hex_of-plain, path_text-plain}
use Rattle.type_split.specs.declared.split.Phys.{Phys}
use Rattle.value_text.specs.Canonical.{user_line, user_word, users_text, ◌⁀◌}
use Rattle.value_text.specs.Tokens.{PlainToken, after_gap, is_word_byte, tokens_of}
use Rattle.value_text.specs.Words.{are_names, is_path_text}
use Rattle.value_text.specs.declared.token.TokenKind.TheVariants as kinds
use Rattle.value_text.proofs.printed.LexedTexts.{Begins, IsBare, IsRun, begins-run, gap-blank, gap-comment, is_blank, one_byte, run, tokens-dash, tokens-none, tokens-path}
use Rattle.value_text.proofs.printed.PrintedFields.{name-run}
use Rattle.value_text.proofs.printed.PrintedWords.{each-by}

-- each of these is a name
abbrev pub AreNames : List (List ℕ) → Type 0
AreNames names = All (λ name. is_name name ≡ true) names

-- ---- a path before its `=`

join-word : (names : List (List ℕ)) → AreNames names → list_all is_word_byte (join_with_byte 46 names) ≡ true
join-word [] each = refl
join-word (name ∷ []) each = (name-run name (All-head (λ n. is_name n ≡ true) name [] each)).each
join-word (name ∷ next ∷ names) each =
    let first = (name-run name (All-head (λ n. is_name n ≡ true) name (next ∷ names) each)).each in
    let rest = join-word (next ∷ names) (All-tail (λ n. is_name n ≡ true) name (next ∷ names) each) in
    list_all-append is_word_byte name (46 ∷ join_with_byte 46 (next ∷ names)) ∙ and_from (list_all is_word_byte name) (list_all is_word_byte (46 ∷ join_with_byte 46 (next ∷ names))) first rest

join-some : (name : List ℕ) (names : List (List ℕ)) → 0 < length name → 0 < length (join_with_byte 46 (name ∷ names))
join-some name [] some = some
join-some name (next ∷ names) some = omega (arith, some, length-append name (46 ∷ join_with_byte 46 (next ∷ names)))

path-run : (name : List ℕ) (names : List (List ℕ)) → AreNames (name ∷ names) → IsRun (join_with_byte 46 (name ∷ names))
path-run name names each = record {
  some = join-some name names (name-run name (All-head (λ n. is_name n ≡ true) name names each)).some;
  each = join-word (name ∷ names) each;
}

-- the token of a path behind white space, with its `=` behind a space
pub record IsPathToken (names : List (List ℕ)) (gap rest : List ℕ) : Type 0 where
  pub token : PlainToken
  pub lexed : tokens_of (gap ++ (path_text names ++ 32 ∷ 61 ∷ rest)) ≡ token ∷ tokens_of rest
  pub kind : token.kind ≡ kinds.Path
  pub text : token.text ≡ path_text names

pub path-token : (names : List (List ℕ)) → AreNames names → (gap rest : List ℕ) → is_blank gap ≡ true → IsPathToken names gap rest
path-token [] each gap rest blank = record { token = one_byte kinds.Path gap 45 (32 ∷ 61 ∷ rest); lexed = tokens-dash gap rest blank; kind = refl; text = refl }
path-token (name ∷ names) each gap rest blank = record {
  token = run kinds.Path gap (join_with_byte 46 (name ∷ names)) (32 ∷ 61 ∷ rest);
  lexed = tokens-path gap (join_with_byte 46 (name ∷ names)) rest blank (path-run name names each);
  kind = refl;
  text = refl;
}

bare-dash : IsBare 45
bare-dash = record { space = refl; slash = refl }

pub path-begins : (names : List (List ℕ)) → AreNames names → Begins (path_text names)
path-begins [] each = record { byte = 45; more = []; is = refl; first = record { bare = bare-dash; key = refl; call = refl; path = refl; close = refl } }
path-begins (name ∷ names) each = begins-run (join_with_byte 46 (name ∷ names)) (path-run name names each)

-- the text of a path is one
pub path_text-is : (names : List (List ℕ)) → AreNames names → is_path_text (path_text names) ≡ true
path_text-is names each = by_dash (bytes_eq (path_text names) (codes "-")) refl (path_of-path_text names each)
  where
    by_dash : (dash : Bool) → bytes_eq (path_text names) (codes "-") ≡ dash → cond {A = Option (List (List ℕ))} dash (Some []) (names_of false (path_text names)) ≡ Some names → is_path_text (path_text names) ≡ true
    by_dash true is same = or_left _ _ is
    by_dash false is same = or_right _ _ (cond_some (are_names (path_text names)) (pieces_of 46 (path_text names)) names same).0

-- ---- lines of user words

-- no LF stands in a text
abbrev is_line : List ℕ → Bool
is_line text = list_all (λ byte. not (byte == 10)) text

plain-byte : (byte : ℕ) → nat_lt 32 byte ≡ true → not (byte == 10) ≡ true
plain-byte byte is = grind (arith, nat_tests)

words-line : (words : List (List Bool)) → is_line (flat_map user_word words) ≡ true
words-line [] = refl
words-line (word ∷ words) =
    let first = each-by (λ byte. nat_lt 32 byte) (λ byte. not (byte == 10)) plain-byte (hex_of word) (hex_of-plain word) in
    list_all-append (λ byte. not (byte == 10)) (32 ∷ hex_of word) (flat_map user_word words) ∙ and_from (is_line (32 ∷ hex_of word)) (is_line (flat_map user_word words)) first (words-line words)

line-gap : (names : List (List ℕ)) (words : List (List Bool)) (rest : List ℕ) → AreNames names
    → after_gap ((codes "// users " ⁀ path_text names ⁀ flat_map user_word words ⁀ codes "\n") ++ rest) ≡ after_gap rest
line-gap names words rest each =
    let path = path_text names in
    let text = flat_map user_word words in
    let first = each-by (λ byte. nat_lt 32 byte) (λ byte. not (byte == 10)) plain-byte path (path_text-plain names each) in
    let line : is_line (path ++ text) ≡ true = list_all-append (λ byte. not (byte == 10)) path text ∙ and_from (is_line path) (is_line text) first (words-line words) in
    let same : (path ++ (text ++ 10 ∷ [])) ++ rest ≡ (path ++ text) ++ 10 ∷ rest =
    append_assoc path (text ++ 10 ∷ []) rest ∙ ap (λ (l : List ℕ). path ++ l) (append_assoc text (10 ∷ []) rest) ∙ sym (append_assoc path text (10 ∷ rest)) in
    ap (λ (l : List ℕ). after_gap (codes "// users " ++ l)) same ∙ gap-comment (path ++ text) rest line

user_line-gap : (stream : Phys) (words : List (List Bool)) (rest : List ℕ) → AreNames stream.path → after_gap (user_line stream words ++ rest) ≡ after_gap rest
user_line-gap stream words rest each = by_width (nat_lt 0 stream.params.user)
  where
    by_width : (some : Bool) → after_gap (cond {A = List ℕ} some (codes "// users " ⁀ path_text stream.path ⁀ flat_map user_word words ⁀ codes "\n") [] ++ rest) ≡ after_gap rest
    by_width true = line-gap stream.path words rest each
    by_width false = refl

users-gap : (streams : List Phys) (users : List (List (List Bool))) → All (λ (stream : Phys). AreNames stream.path) streams → after_gap (users_text streams users) ≡ []
users-gap [] users each = refl
users-gap (stream ∷ streams) [] each = refl
users-gap (stream ∷ streams) (words ∷ users) each =
    user_line-gap stream words (users_text streams users) (All-head (λ (s : Phys). AreNames s.path) stream streams each)
    ∙ users-gap streams users (All-tail (λ (s : Phys). AreNames s.path) stream streams each)

-- user words have no tokens
pub users-none : (gap : List ℕ) (streams : List Phys) (users : List (List (List Bool))) → is_blank gap ≡ true → All (λ (stream : Phys). AreNames stream.path) streams
    → tokens_of (gap ++ users_text streams users) ≡ []
users-none gap streams users blank each = tokens-none (gap ++ users_text streams users) (gap-blank gap (users_text streams users) blank ∙ users-gap streams users each)
