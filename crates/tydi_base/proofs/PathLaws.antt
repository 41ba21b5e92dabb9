-- Paths: each spelling is read, and each text that is read is a spelling.
use Rattle.std.proofs.Common.{◌≡◌, ◌≢◌, ℕ, ◌<◌, Bool, true, false, ◌&&◌, cond, eqb, List, [], ◌∷◌, length, get_or, Some, refl, sym, ap, ◌∙◌, arith, All}
use Rattle.std.specs.List.{list_all, join_with_byte}
use Rattle.std.specs.Str.{bytes_eq}
use Rattle.std.proofs.lemmas.Bool.Decides.{nat_tests}
use Rattle.std.proofs.lemmas.List.Elements.{All-get_or, All-from_get_or, All-head}
use Rattle.std.proofs.lemmas.List.Sums.{AllPass-from_list_all, list_all-from_AllPass}
use Rattle.std.proofs.lemmas.List.Splits.{length-slice_split}
use Rattle.std.proofs.lemmas.Option.{cond_some}
use Rattle.std.proofs.lemmas.Slice.Eq.{bytes_eq-Decides}
use Rattle.tydi_base.specs.Name.{is_name, is_name_byte, begins_with_letter}
use Rattle.tydi_base.specs.Pieces.{pieces_of, Lacks}
use Rattle.tydi_base.specs.Path.{names_of, path_text, colon_pieces, colon_text, PathsAreReadAsSpelled, PathsAreSpelledAsRead, ColonPathsAreReadAsSpelled, ColonPathsAreSpelledAsRead}
use Rattle.tydi_base.proofs.ColonLaws.{colon_pieces-join, join-colon_pieces, colon_pieces-some}
use Rattle.tydi_base.proofs.PieceLaws.{pieces_of-join, join-pieces_of}

-- the facts about a name that this page uses
record NameHas (name : List ℕ) : Type 0 where
  letter : begins_with_letter name ≡ true
  bytes : list_all is_name_byte name ≡ true

letter_of : (a b c d e : Bool) → (a && b && c && d && e) ≡ true → a ≡ true
letter_of true b c d e h = refl
letter_of false b c d e h = absurd cc

bytes_of : (a b c d e : Bool) → (a && b && c && d && e) ≡ true → b ≡ true
bytes_of true true c d e h = refl
bytes_of true false c d e h = absurd cc
bytes_of false b c d e h = absurd cc

is_name-to : (name : List ℕ) → is_name name ≡ true → NameHas name
is_name-to name e = record { letter = letter_of (begins_with_letter name) (list_all is_name_byte name) _ _ _ e; bytes = bytes_of (begins_with_letter name) (list_all is_name_byte name) _ _ _ e }

-- a name has no separator in it, if no name byte is one
is_name-lacks : (separator : ℕ) (name : List ℕ) → is_name_byte separator ≡ false → is_name name ≡ true → Lacks separator name
is_name-lacks separator name no-byte e = All-from_get_or (λ byte. byte ≢ separator) name 0 (λ k lt same.
    let here : is_name_byte (get_or name k 0) ≡ true = All-get_or (λ byte. is_name_byte byte ≡ true) name k 0 lt (AllPass-from_list_all is_name_byte name (is_name-to name e).bytes) in
    let there : is_name_byte (get_or name k 0) ≡ is_name_byte separator = ap is_name_byte same in
    absurd cc)

names-lack : (separator : ℕ) (names : List (List ℕ)) → is_name_byte separator ≡ false → All (λ name. is_name name ≡ true) names → All (Lacks separator) names
names-lack separator names no-byte each = All-from_get_or (Lacks separator) names [] (λ k lt. is_name-lacks separator (get_or names k []) no-byte (All-get_or (λ name. is_name name ≡ true) names k [] lt each))

-- a text that begins with a letter is not `-`
letter-dash : (text : List ℕ) → begins_with_letter text ≡ true → bytes_eq text (45 ∷ []) ≡ false
letter-dash [] e = absurd cc
letter-dash (byte ∷ bytes) e = grind (arith, nat_tests)

letter-join : (separator : ℕ) (name : List ℕ) (names : List (List ℕ)) → begins_with_letter name ≡ true → begins_with_letter (join_with_byte separator (name ∷ names)) ≡ true
letter-join separator [] names e = absurd cc
letter-join separator (byte ∷ bytes) [] e = e
letter-join separator (byte ∷ bytes) (next ∷ names) e = e

pub path_of-path_text : PathsAreReadAsSpelled
path_of-path_text [] each = refl
path_of-path_text (name ∷ names) each =
    let first = is_name-to name (All-head (λ n. is_name n ≡ true) name names each) in
    let text = join_with_byte 46 (name ∷ names) in
    let no-dash : bytes_eq text (45 ∷ []) ≡ false = letter-dash text (letter-join 46 name names first.letter) in
    let same : pieces_of 46 text ≡ name ∷ names = pieces_of-join 46 (name ∷ names) (omega arith) (names-lack 46 (name ∷ names) refl each) in
    let all-names : list_all is_name (name ∷ names) ≡ true = list_all-from_AllPass is_name (name ∷ names) each in
    rw (no-dash, same, all-names) refl

-- a joined text of some pieces is the text of the path of these
path_text-some : (pieces : List (List ℕ)) → 0 < length pieces → path_text pieces ≡ join_with_byte 46 pieces
path_text-some [] some = absurd (omega arith)
path_text-some (piece ∷ pieces) some = refl

by_dash : (text : List ℕ) (names : List (List ℕ)) (dash : Bool) → bytes_eq text (45 ∷ []) ≡ dash → cond dash (Some []) (names_of false text) ≡ Some names → (text ≡ path_text names) × All (λ name. is_name name ≡ true) names
by_dash text names true dash e =
    let none : [] ≡ names = grind arith in
    let is-dash : text ≡ 45 ∷ [] = (bytes_eq-Decides text (45 ∷ [])).0 dash in
    rw (← none) (is-dash, λ k d lt. absurd (omega arith))
by_dash text names false dash e =
    let parts = cond_some (list_all is_name (pieces_of 46 text)) (pieces_of 46 text) names e in
    let some : 0 < length (pieces_of 46 text) = omega (arith, length-slice_split (λ byte. eqb byte 46) text) in
    rw (← parts.1) (sym (path_text-some (pieces_of 46 text) some ∙ join-pieces_of 46 text), AllPass-from_list_all is_name (pieces_of 46 text) parts.0)

pub path_of-some : PathsAreSpelledAsRead
path_of-some text names e = by_dash text names (bytes_eq text (45 ∷ [])) refl e

-- ---- the same between `::`

pub path_at-colon_text : ColonPathsAreReadAsSpelled
path_at-colon_text names some each =
    let same : colon_pieces (colon_text names) ≡ names = colon_pieces-join names some (names-lack 58 names refl each) in
    let all-names : list_all is_name names ≡ true = list_all-from_AllPass is_name names each in
    rw (same, all-names) refl

pub path_at-colons_some : ColonPathsAreSpelledAsRead
path_at-colons_some text names e =
    let parts = cond_some (list_all is_name (colon_pieces text)) (colon_pieces text) names e in
    rw (← parts.1) (sym (join-colon_pieces text), colon_pieces-some text, AllPass-from_list_all is_name (colon_pieces text) parts.0)
