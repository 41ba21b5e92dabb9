-- Where a text stops being of the form of a value: the tokens that begin some text of the form are passed, and behind them as many bytes as
-- may begin a token that some text of the form goes on with. This project's own.
use Rattle.std.specs.Prelude.{ℕ, zero, suc, ◌+◌, ◌-◌, max, ◌==◌, Bool, true, not, ◌&&◌, ◌||◌, nat_lt, nat_le, if◌then◌else◌, List, [], ◌∷◌, ◌++◌, length, take, drop, Option, Some, None, codes}
use Rattle.std.specs.Char.{is_ascii_alphabetic, is_ascii_alphanumeric}
use Rattle.std.specs.List.{prefix_len}
use Rattle.std.specs.Option.{is_some}
use Rattle.tydi_base.specs.Name.{is_name}
use Rattle.tydi_base.specs.Pieces.{pieces_of}
use Rattle.tydi_base.specs.declared.place.Place.{Place}
use Rattle.tydi_reading.specs.Reading.{Outcome, took, stopped, at_end}
use Rattle.value_text.specs.declared.fault.Why.{Why}
use Rattle.value_text.specs.Port.{left_of, place_at}
use Rattle.value_text.specs.Syntax as form
use Rattle.value_text.specs.Tokens.{PlainToken, after_gap, tokens_of, word_length}
use Rattle.value_text.specs.Words.{is_hex, is_leaf, is_path_text, number_of}

-- ---- bytes that begin a word

-- how many bytes two texts have in common at their fronts
abbrev pub common_length : List ℕ → List ℕ → ℕ
common_length [] others = 0
common_length (byte ∷ bytes) [] = 0
common_length (byte ∷ bytes) (other ∷ others) = if byte == other then suc (common_length bytes others) else 0

-- the greatest number of bytes, at most this one, of which a test holds of the front of a word; 0 where it holds of none
abbrev pub longest : (List ℕ → Bool) → ℕ → List ℕ → ℕ
longest test zero word = 0
longest test (suc count) word = if nat_le (suc count) (length word) && test (take (suc count) word) then suc count else longest test count word

-- how many bytes of a word begin a number in decimal
abbrev pub decimal_length : List ℕ → ℕ
decimal_length word = longest (λ digits. is_some (number_of digits)) 39 word

-- how many of these are hexadecimal digits, from the first on
abbrev pub digits_length : List ℕ → ℕ
digits_length word = prefix_len is_hex word

-- behind a front of so many bytes that `0x` begins with, how many bytes begin a number in hexadecimal
abbrev pub hex_behind : ℕ → List ℕ → ℕ
hex_behind front word = if nat_lt front 2 then front else digits_length (drop 2 word) + 2

-- how many bytes of a word begin a number in hexadecimal
abbrev pub hex_length : List ℕ → ℕ
hex_length word = hex_behind (common_length word (codes "0x")) word

-- how many bytes of a word begin a member by itself
abbrev pub leaf_length : List ℕ → ℕ
leaf_length word = max (max (max (common_length word (codes "null")) (common_length word (codes "apart"))) (decimal_length word)) (hex_length word)

-- a byte goes on with a name behind this byte
abbrev pub goes_on : (before byte : ℕ) → Bool
goes_on before byte = is_ascii_alphanumeric byte || (byte == 95 && not (before == 95))

-- how many bytes go on with a name behind this byte
abbrev pub name_behind : ℕ → List ℕ → ℕ
name_behind before [] = 0
name_behind before (byte ∷ bytes) = if goes_on before byte then suc (name_behind byte bytes) else 0

-- how many bytes of a word begin a name
abbrev pub name_length : List ℕ → ℕ
name_length [] = 0
name_length (byte ∷ bytes) = if is_ascii_alphabetic byte then suc (name_behind byte bytes) else 0

-- how many bytes of pieces with a point between each two begin a path
abbrev pub names_length : List (List ℕ) → ℕ
names_length [] = 0
names_length (name ∷ []) = name_length name
names_length (name ∷ next ∷ more) = if is_name name then length name + 1 + names_length (next ∷ more) else name_length name

-- how many bytes of a word begin a path
abbrev pub path_length : List ℕ → ℕ
path_length word = names_length (pieces_of 46 word)

-- ---- bytes that begin a token

-- how many bytes the word has that begins a text; `-` is one too
abbrev pub run_length : List ℕ → ℕ
run_length [] = 0
run_length (byte ∷ bytes) = if byte == 45 then 1 else word_length (byte ∷ bytes)

-- a slash may begin a comment
abbrev pub slash_length : List ℕ → ℕ
slash_length [] = 0
slash_length (byte ∷ bytes) = if byte == 47 then 1 else 0

-- how far a word of so many bytes goes: where it is whole, up to what follows white space and comments; else as many bytes of it as fit
abbrev pub reach : List ℕ → ℕ → Bool → ℕ → ℕ
reach rest run is_whole within = if is_whole then length rest - length (after_gap (drop run rest)) else within

-- ---- the place

-- the tokens were passed, or none is left where they are not
abbrev pub is_passed : {A : Type 0} → Outcome Why PlainToken A → Bool
is_passed (took value rest) = true
is_passed (stopped fault rest) = at_end rest

-- the tokens of a text begin some text of the form
abbrev pub is_accepted : List ℕ → Bool
is_accepted bytes = is_passed (form.text (tokens_of bytes))

-- a number where a test holds, else 0
abbrev pub where_so : Bool → ℕ → ℕ
where_so holds count = if holds then count else 0

-- how many bytes of a word, which begins what is left, some text of the form goes on with behind a front: as `root`, as a path, as a member by
-- itself, or as the name of a variant or a field
abbrev pub word_within : (front rest : List ℕ) → ℕ → List ℕ → ℕ
word_within front rest run word =
    max (max (max (where_so (is_accepted (front ++ codes "root")) (common_length word (codes "root")))
    (where_so (is_accepted (front ++ codes "-=")) (reach rest run (is_path_text word) (path_length word))))
    (where_so (is_accepted (front ++ codes "0")) (reach rest run (is_leaf word) (leaf_length word))))
    (where_so (is_accepted (front ++ codes "a(") || is_accepted (front ++ codes "a:")) (reach rest run (is_name word) (name_length word)))

-- the same of what is left, by how long the word is that begins it
abbrev pub within_run : (front rest : List ℕ) → ℕ → ℕ
within_run front rest run = if run == 0 then slash_length rest else word_within front rest run (take run rest)

-- how many bytes behind the place with so many bytes left some text of the form goes on with
abbrev pub stop_within : List ℕ → ℕ → ℕ
stop_within text left =
    within_run (take (length text - left) text) (drop (length text - left) text) (run_length (drop (length text - left) text))

-- how many bytes there are from the next token on, where there is one
abbrev pub stop_in : List PlainToken → Option ℕ
stop_in [] = None
stop_in (token ∷ rest) = Some token.left

-- how many bytes there are where reading stops
abbrev pub stop_of : {A : Type 0} → Outcome Why PlainToken A → Option ℕ
stop_of (took value rest) = stop_in rest
stop_of (stopped fault rest) = Some (left_of rest)

-- the place of a text that is no value for its form, by where its tokens stop
abbrev pub syntax_at : List ℕ → Option ℕ → Place
syntax_at text None = place_at text 0
syntax_at text (Some left) = place_at text (left - stop_within text left)

-- the place at which a text stops being of the form
abbrev pub syntax_place : List ℕ → Place
syntax_place text = syntax_at text (stop_of (form.text (tokens_of text)))
