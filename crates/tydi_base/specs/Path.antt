-- Paths: lists of names (Tydi specification, paths). Their texts are this project's own.
use Rattle.std.specs.Prelude.{◌≡◌, ℕ, ◌<◌, Bool, true, false, ◌==◌, ◌&&◌, not, List, [], ◌∷◌, ◌++◌, length, slice_index, Option, Some, None, IsTrue, All, if◌then◌else◌, codes}
use Rattle.std.specs.List.{list_all, join_with_byte, flat_map, onto_first}
use Rattle.std.specs.Str.{bytes_eq}
use Rattle.tydi_base.specs.Name.{is_name}
use Rattle.tydi_base.specs.Pieces.{pieces_of}

-- two colons together stand at the front
abbrev pub begins_with_colons : List ℕ → Bool
begins_with_colons text = slice_index text 0 == 58 && slice_index text 1 == 58

-- the pieces between two colons together: from the left, the first two that stand together end a piece
abbrev pub colon_pieces : List ℕ → List (List ℕ)
colon_pieces [] = [] ∷ []
colon_pieces (byte ∷ []) = (byte ∷ []) ∷ []
colon_pieces (byte ∷ next ∷ rest) = if byte == 58 && next == 58 then [] ∷ colon_pieces rest else onto_first byte (colon_pieces (next ∷ rest))

-- the pieces of a path's text, between `::` or between `.`
abbrev pub path_pieces : Bool → List ℕ → List (List ℕ)
path_pieces colons text = if colons then colon_pieces text else pieces_of 46 text

-- the names between the separators of a text, where each piece is a name
abbrev pub names_of : Bool → List ℕ → Option (List (List ℕ))
names_of colons text = if list_all is_name (path_pieces colons text) then Some (path_pieces colons text) else None

-- the path that a text spells; only between `.` has the empty path a text, which is `-`
abbrev pub path_at : Bool → List ℕ → Option (List (List ℕ))
path_at colons text = if not colons && bytes_eq text (codes "-") then Some [] else names_of colons text

-- the path that a text with `.` between the names spells
abbrev pub path_of : List ℕ → Option (List (List ℕ))
path_of text = path_at false text

-- the text of a path with `.` between the names, and `-` for the empty path
abbrev pub path_text : List (List ℕ) → List ℕ
path_text [] = codes "-"
path_text (name ∷ names) = join_with_byte 46 (name ∷ names)

-- the text of a path with `::` between the names; `-`, which is then read as no path, for the empty path
abbrev pub colon_text : List (List ℕ) → List ℕ
colon_text [] = codes "-"
colon_text (name ∷ names) = name ++ flat_map (λ next. 58 ∷ 58 ∷ next) names

-- the text of a path, with `::` or with `.` between the names
abbrev pub spelled_path : Bool → List (List ℕ) → List ℕ
spelled_path colons names = if colons then colon_text names else path_text names

-- the bytes between two names
abbrev pub separator_of : Bool → List ℕ
separator_of colons = if colons then codes "::" else codes "."

-- a spelling of names is read as these names
abbrev pub PathsAreReadAsSpelled : Type 0
PathsAreReadAsSpelled = (names : List (List ℕ)) → All (λ name. IsTrue (is_name name)) names → path_of (path_text names) ≡ Some names

-- a text that is read gives names, and is their one spelling
abbrev pub PathsAreSpelledAsRead : Type 0
PathsAreSpelledAsRead = (text : List ℕ) (names : List (List ℕ)) → path_of text ≡ Some names → (text ≡ path_text names) × All (λ name. IsTrue (is_name name)) names

-- a spelling of names with `::`, one name at least, is read as these names
abbrev pub ColonPathsAreReadAsSpelled : Type 0
ColonPathsAreReadAsSpelled = (names : List (List ℕ)) → 0 < length names → All (λ name. IsTrue (is_name name)) names → path_at true (colon_text names) ≡ Some names

-- a text that is read between `::` gives names, one at least, and is their one spelling
abbrev pub ColonPathsAreSpelledAsRead : Type 0
ColonPathsAreSpelledAsRead = (text : List ℕ) (names : List (List ℕ)) → path_at true text ≡ Some names → (text ≡ colon_text names) × (0 < length names) × All (λ name. IsTrue (is_name name)) names
