-- Complexity levels (Tydi specification, complexity). The limit of four numbers, and the text of a level, are this project's own.
use Rattle.std.specs.Prelude.{◌≡◌, ℕ, ◌≤◌, ◌⊎◌, Bool, true, false, IsTrue, ◌==◌, ◌&&◌, ◌||◌, nat_lt, nat_le, List, [], ◌∷◌, ◌++◌, length, get_or, Option, Some, None, option_map, option_and_then, if◌then◌else◌, codes, decimal}
use Rattle.std.specs.List.{list_all}
use Rattle.tydi_base.specs.Decimal.{below, decimal_of}
use Rattle.tydi_base.specs.Pieces.{pieces_of}

-- the numbers of a level, the first of them its main one; those that are not written are 0
pub record LevelNumbers : Type 0 where
  pub first : ℕ
  pub second : ℕ
  pub third : ℕ
  pub fourth : ℕ

-- the first number of a level is a whole number from 1 to 8
abbrev pub IsFirst : ℕ → Type 0
IsFirst n = (1 ≤ n) × (n ≤ 8)

-- four numbers are a level: the first is 1 to 8, and the others are at most 255
pub record IsLevel (level : LevelNumbers) : Type 0 where
  pub first : IsFirst level.first
  pub second : level.second ≤ 255
  pub third : level.third ≤ 255
  pub fourth : level.fourth ≤ 255

-- the main number of a level, through which all that rules and signals make of a level goes
abbrev pub number_of : LevelNumbers → ℕ
number_of level = level.first

-- the level of one number
abbrev pub whole_level : ℕ → LevelNumbers
whole_level n = record { first = n; second = 0; third = 0; fourth = 0 }

-- a level has one number alone
abbrev pub has_one_number : LevelNumbers → Bool
has_one_number level = level.second == 0 && level.third == 0 && level.fourth == 0

-- the numbers of a level as a list
abbrev pub numbers_of : LevelNumbers → List ℕ
numbers_of level = level.first ∷ level.second ∷ level.third ∷ level.fourth ∷ []

-- the level of a list of four numbers
abbrev pub of_numbers : List ℕ → LevelNumbers
of_numbers numbers = record { first = get_or numbers 0 0; second = get_or numbers 1 0; third = get_or numbers 2 0; fourth = get_or numbers 3 0 }

-- ---- the order

-- the first of two lists of numbers is at most the second: the first number in which they differ decides
unfoldable pub are_at_most : List ℕ → List ℕ → Bool
are_at_most [] others = true
are_at_most (n ∷ numbers) [] = false
are_at_most (n ∷ numbers) (m ∷ others) = nat_lt n m || (n == m && are_at_most numbers others)

-- a level is at most another
unfoldable pub at_most : LevelNumbers → LevelNumbers → Bool
at_most level other = are_at_most (numbers_of level) (numbers_of other)

-- a level is at most another, as a statement
abbrev pub IsAtMost : LevelNumbers → LevelNumbers → Type 0
IsAtMost level other = IsTrue (at_most level other)

-- each level is at most itself
abbrev pub OrderIsReflexive : Type 0
OrderIsReflexive = (level : LevelNumbers) → IsAtMost level level

-- two levels of which each is at most the other are one
abbrev pub OrderIsAntisymmetric : Type 0
OrderIsAntisymmetric = (level other : LevelNumbers) → IsAtMost level other → IsAtMost other level → level ≡ other

-- a level that is at most another is at most every level that the other is at most
abbrev pub OrderIsTransitive : Type 0
OrderIsTransitive = (low level high : LevelNumbers) → IsAtMost low level → IsAtMost level high → IsAtMost low high

-- one of two levels is at most the other
abbrev pub OrderIsTotal : Type 0
OrderIsTotal = (level other : LevelNumbers) → IsAtMost level other ⊎ IsAtMost other level

-- a level that is at most another has no greater main number
abbrev pub NumbersRise : Type 0
NumbersRise = (level other : LevelNumbers) → IsAtMost level other → number_of level ≤ number_of other

-- ---- the text

-- later numbers, each behind a point; where all of them are 0 nothing is written
unfoldable pub later_text : List ℕ → List ℕ
later_text [] = []
later_text (n ∷ numbers) = if list_all (λ m. m == 0) (n ∷ numbers) then [] else codes "." ++ (decimal n ++ later_text numbers)

-- the text of a level: its numbers in decimal, joined by `.`, without those at the end that are 0
unfoldable pub level_text : LevelNumbers → List ℕ
level_text level = decimal level.first ++ later_text (level.second ∷ level.third ∷ level.fourth ∷ [])

infixl 10 ◌>>=◌
-- goes on with the value, where there is one
abbrev ◌>>=◌ : {A B : Type 0} → Option A → (A → Option B) → Option B
o >>= f = option_and_then f o

-- the number that a piece between points spells: at most 255, without leading zeros, and not 0 where it is the last piece
unfoldable pub piece_number : Bool → List ℕ → Option ℕ
piece_number last piece = do
  n ← below 256 (decimal_of piece)
  if last && n == 0 then None else Some n

-- the next number of pieces, and the pieces after it; where none is left it is 0
unfoldable pub next_number : List (List ℕ) → Option (ℕ × List (List ℕ))
next_number [] = Some (0, [])
next_number (piece ∷ []) = option_map (λ n. (n, [])) (piece_number true piece)
next_number (piece ∷ next ∷ pieces) = option_map (λ n. (n, next ∷ pieces)) (piece_number false piece)

-- the level of four numbers: the first is 1 to 8
unfoldable pub made_of : ℕ → ℕ → ℕ → ℕ → Option LevelNumbers
made_of a b c d = if nat_le 1 a && nat_le a 8 then Some (record { first = a; second = b; third = c; fourth = d }) else None

-- the level of pieces: four numbers, and no piece after them
unfoldable pub level_of_pieces : List (List ℕ) → Option LevelNumbers
level_of_pieces pieces = do
  a ← next_number pieces
  b ← next_number a.1
  c ← next_number b.1
  d ← next_number c.1
  if length d.1 == 0 then made_of a.0 b.0 c.0 d.0 else None

-- the pieces of a text that may be there
unfoldable pub pieces_left : Option (List ℕ) → List (List ℕ)
pieces_left None = []
pieces_left (Some text) = pieces_of 46 text

-- the level that a text spells
unfoldable pub level_of : List ℕ → Option LevelNumbers
level_of text = level_of_pieces (pieces_of 46 text)

-- the text of a level is read as that level
abbrev pub LevelsAreReadAsSpelled : Type 0
LevelsAreReadAsSpelled = (level : LevelNumbers) → IsLevel level → level_of (level_text level) ≡ Some level

-- a text that is read gives a level, and is the level's one spelling
abbrev pub LevelsAreSpelledAsRead : Type 0
LevelsAreSpelledAsRead = (text : List ℕ) (level : LevelNumbers) → level_of text ≡ Some level → (text ≡ level_text level) × IsLevel level
