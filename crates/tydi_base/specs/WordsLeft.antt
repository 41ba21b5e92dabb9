-- The words of a line that are left, and values of a known size among them. This project's own.
use Rattle.std.specs.Prelude.{◌≡◌, ℕ, List, [], ◌∷◌, ◌++◌, ◌⊎◌, length}
use Rattle.tydi_base.specs.Pieces.{Lacks, words_of}
use Rattle.tydi_base.specs.declared.words_left.WordsLeft.{WordsLeft}

-- the words after the first byte of a text, which is a space: none where there is no byte
abbrev pub words_after : List ℕ → List (List ℕ)
words_after [] = []
words_after (space ∷ text) = words_of text

abbrev pub words_left : WordsLeft → List (List ℕ)
words_left words = words_after words.text.now

-- a word ends before this: before nothing, or before a space
abbrev pub IsEnd : List ℕ → Type 0
IsEnd tail = (tail ≡ []) ⊎ ((after : List ℕ) × (tail ≡ 32 ∷ after))

-- these words stand after a word, in what follows it
abbrev pub Follows : List ℕ → List (List ℕ) → Type 0
Follows tail words = ((tail ≡ []) × (words ≡ [])) ⊎ ((after : List ℕ) × (tail ≡ 32 ∷ after) × (words ≡ words_of after))

-- so many bytes at the front of a text, with an end after them, and the words that follow
pub record IsCut (text : List ℕ) (size : ℕ) (value : List ℕ) (rest : List (List ℕ)) : Type 0 where
  pub tail : List ℕ
  pub long : length value ≡ size
  pub whole : text ≡ value ++ tail
  pub follows : Follows tail rest

-- no end stands after so many bytes of a text
abbrev pub NoCut : List ℕ → ℕ → Type 0
NoCut text size = (value tail : List ℕ) → length value ≡ size → text ≡ value ++ tail → IsEnd tail → ⊥

-- if the first word is this key, `=` and a value of so many bytes, then it has this value; and it is so if no
-- space is in this
pub record IsSized (key size : ℕ) (words : List (List ℕ)) (value : List ℕ) (rest : List (List ℕ)) : Type 0 where
  pub long : length value ≡ size
  pub spelled : Lacks 32 value → words ≡ (key ∷ 61 ∷ value) ∷ rest
  pub only : (other : List ℕ) (others : List (List ℕ)) → words ≡ (key ∷ 61 ∷ other) ∷ others → length other ≡ size → other ≡ value

-- the first word is not this key, `=` and a value of so many bytes
abbrev pub HasNoSized : ℕ → ℕ → List (List ℕ) → Type 0
HasNoSized key size words = (other : List ℕ) (others : List (List ℕ)) → words ≡ (key ∷ 61 ∷ other) ∷ others → length other ≡ size → ⊥
