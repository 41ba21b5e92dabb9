-- The tokens of a value change dump: what stands between white space (IEEE 1364, value change dump files).
use Rattle.std.specs.Prelude.{◌≡◌, ℕ, ◌+◌, Bool, true, false, ◌==◌, ◌||◌, if◌then◌else◌, List, [], ◌∷◌, ◌++◌, length}
use Rattle.std.specs.List.{list_any}

-- a token: its first byte's place in the text, and its bytes
pub record DumpToken : Type 0 where
  pub offset : ℕ
  pub bytes : List ℕ

-- white space: space, tab, CR and LF
abbrev pub is_blank : ℕ → Bool
is_blank byte = byte == 32 || byte == 10 || byte == 13 || byte == 9

-- some byte is white space
abbrev pub has_blank : List ℕ → Bool
has_blank bytes = list_any is_blank bytes

-- the bytes before the first white space of a text, and those after it
pub record IsFirstWord (text word after : List ℕ) : Type 0 where
  pub blank : ℕ
  pub ends : is_blank blank ≡ true
  pub plain : has_blank word ≡ false
  pub whole : text ≡ word ++ blank ∷ after

-- the token of these bytes, where there are any
abbrev pub token_at : ℕ → List ℕ → List DumpToken
token_at start [] = []
token_at start (byte ∷ bytes) = record { offset = start; bytes = byte ∷ bytes } ∷ []

-- the tokens of a text whose front is begun already: the bytes of a token from this place on
abbrev pub tokens_from : ℕ → List ℕ → List ℕ → List DumpToken
tokens_from start begun [] = token_at start begun
tokens_from start begun (byte ∷ rest) =
    if is_blank byte then token_at start begun ++ tokens_from (start + length begun + 1) [] rest else tokens_from start (begun ++ byte ∷ []) rest

-- the tokens of a text
abbrev pub tokens_of : List ℕ → List DumpToken
tokens_of text = tokens_from 0 [] text
