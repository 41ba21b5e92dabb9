-- Words (Unicode Standard Annex 31, identifiers).
use Rattle.std.specs.Prelude.{ℕ, ◌==◌, ◌||◌, Bool, false, List, [], ◌∷◌}
use Rattle.std.specs.List.{take_while}
use Rattle.unicode_ident.specs.Ident.{is_xid_start, is_xid_continue}

-- a word begins with this character: `_`, or one that may begin an identifier
abbrev pub starts_word : ℕ → Bool
starts_word character = character == 95 || is_xid_start character

-- the word at the front of characters: the first, and then all that may continue an identifier
unfoldable pub word_of : List ℕ → List ℕ
word_of [] = []
word_of (character ∷ characters) = character ∷ take_while is_xid_continue characters

-- the first of these characters may continue an identifier
abbrev pub continues : List ℕ → Bool
continues [] = false
continues (character ∷ characters) = is_xid_continue character
