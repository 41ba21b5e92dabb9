-- Texts by numbers (this project's own): each text of a list has its place there as its number.
use Rattle.std.specs.Prelude.{◌≡◌, ℕ, suc, Bool, true, false, List, [], ◌∷◌, Option, Some, None, option_map}
use Rattle.std.specs.Str.{bytes_eq}

-- the number of a text that is the first, or one more than its number among the others
abbrev pub number_after : Bool → Option ℕ → Option ℕ
number_after true others = Some 0
number_after false others = option_map suc others

-- the number of a text
abbrev pub number_of : List (List ℕ) → List ℕ → Option ℕ
number_of [] text = None
number_of (first ∷ others) text = number_after (bytes_eq text first) (number_of others text)

-- each text that has a number keeps it
abbrev pub KeepsNumbers : (old new : List (List ℕ)) → Type 0
KeepsNumbers old new = (text : List ℕ) (number : ℕ) → number_of old text ≡ Some number → number_of new text ≡ Some number
