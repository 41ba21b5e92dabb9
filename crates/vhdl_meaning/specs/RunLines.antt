-- The lines of a run text, each with its place (this project's own). The last line may lack its LF.
use Rattle.std.specs.Prelude.{ℕ, ◌-◌, nat_eq, if◌then◌else◌, List, [], ◌∷◌, length, take}
use Rattle.std.specs.List.{ends_with}
use Rattle.tydi_base.specs.Pieces.{lines_of}
use Rattle.tydi_base.specs.Places.{start, along, place_after}
use Rattle.tydi_base.specs.declared.place.Place.{Place}

-- a line, without its LF, and the place of its first byte
pub record TextLine : Type 0 where
  pub place : Place
  pub bytes : List ℕ

-- the place behind the LF that ends a line
abbrev pub behind : Place → List ℕ → Place
behind place line = place_after (along place (length line)) 10

-- lines with their places, the first of them at this one
abbrev pub placed : Place → List (List ℕ) → List TextLine
placed place [] = []
placed place (line ∷ lines) = record { place = place; bytes = line } ∷ placed (behind place line) lines

-- a text without the LF at its end
abbrev pub without_end : List ℕ → List ℕ
without_end text = if ends_with nat_eq text (10 ∷ []) then take (length text - 1) text else text

-- the lines of a text; an empty text is one empty line
abbrev pub lines_in : List ℕ → List TextLine
lines_in text = placed start (lines_of (without_end text))
