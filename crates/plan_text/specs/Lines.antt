-- The lines of a text, each with its place (this project's own).
use Rattle.std.specs.Prelude.{ℕ, Bool, not, ◌&&◌, ◌==◌, nat_eq, if◌then◌else◌, List, [], ◌∷◌, length, codes}
use Rattle.std.specs.List.{starts_with}
use Rattle.tydi_base.specs.Pieces.{lines_of}
use Rattle.tydi_base.specs.Places.{start, along, place_after}
use Rattle.tydi_base.specs.declared.place.Place.{Place}

-- a line, without its LF, and the place of its first byte
pub record TextLine : Type 0 where
  pub place : Place
  pub bytes : List ℕ

-- the place behind the LF that ends a line
abbrev pub behind : Place → List ℕ → Place
behind place line = place_after (along place (length line)) 10

-- lines with their places, the first of them at this one
abbrev pub placed : Place → List (List ℕ) → List TextLine
placed place [] = []
placed place (line ∷ lines) = record { place = place; bytes = line } ∷ placed (behind place line) lines

-- the lines of a text
abbrev pub lines_in : List ℕ → List TextLine
lines_in text = placed start (lines_of text)

-- a line that is neither empty nor a comment
abbrev pub is_told : List ℕ → Bool
is_told line = not (length line == 0) && not (starts_with nat_eq line (codes "//"))

-- the lines that are neither empty nor comments
abbrev pub told : List TextLine → List TextLine
told [] = []
told (line ∷ lines) = if is_told line.bytes then line ∷ told lines else told lines
