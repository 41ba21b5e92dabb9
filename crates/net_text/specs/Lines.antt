-- The lines of a text, each with its place (this project's own). Each of them ends with its LF, but for what follows the last LF.
use Rattle.std.specs.Prelude.{ℕ, Bool, true, false, ◌==◌, if◌then◌else◌, List, [], ◌∷◌, length}
use Rattle.tydi_base.specs.Pieces.{lines_of}
use Rattle.tydi_base.specs.Places.{start}
use Rattle.tydi_base.specs.declared.place.Place.{Place}
use Rattle.plan_text.specs.Lines.{behind}

-- a line, without its LF, the place of its first byte, and whether it has its LF
pub record TextLine : Type 0 where
  pub place : Place
  pub bytes : List ℕ
  pub ended : Bool

-- what follows the last LF of a text: a line, unless nothing does
abbrev pub last_line : Place → List ℕ → List TextLine
last_line place bytes = if length bytes == 0 then [] else record { place = place; bytes = bytes; ended = false } ∷ []

-- the lines of the pieces between the LFs of a text, with their places, the first of them at this one
abbrev pub placed : Place → List (List ℕ) → List TextLine
placed place [] = []
placed place (piece ∷ []) = last_line place piece
placed place (piece ∷ next ∷ pieces) = record { place = place; bytes = piece; ended = true } ∷ placed (behind place piece) (next ∷ pieces)

-- the lines of a text; an empty text has none
abbrev pub lines_in : List ℕ → List TextLine
lines_in text = placed start (lines_of text)
