-- The lines of a text that are left (this project's own).
use Rattle.std.specs.Prelude.{ℕ, ◌+◌, ◌-◌, ◌^◌, ◌<◌, ◌≤◌, List, [], length, Option, Some, None}
use denote.Ref.{Bor}
use Rattle.tydi_base.specs.Pieces.{lines_of}
use Rattle.tydi_base.specs.declared.place.Place.{Place}
use Rattle.net_text.specs.Lines.{TextLine, placed}
use Rattle.net_text.specs.declared.lines.Line.{Line}
use Rattle.net_text.specs.declared.lines.Lines.TheInside.{Inside}

-- a line as plain data
abbrev pub line_in : Line → TextLine
line_in line = record { place = line.place; bytes = line.bytes.now; ended = line.ended }

-- the lines of the text that is left, the first of them at this place
abbrev pub lines_at : Place → Option (Bor (List ℕ)) → List TextLine
lines_at place None = []
lines_at place (Some text) = placed place (lines_of text.now)

-- the number of bytes that are left
abbrev pub bytes_left : Option (Bor (List ℕ)) → ℕ
bytes_left None = 0
bytes_left (Some text) = length text.now

abbrev pub lines_left : Inside → List TextLine
lines_left lines = lines_at lines.place lines.rest

-- each place of the text that is left fits
pub record HasRoom (lines : Inside) : Type 0 where
  pub fits : lines.place.offset + bytes_left lines.rest < 2 ^ 32 - 1
  pub line : lines.place.line ≤ lines.place.offset + 1
  pub column : lines.place.column ≤ lines.place.offset + 1
