-- A plan's text (this project's own): the line `tydi-plan 1`, the line `cycles N`, and blocks. Empty lines and those that begin with `//`
-- are skipped, and count as lines in places. The last line may lack its LF.
use Rattle.std.specs.Prelude.{ℕ, nat_le, nat_eq, if◌then◌else◌, List, [], ◌∷◌, drop, Result, Ok, Err, codes}
use Rattle.std.specs.List.{starts_with}
use Rattle.std.specs.Str.{bytes_eq}
use Rattle.tydi_base.specs.Decimal.{is_decimal, read_on}
use Rattle.tydi_base.specs.Places.{start, place_past}
use Rattle.tydi_base.specs.Reading.{◌>>=◌}
use Rattle.tydi_base.specs.declared.place.Place.{Place}
use Rattle.type_split.specs.declared.split.Phys.{Phys}
use Rattle.plan_text.specs.declared.fault.PlanFault.{PlanFault}
use Rattle.plan_text.specs.declared.fault.PlanFault.TheVariants.{Syntax, TooManyCycles}
use Rattle.plan_text.specs.declared.plan.Plan.{Plan}
use Rattle.plan_text.specs.Blocks.{read_plans}
use Rattle.plan_text.specs.Lines.{TextLine, lines_in, told}
use Rattle.plan_text.specs.Words.{most_cycles}

-- the place of the end of a text
abbrev pub end_of : List ℕ → Place
end_of text = place_past start text

-- the first line and those after it, in a text that ends at this place
abbrev pub next_of : Place → List TextLine → Result (TextLine × List TextLine) PlanFault
next_of end [] = Err (Syntax end)
next_of end (line ∷ lines) = Ok (line, lines)

-- the first line is `tydi-plan 1`
unfoldable pub title_of : TextLine → Result (Unit {0}) PlanFault
title_of line = if bytes_eq line.bytes (codes "tydi-plan 1") then Ok tt else Err (Syntax line.place)

-- the number of cycles that the second line spells
unfoldable pub cycles_of : TextLine → Result ℕ PlanFault
cycles_of line =
    if starts_with nat_eq line.bytes (codes "cycles ")
    then (if is_decimal (drop 7 line.bytes)
    then (if nat_le (read_on 0 (drop 7 line.bytes)) most_cycles then Ok (read_on 0 (drop 7 line.bytes)) else Err (TooManyCycles line.place))
    else Err (Syntax line.place))
    else Err (Syntax line.place)

-- the cycles, and the lines after the first two
unfoldable pub header_of : Place → List TextLine → Result (ℕ × List TextLine) PlanFault
header_of end lines = do
  first ← next_of end lines
  title ← title_of first.0
  second ← next_of end first.1
  cycles ← cycles_of second.0
  Ok (cycles, second.1)

-- the plan that lines spell for these streams, in a text that ends at this place
unfoldable pub plan_in_lines : List Phys → Place → List TextLine → Result Plan PlanFault
plan_in_lines streams end lines = do
  header ← header_of end lines
  plans ← read_plans header.0 streams header.1
  Ok (record { cycles = header.0; streams = plans })

-- the plan that a text spells for these streams, or its first fault
abbrev pub plan_of : List Phys → List ℕ → Result Plan PlanFault
plan_of streams text = plan_in_lines streams (end_of text) (told (lines_in text))
