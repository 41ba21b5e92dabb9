-- How wide an element of a type is (Tydi specification, logical types; the layout of a Union is this project's own).
use Rattle.std.specs.Prelude.{ℕ, ◌+◌, ◌-◌, ◌^◌, min, max}
use Rattle.tydi_base.specs.Width.{index_width}
use Rattle.logical_types.specs.Tree.{Ltype, null, bits, group, union, stream, Parts, no_parts, part, number_of_parts}

-- the bits of a tag that tells n variants apart: those that number them
unfoldable pub tag_width : ℕ → ℕ
tag_width n = index_width n

-- the width of an element: of a Group the widths of its fields together, of a Union its tag and room for its widest variant; a
-- Stream takes none, since it is carried on its own
abbrev mutual
  pub width_of : Ltype → ℕ
  width_of null = 0
  width_of (bits width) = width
  width_of (group parts) = total_width parts
  width_of (union parts) = tag_width (number_of_parts parts) + greatest_width parts
  width_of (stream element user settings) = 0

  -- the widths of parts together
  pub total_width : Parts → ℕ
  total_width no_parts = 0
  total_width (part name ltype more) = width_of ltype + total_width more

  -- the greatest width of parts
  pub greatest_width : Parts → ℕ
  greatest_width no_parts = 0
  greatest_width (part name ltype more) = max (width_of ltype) (greatest_width more)

-- a width, or the greatest number of 32 bits where it is over that
abbrev pub saturated : ℕ → ℕ
saturated width = min width (2 ^ 32 - 1)
