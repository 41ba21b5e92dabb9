use Rattle.std.proofs.Common.{◌≡◌, take}
use Rattle.type_split.specs.Streams.{plain_split}
use Rattle.tydi_tool.specs.Comparisons as spec
use Rattle.tydi_tool.proofs.compare_lines.difference_lines.Given as goal

-- the lines of the differences so far
abbrev pub invariant-differences : goal.invariant-differences
invariant-differences l = l.lines ≡ spec.difference_lines (plain_split l.split) (take l.difference-index l.differences)
