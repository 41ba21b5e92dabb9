use Rattle.std.proofs.Common.{◌≡◌, ◌++◌, take}
use Rattle.std.specs.List.{flat_map}
use Rattle.split_text.specs.Text.{field_line}
use Rattle.split_text.proofs.lines.FieldLinesWritten.write_to.Given as goal

-- the lines so far stand behind what was there
abbrev pub invariant-fields : goal.invariant-fields
invariant-fields l = l.out ≡ l.initial.out ++ flat_map field_line (take l.field-index l.field-items)
