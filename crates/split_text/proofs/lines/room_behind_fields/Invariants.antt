use Rattle.std.proofs.Common.{◌≡◌, drop}
use Rattle.std.specs.List.{flat_map}
use Rattle.split_text.specs.Text.{field_line, room_behind}
use Rattle.split_text.proofs.lines.room_behind_fields.Given as goal

-- what is left of the room leaves behind the lines that are left what all leave
abbrev pub invariant-fields : goal.invariant-fields
invariant-fields l = room_behind l.left (flat_map field_line (drop l.field-index l.fields)) ≡ room_behind l.room (flat_map field_line l.fields)
