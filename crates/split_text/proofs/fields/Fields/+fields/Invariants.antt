use Rattle.std.proofs.Common.{◌+◌, ◌≤◌, ◌++◌, filter, drop}
use Rattle.logical_types.specs.Tree.{plain_parts}
use Rattle.logical_types.specs.Width.{total_width}
use Rattle.split_text.specs.Fields.{fields_of_parts, has_bits}
use Rattle.split_text.proofs.FieldLemmas.{AreLeft}
use Rattle.split_text.proofs.fields.Fields.+fields.Given as goal

-- the parts that are left lie behind those whose fields were added; with theirs all fields are there
abbrev pub invariant-add_parts-parts : goal.invariant-add_parts-parts
invariant-add_parts-parts l =
    l.offset + total_width (plain_parts l.parts) ≤ 4096
    → AreLeft l.initial.self.names l.self.names (l.initial.self.fields ++ filter has_bits (fields_of_parts l.initial.self.names l.offset (plain_parts l.parts))) l.self.fields
    l.end (l.offset + total_width (plain_parts l.parts)) (plain_parts (drop l.part-index l.parts))
