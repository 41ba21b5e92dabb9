use Rattle.std.proofs.Common.{◌≤◌, drop}
use Rattle.logical_types.specs.Size.{nodes_in_parts}
use Rattle.logical_types.specs.Tree.{plain_parts}
use Rattle.logical_types.specs.Width.{greatest_width, total_width}
use Rattle.logical_value.specs.Unpacking.{CanRead}
use Rattle.logical_value.proofs.UnpackingLemmas.{AreLeft, IsAmong}
use Rattle.logical_value.proofs.unpacking.Unpacking.+unpacking.Given as goal

-- the values that are left are to be read, and once they are, all are
abbrev pub invariant-read_fields-parts : goal.invariant-read_fields-parts
invariant-read_fields-parts l = CanRead l.initial.self (nodes_in_parts (plain_parts l.parts)) (total_width (plain_parts l.parts))
    → AreLeft l.initial.self l.self (plain_parts l.parts) l.fields (plain_parts (drop l.part-index l.parts))

-- nothing was read, and the variant that is looked for is among those that are left
abbrev pub invariant-read_variant-parts : goal.invariant-read_variant-parts
invariant-read_variant-parts l = CanRead l.initial.self (nodes_in_parts (plain_parts l.parts)) l.room → greatest_width (plain_parts l.parts) ≤ l.room
    → IsAmong l.initial.self l.self (plain_parts l.parts) l.tag l.room (plain_parts (drop l.part-index l.parts)) l.left
