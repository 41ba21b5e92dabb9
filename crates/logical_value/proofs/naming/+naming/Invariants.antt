use Rattle.std.proofs.Common.{drop}
use Rattle.logical_types.specs.Tree.{plain_parts}
use Rattle.logical_types.specs.Width.{total_width}
use Rattle.logical_value.specs.Naming.{CanPass}
use Rattle.logical_value.proofs.NamingLemmas.{AreLeft, IsAmong}
use Rattle.logical_value.proofs.naming.+naming.Given as goal

-- the fields that are left are to be passed, and once they are, all are
abbrev pub invariant-past_fields-parts : goal.invariant-past_fields-parts
invariant-past_fields-parts l = CanPass l.word l.offset (total_width (plain_parts l.parts))
    → AreLeft l.word l.offset l.end (plain_parts l.parts) (plain_parts (drop l.part-index l.parts))

-- the variant that is looked for is among those that are left
abbrev pub invariant-names_variant-parts : goal.invariant-names_variant-parts
invariant-names_variant-parts l = IsAmong l.word l.offset (plain_parts l.parts) l.tag (plain_parts (drop l.part-index l.parts)) l.left
