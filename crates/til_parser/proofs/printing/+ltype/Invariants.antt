use Rattle.std.proofs.Common.{◌≡◌, ◌++◌, take, flat_map}
use Rattle.til_parser.specs.Canonical.{next_part_text}
use Rattle.til_parser.proofs.printing.+ltype.Given as goal

-- the parts so far stand behind what was there
abbrev pub invariant-write_parts-parts : goal.invariant-write_parts-parts
invariant-write_parts-parts l = l.out ≡ l.initial.out ++ flat_map next_part_text (take l.part-index l.others)
