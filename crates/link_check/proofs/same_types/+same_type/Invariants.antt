use Rattle.std.proofs.Common.{◌≡◌, drop}
use Rattle.logical_types.specs.Tree.{plain_parts}
use Rattle.link_check.specs.SameTypes.{have_same_types}
use Rattle.link_check.proofs.same_types.+same_type.Given as goal

-- the types are the same where those that are left are
abbrev pub invariant-have_same_types-parts : goal.invariant-have_same_types-parts
invariant-have_same_types-parts l = have_same_types (plain_parts (drop l.part-index l.parts)) (plain_parts l.rest) ≡ have_same_types (plain_parts l.parts) (plain_parts l.others)
