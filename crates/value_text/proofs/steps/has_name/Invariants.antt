use Rattle.std.proofs.Common.{◌≡◌, drop}
use Rattle.logical_types.specs.Tree.{plain_parts}
use Rattle.value_text.specs.Typed.{has_name}
use Rattle.value_text.proofs.steps.has_name.Given as goal

-- the name is one of all where it is one of those that are left
abbrev pub invariant-parts : goal.invariant-parts
invariant-parts l = has_name (plain_parts l.parts) l.name ≡ has_name (plain_parts (drop l.part-index l.parts)) l.name
