use Rattle.std.proofs.Common.{◌≡◌, drop}
use Rattle.logical_types.specs.Tree.{plain_parts}
use Rattle.type_split.specs.Carried.{have_carried}
use Rattle.type_split.proofs.carried.+has_carried.Given as goal

-- whether the parts have such a Stream is whether those that are left have one
abbrev pub invariant-have_carried-parts : goal.invariant-have_carried-parts
invariant-have_carried-parts l = have_carried (plain_parts (drop l.part-index l.parts)) ≡ have_carried (plain_parts l.parts)
