use Rattle.std.proofs.Common.{◌≡◌, false, take}
use Rattle.logical_types.specs.Names.{has_name_twice}
use Rattle.logical_types.proofs.names.is_name_repeated.Given as goal

-- no name stands twice so far
abbrev pub invariant-parts : goal.invariant-parts
invariant-parts g l = has_name_twice (take l.index (g.N.Named.names l.parts)) ≡ false
