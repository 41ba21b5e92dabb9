use Rattle.std.proofs.Common.{◌≡◌, false, take}
use Rattle.std.specs.List.{list_any}
use Rattle.logical_types.specs.Names.{is_same_name}
use Rattle.logical_types.proofs.names.has_name.Given as goal

-- the name does not stand among those so far
abbrev pub invariant-parts : goal.invariant-parts
invariant-parts g l = list_any (λ other. is_same_name other l.name) (take l.index (g.N.Named.names l.parts)) ≡ false
