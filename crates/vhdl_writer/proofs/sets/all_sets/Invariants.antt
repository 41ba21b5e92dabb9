use Rattle.std.proofs.Common.{◌≡◌, take}
use Rattle.std.specs.List.{flat_map}
use Rattle.vhdl_writer.specs.Architecture.{sets_of_net}
use Rattle.vhdl_writer.proofs.sets.all_sets.Given as goal

-- the assignments of the nets so far
abbrev pub invariant-nets : goal.invariant-nets
invariant-nets l = l.sets ≡ flat_map (sets_of_net l.inside.components.now l.inside.home l.inside.instances.now) (take l.net-index l.nets)
