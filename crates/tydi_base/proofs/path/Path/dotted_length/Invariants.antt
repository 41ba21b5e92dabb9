use Rattle.std.proofs.Common.{◌≡◌, ◌+◌, length, min, take}
use Rattle.std.specs.List.{flat_map}
use Rattle.tydi_base.specs.Lengths.{most_bytes}
use Rattle.tydi_base.proofs.LengthLemmas.{pointed}
use Rattle.tydi_base.proofs.path.Path.dotted_length.Given as goal

abbrev pub invariant-names : goal.invariant-names
invariant-names l = l.length ≡ min (l.initial.length + length (flat_map pointed (take l.name-index l.others))) most_bytes
