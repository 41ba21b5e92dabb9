use Rattle.std.proofs.Common.{◌≡◌, map, take}
use Rattle.std.specs.Char.{to_ascii_lowercase}
use Rattle.til_resolve.proofs.twice.lowered.Given as goal

abbrev pub invariant-bytes : goal.invariant-bytes
invariant-bytes l = l.text ≡ map to_ascii_lowercase (take l.byte-index l.byte-items)
