use Rattle.std.proofs.Common.{◌≡◌, drop}
use Rattle.port_gen.specs.Sums.{sum_on}
use Rattle.port_gen.proofs.summing.with_bytes.Given as goal

abbrev pub invariant-bytes : goal.invariant-bytes
invariant-bytes l = sum_on l.before l.bytes ≡ sum_on l.all (drop l.byte-index l.bytes)
