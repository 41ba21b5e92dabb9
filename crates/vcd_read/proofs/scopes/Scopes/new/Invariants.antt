use Rattle.std.proofs.Common.{◌≡◌, take}
use Rattle.vcd_read.proofs.scopes.Scopes.new.Given as goal

abbrev pub invariant-names : goal.invariant-names
invariant-names l = l.wanted ≡ take l.name-index l.name-items
