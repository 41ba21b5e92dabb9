use Rattle.std.proofs.Common.{◌≡◌, take}
use Rattle.tydi_tool.proofs.designs.copies.Given as goal

-- the copies so far
abbrev pub invariant-names : goal.invariant-names
invariant-names l = l.all ≡ take l.name-index l.names
