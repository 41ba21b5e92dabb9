use Rattle.std.proofs.Common.{◌≡◌, drop}
use Rattle.logical_value.specs.Tree.{plain}
use Rattle.value_views.specs.Along.{along}
use Rattle.value_views.proofs.comparing.selects.Given as goal

-- the rest of the way leads from here where the whole way leads
abbrev pub invariant-way : goal.invariant-way
invariant-way l = along (drop l.number-index l.way) (plain l.at) ≡ along l.way (plain l.value)
