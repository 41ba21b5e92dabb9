use Rattle.std.proofs.Common.{drop}
use Rattle.logical_types.specs.Tree.{plain_parts}
use Rattle.value_views.specs.Series.{roots_of_parts}
use Rattle.value_views.specs.Way.{HasNone, HasRoom}
use Rattle.value_views.proofs.WayLemmas.{HavePassed}
use Rattle.value_views.proofs.way.Finding.+find.Given as goal

-- the parts before the number were passed
abbrev pub invariant-find_in_parts-parts : goal.invariant-find_in_parts-parts
invariant-find_in_parts-parts l = HasNone l.initial.self → HasRoom l.initial.self (roots_of_parts (plain_parts l.parts))
    → HavePassed l.initial.self l.self (plain_parts l.parts) (plain_parts (drop l.number l.parts)) l.number
