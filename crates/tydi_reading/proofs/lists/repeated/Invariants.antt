use Rattle.std.proofs.Common.{◌≡◌, Bool, length}
use Rattle.tydi_reading.specs.Calls.{DoesRead, DoesTell}
use Rattle.tydi_reading.specs.Lists.{repeated_turn}
use Rattle.tydi_reading.specs.Reading.{Reader, Shrinks, loop}
use Rattle.tydi_reading.proofs.lists.repeated.Given as goal

-- the items so far go on as all items do
abbrev pub invariant-items : goal.invariant-items
invariant-items g l = (read : Reader g.row.E.Denot g.S.Source.Thing g.row.A.Denot) (end : g.S.Source.Thing → Bool) (last : Bool) → DoesTell g.S.Source.left g.F.Fn l.is_end end last
    → DoesRead g.S.Source.left g.P.Fn l.item read → Shrinks read
    → loop (repeated_turn end last read) l.items (g.S.Source.left l.source) ≡ loop (repeated_turn end last read) l.initial.items (g.S.Source.left l.initial.source)

abbrev pub decreases-items : goal.decreases-items
decreases-items g l = length (g.S.Source.left l.source)
