use Rattle.std.proofs.Common.{◌≡◌, Bool, false, length}
use Rattle.tydi_reading.specs.Calls.{DoesStep, DoesTell}
use Rattle.tydi_reading.specs.Lists.{steps_turn}
use Rattle.tydi_reading.specs.Reading.{Reader, Shrinks, loop}
use Rattle.tydi_reading.proofs.lists.steps.Given as goal

-- the steps from this state go on as all steps do
abbrev pub invariant-steps : goal.invariant-steps
invariant-steps g l = (read : g.row.X.Denot → Reader g.row.E.Denot g.S.Source.Thing g.row.X.Denot) (end separator : g.S.Source.Thing → Bool) (last : Bool)
    → DoesTell g.S.Source.left g.F.Fn l.is_end end last → DoesTell g.S.Source.left g.G.Fn l.separates separator false → DoesStep g.S.Source.left g.P.Fn l.step read
    → ((x : g.row.X.Denot) → Shrinks (read x))
    → loop (steps_turn end last separator read) l.state (g.S.Source.left l.source) ≡ loop (steps_turn end last separator read) l.initial.state (g.S.Source.left l.initial.source)

abbrev pub decreases-steps : goal.decreases-steps
decreases-steps g l = length (g.S.Source.left l.source)
