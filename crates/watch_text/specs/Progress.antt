-- A process while it is read (this project's own).
use Rattle.std.specs.Prelude.{List, [], ◌∷◌, ◌++◌, map}
use Rattle.watch_text.specs.declared.begun.Begun.{Begun}
use Rattle.watch_text.specs.declared.nest.Nest.{Nest}
use Rattle.watch_text.specs.declared.so_far.SoFar.{SoFar}
use Rattle.watch_text.specs.Reading.{Opened, Progress}
use Rattle.watch_text.specs.Statements.{plain}
use Rattle.watch_text.specs.WellFormed.{Around}

-- what stands around statements
abbrev pub around_of : Nest → Around
around_of nest = record { in_lanes = nest.in_lanes; in_dims = nest.in_dims; room = nest.room }

-- a statement that is begun
abbrev pub opened_of : Begun → Opened
opened_of begun = record { opening = begun.opening; around = around_of begun.nest; earlier = map plain begun.stmts }

-- statements that are begun, the innermost first
abbrev pub all_begun : List Begun → List Opened
all_begun [] = []
all_begun (outer ∷ more) = all_begun more ++ opened_of outer ∷ []

-- how far the process is read
abbrev pub progress_of : SoFar → Progress
progress_of so_far = record { stage = so_far.stage; around = around_of so_far.nest; earlier = map plain so_far.stmts; begun = all_begun so_far.begun }
