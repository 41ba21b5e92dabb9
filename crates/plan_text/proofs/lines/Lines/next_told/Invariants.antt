use Rattle.std.proofs.Common.{◌≡◌, length}
use Rattle.plan_text.specs.Lines.{told}
use Rattle.plan_text.proofs.lines.Lines.next_told.Given as goal

-- the lines that are left say what all did
abbrev pub invariant-lines : goal.invariant-lines
invariant-lines l = told l.self ≡ told l.initial.self

abbrev pub decreases-lines : goal.decreases-lines
decreases-lines l = length l.self
