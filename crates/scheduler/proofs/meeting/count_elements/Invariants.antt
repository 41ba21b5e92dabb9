use Rattle.scheduler.specs.Meeting.{AreCounted}
use Rattle.scheduler.proofs.meeting.count_elements.Given as goal

-- all so far are elements
abbrev pub invariant-elements : goal.invariant-elements
invariant-elements l = AreCounted l.items l.place l.count
