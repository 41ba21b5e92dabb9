use Rattle.logical_value.proofs.NamingLemmas.{Counts}
use Rattle.logical_value.proofs.naming.number_between.Given as goal

-- the number so far is that of the bits from this place on
abbrev pub invariant-bits : goal.invariant-bits
invariant-bits l = Counts l.word l.from l.to l.at l.number

abbrev pub decreases-bits : goal.decreases-bits
decreases-bits l = l.at
