use Rattle.tydi_base.proofs.ColonLaws.{Searched}
use Rattle.tydi_base.proofs.path.first_colon_piece.Given as goal

abbrev pub invariant-loop-at : goal.invariant-loop-at
invariant-loop-at l = Searched l.text l.at
