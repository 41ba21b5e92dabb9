use Rattle.tydi_base.proofs.PieceLaws.{pieces_of-first, pieces_of-nowhere}
use Rattle.tydi_base.proofs.pieces.first_piece.Goals as goal

pub returns-in_err-at-clause-none : goal.returns-in_err-at-clause-none
returns-in_err-at-clause-none c = rw c.from_residual.ensures (pieces_of-nowhere c.args.separator c.args.text.now c.in_err-at.ensures)

pub returns-clause-some : goal.returns-clause-some
returns-clause-some c = pieces_of-first c.args.separator c.args.text.now c.in_ok-at.at c.in_ok-at.ensures.0 c.in_ok-at.ensures.1
