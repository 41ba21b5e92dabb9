use Rattle.tydi_base.proofs.PieceLaws.{join-pieces_of, pieces_of-each_lacks, pieces_of-join}
use Rattle.tydi_base.proofs.pieces.pieces_are_parts.Goals as goal

pub returns-clause-again : goal.returns-clause-again
returns-clause-again c = join-pieces_of

pub returns-clause-lack : goal.returns-clause-lack
returns-clause-lack c = pieces_of-each_lacks

pub returns-clause-apart : goal.returns-clause-apart
returns-clause-apart c = pieces_of-join
