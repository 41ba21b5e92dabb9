use Rattle.handshake.proofs.BoundLemmas.{runs_finish}
use Rattle.handshake.proofs.OneRunLemmas.{run_is, run_once}
use Rattle.handshake.proofs.RunLemmas.{runs_are_legal, runs_end_whole}
use Rattle.handshake.proofs.laws.runs_keep_their_laws.Goals as goal

pub returns-clause-one : goal.returns-clause-one
returns-clause-one c = λ p ts gaps ready. (run_is p ts gaps ready, run_once p ts gaps ready)

pub returns-clause-legal : goal.returns-clause-legal
returns-clause-legal c = runs_are_legal

pub returns-clause-whole : goal.returns-clause-whole
returns-clause-whole c = runs_end_whole

pub returns-clause-finish : goal.returns-clause-finish
returns-clause-finish c = runs_finish
