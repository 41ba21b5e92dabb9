use Rattle.reshape_laws.proofs.DueLemmas.{due_fronts_stay}
use Rattle.reshape_laws.proofs.FinishLemmas.{reshaping_finishes}
use Rattle.reshape_laws.proofs.LegalLemmas.{reshaping_is_legal}
use Rattle.reshape_laws.proofs.OneLemmas.{one_reshaping_is}
use Rattle.reshape_laws.proofs.laws.reshaping_keeps_its_laws.Goals as goal

pub returns-clause-one : goal.returns-clause-one
returns-clause-one c = one_reshaping_is

pub returns-clause-front : goal.returns-clause-front
returns-clause-front c = due_fronts_stay

pub returns-clause-legal : goal.returns-clause-legal
returns-clause-legal c = reshaping_is_legal

pub returns-clause-finish : goal.returns-clause-finish
returns-clause-finish c = reshaping_finishes
