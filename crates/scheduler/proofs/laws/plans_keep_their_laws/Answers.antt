use Rattle.scheduler.proofs.laws.plans_keep_their_laws.Goals as goal
use Rattle.scheduler.proofs.LawLemmas.{one_is_planned, planned_runs_are_legal, planned_are_shown}

pub returns-clause-planned : goal.returns-clause-planned
returns-clause-planned c = one_is_planned

pub returns-clause-legal : goal.returns-clause-legal
returns-clause-legal c = planned_runs_are_legal

pub returns-clause-shown : goal.returns-clause-shown
returns-clause-shown c = planned_are_shown
