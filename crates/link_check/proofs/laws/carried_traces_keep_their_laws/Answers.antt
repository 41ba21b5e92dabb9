use Rattle.link_check.proofs.CarryLemmas.{endings_stay, streams_rise, streams_stay, traces_stand, traces_stay_legal}
use Rattle.link_check.proofs.laws.carried_traces_keep_their_laws.Goals as goal

pub returns-clause-stand : goal.returns-clause-stand
returns-clause-stand c = traces_stand

pub returns-clause-streams : goal.returns-clause-streams
returns-clause-streams c = streams_stay

pub returns-clause-rise : goal.returns-clause-rise
returns-clause-rise c = streams_rise

pub returns-clause-legal : goal.returns-clause-legal
returns-clause-legal c = traces_stay_legal

pub returns-clause-endings : goal.returns-clause-endings
returns-clause-endings c = endings_stay
