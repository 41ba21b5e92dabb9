use Rattle.link_check.proofs.ChainLemmas.{chains_end_in_one_sink, chains_meet_no_port_twice}
use Rattle.link_check.proofs.EndingLemmas.{chains_end}
use Rattle.link_check.proofs.laws.chains_end_in_one_sink.Goals as goal

pub returns-clause-one : goal.returns-clause-one
returns-clause-one c = chains_end_in_one_sink

pub returns-clause-once : goal.returns-clause-once
returns-clause-once c = chains_meet_no_port_twice

pub returns-clause-some : goal.returns-clause-some
returns-clause-some c = chains_end
