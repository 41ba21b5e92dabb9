use Rattle.port_gen.proofs.LawLemmas.{jobs-are-carried}
use Rattle.port_gen.proofs.laws.jobs_are_carried.Goals as goal

pub returns : goal.returns
returns c = jobs-are-carried
