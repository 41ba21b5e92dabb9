use Rattle.trace_decode.proofs.DrivenLemmas.{driven_is_carried}
use Rattle.trace_decode.proofs.laws.driven_values_are_carried.Goals as goal

pub returns : goal.returns
returns c = driven_is_carried
