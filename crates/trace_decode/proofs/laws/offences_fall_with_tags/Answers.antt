use Rattle.trace_decode.proofs.DrivenLemmas.{offences_fall_with_tags}
use Rattle.trace_decode.proofs.laws.offences_fall_with_tags.Goals as goal

pub returns : goal.returns
returns c = offences_fall_with_tags
