use Rattle.logical_value.proofs.PackingLemmas.{length-pack_of}
use Rattle.logical_value.proofs.laws.packed_words_have_their_width.Goals as goal

pub returns : goal.returns
returns c = length-pack_of
