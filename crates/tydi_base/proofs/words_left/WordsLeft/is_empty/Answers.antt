use Rattle.tydi_base.proofs.SizedLemmas.{words_after-empty}
use Rattle.tydi_base.proofs.words_left.WordsLeft.is_empty.Goals as goal

pub returns : goal.returns
returns c = words_after-empty c.args.self.text.now c.is_empty.result c.is_empty.ensures
