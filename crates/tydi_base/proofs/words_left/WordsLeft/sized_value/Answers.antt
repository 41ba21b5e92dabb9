use Rattle.std.proofs.Common.{refl, ap}
use Rattle.tydi_base.specs.WordsLeft.{words_after, words_left}
use Rattle.tydi_base.proofs.SizedLemmas.{sized_cut, sized_other, sized_space}
use Rattle.tydi_base.proofs.words_left.WordsLeft.sized_value.Goals as goal

pub returns-in-Some : goal.returns-in-Some
returns-in-Some c =
    sized_cut c.args.key c.args.size _ c.in-Some.after.now (words_left c.args.self) c.cut.result c.if-key-eq-SPACE.false (ap words_after c.in-Some.ensures.1) refl c.cut.ensures

pub returns-then-key-eq-SPACE : goal.returns-then-key-eq-SPACE
returns-then-key-eq-SPACE c = rw c.if-key-eq-SPACE.true (sized_space c.args.size c.args.self.text.now)

pub returns-in-None : goal.returns-in-None
returns-in-None c = sized_other c.args.key c.args.size c.args.self.text.now c.in-None.ensures
