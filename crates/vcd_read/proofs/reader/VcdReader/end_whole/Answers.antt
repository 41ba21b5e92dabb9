use Rattle.std.proofs.Common.{◌∷◌, [], ◌++◌, ◌+◌, List, ℕ, Option, length, sym, subst}
use Rattle.vcd_read.specs.Reader.{Reads, Stands}
use Rattle.vcd_read.specs.declared.parser.Stop.{Stop}
use Rattle.vcd_read.proofs.ReaderLemmas.{fails-blank, reads-blank, whole-word}
use Rattle.vcd_read.proofs.reader.VcdReader.end_whole.Goals as goal

pub returns-in-Ok : goal.returns-in-Ok
returns-in-Ok c wanted fed byte blank st =
    let old = c.args.self.now in
    let is : Reads wanted c.args.self.now.parser c.args.self.now.start c.args.self.now.begun fed = subst (λ (o : Option Stop). Stands wanted o
    c.args.self.now.parser c.args.self.now.start c.args.self.now.begun fed) c.requires.some st in
    let whole = whole-word wanted old.parser old.start old.begun fed c.args.word.now c.requires.none c.requires.plain is in
    let read = reads-blank wanted old.parser old.start c.args.word.now (fed ++ c.args.word.now) whole byte blank c.take_token.new.parser (c.in-Ok.ensures.takes
    wanted whole.reached whole.stands) c.in-Ok.ensures.block in
    let kept = subst (λ (l : List ℕ). Reads wanted c.take_token.new.parser (old.start + length c.args.word.now + 1) l (fed ++ c.args.word.now ++ byte ∷ []))
    (sym c.requires.none) read in
    subst (λ (o : Option Stop). Stands wanted o c.take_token.new.parser (old.start + length c.args.word.now + 1) old.begun (fed ++ c.args.word.now ++ byte
    ∷ [])) (sym c.requires.some) kept

pub returns-in-Err : goal.returns-in-Err
returns-in-Err c wanted fed byte blank st =
    let old = c.args.self.now in
    let is : Reads wanted c.args.self.now.parser c.args.self.now.start c.args.self.now.begun fed = subst (λ (o : Option Stop). Stands wanted o
    c.args.self.now.parser c.args.self.now.start c.args.self.now.begun fed) c.requires.some st in
    let whole = whole-word wanted old.parser old.start old.begun fed c.args.word.now c.requires.none c.requires.plain is in
    fails-blank wanted old.parser old.start c.args.word.now (fed ++ c.args.word.now) whole byte blank c.in-Err.stop c.take_token.new.parser
    (c.in-Err.ensures.takes wanted whole.reached whole.stands)
