use Rattle.std.proofs.Common.{◌∷◌, [], ◌++◌}
use Rattle.vcd_read.proofs.ReaderLemmas.{stays-failed}
use Rattle.vcd_read.proofs.reader.VcdReader.end_word.Goals as goal

pub returns-in-Some : goal.returns-in-Some
returns-in-Some c wanted fed byte blank st =
    let old = c.args.self.now in
    stays-failed wanted old.stop old.parser old.start old.begun (fed ++ c.args.word.now) (byte ∷ []) _ c.in-Some.is
    (stays-failed wanted old.stop old.parser old.start old.begun fed c.args.word.now _ c.in-Some.is st)
