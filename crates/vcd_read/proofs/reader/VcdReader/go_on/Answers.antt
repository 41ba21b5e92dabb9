use Rattle.vcd_read.proofs.ReaderLemmas.{stays-failed}
use Rattle.vcd_read.proofs.reader.VcdReader.go_on.Goals as goal

pub returns-in-Some : goal.returns-in-Some
returns-in-Some c wanted fed st =
    let old = c.args.self.now in stays-failed wanted old.stop old.parser old.start old.begun fed c.args.word.now _ c.in-Some.is st
