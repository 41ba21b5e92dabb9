use Rattle.std.proofs.Common.{◌++◌, List, ℕ, Option, sym, subst}
use Rattle.vcd_read.specs.Reader.{Reads, Stands}
use Rattle.vcd_read.specs.declared.parser.Stop.{Stop}
use Rattle.vcd_read.proofs.ReaderLemmas.{reads-word}
use Rattle.vcd_read.proofs.reader.VcdReader.go_on_next.Goals as goal

pub returns-in-Ok : goal.returns-in-Ok
returns-in-Ok c wanted fed st =
    let old = c.args.self.now in
    let is : Reads wanted c.args.self.now.parser c.args.self.now.start c.args.self.now.begun fed = subst (λ (o : Option Stop). Stands wanted o
    c.args.self.now.parser c.args.self.now.start c.args.self.now.begun fed) c.requires.some st in
    let more = subst (λ (b : List ℕ). Reads wanted old.parser old.start b (fed ++ c.args.word.now)) (sym c.in-Ok.ensures.ok)
    (reads-word wanted old.parser old.start old.begun fed c.args.word.now c.requires.plain is) in
    subst (λ (o : Option Stop). Stands wanted o old.parser old.start c.extend_from_slice.new.self (fed ++ c.args.word.now)) (sym c.requires.some) more
