use Rattle.std.proofs.Common.{Option, subst}
use Rattle.vcd_read.specs.Reader.{Stands}
use Rattle.vcd_read.specs.declared.parser.Stop.{Stop}
use Rattle.vcd_read.proofs.ReaderLemmas.{fails-by, stop-told}
use Rattle.vcd_read.proofs.reader.VcdReader.finish.Goals as goal

pub returns-in-Some : goal.returns-in-Some
returns-in-Some c wanted fed st =
    let old = c.args.self in
    stop-told wanted fed c.in-Some.stop c.fault_of.result c.fault_of.ensures
    (fails-by fed c.in-Some.stop (subst (λ (o : Option Stop). Stands wanted o old.parser old.start old.begun fed) c.in-Some.is st))
