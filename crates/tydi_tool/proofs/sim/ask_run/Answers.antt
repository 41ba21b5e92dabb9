use Rattle.tydi_io.specs.Faults.{Rose}
use Rattle.tydi_tool.specs.Words.{text_file}
use Rattle.tydi_tool.proofs.BenchLemmas.{asked-run}
use Rattle.tydi_tool.proofs.sim.ask_run.Goals as goal

pub returns-clause-fits : goal.returns-clause-fits
returns-clause-fits g c =
    asked-run (g.S.Store.files c.args.store.now) (text_file c.args.run.now) c.args.run.now c.args.bench.now (g.S.Store.started c.args.store.now) (g.S.Store.started c.ask_text.new.store)
    (Rose (g.S.Store.faults c.args.store.now) (g.S.Store.faults c.ask_text.new.store)) c.ask_text.result c.ask_text.ensures.asked
