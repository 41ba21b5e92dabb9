use Rattle.type_split.specs.Streams.{plain_split}
use Rattle.tydi_io.specs.Faults.{Rose}
use Rattle.tydi_tool.specs.Words.{text_file}
use Rattle.tydi_tool.proofs.TextLemmas.{asked-value}
use Rattle.tydi_tool.proofs.drive.ask_value.Goals as goal

pub returns-clause-fits : goal.returns-clause-fits
returns-clause-fits g c =
    asked-value (g.S.Store.files c.args.store.now) (text_file c.args.value.now) c.args.value.now (plain_split c.args.split.now) (g.S.Store.started c.args.store.now) (g.S.Store.started c.ask_text.new.store)
    (Rose (g.S.Store.faults c.args.store.now) (g.S.Store.faults c.ask_text.new.store)) c.ask_text.result c.ask_text.ensures.asked
