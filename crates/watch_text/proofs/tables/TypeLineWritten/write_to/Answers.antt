use Rattle.watch_text.proofs.tables.TypeLineWritten.write_to.Goals as goal

pub returns-clause-ok : goal.returns-clause-ok
returns-clause-ok c = rw (← c.item_width-highest.ensures.width) c.emit.ensures.ok
