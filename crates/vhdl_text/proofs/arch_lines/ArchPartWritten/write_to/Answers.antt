use Rattle.vhdl_text.proofs.arch_lines.ArchPartWritten.write_to.Goals as goal

pub returns-clause-ok : goal.returns-clause-ok
returns-clause-ok c = rw (← c.as_slice.ensures) c.emit.ensures.ok
