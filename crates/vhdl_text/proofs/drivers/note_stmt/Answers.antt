use Rattle.vhdl_text.proofs.DriverLemmas.{drivers-no_put, drivers-stmt}
use Rattle.vhdl_text.proofs.drivers.note_stmt.Goals as goal

pub returns-in-Some : goal.returns-in-Some
returns-in-Some c = λ heads whole done are many may.
    drivers-stmt heads c.note.new.table.items whole done c.args.stmt.now c.in-Some.place c.in-Some.ensures may (λ bits within none. c.note.ensures heads whole done bits are many within none)

pub returns-in-None : goal.returns-in-None
returns-in-None c = λ heads whole done are many may. drivers-no_put heads c.args.table.now.items whole done c.args.stmt.now c.in-None.ensures are
