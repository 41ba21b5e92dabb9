use Rattle.std.proofs.Common.{List, sym, subst}
use Rattle.vhdl_text.specs.declared.bench.Stmt.{Stmt}
use Rattle.vhdl_text.specs.Drivers.{AreDrivers}
use Rattle.vhdl_text.proofs.processes.Processes.add.Goals as goal

pub returns-clause-read : goal.returns-clause-read
returns-clause-read c = λ heads are room may.
    let procs = c.args.self.now.procs in
    let drivers = c.note_stmt.ensures heads procs c.args.self.now.stmts are.drivers (sym c.len.ensures) may in
    record {
      drivers = subst (λ (stmts : List Stmt). AreDrivers heads c.note_stmt.new.table.items procs stmts) (sym c.in_ok-push.ensures.ok) drivers;
      few = are.few;
      room = λ begun. room;
    }
