use Rattle.std.proofs.Common.{List, ℕ, Ok, sym, ap, ◌∙◌, subst}
use Rattle.std.proofs.lemmas.Result.{err_from_is_err_and}
use Rattle.vhdl_text.specs.Drivers.{AreDrivers}
use Rattle.vhdl_text.specs.Processes.{progress_of}
use Rattle.vhdl_text.specs.Reading.{with_read}
use Rattle.vhdl_text.proofs.DriverLemmas.{stmt_of-may_drive}
use Rattle.vhdl_text.proofs.TakingLemmas.{with_read-fails}
use Rattle.vhdl_text.proofs.processes.Processes.named.Goals as goal

pub returns-in_err-stmt-clause-gives : goal.returns-in_err-stmt-clause-gives
returns-in_err-stmt-clause-gives c =
    let now = c.args.self.now in
    let heads = c.args.streams.now.heads in
    let drivers = subst (λ (table : List ℕ). AreDrivers heads table now.procs now.stmts) (sym c.as_slice.ensures.value) c.requires.read.drivers in
    let p = err_from_is_err_and c.from_residual.result c.from_residual.ensures.1 in
    rw (p.1, p.2) (with_read-fails (progress_of now) _ c.in_err-stmt.field-0.0 (c.in_err-stmt.ensures now.procs now.stmts drivers (sym c.len.ensures)))

pub returns-clause-gives : goal.returns-clause-gives
returns-clause-gives c =
    let now = c.args.self.now in
    let heads = c.args.streams.now.heads in
    let drivers = subst (λ (table : List ℕ). AreDrivers heads table now.procs now.stmts) (sym c.as_slice.ensures.value) c.requires.read.drivers in
    ap (with_read (progress_of now)) (c.in_ok-stmt.ensures now.procs now.stmts drivers (sym c.len.ensures)) ∙ ap Ok (sym c.in_ok-add.ensures.gives)

pub returns-clause-read : goal.returns-clause-read
returns-clause-read c =
    let now = c.args.self.now in
    let heads = c.args.streams.now.heads in
    let drivers = subst (λ (table : List ℕ). AreDrivers heads table now.procs now.stmts) (sym c.as_slice.ensures.value) c.requires.read.drivers in
    c.in_ok-add.ensures.read heads c.requires.read c.requires.room
    (stmt_of-may_drive heads now.procs c.args.line.now c.in_ok-stmt.stmt (c.in_ok-stmt.ensures now.procs now.stmts drivers (sym c.len.ensures)))
