use Rattle.vcd_read.specs.Finding.{kept_by}
use Rattle.vcd_read.specs.History.{clock_in}
use Rattle.vcd_read.specs.Wanted.{codes_in, widths_in}
use Rattle.vcd_read.proofs.FindLemmas.{harness-found, harness-wrong}
use Rattle.vcd_read.proofs.finder.Finder.harness_with.Goals as goal

pub returns-in-Ok : goal.returns-in-Ok
returns-in-Ok c scope parts st has =
    let found = c.in-Ok.ensures scope parts st in
    harness-found (kept_by c.args.self) (widths_in parts) (codes_in scope parts) (clock_in scope parts) c.args.heads.now c.args.clock c.in-Ok.probes has
    found.0 found.1

pub returns-in-Err : goal.returns-in-Err
returns-in-Err c scope parts st has =
    harness-wrong (kept_by c.args.self) (widths_in parts) (codes_in scope parts) (clock_in scope parts) c.args.heads.now c.args.clock c.in-Err.fault has
    (c.in-Err.ensures scope parts st)
