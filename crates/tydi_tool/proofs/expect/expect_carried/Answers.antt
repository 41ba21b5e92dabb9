use Rattle.std.proofs.Common.{◌≡◌, IfSome}
use Rattle.type_split.specs.Streams.{plain_split}
use Rattle.tydi_io.specs.Faults.{Rose}
use Rattle.tydi_tool.specs.Commands.{expected_ask}
use Rattle.tydi_tool.specs.Drives.{carried}
use Rattle.tydi_tool.proofs.AskLemmas.{DecidedBy-goes_on}
use Rattle.tydi_tool.proofs.expect.expect_carried.Goals as goal

pub returns-in-Ok : goal.returns-in-Ok
returns-in-Ok g c =
    let files = g.S.Store.files c.args.store.now in
    let started = g.S.Store.started c.expect_value.new.store in
    let split = plain_split c.args.split.now in
    record {
      decided = DecidedBy-goes_on {V = Unit {0}} files started (Rose (g.S.Store.faults c.args.store.now) (g.S.Store.faults c.expect_value.new.store))
          (IfSome files (λ known. started ≡ g.S.Store.started c.args.store.now)) (carried split)
          (λ done. expected_ask c.args.value.now split) tt c.expect_value.result c.in-Ok.ensures c.expect_value.ensures.decided;
    }
