use Rattle.std.proofs.Common.{◌≡◌, IfSome}
use Rattle.til_resolve.specs.PlainProject.{plain_project}
use Rattle.type_split.specs.Streams.{PlainSplit, plain_split}
use Rattle.tydi_io.specs.Faults.{Rose}
use Rattle.tydi_tool.specs.Ask.{goes_on}
use Rattle.tydi_tool.specs.Commands.{expected_ask}
use Rattle.tydi_tool.specs.Drives.{carried}
use Rattle.tydi_tool.specs.Ports.{split_at}
use Rattle.tydi_tool.proofs.AskLemmas.{DecidedBy-goes_on}
use Rattle.tydi_tool.proofs.expect.expect_named.Goals as goal

pub returns-in-Ok : goal.returns-in-Ok
returns-in-Ok g c =
    let files = g.S.Store.files c.args.store.now in
    let started = g.S.Store.started c.expect_carried.new.store in
    record {
      decided = DecidedBy-goes_on {V = PlainSplit} files started (Rose (g.S.Store.faults c.args.store.now) (g.S.Store.faults c.expect_carried.new.store))
          (IfSome files (λ known. started ≡ g.S.Store.started c.args.store.now)) (split_at (plain_project c.args.project.now) c.args.port.now)
          (λ split. goes_on (carried split) (λ done. expected_ask c.args.value.now split)) (plain_split c.in-Ok.split) c.expect_carried.result
          c.in-Ok.ensures.split c.expect_carried.ensures.decided;
    }
