use Rattle.std.proofs.Common.{List, Result, subst}
use Rattle.tydi_base.specs.Reading.{Gives}
use Rattle.type_split.specs.Streams.{plain_split}
use Rattle.handshake.specs.Rows.{StreamRun}
use Rattle.port_drive.specs.Starting.{runs_of_port}
use Rattle.port_gen.specs.Jobs.{NoJob, reason_in}
use Rattle.port_gen.proofs.StartLemmas.{resting-is}
use Rattle.port_gen.proofs.starting.resting_run.Goals as goal

pub returns-in-Ok-clause-runs : goal.returns-in-Ok-clause-runs
returns-in-Ok-clause-runs c =
    subst (λ (r : Result (List StreamRun) NoJob). Gives reason_in runs_of_port c.driven_at_rest.result r)
    (resting-is (plain_split c.args.split.now) c.args.seed c.args.count c.in-Ok.value c.in-Ok.ensures.value.0 c.in-Ok.ensures.value.1) c.driven_at_rest.ensures.runs
