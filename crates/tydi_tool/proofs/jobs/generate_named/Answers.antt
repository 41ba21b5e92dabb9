use Rattle.til_resolve.specs.PlainProject.{plain_project}
use Rattle.type_split.specs.Streams.{PlainSplit, plain_split}
use Rattle.tydi_tool.specs.Ask.{TellsOf}
use Rattle.tydi_tool.specs.Drives.{carried}
use Rattle.tydi_tool.specs.Jobs.{TellsJob}
use Rattle.tydi_tool.specs.Ports.{split_at}
use Rattle.tydi_tool.proofs.AskLemmas.{Judges-refused, Judges-told}
use Rattle.tydi_tool.proofs.jobs.generate_named.Goals as goal

pub returns-in-Ok : goal.returns-in-Ok
returns-in-Ok c =
    Judges-told {V = PlainSplit} (split_at (plain_project c.args.project.now) c.args.port.now) (λ split. TellsOf (carried split) (λ done. TellsJob split c.args.seed c.args.count)) (plain_split c.in-Ok.split)
    c.generate_carried.result c.in-Ok.ensures.split c.generate_carried.ensures

pub returns-in-Err : goal.returns-in-Err
returns-in-Err c =
    Judges-refused {V = PlainSplit} (split_at (plain_project c.args.project.now) c.args.port.now) (λ split. TellsOf (carried split) (λ done. TellsJob split c.args.seed c.args.count)) c.in-Err.reply
    c.in-Err.ensures.split
