use Rattle.type_split.specs.Streams.{plain_split}
use Rattle.tydi_tool.specs.Drives.{carried}
use Rattle.tydi_tool.specs.Jobs.{TellsJob}
use Rattle.tydi_tool.proofs.AskLemmas.{Judges-refused, Judges-told}
use Rattle.tydi_tool.proofs.DecodeLemmas.{all-decodable}
use Rattle.tydi_tool.proofs.jobs.generate_carried.Goals as goal

pub generated-requires-clause-can : goal.generated-requires-clause-can
generated-requires-clause-can c = all-decodable (plain_split c.args.split.now) c.in-Ok.ensures c.requires.port

pub returns-in-Ok : goal.returns-in-Ok
returns-in-Ok c =
    Judges-told {V = Unit {0}} (carried (plain_split c.args.split.now)) (λ done. TellsJob (plain_split c.args.split.now) c.args.seed c.args.count) tt c.generated.result c.in-Ok.ensures c.generated.ensures

pub returns-in-Err : goal.returns-in-Err
returns-in-Err c =
    Judges-refused {V = Unit {0}} (carried (plain_split c.args.split.now)) (λ done. TellsJob (plain_split c.args.split.now) c.args.seed c.args.count) c.in-Err.reply c.in-Err.ensures
