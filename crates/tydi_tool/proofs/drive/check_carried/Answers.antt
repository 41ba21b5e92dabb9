use Rattle.type_split.specs.Streams.{plain_split}
use Rattle.tydi_tool.proofs.DriveLemmas.{all-carried, not-carried}
use Rattle.tydi_tool.proofs.drive.check_carried.Goals as goal

pub returns-in-Some : goal.returns-in-Some
returns-in-Some c = not-carried (plain_split c.args.split.now) c.in-Some.path.now c.refused.result c.in-Some.ensures c.refused.ensures

pub returns-in-None : goal.returns-in-None
returns-in-None c = all-carried (plain_split c.args.split.now) c.in-None.ensures
