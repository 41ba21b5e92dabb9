use Rattle.type_split.specs.Streams.{plain_split}
use Rattle.tydi_tool.proofs.vcd.vcd_of_port.Goals as goal

pub returns-in-Ok : goal.returns-in-Ok
returns-in-Ok g c = record { decided = c.vcd_with.ensures.decided c.args.scope.now (plain_split c.args.split.now) c.in-Ok.ensures }
