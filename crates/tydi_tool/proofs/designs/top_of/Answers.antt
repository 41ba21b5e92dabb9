use Rattle.std.proofs.Common.{map, ap}
use Rattle.til_resolve.specs.PlainProject.{plain_project, plain_streamlet}
use Rattle.tydi_tool.proofs.DesignSteps.{top-by}
use Rattle.tydi_tool.proofs.designs.top_of.Goals as goal

pub returns-in-Some : goal.returns-in-Some
returns-in-Some c =
    top-by (plain_project c.args.project.now).streamlets (map plain_streamlet c.as_slice.result.now) c.args.top.now c.as_bytes.result.now c.in-Some.path c.read.result c.in_ok-read.field-0
    c.number_of.result (ap (map plain_streamlet) c.as_slice.ensures) c.as_bytes.ensures c.in_ok-read.was c.in-Some.is c.read.ensures c.number_of.ensures
