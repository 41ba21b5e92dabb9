use Rattle.til_resolve.specs.PlainProject.{plain_project}
use Rattle.tydi_tool.proofs.DesignSteps.{joined-as}
use Rattle.tydi_tool.proofs.designs.is_joined.Goals as goal

pub returns-in-Some : goal.returns-in-Some
returns-in-Some c =
    joined-as c.chains_end_in_one_sink.ensures.one (plain_project c.args.project.now).streamlets c.args.nets.now c.requires c.args.source.now c.in-Some.end c.args.sink.now
    c.is_same_leaf.result c.sink_of.result c.in_ok-sink_of.field-0 c.in_ok-sink_of.was c.in-Some.is c.sink_of.ensures c.is_same_leaf.ensures
