use Rattle.std.specs.Option.{option_copied}
use Rattle.tydi_tool.proofs.TestLemmas.{got-none, got-some, tested-plain, untested-plain}
use Rattle.tydi_tool.proofs.declared_test.tested.Goals as goal

pub returns-in-Some : goal.returns-in-Some
returns-in-Some c =
    tested-plain c.args.project.now c.args.test.now c.in-Some.streamlet.now (option_copied c.port_named.result)
    (got-some c.as_slice.result.now c.args.project.now.streamlets c.args.test.now.streamlet c.get.result c.as_slice.ensures c.get.ensures.lookup.0 c.in-Some.streamlet c.in-Some.is c.get.ensures.lookup.1)
    c.port_named.ensures

pub returns-in-None : goal.returns-in-None
returns-in-None c =
    untested-plain c.args.project.now c.args.test.now
    (got-none c.as_slice.result.now c.args.project.now.streamlets c.args.test.now.streamlet c.get.result c.as_slice.ensures c.get.ensures.lookup.0 c.in-None.is)
