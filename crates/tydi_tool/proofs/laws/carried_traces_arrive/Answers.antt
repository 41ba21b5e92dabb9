use Rattle.tydi_tool.proofs.CarryLawLemmas.{levels-rise, written-arrives}
use Rattle.tydi_tool.proofs.laws.carried_traces_arrive.Goals as goal

pub returns-clause-written : goal.returns-clause-written
returns-clause-written c =
    written-arrives c.traces_are_read_as_spelled.ensures.spelled c.traces_are_read_as_spelled.ensures.read c.driven_texts_are_traces.ensures.form
    c.traces_arrive_whole.ensures

pub returns-clause-levels : goal.returns-clause-levels
returns-clause-levels c = levels-rise c.compatible_ports_carry.ensures.ports
