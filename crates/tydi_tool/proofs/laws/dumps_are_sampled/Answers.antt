use Rattle.tydi_tool.proofs.DumpLawLemmas.{shown-written, written-shown}
use Rattle.tydi_tool.proofs.laws.dumps_are_sampled.Goals as goal

pub returns-clause-written : goal.returns-clause-written
returns-clause-written c =
    written-shown c.traces_are_read_as_spelled.ensures.spelled c.driven_texts_are_traces.ensures.form c.driven_texts_are_traces.ensures.heads
    c.dumps_show_traces.ensures

pub returns-clause-shown : goal.returns-clause-shown
returns-clause-shown c = λ known project port scope file split t all. shown-written known project port scope file split t all
