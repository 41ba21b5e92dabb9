use Rattle.cycle_trace.specs.TraceText.{trace_of}
use Rattle.tydi_tool.proofs.TraceFileLemmas.{HasTrace-finished, ReadsAs-finished}
use Rattle.tydi_tool.proofs.traces.TraceFileReaderSurvey.finish.Goals as goal

pub survey_of-requires : goal.survey_of-requires
survey_of-requires c = HasTrace-finished c.finish.result (trace_of c.requires.stands.0) (c.finish.ensures.finishes c.requires.stands.0 c.requires.stands.1)

pub returns : goal.returns
returns c = ReadsAs-finished c.args.self c.finish.result c.survey_of.result c.requires.stands c.finish.ensures.finishes c.survey_of.ensures
