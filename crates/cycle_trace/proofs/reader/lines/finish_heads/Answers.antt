use Rattle.cycle_trace.proofs.BeginningLemmas.{heads-stand}
use Rattle.cycle_trace.proofs.reader.lines.finish_heads.Goals as goal

pub start_rows-requires-clause-streams : goal.start_rows-requires-clause-streams
start_rows-requires-clause-streams g c =
    heads-stand c.requires.opens.0 c.args.line.now c.requires.plain c.args.text.version c.args.text.cycles c.args.text.heads c.args.text.paths c.requires.opens.1 c.in_ok-end_of_header.ensures.other
