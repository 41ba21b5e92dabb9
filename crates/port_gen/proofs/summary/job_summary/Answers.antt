use Rattle.type_split.specs.Streams.{plain_split}
use Rattle.port_gen.specs.Jobs.{reason_in}
use Rattle.port_gen.proofs.SummaryLemmas.{summary-none}
use Rattle.port_gen.proofs.summary.job_summary.Goals as goal

pub returns-in-Err : goal.returns-in-Err
returns-in-Err c = summary-none (plain_split c.args.split.now) c.args.seed c.args.count (reason_in c.in-Err.fault) c.in-Err.ensures.job
