use Rattle.port_gen.specs.Jobs.{reason_in}
use Rattle.port_gen.specs.Summaries.{summary_in}
use Rattle.type_split.specs.Streams.{plain_split}
use Rattle.tydi_tool.proofs.JobLemmas.{job-names, job-refused, job-told, summary-said}
use Rattle.tydi_tool.proofs.jobs.generated.Goals as goal

pub no_job-requires : goal.no_job-requires
no_job-requires c = job-names (plain_split c.args.split.now) c.args.seed c.args.count (reason_in c.in-Err.fault) c.in-Err.ensures

pub returns-in-Ok : goal.returns-in-Ok
returns-in-Ok c =
    job-told (plain_split c.args.split.now) c.args.seed c.args.count (summary_in c.in-Ok.summary) c.answered.result c.in-Ok.ensures
    (summary-said _ c.text_of_summary.result c.answered.result c.text_of_summary.ensures c.answered.ensures)

pub returns-in-Err : goal.returns-in-Err
returns-in-Err c =
    job-refused (plain_split c.args.split.now) c.args.seed c.args.count (reason_in c.in-Err.fault) c.no_job.result c.in-Err.ensures c.no_job.ensures
