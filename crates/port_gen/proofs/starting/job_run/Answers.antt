use Rattle.std.proofs.Common.{◌∙◌, refl}
use Rattle.type_split.specs.Streams.{plain_split}
use Rattle.port_drive.specs.Starting.{runs_of_port}
use Rattle.port_gen.proofs.StartLemmas.{job-made, rest-greatest, too-many-cycles}
use Rattle.port_gen.proofs.starting.job_run.Goals as goal

pub returns-then-most-gt-MOST_CYCLES-clause-job : goal.returns-then-most-gt-MOST_CYCLES-clause-job
returns-then-most-gt-MOST_CYCLES-clause-job c =
    too-many-cycles (plain_split c.args.split.now) c.args.seed c.args.count (runs_of_port c.in_ok-resting.resting) c.in_ok-resting.ensures.runs c.most_left-most.result
    (c.most_left-most.ensures ∙ rest-greatest c.in_ok-resting.resting c.in_ok-resting.ensures.start c.in_ok-resting.resting.at) c.if-most-gt-MOST_CYCLES.true

pub returns-clause-job : goal.returns-clause-job
returns-clause-job c =
    job-made (plain_split c.args.split.now) c.args.seed c.args.count (runs_of_port c.in_ok-resting.resting) c.in_ok-resting.ensures.runs c.most_left-most.result
    (c.most_left-most.ensures ∙ rest-greatest c.in_ok-resting.resting c.in_ok-resting.ensures.start c.in_ok-resting.resting.at) c.if-most-gt-MOST_CYCLES.false
    c.most_left-most.result (runs_of_port c.in_ok-run.run') refl c.in_ok-run.ensures.runs
