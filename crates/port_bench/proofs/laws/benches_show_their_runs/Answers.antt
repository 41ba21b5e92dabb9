use Rattle.port_bench.proofs.BytesLemmas.{benches-show-their-runs, driven-ports-have-benches}
use Rattle.port_bench.proofs.laws.benches_show_their_runs.Goals as goal

pub returns-clause-benches : goal.returns-clause-benches
returns-clause-benches c =
    driven-ports-have-benches (record {
      well = c.port_benches_keep_their_laws.ensures.well_formed;
      runs = c.port_benches_keep_their_laws.ensures.run;
      together = c.driven_texts_are_traces.ensures.heads;
      read = c.benches_are_read_as_printed.ensures.spelled;
    })

pub returns-clause-runs : goal.returns-clause-runs
returns-clause-runs c =
    benches-show-their-runs (record {
      well = c.port_benches_keep_their_laws.ensures.well_formed;
      runs = c.port_benches_keep_their_laws.ensures.run;
      together = c.driven_texts_are_traces.ensures.heads;
      read = c.benches_are_read_as_printed.ensures.spelled;
    })
