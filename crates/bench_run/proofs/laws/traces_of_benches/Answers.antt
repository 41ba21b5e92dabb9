use Rattle.bench_run.proofs.TraceLemmas.{benches-make-traces, texts-are-confluent}
use Rattle.bench_run.proofs.laws.traces_of_benches.Goals as goal

pub returns : goal.returns
returns c = record { traces = benches-make-traces; confluent = texts-are-confluent }
