use Rattle.elastic_net.proofs.FinishLemmas.{sinks_finish}
use Rattle.elastic_net.proofs.RunOfLemmas.{no_stages_are_runs}
use Rattle.elastic_net.proofs.SinkLemmas.{rows_are_cycles, sinks_are_ready, sinks_are_steady, sinks_deliver}
use Rattle.elastic_net.proofs.SoundLemmas.{acts_keep_sound}
use Rattle.elastic_net.proofs.StepLemmas.{orders_are_steps}
use Rattle.elastic_net.proofs.laws.chains_keep_their_laws.Goals as goal

pub returns : goal.returns
returns c = record {
  sound = acts_keep_sound;
  steps = orders_are_steps;
  run = no_stages_are_runs;
  deliver = sinks_deliver;
  steady = sinks_are_steady;
  ready = sinks_are_ready;
  rows = rows_are_cycles;
  finish = sinks_finish;
}
