use Rattle.std.proofs.Common.{◌≡◌, length}
use Rattle.logical_value.specs.Tree.{plain_port}
use Rattle.type_split.specs.Streams.{plain_split}
use Rattle.port_elastic.proofs.ChainLemmas.{AreBegun}
use Rattle.port_elastic.proofs.chains.elastic_run.Given as goal

abbrev pub invariant-plans : goal.invariant-plans
invariant-plans l = record {
  number : l.number ≡ length l.yielded;
  begun : AreBegun (plain_split l.split) (plain_port l.value) l.cycles l.fn.plan.streams l.stages l.number l.chains l.ready;
}
