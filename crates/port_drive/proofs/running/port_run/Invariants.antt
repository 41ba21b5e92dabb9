use Rattle.std.proofs.Common.{◌≡◌, length}
use Rattle.logical_value.specs.Tree.{plain_port}
use Rattle.type_split.specs.Streams.{plain_split}
use Rattle.port_drive.proofs.RunLemmas.{AreBegun}
use Rattle.port_drive.proofs.running.port_run.Given as goal

abbrev pub invariant-plans : goal.invariant-plans
invariant-plans l = record {
  number : l.number ≡ length l.yielded;
  begun : AreBegun (plain_split l.split) (plain_port l.value) l.cycles l.fn.plan.streams l.number l.cursors l.ready;
}
