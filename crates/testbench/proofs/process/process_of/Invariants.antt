use Rattle.std.proofs.Common.{◌≡◌, ◌++◌, take, drop}
use Rattle.physical_stream.specs.Items.{items_of_all}
use Rattle.physical_stream.specs.Shape.{tail_of}
use Rattle.testbench.specs.Driving.{process_from}
use Rattle.testbench.proofs.process.process_of.Given as goal

-- the statements that are made and those of the transfers that are left are all
abbrev pub invariant-transfers : goal.invariant-transfers
invariant-transfers l = record {
  all : l.process ++ process_from l.p l.stream l.transfers l.gaps l.number (drop l.number l.transfers) ≡ process_from l.p l.stream l.transfers l.gaps 0 l.transfers;
  tail : l.tail ≡ tail_of (items_of_all l.p (take l.number l.transfers));
}
