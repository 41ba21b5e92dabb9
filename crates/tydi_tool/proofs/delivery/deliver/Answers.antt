use Rattle.std.proofs.Common.{inl}
use Rattle.tydi_tool.proofs.DeliveryLemmas.{Adds-none}
use Rattle.tydi_tool.proofs.delivery.deliver.Goals as goal

pub returns-in-Memory : goal.returns-in-Memory
returns-in-Memory g c = rw c.in-Memory.is (inl (record { out = Adds-none _; err = c.deliver_line-in-Memory.ensures }))
