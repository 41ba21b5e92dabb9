use Rattle.std.proofs.Common.{◌≡◌}
use Rattle.vhdl_meaning.specs.Orders.{text_order}
use Rattle.vhdl_meaning.proofs.ordering.text_order.Given as goal

abbrev pub invariant-numbers : goal.invariant-numbers
invariant-numbers l = l.order ≡ text_order l.number
