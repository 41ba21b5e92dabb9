use Rattle.std.proofs.Common.{◌≡◌, ◌-◌, length}
use Rattle.vhdl_meaning.specs.RunText.{orders_in}
use Rattle.vhdl_meaning.proofs.run_filling.fill_orders.Given as goal

-- the orders so far lack the orders that those at the start lacked
abbrev pub invariant-cycles : goal.invariant-cycles
invariant-cycles l = orders_in l.cycles l.count l.all ≡ orders_in l.cycles l.count l.initial.all

abbrev pub decreases-cycles : goal.decreases-cycles
decreases-cycles l = l.cycles - length l.all
