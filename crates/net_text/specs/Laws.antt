-- The limits that a net keeps which a text spells (this project's own).
use Rattle.std.specs.Prelude.{◌≡◌, ℕ, ◌≤◌, List, length, All, Ok, Err}
use Rattle.type_split.specs.declared.split.Phys.{Phys}
use Rattle.net_text.specs.declared.net.NetPlan.{NetPlan}
use Rattle.net_text.specs.declared.net.NetFault.TheVariants as faults
use Rattle.net_text.specs.Orders.{IsOrder, components_in, order_in}
use Rattle.net_text.specs.Text.{most_capacity, most_stages, net_of}

-- the stages of a stream: a few, each of which holds a transfer at least
pub record AreStages (stages : List ℕ) : Type 0 where
  pub few : length stages ≤ most_stages
  pub capacities : All (λ capacity. (1 ≤ capacity) × (capacity ≤ most_capacity)) stages

-- a net of so many streams and cycles: it has the stages of each stream, and at most an order of all components for each cycle
pub record FitsNet (streams cycles : ℕ) (net : NetPlan) : Type 0 where
  pub streams_are : length net.stages ≡ streams
  pub stages : All AreStages net.stages
  pub few : length net.orders ≤ cycles
  pub orders : All (IsOrder (components_in net.stages)) net.orders

-- the net that a text spells fits its streams and cycles
abbrev pub NetsFit : Type 0
NetsFit = (streams : List Phys) (cycles : ℕ) (text : List ℕ) (net : NetPlan) → net_of streams cycles text ≡ Ok net → FitsNet (length streams) cycles net

-- each cycle of such a net has an order of all components, also one past the orders that the text gives
abbrev pub CyclesHaveOrders : Type 0
CyclesHaveOrders = (streams cycles cycle : ℕ) (net : NetPlan) → FitsNet streams cycles net → IsOrder (components_in net.stages) (order_in (components_in net.stages) net.orders cycle)

-- no text has want of memory as its fault
abbrev pub NetsNeedNoMemory : Type 0
NetsNeedNoMemory = (streams : List Phys) (cycles : ℕ) (text : List ℕ) → net_of streams cycles text ≡ Err faults.Memory → ⊥
