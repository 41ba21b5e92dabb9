-- The state that a reshaper keeps (this project's own).
use Rattle.std.specs.Prelude.{◌≡◌, ℕ, ◌+◌, ◌*◌, ◌≤◌, Bool, true, ◌&&◌, if◌then◌else◌, List, length}
use Rattle.std.specs.VecDeque.{deque_capacity}
use Rattle.physical_stream.specs.Params.{Parameters}
use Rattle.physical_stream.specs.Signals.{Fits, zero_transfer}
use Rattle.physical_stream.specs.declared.item.Item.{Item}
use Rattle.physical_stream.specs.declared.transfer.Transfer.{Transfer}
use Rattle.reshape.specs.Fronts.{IsFront}
use Rattle.reshape.specs.Held.{held_in}
use Rattle.reshape.specs.Reshaping.{behind_front, front_of, is_due}
use Rattle.reshape.specs.declared.buffer.Buffer.{Buffer}
use Rattle.reshape.specs.declared.front.Front.{Front}

-- the most items that a buffer has: a front that is not due, and the items of one transfer of the source
abbrev pub most_items : Parameters → Parameters → ℕ
most_items from to = to.lanes + to.dims + from.lanes * (1 + to.dims)

-- the two sides carry the same items, there is room for the most of them, and what is known of the front is so
pub record Keeps (from : Parameters) (buffer : Buffer) (front : Front) (blank offered : Transfer) (due ended : Bool) : Type 0 where
  pub dims : from.dims ≡ buffer.params.dims
  pub element : from.element ≡ buffer.params.element
  pub some : 1 ≤ buffer.params.lanes
  pub most : buffer.most ≡ from.lanes + buffer.params.lanes
  pub places : most_items from buffer.params ≤ deque_capacity buffer.items
  pub reach : IsFront buffer.params buffer.items.items front
  pub clear : blank ≡ zero_transfer buffer.params
  pub room : Fits buffer.params offered
  pub asks : due ≡ is_due buffer.params ended buffer.items.items
  pub shows : due ≡ true → offered ≡ front_of buffer.params buffer.items.items

-- there are few elements, and few Closes behind them: there is room for another transfer
pub record HasRoom (p : Parameters) (items : List Item) : Type 0 where
  pub held : held_in items ≤ p.lanes
  pub many : length items ≤ p.lanes + p.dims

-- the items that stay in a buffer where its front was taken or not
abbrev pub items_left : Parameters → (due taken : Bool) → List Item → List Item
items_left to due taken buffer = if due && taken then behind_front to buffer else buffer
