-- What a buffer keeps, and what a lane brings (this project's own).
use Rattle.std.specs.Prelude.{◌≡◌, ℕ, if◌then◌else◌, List, [], ◌∷◌}
use Rattle.std.specs.VecDeque.{deque_capacity}
use Rattle.physical_stream.specs.Params.{Parameters}
use Rattle.physical_stream.specs.Items.{is_active, lane_word}
use Rattle.physical_stream.specs.declared.item.Item.{Item}
use Rattle.physical_stream.specs.declared.item.Item.TheVariants.{Elem}
use Rattle.physical_stream.specs.declared.transfer.Transfer.{Transfer}
use Rattle.reshape.specs.declared.buffer.Buffer.{Buffer}

-- the stream and the room stay as they were
pub record KeepsRoom (old new : Buffer) : Type 0 where
  pub params : new.params ≡ old.params
  pub most : new.most ≡ old.most
  pub places : deque_capacity new.items ≡ deque_capacity old.items

-- the element of a lane, where it is active
abbrev pub lane_element : Parameters → Transfer → ℕ → List Item
lane_element p t lane = if is_active t lane then Elem (lane_word p t lane) ∷ [] else []
