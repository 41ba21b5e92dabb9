-- What a reshaper stands for (this project's own).
use Rattle.std.specs.Prelude.{◌≡◌, Bool, List, ◌++◌, Option}
use Rattle.physical_stream.specs.Params.{Parameters}
use Rattle.physical_stream.specs.Items.{items_of_all}
use Rattle.physical_stream.specs.declared.item.Item.{Item}
use Rattle.physical_stream.specs.declared.transfer.Transfer.{Transfer}
use Rattle.reshape.specs.Reshaping.{is_due, offered}
use Rattle.reshape.specs.declared.reshaper.Reshaper.{Reshaper}

-- the near side and the far side
abbrev pub from_of : Reshaper → Parameters
from_of reshaper = reshaper.from

abbrev pub to_of : Reshaper → Parameters
to_of reshaper = reshaper.buffer.params

-- the items in the buffer
abbrev pub buffer_in : Reshaper → List Item
buffer_in reshaper = reshaper.buffer.items.items

-- its buffer is due
abbrev pub is_due_in : Reshaper → Bool
is_due_in reshaper = is_due (to_of reshaper) reshaper.ended (buffer_in reshaper)

-- the transfer that it offers
abbrev pub offered_by : Reshaper → Option Transfer
offered_by reshaper = offered (to_of reshaper) reshaper.ended (buffer_in reshaper)

-- it stands for items that went in and transfers that went out: the items of these, followed by the buffer, are the items that went in
pub record StandsFor (reshaper : Reshaper) (given : List Item) (out : List Transfer) : Type 0 where
  pub items : items_of_all (to_of reshaper) out ++ buffer_in reshaper ≡ given
