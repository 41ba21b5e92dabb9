-- How many transfers and packets a stream has done (this project's own).
use Rattle.std.specs.Prelude.{ℕ, ◌+◌, Bool, ◌==◌, List, length, count_by}
use Rattle.physical_stream.specs.Params.{Parameters}
use Rattle.physical_stream.specs.Cycles.{Cycle, done_of, items_done}
use Rattle.physical_stream.specs.declared.item.Item.{Item}
use Rattle.physical_stream.specs.declared.item.Item.TheVariants as items

-- the item ends a packet: the close of the outermost sequence, or an element where there are no dimensions
abbrev pub ends_packet : ℕ → Item → Bool
ends_packet dims (items.Elem word) = dims == 0
ends_packet dims (items.Close dim) = dim + 1 == dims

abbrev pub transfers_of : List Cycle → ℕ
transfers_of cycles = length (done_of cycles)

abbrev pub packets_of : Parameters → List Cycle → ℕ
packets_of p cycles = count_by (ends_packet p.dims) (items_done p cycles)
