-- The changes that a transfer makes when it is done (this project's own).
use Rattle.std.specs.Prelude.{◌≡◌, ℕ, ◌*◌, List, Option, count_by}
use Rattle.physical_stream.specs.Counts.{ends_packet}
use Rattle.physical_stream.specs.Shape.{tail_over}
use Rattle.physical_stream.specs.declared.item.Item.{Item}
use Rattle.physical_stream.specs.declared.item.Tail.{Tail}
use Rattle.complexity_rules.specs.declared.effect.Effect.{Effect}

-- the most packets that the items of a lane end: its element, and a Close of each of 32 dimensions
abbrev pub most_of_lane : ℕ
most_of_lane = 33

-- the most packets that a transfer ends, of 128 lanes
abbrev pub most_packets : ℕ
most_packets = 128 * most_of_lane

-- after items with this tail, these items leave the tail and end the packets that the effect says
pub record IsEffect (dims : ℕ) (begins : Option Tail) (over : List Item) (effect : Effect) : Type 0 where
  pub last : effect.tail ≡ tail_over begins over
  pub packets : effect.packets ≡ count_by (ends_packet dims) over
