-- The text of a net (this project's own): the line `tydi-net 1`; for any streams, each once, a line `stages PATH` with the capacities of
-- the stages of that stream; and then, for the first cycles, a line `order` each with the numbers of all components. Words have one space
-- between each two, and each line ends with its LF. A text has the fault of its first line that has one.
use Rattle.std.specs.Prelude.{ℕ, Bool, ◌&&◌, nat_le, nat_lt, nat_eq, if◌then◌else◌, List, [], ◌∷◌, ◌++◌, length, map, drop, get_or, replicate, slice_set, Option, Some, None, Result, Ok, Err, option_map, codes}
use Rattle.std.specs.List.{list_all, starts_with}
use Rattle.std.specs.Str.{bytes_eq}
use Rattle.tydi_base.specs.Decimal.{is_decimal, read_on}
use Rattle.tydi_base.specs.Path.{path_of}
use Rattle.tydi_base.specs.Pieces.{words_of}
use Rattle.tydi_base.specs.Places.{start}
use Rattle.tydi_base.specs.Reading.{◌>>=◌, or_fault}
use Rattle.tydi_base.specs.declared.place.Place.{Place}
use Rattle.type_split.specs.declared.split.Phys.{Phys}
use Rattle.plan_text.specs.Blocks.{find_stream, is_empty}
use Rattle.net_text.specs.declared.net.NetPlan.{NetPlan}
use Rattle.net_text.specs.declared.net.NetFault.{NetFault}
use Rattle.net_text.specs.declared.net.NetFault.TheVariants.{Syntax, UnknownStream, StreamTwice, CapacityRange, TooManyStages, NotOrder, TooManyOrders}
use Rattle.net_text.specs.Lines.{TextLine, lines_in}
use Rattle.net_text.specs.Orders.{components_in, order_with}

-- ---- a line `stages`

-- the most transfers that a stage holds
abbrev pub most_capacity : ℕ
most_capacity = 64

-- the most stages of a stream
abbrev pub most_stages : ℕ
most_stages = 16

abbrev pub is_capacity : ℕ → Bool
is_capacity number = nat_le 1 number && nat_le number most_capacity

-- these numbers, where each of them is a capacity
abbrev pub capacities_with : List ℕ → Option (List ℕ)
capacities_with numbers = if list_all is_capacity numbers then Some numbers else None

-- the number of the first stream of this path
abbrev pub number_of : List (List ℕ) → List Phys → Option ℕ
number_of path streams = option_map (λ stream. stream.0) (find_stream path 0 streams)

-- numbers without leading zeros, one at least
abbrev pub are_numbers : List (List ℕ) → Bool
are_numbers words = nat_lt 0 (length words) && list_all is_decimal words

-- the stream and the words of capacities of a line `stages` with these words: a path and numbers
unfoldable pub stages_line : Place → List Phys → List (List ℕ) → Result (ℕ × List (List ℕ)) NetFault
stages_line place streams [] = Err (Syntax place)
stages_line place streams (word ∷ words) =
    if are_numbers words
    then (or_fault (Syntax place) (path_of word) >>= λ path. or_fault (UnknownStream place) (number_of path streams) >>= λ number. Ok (number, words))
    else Err (Syntax place)

-- the capacities that these words spell
unfoldable pub capacities_of : Place → List (List ℕ) → Result (List ℕ) NetFault
capacities_of place words =
    or_fault (CapacityRange place) (capacities_with (map (read_on 0) words)) >>= λ capacities. if nat_le (length capacities) most_stages then Ok capacities else Err (TooManyStages place)

-- the net with the stages of one stream more, where it has no line yet: each line gives a stage at least
unfoldable pub with_capacities : Place → ℕ → List (List ℕ) → NetPlan → Result NetPlan NetFault
with_capacities place number words net =
    if is_empty (get_or net.stages number [])
    then (capacities_of place words >>= λ capacities. Ok (record { stages = slice_set net.stages number capacities; orders = net.orders }))
    else Err (StreamTwice place)

-- the net with a line `stages` with this text more, which stands before all orders
unfoldable pub with_stages : Place → List Phys → List ℕ → NetPlan → Result NetPlan NetFault
with_stages place streams text net =
    if is_empty net.orders then (stages_line place streams (words_of text) >>= λ found. with_capacities place found.0 found.1 net) else Err (Syntax place)

-- ---- a line `order`

-- the order of so many components that these words spell
unfoldable pub order_of_words : Place → ℕ → List (List ℕ) → Result (List ℕ) NetFault
order_of_words place count words = if list_all is_decimal words then or_fault (NotOrder place) (order_with count (map (read_on 0) words)) else Err (Syntax place)

-- the order that a line spells; a line `order` without numbers spells none
unfoldable pub order_of : Place → ℕ → List ℕ → Result (List ℕ) NetFault
order_of place count line =
    if bytes_eq line (codes "order") then Err (NotOrder place)
    else (if starts_with nat_eq line (codes "order ") then order_of_words place count (words_of (drop 6 line)) else Err (Syntax place))

-- the net with the order of one cycle more
unfoldable pub with_order : Place → ℕ → List ℕ → NetPlan → Result NetPlan NetFault
with_order place cycles line net =
    order_of place (components_in net.stages) line >>= λ order.
    if nat_lt (length net.orders) cycles then Ok (record { stages = net.stages; orders = net.orders ++ order ∷ [] }) else Err (TooManyOrders place)

-- ---- a text

-- the net with one line more, for these streams in so many cycles
unfoldable pub with_more : ℕ → List Phys → TextLine → NetPlan → Result NetPlan NetFault
with_more cycles streams line net =
    if line.ended
    then (if starts_with nat_eq line.bytes (codes "stages ") then with_stages line.place streams (drop 7 line.bytes) net else with_order line.place cycles line.bytes net)
    else Err (Syntax line.place)

-- the net with these lines more
abbrev pub net_with : ℕ → List Phys → NetPlan → List TextLine → Result NetPlan NetFault
net_with cycles streams net [] = Ok net
net_with cycles streams net (line ∷ lines) = with_more cycles streams line net >>= λ more. net_with cycles streams more lines

-- no stages and no orders, for so many streams
abbrev pub no_net : ℕ → NetPlan
no_net streams = record { stages = replicate streams []; orders = [] }

-- the lines after the first, which is `tydi-net 1`; an empty text ends early, at its start
unfoldable pub after_title : List TextLine → Result (List TextLine) NetFault
after_title [] = Err (Syntax start)
after_title (line ∷ lines) = if line.ended && bytes_eq line.bytes (codes "tydi-net 1") then Ok lines else Err (Syntax line.place)

-- the net that lines spell for these streams in so many cycles
unfoldable pub net_in_lines : List Phys → ℕ → List TextLine → Result NetPlan NetFault
net_in_lines streams cycles lines = after_title lines >>= λ more. net_with cycles streams (no_net (length streams)) more

-- the net that a text spells for these streams in so many cycles, or its first fault
abbrev pub net_of : List Phys → ℕ → List ℕ → Result NetPlan NetFault
net_of streams cycles text = net_in_lines streams cycles (lines_in text)
