-- The text of a run (this project's own): the line `tydi-run 1`, the line `cycles N`, for any streams, each once, a line `ready PATH BITS`,
-- and then at most N lines `order` with the numbers of the processes. Words have one space between each two. A text has the error of its
-- first line that has one.
use Rattle.std.specs.Prelude.{ℕ, suc, ◌-◌, Bool, true, ◌==◌, ◌&&◌, nat_le, nat_lt, nat_eq, if◌then◌else◌, List, [], ◌∷◌, ◌++◌, length, map, drop, get_or, replicate, slice_set, Option, Some, None, Result, Ok, Err, unwrap_or, codes}
use Rattle.std.specs.Cmp.Lexicographic.{pointwise}
use Rattle.std.specs.List.{list_all, starts_with}
use Rattle.std.specs.Option.{is_some}
use Rattle.std.specs.Str.{bytes_eq}
use Rattle.tydi_base.specs.Binary.{is_binary_digit}
use Rattle.tydi_base.specs.Decimal.{is_decimal, read_on}
use Rattle.tydi_base.specs.Path.{path_of}
use Rattle.tydi_base.specs.Pieces.{words_of}
use Rattle.tydi_base.specs.Places.{start, place_past}
use Rattle.tydi_base.specs.Reading.{◌>>=◌, or_fault}
use Rattle.tydi_base.specs.declared.place.Place.{Place}
use Rattle.physical_stream.specs.declared.head.Head.{Head}
use Rattle.vhdl_text.specs.declared.bench.Bench.{Bench}
use Rattle.vhdl_meaning.specs.declared.run.SimRun.{SimRun}
use Rattle.vhdl_meaning.specs.declared.run.RunFault.{RunFault}
use Rattle.vhdl_meaning.specs.declared.run.RunFault.TheVariants.{Syntax, UnknownStream, StreamTwice, ReadyLength, NotOrder, TooManyCycles, TooManyOrders}
use Rattle.vhdl_meaning.specs.Orders.{text_order}
use Rattle.vhdl_meaning.specs.Ordering.{order_with}
use Rattle.vhdl_meaning.specs.RunLines.{TextLine, lines_in}

-- ---- the first two lines

-- the most cycles of a run
abbrev pub most_cycles : ℕ
most_cycles = 1000000

-- the place of the end of a text
abbrev pub end_of : List ℕ → Place
end_of text = place_past start text

-- the first line and those after it, in a text that ends at this place
abbrev pub next_of : Place → List TextLine → Result (TextLine × List TextLine) RunFault
next_of end [] = Err (Syntax end)
next_of end (line ∷ lines) = Ok (line, lines)

-- the first line is `tydi-run 1`
unfoldable pub title_of : TextLine → Result (Unit {0}) RunFault
title_of line = if bytes_eq line.bytes (codes "tydi-run 1") then Ok tt else Err (Syntax line.place)

-- the number of cycles that the second line spells
unfoldable pub cycles_of : TextLine → Result ℕ RunFault
cycles_of line =
    if starts_with nat_eq line.bytes (codes "cycles ")
    then (if is_decimal (drop 7 line.bytes)
    then (if nat_le (read_on 0 (drop 7 line.bytes)) most_cycles then Ok (read_on 0 (drop 7 line.bytes)) else Err (TooManyCycles line.place))
    else Err (Syntax line.place))
    else Err (Syntax line.place)

-- the cycles, and the lines after the first two
unfoldable pub header_of : Place → List TextLine → Result (ℕ × List TextLine) RunFault
header_of end lines = do
  first ← next_of end lines
  title ← title_of first.0
  second ← next_of end first.1
  cycles ← cycles_of second.0
  Ok (cycles, second.1)

-- ---- the lines after them

-- the lines so far: the ready bits of each stream that has a line, and the orders of the first cycles
pub record Given : Type 0 where
  pub ready : List (Option (List Bool))
  pub orders : List (List ℕ)

-- the two words of a text that has two
abbrev pub two_words : List (List ℕ) → Option (List ℕ × List ℕ)
two_words words = if length words == 2 then Some (get_or words 0 [], get_or words 1 []) else None

-- digits of bits, one at least
abbrev pub are_bits : List ℕ → Bool
are_bits word = nat_lt 0 (length word) && list_all is_binary_digit word

-- two paths are the same names
abbrev pub is_same_path : List (List ℕ) → List (List ℕ) → Bool
is_same_path one other = pointwise bytes_eq one other

-- the number of the first stream of this path; the first of these streams has this number
abbrev pub find_head : List (List ℕ) → ℕ → List Head → Option ℕ
find_head path number [] = None
find_head path number (head ∷ heads) = if is_same_path head.path path then Some number else find_head path (suc number) heads

-- the stream and the word of bits of a line `ready` with this text
unfoldable pub ready_line : Place → List Head → List ℕ → Result (ℕ × List ℕ) RunFault
ready_line place heads text = do
  words ← or_fault (Syntax place) (two_words (words_of text))
  path ← or_fault (Syntax place) (path_of words.0)
  if are_bits words.1 then (or_fault (UnknownStream place) (find_head path 0 heads) >>= λ number. Ok (number, words.1)) else Err (Syntax place)

-- the ready bits of so many cycles: a `1` or a `0` for each
unfoldable pub bits_for : Place → ℕ → List ℕ → Result (List Bool) RunFault
bits_for place cycles word = if length word == cycles then Ok (map (λ digit. digit == 49) word) else Err (ReadyLength place)

-- the lines with the ready bits of one stream more, where it has no line among them
unfoldable pub with_bits : Place → ℕ → ℕ → List ℕ → Given → Result Given RunFault
with_bits place cycles number word given =
    if is_some (get_or given.ready number None) then Err (StreamTwice place)
    else (bits_for place cycles word >>= λ bits. Ok (record { ready = slice_set given.ready number (Some bits); orders = given.orders }))

-- the lines with a line `ready` with this text more
unfoldable pub with_ready : Place → ℕ → List Head → List ℕ → Given → Result Given RunFault
with_ready place cycles heads text given =
    if length given.orders == 0 then (ready_line place heads text >>= λ found. with_bits place cycles found.0 found.1 given) else Err (Syntax place)

-- the order of so many processes that these words spell
unfoldable pub order_in : Place → ℕ → List (List ℕ) → Result (List ℕ) RunFault
order_in place count words = if list_all is_decimal words then or_fault (NotOrder place) (order_with count (map (read_on 0) words)) else Err (Syntax place)

-- the order that a line `order` spells
unfoldable pub order_of : Place → ℕ → List ℕ → Result (List ℕ) RunFault
order_of place count line =
    if bytes_eq line (codes "order") then order_in place count []
    else (if starts_with nat_eq line (codes "order ") then order_in place count (words_of (drop 6 line)) else Err (Syntax place))

-- the lines with a line `order` more
unfoldable pub with_order : Place → ℕ → ℕ → List ℕ → Given → Result Given RunFault
with_order place cycles count line given =
    order_of place count line >>= λ order. if nat_lt (length given.orders) cycles then Ok (record { ready = given.ready; orders = given.orders ++ order ∷ [] }) else Err (TooManyOrders place)

-- the lines with one line more, for these streams and so many processes
unfoldable pub with_more : ℕ → List Head → ℕ → TextLine → Given → Result Given RunFault
with_more cycles heads count line given =
    if starts_with nat_eq line.bytes (codes "ready ") then with_ready line.place cycles heads (drop 6 line.bytes) given
    else with_order line.place cycles count line.bytes given

-- the lines with these lines more
abbrev pub given_of : ℕ → List Head → ℕ → Given → List TextLine → Result Given RunFault
given_of cycles heads count given [] = Ok given
given_of cycles heads count given (line ∷ lines) = with_more cycles heads count line given >>= λ more. given_of cycles heads count more lines

-- ---- the run

-- no lines, for so many streams
abbrev pub nothing_given : ℕ → Given
nothing_given streams = record { ready = replicate streams None; orders = [] }

-- the ready bits of a stream: all ones where it has no line
abbrev pub ready_in : ℕ → Option (List Bool) → List Bool
ready_in cycles found = unwrap_or found (replicate cycles true)

-- the orders of all cycles: the order of the text where a cycle has no line
abbrev pub orders_in : ℕ → ℕ → List (List ℕ) → List (List ℕ)
orders_in cycles count orders = orders ++ replicate (cycles - length orders) (text_order count)

-- the run of these lines
abbrev pub run_with : ℕ → ℕ → Given → SimRun
run_with cycles count given = record { cycles = cycles; ready = map (ready_in cycles) given.ready; orders = orders_in cycles count given.orders }

-- the run that lines spell for these streams and so many processes, in a text that ends at this place
unfoldable pub run_in_lines : List Head → ℕ → Place → List TextLine → Result SimRun RunFault
run_in_lines heads count end lines = do
  header ← header_of end lines
  given ← given_of header.0 heads count (nothing_given (length heads)) header.1
  Ok (run_with header.0 count given)

-- the run that a text spells for a bench, or its first error
abbrev pub run_of : Bench → List ℕ → Result SimRun RunFault
run_of bench text = run_in_lines bench.heads (length bench.procs) (end_of text) (lines_in text)
