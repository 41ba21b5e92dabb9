-- The monitor of a port and the items that are expected (this project's own).
use Rattle.std.specs.Prelude.{ℕ, zero, suc, List, map}
use Rattle.physical_stream.specs.declared.head.Head.{Head}
use Rattle.physical_stream.specs.declared.item.Item.{Item}
use Rattle.port_drive.specs.Drives.{heads_of}
use Rattle.type_split.specs.Streams.{PlainSplit}
use Rattle.watch_text.specs.Statements.{PlainWatch, Statement, Statements, dims, if_active, if_last, lanes, need_close, need_elem, no_statements, statement}

-- a list of one statement
abbrev pub only : Statement → Statements
only one = statement one no_statements

-- the element of an active lane is needed
abbrev pub asks_element : Statement
asks_element = if_active (only need_elem)

-- the end of each sequence that the lane marks is needed
abbrev pub asks_closes : Statement
asks_closes = dims (only (if_last (only need_close)))

-- the statements for one lane of a stream of so many dimensions
abbrev pub lane_statements : ℕ → Statements
lane_statements zero = only asks_element
lane_statements (suc less) = statement asks_element (only asks_closes)

-- the statements of the process for a stream of so many dimensions: in each lane, first the element and then the ends of sequences
abbrev pub statements_for : ℕ → Statements
statements_for count = only (lanes (lane_statements count))

-- the process of a stream
abbrev pub process_for : Head → Statements
process_for head = statements_for head.params.dims

-- the monitor of a port of which these items are expected, a list for each stream
abbrev pub monitor_of : PlainSplit → List (List Item) → PlainWatch
monitor_of split items = record { heads = heads_of split; want = items; procs = map process_for (heads_of split) }
