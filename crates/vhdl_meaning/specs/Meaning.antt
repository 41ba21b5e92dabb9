-- The meaning of a bench by cycles (this project's own, after the delta cycles of IEEE 1076: the values now, the assignments of the
-- processes that run, and the values after all of them have run).
use Rattle.std.specs.Prelude.{◌≡◌, ℕ, zero, suc, ◌<◌, ◌==◌, ◌&&◌, Bool, false, if◌then◌else◌, List, [], ◌∷◌, map, get_or, slice_get, Option, Some, None}
use Rattle.std.specs.List.{All, flat_map, count_by}
use Rattle.tydi_base.specs.Bits.{bits_of, number_of_bits, zero_bits}
use Rattle.physical_stream.specs.Params.{Parameters}
use Rattle.physical_stream.specs.Cycles.{Cycle}
use Rattle.physical_stream.specs.declared.head.Head.{Head}
use Rattle.physical_stream.specs.declared.transfer.Transfer.{Transfer}
use Rattle.signal_layout.specs.Layout.{is_present, bits_of_signal, default_of, default_number}
use Rattle.signal_layout.specs.declared.signal.Signal.{Signal}
use Rattle.signal_layout.specs.declared.signal.Signal.TheVariants as signals
use Rattle.vhdl_text.specs.WellFormed.{Assigned, is_signal}
use Rattle.vhdl_text.specs.declared.bench.Stmt.{Stmt}
use Rattle.vhdl_text.specs.declared.bench.Stmt.TheVariants as stmts
use Rattle.vhdl_text.specs.declared.bench.Bench.{Bench}

-- ---- signals and their values

-- the word that each signal of each stream has, lowest bit first
abbrev pub Values : Type 0
Values = ℕ → Signal → List Bool

-- a signal of a stream with all its bits 0
abbrev pub zeros_in : Option Head → Signal → List Bool
zeros_in None signal = []
zeros_in (Some head) signal = zero_bits (bits_of_signal head.params signal)

-- all bits of all signals are 0
abbrev pub zeros : List Head → Values
zeros heads stream signal = zeros_in (slice_get heads stream) signal

-- the words that are assigned to this signal of this stream, in order
abbrev pub words_for : ℕ → Signal → List Assigned → List (List Bool)
words_for stream signal [] = []
words_for stream signal (a ∷ more) =
    if a.stream == stream && is_signal a.signal signal then a.bits ∷ words_for stream signal more else words_for stream signal more

-- the last of these words, or the one from before where there is none
abbrev pub last_of : List Bool → List (List Bool) → List Bool
last_of before [] = before
last_of before (word ∷ words) = last_of word words

-- the values once these assignments are current: the last assignment to a signal counts
abbrev pub current : List Assigned → Values → Values
current assigned values stream signal = last_of (values stream signal) (words_for stream signal assigned)

-- ---- a process, which is the list of the statements that are left of it

-- the assignments of a process that runs to its next wait
abbrev pub assigned_by : List Stmt → List Assigned
assigned_by [] = []
assigned_by (stmts.Put stream signal bits ∷ more) = record { stream = stream; signal = signal; bits = bits } ∷ assigned_by more
assigned_by (stmts.Pause edges ∷ more) = []
assigned_by (stmts.Await stream ∷ more) = []
assigned_by (stmts.Stop ∷ more) = []

-- the statements that are left of it then, with the wait at their head
abbrev pub waits_at : List Stmt → List Stmt
waits_at [] = []
waits_at (stmts.Put stream signal bits ∷ more) = waits_at more
waits_at (stmts.Pause edges ∷ more) = stmts.Pause edges ∷ more
waits_at (stmts.Await stream ∷ more) = stmts.Await stream ∷ more
waits_at (stmts.Stop ∷ more) = stmts.Stop ∷ more

-- the statements that are left after an edge with these ready bits: a wait that is met is behind. A pause is as many waits as it has
-- edges, and an edge meets one of them. A stop is never met.
abbrev pub resumed : List Bool → List Stmt → List Stmt
resumed ready [] = []
resumed ready (stmts.Put stream signal bits ∷ more) = stmts.Put stream signal bits ∷ more
resumed ready (stmts.Pause zero ∷ more) = more
resumed ready (stmts.Pause (suc zero) ∷ more) = more
resumed ready (stmts.Pause (suc (suc edges)) ∷ more) = stmts.Pause (suc edges) ∷ more
resumed ready (stmts.Await stream ∷ more) = if get_or ready stream false then more else stmts.Await stream ∷ more
resumed ready (stmts.Stop ∷ more) = stmts.Stop ∷ more

-- ---- all processes

-- a bench between two edges: each process stands at a wait, and the values are current
pub record Standing : Type 0 where
  pub procs : List (List Stmt)
  pub values : Values

-- at the start each process runs to its first wait, and then its assignments are current
abbrev pub started : Bench → Standing
started bench = record {
  procs = map waits_at bench.procs;
  values = current (flat_map assigned_by bench.procs) (zeros bench.heads);
}

-- the processes of these numbers
abbrev pub in_order : List ℕ → List (List Stmt) → List (List Stmt)
in_order order procs = map (λ number. get_or procs number []) order

-- the processes run in this order, each to its next wait, and after all have run their assignments are current. A process that still
-- stands at a wait assigns nothing.
abbrev pub run_all : List ℕ → List (List Stmt) → Values → Standing
run_all order procs values = record {
  procs = map waits_at procs;
  values = current (flat_map assigned_by (in_order order procs)) values;
}

-- the inputs of a cycle: a ready bit for each stream, and the order of the processes at the edge that ends it
pub record Edge : Type 0 where
  pub ready : List Bool
  pub order : List ℕ

-- the bench after an edge
abbrev pub after_edge : Edge → Standing → Standing
after_edge edge now = run_all edge.order (map (resumed edge.ready) now.procs) now.values

-- the bench after these edges
abbrev pub after_edges : List Edge → Standing → Standing
after_edges [] now = now
after_edges (edge ∷ more) now = after_edges more (after_edge edge now)

-- a row: the current values, and the ready bits
pub record Moment : Type 0 where
  pub values : Values
  pub ready : List Bool

-- the rows of a bench from here on
abbrev pub rows_from : Standing → List Edge → List Moment
rows_from now [] = []
rows_from now (edge ∷ more) = record { values = now.values; ready = edge.ready } ∷ rows_from (after_edge edge now) more

-- the meaning of a bench: a row for each cycle
abbrev pub meaning : Bench → List Edge → List Moment
meaning bench edges = rows_from (started bench) edges

-- ---- a stream in a row

-- the word of a signal, or of its default where the stream lacks it
abbrev pub word_in : Parameters → (Signal → List Bool) → Signal → List Bool
word_in p values signal = if is_present p signal then values signal else bits_of (bits_of_signal p signal) (default_number p (default_of signal))

-- the transfer of these words
abbrev pub transfer_in : Parameters → (Signal → List Bool) → Transfer
transfer_in p values = record {
  content = word_in p values signals.Content;
  last = word_in p values signals.Last;
  stai = number_of_bits (word_in p values signals.Stai);
  endi = number_of_bits (word_in p values signals.Endi);
  strb = number_of_bits (word_in p values signals.Strb);
  user = word_in p values signals.User;
}

-- the transfer is shown where valid is 1
abbrev pub shown_in : Parameters → (Signal → List Bool) → Option Transfer
shown_in p values = if get_or (values signals.Valid) 0 false then Some (transfer_in p values) else None

-- the cycle of a stream with these words and this ready bit
abbrev pub cycle_with : Parameters → Bool → (Signal → List Bool) → Cycle
cycle_with p bit values = record { ready = bit; shown = shown_in p values }

-- the cycle of the stream of this number in a row
abbrev pub cycle_at : Parameters → ℕ → Moment → Cycle
cycle_at p stream row = cycle_with p (get_or row.ready stream false) (row.values stream)

-- ---- orders

-- an order of so many processes: each of them stands in it once, and no other number does
pub record IsOrder (count : ℕ) (order : List ℕ) : Type 0 where
  pub once : (number : ℕ) → number < count → count_by (λ at. at == number) order ≡ 1
  pub within : All (λ number. number < count) order
