-- The meaning of the processes of monitors (this project's own; the statements run as IEEE 1076 says). Items are compared, and not the words of
-- tables: the words and the items of a stream are one to one.
use Rattle.std.specs.Prelude.{ℕ, zero, suc, Bool, true, false, if◌then◌else◌, ◌==◌, List, [], ◌∷◌, Option, Some, None, slice_get}
use Rattle.std.specs.Bool.{beq}
use Rattle.std.specs.Cmp.Lexicographic.{pointwise}
use Rattle.std.specs.List.{fold}
use Rattle.std.specs.Option.{option_map}
use Rattle.physical_stream.specs.Cycles.{Cycle, done_in}
use Rattle.physical_stream.specs.Items.{is_active, lane_word, last_bit}
use Rattle.physical_stream.specs.Params.{Parameters}
use Rattle.physical_stream.specs.declared.head.Head.{Head}
use Rattle.physical_stream.specs.declared.item.Item.{Item}
use Rattle.physical_stream.specs.declared.item.Item.TheVariants as items
use Rattle.physical_stream.specs.declared.transfer.Transfer.{Transfer}
use Rattle.watch_text.specs.Statements.{PlainWatch, Statement, Statements, dims, if_active, if_last, lanes, need_close, need_elem, no_statements, statement}

-- ---- a process at a place

-- where a process stands: it goes on with the expected item of this number, or it has stopped there for good
pub data State : Type 0 where
  going : ℕ → State
  stopped : ℕ → State

abbrev pub place_in : State → ℕ
place_in (going place) = place
place_in (stopped place) = place

abbrev pub has_stopped : State → Bool
has_stopped (going place) = false
has_stopped (stopped place) = true

-- two items are the same
abbrev pub is_same_item : Item → Item → Bool
is_same_item (items.Elem one) (items.Elem other) = pointwise beq one other
is_same_item (items.Elem one) (items.Close dim) = false
is_same_item (items.Close dim) (items.Elem other) = false
is_same_item (items.Close dim) (items.Close other) = dim == other

-- an expected item is there, and is this one
abbrev pub is_expected : Option Item → Item → Bool
is_expected None item = false
is_expected (Some expected) item = is_same_item expected item

-- an item is needed: a process goes on where it is the expected one, and else stops for good
abbrev pub needs : List Item → Item → State → State
needs want item (going place) = if is_expected (slice_get want place) item then going (suc place) else stopped place
needs want item (stopped place) = stopped place

-- ---- statements

-- a step is taken for each value from 0 on and below a bound, in their order
abbrev pub for_each : (ℕ → State → State) → ℕ → State → State
for_each step zero state = state
for_each step (suc bound) state = step bound (for_each step bound state)

-- statements run for a transfer, in this lane and dimension. They are those of the loops around, and 0 outside.
abbrev mutual
  pub run : Parameters → List Item → Transfer → (lane dim : ℕ) → Statement → State → State
  run p want t lane dim (lanes body) state = for_each (λ each. run_all p want t each dim body) p.lanes state
  run p want t lane dim (dims body) state = for_each (λ each. run_all p want t lane each body) p.dims state
  run p want t lane dim (if_active body) state = if is_active t lane then run_all p want t lane dim body state else state
  run p want t lane dim (if_last body) state = if last_bit p t lane dim then run_all p want t lane dim body state else state
  run p want t lane dim need_elem state = needs want (items.Elem (lane_word p t lane)) state
  run p want t lane dim need_close state = needs want (items.Close dim) state

  pub run_all : Parameters → List Item → Transfer → (lane dim : ℕ) → Statements → State → State
  run_all p want t lane dim no_statements state = state
  run_all p want t lane dim (statement first more) state = run_all p want t lane dim more (run p want t lane dim first state)

-- ---- processes

-- a process with its stream: the parameters of the stream, the items that are expected of it, and the statements
pub record Process : Type 0 where
  pub params : Parameters
  pub want : List Item
  pub statements : Statements

-- the statements run for a transfer that is done; a process that has stopped runs none
abbrev pub after_transfer : Process → State → Transfer → State
after_transfer process (going place) t = run_all process.params process.want t 0 0 process.statements (going place)
after_transfer process (stopped place) t = stopped place

-- an edge, at which the stream has this row: the statements run where a transfer is done
abbrev pub after_edge : Process → State → Cycle → State
after_edge process state row = fold (after_transfer process) state (done_in row)

-- the edges of these cycles, one after another
abbrev pub after_edges : Process → State → List Cycle → State
after_edges process state cycles = fold (after_edge process) state cycles

-- the number of the first of these edges after which the process has stopped, from 0
abbrev pub stops_at : Process → State → List Cycle → Option ℕ
stops_at process state [] = None
stops_at process state (row ∷ more) =
    let next = after_edge process state row in
    if has_stopped next then Some 0 else option_map suc (stops_at process next more)

-- where a process stands after these cycles of its stream
abbrev pub state_after : Process → List Cycle → State
state_after process cycles = after_edges process (going 0) cycles

-- how many items of these cycles were as expected, up to the first that was not
abbrev pub place_of : Process → List Cycle → ℕ
place_of process cycles = place_in (state_after process cycles)

-- the cycle in which the process raises its fault and stops, from 0
abbrev pub report_of : Process → List Cycle → Option ℕ
report_of process cycles = stops_at process (going 0) cycles

-- ---- monitors

-- the processes of these streams
abbrev pub processes_from : List Head → List (List Item) → List Statements → List Process
processes_from [] wants procs = []
processes_from (head ∷ heads) [] procs = []
processes_from (head ∷ heads) (want ∷ wants) [] = []
processes_from (head ∷ heads) (want ∷ wants) (process ∷ procs) = record { params = head.params; want = want; statements = process } ∷ processes_from heads wants procs

-- the processes of a monitor, in the order of its streams
abbrev pub processes_of : PlainWatch → List Process
processes_of watch = processes_from watch.heads watch.want watch.procs
