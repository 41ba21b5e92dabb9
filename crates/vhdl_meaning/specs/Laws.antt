-- The laws of the meaning (this project's own).
use Rattle.std.specs.Prelude.{◌≡◌, ℕ, Bool, List, [], ◌∷◌, ◌++◌, length, map, slice_get, Some}
use Rattle.std.specs.List.{All}
use Rattle.physical_stream.specs.Cycles.{IsShownBy}
use Rattle.physical_stream.specs.declared.head.Head.{Head}
use Rattle.vhdl_text.specs.WellFormed.{IsWellFormed}
use Rattle.vhdl_text.specs.declared.bench.Bench.{Bench}
use Rattle.vhdl_meaning.specs.Meaning.{Edge, IsOrder, meaning, started, after_edges, cycle_at}

-- the orders of these edges are orders of so many processes
abbrev pub AreOrders : ℕ → List Edge → Type 0
AreOrders count edges = All (λ (edge : Edge). IsOrder count edge.order) edges

-- the ready bits of these edges
abbrev pub ready_of : List Edge → List (List Bool)
ready_of edges = map (λ (edge : Edge). edge.ready) edges

-- under the same ready bits two lists of orders give the same rows
abbrev pub BenchesAreConfluent : Type 0
BenchesAreConfluent = (bench : Bench) (one other : List Edge) → IsWellFormed bench → AreOrders (length bench.procs) one → AreOrders (length bench.procs) other →
    ready_of one ≡ ready_of other → meaning bench one ≡ meaning bench other

-- one edge more is one row more, with the values after the edges before it
abbrev pub MeaningGoesOn : Type 0
MeaningGoesOn = (bench : Bench) (edges : List Edge) (edge : Edge) →
    meaning bench (edges ++ edge ∷ []) ≡ meaning bench edges ++ record { values = (after_edges edges (started bench)).values; ready = edge.ready } ∷ []

-- each transfer that a stream shows in the rows of a well-formed bench is one that the stream can show
abbrev pub RowsAreShown : Type 0
RowsAreShown = (bench : Bench) (edges : List Edge) (stream : ℕ) (head : Head) → IsWellFormed bench → slice_get bench.heads stream ≡ Some head →
    IsShownBy head.params (map (cycle_at head.params stream) (meaning bench edges))
