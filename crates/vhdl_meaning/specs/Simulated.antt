-- Which bench and which edges a simulation stands for (this project's own).
use Rattle.std.specs.Prelude.{◌≡◌, ℕ, Bool, false, List, [], ◌∷◌, ◌++◌, length, map, get_or, slice_get, Some}
use Rattle.physical_stream.specs.Cycles.{Cycle}
use Rattle.physical_stream.specs.declared.head.Head.{Head}
use Rattle.vhdl_text.specs.declared.bench.Bench.{Bench}
use Rattle.vhdl_meaning.specs.declared.sim.Sim.{Sim}
use Rattle.vhdl_meaning.specs.Meaning.{Edge, started, after_edges, meaning, cycle_at}
use Rattle.vhdl_meaning.specs.Standing.{StandsAt}

-- the simulation runs this bench, and it stands where the bench stands after these edges
pub record StandsFor (sim : Sim) (bench : Bench) (edges : List Edge) : Type 0 where
  pub same : sim.bench ≡ bench
  pub stands : StandsAt bench.heads bench.procs sim.places.items sim.lines.items (after_edges edges (started bench))

-- the cycle is that of the stream in the row that follows these edges: the last row of the meaning under one edge more, whose ready bit
-- for the stream is this one
abbrev pub IsRowOf : Bench → List Edge → ℕ → Bool → Cycle → Type 0
IsRowOf bench edges stream ready cycle = (edge : Edge) (head : Head) → slice_get bench.heads stream ≡ Some head → get_or edge.ready stream false ≡ ready →
    slice_get (map (cycle_at head.params stream) (meaning bench (edges ++ edge ∷ []))) (length edges) ≡ Some cycle
