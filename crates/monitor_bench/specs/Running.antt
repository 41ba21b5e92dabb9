-- One edge of a process, as it runs (this project's own). It serves the code, and no public clause.
use Rattle.std.specs.Prelude.{◌≡◌, ℕ, suc, ◌<◌, ◌≤◌, ◌-◌, ◌^◌, Bool, true, false, if◌then◌else◌, List, length, Option, Some, None}
use Rattle.physical_stream.specs.Params.{Parameters}
use Rattle.physical_stream.specs.Signals.{Fits}
use Rattle.physical_stream.specs.declared.item.Item.{Item}
use Rattle.watch_text.specs.Statements.{plain_statements}
use Rattle.watch_text.specs.declared.watch.WStmt.{WStmt}
use Rattle.monitor_bench.specs.Meaning.{Process, State, going, stopped}
use Rattle.monitor_bench.specs.declared.running.Edge.{Edge}
use Rattle.monitor_bench.specs.declared.running.Running.{Running}

-- where a process stands, by whether it has stopped and its place
abbrev pub state_at : Bool → ℕ → State
state_at false place = going place
state_at true place = stopped place

abbrev pub state_of : Running → State
state_of running = state_at running.stopped running.place

-- the word that is kept is as wide as an element
abbrev pub HasRoom : Parameters → Running → Type 0
HasRoom p running = length running.word ≡ p.element

-- statements can run at an edge in this lane and dimension
pub record CanRun (edge : Edge) (lane dim : ℕ) (running : Running) : Type 0 where
  pub fits : Fits edge.params.now edge.transfer.now
  pub few : length edge.want.now < 2 ^ 32 - 1
  pub lane_within : lane < edge.params.now.lanes
  pub lane_few : lane < 128
  pub dim_within : dim ≤ edge.params.now.dims - 1
  pub room : HasRoom edge.params.now running

-- a step is taken, and the word that is kept is as wide as before
pub record Steps (step : State → State) (old new : Running) : Type 0 where
  pub state : state_of new ≡ step (state_of old)
  pub room : length new.word ≡ length old.word

-- a process goes on where the item that it needs is the expected one, and else stops
abbrev pub goes : Bool → State → State
goes wanted (going place) = if wanted then going (suc place) else stopped place
goes wanted (stopped place) = stopped place

-- a process with its stream
abbrev pub process_with : Parameters → List Item → List WStmt → Process
process_with p want process = record { params = p; want = want; statements = plain_statements process }

-- the report after this edge: it stays where there is one, and is the number of the edge where the process has stopped
abbrev pub reported : Option ℕ → Bool → ℕ → Option ℕ
reported (Some cycle) has_stopped edge = Some cycle
reported None true edge = Some edge
reported None false edge = None
