-- One edge more of a process.
use Rattle.std.proofs.Common.{◌≡◌, ◌∙◌, ℕ, suc, ◌+◌, Bool, true, false, List, [], ◌∷◌, ◌++◌, length, Option, Some, None, refl, sym, ap, arith}
use Rattle.std.specs.Prelude.{if◌then◌else◌}
use Rattle.std.specs.Option.{option_map}
use Rattle.std.proofs.lemmas.Grind.{fold-append}
use Rattle.std.proofs.lemmas.List.{length_push}
use Rattle.physical_stream.specs.Cycles.{Cycle}
use Rattle.monitor_bench.specs.Meaning.{Process, State, after_edge, after_edges, going, has_stopped, place_in, report_of, state_after, stops_at}
use Rattle.monitor_bench.specs.Running.{Steps, reported, state_at, state_of}
use Rattle.monitor_bench.specs.Standing.{IsAfter}
use Rattle.monitor_bench.specs.declared.process_sim.ProcessSim.{ProcessSim}
use Rattle.monitor_bench.specs.declared.running.Running.{Running}

-- ---- the report

first_edge : (stops : Bool) → (if stops then Some 0 else option_map suc None) ≡ reported None stops 0
first_edge true = refl
first_edge false = refl

suc-reported : (rest : Option ℕ) (stops : Bool) (edge : ℕ) → option_map suc (reported rest stops edge) ≡ reported (option_map suc rest) stops (suc edge)
suc-reported (Some cycle) stops edge = refl
suc-reported None true edge = refl
suc-reported None false edge = refl

one_later : (here : Bool) (rest longer : Option ℕ) (stops : Bool) (edge : ℕ) → longer ≡ reported rest stops edge
    → (if here then Some 0 else option_map suc longer) ≡ reported (if here then Some 0 else option_map suc rest) stops (suc edge)
one_later true rest longer stops edge is = refl
one_later false rest longer stops edge is = ap (option_map suc) is ∙ suc-reported rest stops edge

-- the first edge after which a process has stopped, where there is one edge more
pub stops_at-more : (process : Process) (state : State) (cycles : List Cycle) (row : Cycle)
    → stops_at process state (cycles ++ row ∷ []) ≡ reported (stops_at process state cycles) (has_stopped (after_edge process (after_edges process state cycles) row)) (length cycles)
stops_at-more process state [] row = first_edge (has_stopped (after_edge process state row))
stops_at-more process state (first ∷ more) row =
    let next = after_edge process state first in
    one_later (has_stopped next) (stops_at process next more) (stops_at process next (more ++ row ∷ [])) (has_stopped (after_edge process (after_edges process next more) row)) (length more)
    (stops_at-more process next more row)

-- ---- the state

pub after_edges-more : (process : Process) (state : State) (cycles : List Cycle) (row : Cycle)
    → after_edges process state (cycles ++ row ∷ []) ≡ after_edge process (after_edges process state cycles) row
after_edges-more process state cycles row = fold-append (after_edge process) state cycles (row ∷ [])

pub stopped_at : (stops : Bool) (place : ℕ) → has_stopped (state_at stops place) ≡ stops
stopped_at true place = refl
stopped_at false place = refl

pub place_at : (stops : Bool) (place : ℕ) → place_in (state_at stops place) ≡ place
place_at true place = refl
place_at false place = refl

-- ---- a process

pub is_after-more : (process : Process) (cycles : List Cycle) (row : Cycle) (old : ProcessSim) (running : Running) (report : Option ℕ) → IsAfter process cycles old
    → Steps (λ state. after_edge process state row) old.running running → report ≡ reported old.report running.stopped old.edges
    → IsAfter process (cycles ++ row ∷ []) (record { running = running; edges = old.edges + 1; report = report })
is_after-more process cycles row old running report after steps told =
    let state : state_of running ≡ after_edge process (state_after process cycles) row = steps.state ∙ ap (λ s. after_edge process s row) after.state in
    let stops : running.stopped ≡ has_stopped (after_edge process (state_after process cycles) row) = sym (stopped_at running.stopped running.place) ∙ ap has_stopped state in
    record {
      room = steps.room ∙ after.room;
      state = state ∙ sym (after_edges-more process (going 0) cycles row);
      edges = omega (arith, after.edges, length_push cycles row);
      report =
          told ∙ ap (λ r. reported r running.stopped old.edges) after.report ∙ ap (λ b. reported (report_of process cycles) b old.edges) stops
          ∙ ap (λ n. reported (report_of process cycles) (has_stopped (after_edge process (state_after process cycles) row)) n) after.edges
          ∙ sym (stops_at-more process (going 0) cycles row);
    }
