use Rattle.std.proofs.Common.{◌∙◌, ◌<◌, Bool, List, [], length, get_or, Some, false, refl, subst, ap}
use Rattle.physical_stream.specs.Cycles.{Cycle}
use Rattle.handshake.specs.Rows.{rows_behind}
use Rattle.bench_run.specs.Turns.{FirstTurn}
use Rattle.bench_run.proofs.PlaceLemmas.{turn-first, turn-rows}
use Rattle.bench_run.proofs.bench_rows.BenchRows.turn.Goals as goal

pub returns-clause-first : goal.returns-clause-first
returns-clause-first c =
    let mid = c.goes_on.new.self in
    let some : (mid.number < mid.run.cycles) × (mid.stream < length mid.sim.bench.heads) = c.if-not-goes_on.ensures.some refl in
    subst (λ (rows : List Cycle). FirstTurn rows mid.sim.bench mid.run mid.number (Some (record { stream = mid.stream; ready = c.bit_of-ready.result }))) c.goes_on.ensures.rows
    (turn-first mid.sim.bench mid.run mid.number mid.stream c.bit_of-ready.result mid.at.fits some.0 some.1
    (c.bit_of-ready.ensures ∙ ap (λ (l : List (List Bool)). get_or (get_or l mid.stream []) mid.number false) c.as_slice.ensures))

pub returns-clause-rows : goal.returns-clause-rows
returns-clause-rows c =
    let mid = c.goes_on.new.self in
    let some : (mid.number < mid.run.cycles) × (mid.stream < length mid.sim.bench.heads) = c.if-not-goes_on.ensures.some refl in
    turn-rows mid.sim.bench mid.run mid.number mid.stream some.0 some.1 ∙ ap rows_behind c.goes_on.ensures.rows
