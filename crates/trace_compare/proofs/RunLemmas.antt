-- The state that a comparer keeps: before the first row, and one row more.
use Rattle.std.proofs.Common.{◌≡◌, ◌∙◌, ◌⊎◌, inl, inr, ℕ, ◌+◌, ◌*◌, ◌/◌, ◌%◌, ◌<◌, List, [], ◌∷◌, ◌++◌, length, Some, slice_get, refl, sym, ap, subst, arith}
use Rattle.std.specs.Prelude.{option_map}
use Rattle.std.proofs.Math.Nat.{mod-lt}
use Rattle.std.proofs.lemmas.List.{length-map, length_push}
use Rattle.std.proofs.lemmas.Nat.{div-add-mod'}
use Rattle.std.proofs.lemmas.Option.{slice_get_within}
use Rattle.tydi_base.proofs.PlaceLemmas.{same_or_other, slice_get-there}
use Rattle.physical_stream.specs.Params.{Parameters}
use Rattle.physical_stream.specs.Cycles.{Cycle, StreamTrace}
use Rattle.physical_stream.specs.declared.head.Head.{Head}
use Rattle.physical_stream.specs.declared.head.Header.{Header}
use Rattle.physical_stream.specs.declared.item.Item.{Item}
use Rattle.physical_stream.proofs.AddedLemmas.{HasMore}
use Rattle.type_split.specs.Streams.{PlainSplit}
use Rattle.cycle_trace.specs.RowSink.{CanTake, IsHeader, begun_by, with_row}
use Rattle.cycle_trace.specs.Surveying.{IsNextRow}
use Rattle.cycle_trace.specs.Trace.{TraceText, cycles_of_stream, most_cycles, owed, params_of_heads, streams_of}
use Rattle.cycle_trace.proofs.RowAdded.{has_more, length-cycles_here}
use Rattle.cycle_trace.proofs.RowsLemmas.{length-owed_heads, some_stream}
use Rattle.cycle_trace.proofs.StreamLemmas.{head_at, length-streams, stream_of_head, stream_with}
use Rattle.cycle_trace.proofs.SurveyorLemmas.{HasTurn, has_turn}
use Rattle.port_drive.specs.Drives.{head_of_stream, heads_of}
use Rattle.trace_decode.proofs.RowLemmas.{all-at, same_some}
use Rattle.trace_decode.proofs.RunLemmas.{HasPhys, cycles-none, few_streams, has_phys, shown-fits}
use Rattle.trace_compare.specs.Keeping.{ComparesStream, IsFresh}
use Rattle.trace_compare.specs.Standing.{AreFresh, CanTakeRow, OneForEach, RunsOver, TakesRow}
use Rattle.trace_compare.specs.declared.compare_run.CompareRun.{CompareRun}
use Rattle.trace_compare.specs.declared.stream_compared.StreamCompared.{StreamCompared}
use Rattle.trace_compare.proofs.KeepLemmas.{fresh_compares}

-- ---- before the first row

pub runs-begun : (split : PlainSplit) (wants : List (List Item)) (header : Header) (run : CompareRun) → OneForEach split wants → IsHeader header → header.heads ≡ heads_of split
    → AreFresh (length wants) run.states.items → run.rows ≡ 0 → RunsOver split wants (begun_by header) run
runs-begun split wants header run lists is same fresh rows =
    let t : TraceText = begun_by header in
    let many : length wants ≡ length (streams_of t) = omega (arith, lists, length-streams t 0 t.heads, ap length same, length-map split.streams head_of_stream) in
    record {
      heads = same;
      cycles = is.few_cycles;
      streams = few_streams header.heads is.streams;
      rows = rows;
      most = omega arith;
      states = record {
        many = fresh.many ∙ many;
        lists = many;
        each = λ i want s state wanted here there.
            let found = head_at t i s here in
            let is_stream : record { params = found.0.params; cycles = [] } ≡ s =
            ap (λ (cs : List Cycle). let x : StreamTrace = record { params = found.0.params; cycles = cs } in x) (sym (cycles-none t i refl)) ∙ sym found.2 in
            subst (λ (x : StreamTrace). ComparesStream want x state) is_stream (fresh_compares want found.0.params state (all-at IsFresh run.states.items i state fresh.each there));
      };
    }

-- ---- one row more

module _ (split : PlainSplit) (wants : List (List Item)) (t : TraceText) (run : CompareRun) (runs : RunsOver split wants t run) (row : Cycle) (can : CanTake t row)
    (streams : ℕ) (many : streams ≡ length run.states.items) where
  few_rows : length t.rows < t.cycles * length t.heads
  few_rows = omega (arith, slice_get_within (owed (params_of_heads t.heads) t.cycles) (length t.rows) can.params can.turn, length-owed_heads t)

  all_heads : streams ≡ length t.heads
  all_heads = omega (arith, many, runs.states.many, length-streams t 0 t.heads)

  pub some_streams : 0 < streams
  some_streams = omega (arith, all_heads, some_stream t.cycles (length t.heads) (length t.rows) few_rows)

  abbrev cycle : ℕ
  cycle = run.rows / streams

  abbrev at : ℕ
  at = run.rows % streams

  place : length t.rows ≡ cycle * length t.heads + at
  place = sym runs.rows ∙ sym (div-add-mod' run.rows streams) ∙ ap (λ (n : ℕ). cycle * n + at) all_heads

  at_within : at < length t.heads
  at_within = omega (arith, all_heads, mod-lt run.rows some_streams)

  next : IsNextRow t cycle at
  next = record { place = place; within = λ some. at_within }

  turn : HasTurn t cycle at can.params
  turn = has_turn t cycle at next can.params can.turn

  -- the number of the cycle is counted in a word
  pub cycle_below : cycle < most_cycles
  cycle_below = let few = runs.cycles in let less = turn.in_cycles in omega arith

  phys : HasPhys split at turn.head
  phys = has_phys split t.heads at turn.head runs.heads turn.there

  is_params : phys.phys.params ≡ turn.head.params
  is_params = ap (λ (h : Head). h.params) (sym phys.is)

  here : slice_get (streams_of t) at ≡ Some (stream_with t at turn.head)
  here = stream_of_head t at ∙ ap (option_map (stream_with t at)) turn.there

  state : (one : StreamCompared) × (slice_get run.states.items at ≡ Some one)
  state = slice_get-there run.states.items at (omega (arith, at_within, all_heads, many))

  want : (one : List Item) × (slice_get wants at ≡ Some one)
  want = slice_get-there wants at (omega (arith, at_within, length-streams t 0 t.heads, runs.states.lists))

  was : ComparesStream want.0 (stream_with t at turn.head) state.0
  was = runs.states.each at want.0 (stream_with t at turn.head) state.0 want.1 here state.1

  pub can_take : CanTakeRow split wants at run.states.items row
  can_take = record {
    has = record { phys = phys.phys; there = phys.there; want = want.0; wanted = want.1; state = state.0; found = state.1; within = was.within };
    shown = shown-fits can.params phys.phys.params row.shown (sym (is_params ∙ turn.params)) can.shown;
  }

  module _ (new : CompareRun) (rows : new.rows ≡ run.rows + 1) (takes : TakesRow split wants at cycle row run.states.items new.states.items) where
    more : HasMore (streams_of t) (streams_of (with_row t row)) at (stream_with t at turn.head) row
    more = has_more t cycle at place at_within turn.in_cycles row turn.head turn.there

    long : length (cycles_of_stream t at) ≡ cycle
    long = length-cycles_here t cycle at place at_within turn.in_cycles

    each-more : (i : ℕ) (wanted : List Item) (s : StreamTrace) (one : StreamCompared) → slice_get wants i ≡ Some wanted → slice_get (streams_of (with_row t row)) i ≡ Some s
        → slice_get new.states.items i ≡ Some one → (i ≡ at) ⊎ (i ≡ at → ⊥) → ComparesStream wanted s one
    each-more i wanted s one expected is found (inr other) = runs.states.each i wanted s one expected (sym (more.others i other) ∙ is) (sym (takes.others i other) ∙ found)
    each-more i wanted s one expected is found (inl same) =
        let longer : StreamTrace = record { params = turn.head.params; cycles = cycles_of_stream t at ++ row ∷ [] } in
        let is_longer : longer ≡ s = same_some (sym more.now ∙ ap (slice_get (streams_of (with_row t row))) (sym same) ∙ is) in
        let is_wanted : want.0 ≡ wanted = same_some (sym want.1 ∙ ap (slice_get wants) (sym same) ∙ expected) in
        let before = subst (λ (p : Parameters). ComparesStream want.0 (record { params = p; cycles = cycles_of_stream t at }) state.0) (sym is_params) was in
        let after = takes.takes phys.phys want.0 state.0 one phys.there want.1 state.1 (ap (slice_get new.states.items) (sym same) ∙ found) (cycles_of_stream t at) long before in
        subst (λ (w : List Item). ComparesStream w s one) is_wanted
        (subst (λ (x : StreamTrace). ComparesStream want.0 x one) is_longer
        (subst (λ (p : Parameters). ComparesStream want.0 (record { params = p; cycles = cycles_of_stream t at ++ row ∷ [] }) one) is_params after))

    pub runs-more : RunsOver split wants (with_row t row) new
    runs-more = record {
      heads = runs.heads;
      cycles = runs.cycles;
      streams = runs.streams;
      rows = omega (arith, rows, runs.rows, length_push t.rows row);
      most = omega (arith, few_rows, length_push t.rows row);
      states = record {
        many = omega (arith, takes.many, runs.states.many, length-streams t 0 t.heads, length-streams (with_row t row) 0 t.heads);
        lists = omega (arith, runs.states.lists, length-streams t 0 t.heads, length-streams (with_row t row) 0 t.heads);
        each = λ i wanted s one expected is found. each-more i wanted s one expected is found (same_or_other i at);
      };
    }
