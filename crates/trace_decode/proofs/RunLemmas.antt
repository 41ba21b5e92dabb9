-- The state that a decoder keeps: before the first row, and one row more.
use Rattle.std.proofs.Common.{◌≡◌, ◌∙◌, ◌⊎◌, inl, inr, ℕ, zero, suc, ◌+◌, ◌*◌, ◌/◌, ◌%◌, ◌<◌, ◌≤◌, Bool, true, List, [], ◌∷◌, ◌++◌, length, take, get_or, Option, Some, None, IfSome, slice_get, refl, sym, ap, subst, arith, add-one}
use Rattle.std.specs.Prelude.{option_map}
use Rattle.std.specs.Option.{option_to_list}
use Rattle.std.proofs.Math.Nat.{mod-lt, mul-le-mul_right}
use Rattle.std.proofs.Math.Seq.{take-suc}
use Rattle.std.proofs.lemmas.Bool.{cases_lt}
use Rattle.std.proofs.lemmas.Bool.Decides.{nat_tests}
use Rattle.std.proofs.lemmas.List.{length-map, length_push}
use Rattle.std.proofs.lemmas.Nat.{div-add-mod'}
use Rattle.std.proofs.lemmas.Option.{slice_get-map, slice_get_within}
use Rattle.tydi_base.proofs.PlaceLemmas.{same_or_other, slice_get-front, slice_get-next, slice_get-there}
use Rattle.physical_stream.specs.Params.{Parameters}
use Rattle.physical_stream.specs.Cycles.{Cycle, StreamTrace}
use Rattle.physical_stream.specs.Items.{parts_below}
use Rattle.physical_stream.specs.Signals.{Fits, Shows}
use Rattle.physical_stream.specs.declared.head.Head.{Head}
use Rattle.physical_stream.specs.declared.head.Header.{Header}
use Rattle.physical_stream.specs.declared.transfer.Transfer.{Transfer}
use Rattle.physical_stream.proofs.AddedLemmas.{HasMore}
use Rattle.type_split.specs.Streams.{PlainSplit}
use Rattle.type_split.specs.declared.split.Phys.{Phys}
use Rattle.cycle_trace.specs.RowSink.{CanTake, IsHeader, begun_by, with_row}
use Rattle.cycle_trace.specs.Surveying.{IsNextRow}
use Rattle.cycle_trace.specs.Trace.{TraceText, are_heads, cycles_of_stream, most_cycles, owed, params_of_heads, row_in, streams_of}
use Rattle.cycle_trace.specs.declared.surveying.surveyor.Surveyor.{Surveyor}
use Rattle.cycle_trace.specs.declared.surveying.outcome.FoundOffence.{FoundOffence}
use Rattle.cycle_trace.proofs.RowAdded.{has_more}
use Rattle.cycle_trace.proofs.RowsLemmas.{length-owed_heads, some_stream}
use Rattle.cycle_trace.proofs.StreamLemmas.{head_at, length-streams, stream_of_head, stream_with}
use Rattle.cycle_trace.proofs.SurveyorLemmas.{HasTurn, has_turn}
use Rattle.port_drive.specs.Drives.{head_of_stream, heads_of}
use Rattle.trace_decode.specs.Keeping.{HasDims, KeepsStream, are_named_in}
use Rattle.trace_decode.specs.Running.{AreFresh, CanTakeRow, IsTagWith, TakesRowOf}
use Rattle.trace_decode.specs.Standing.{AreKept, RunsOver, TagsSay}
use Rattle.trace_decode.specs.Tags.{element_at}
use Rattle.trace_decode.specs.declared.decode_run.DecodeRun.{DecodeRun}
use Rattle.trace_decode.specs.declared.stream_kept.StreamKept.{StreamKept}
use Rattle.trace_decode.proofs.RowLemmas.{same_some}
use Rattle.trace_decode.proofs.TagLemmas.{tags-more}

-- ---- before the first row

pub fresh-none : (streams : List Phys) (kept : List StreamKept) → kept ≡ [] → AreFresh (take 0 streams) kept
fresh-none streams kept none = rw none (record { many = refl; each = λ i phys one here there. absurd cc })

fresh-push : (streams : List Phys) (phys : Phys) (kept : List StreamKept) (one : StreamKept) → AreFresh streams kept → KeepsStream (record { params = phys.params; cycles = [] }) one
    → AreFresh (streams ++ phys ∷ []) (kept ++ one ∷ [])
fresh-push streams phys kept one at last = record { many = omega (arith, length_push kept one, length_push streams phys, at.many); each = λ i p k here there. each i p k here there (cases_lt i (length streams)) }
  where
    each : (i : ℕ) (p : Phys) (k : StreamKept) → slice_get (streams ++ phys ∷ []) i ≡ Some p → slice_get (kept ++ one ∷ []) i ≡ Some k → (i < length streams) ⊎ (length streams ≤ i)
        → KeepsStream (record { params = p.params; cycles = [] }) k
    each i p k here there (inl less) = at.each i p k (sym (slice_get-front streams (phys ∷ []) i less) ∙ here) (sym (slice_get-front kept (one ∷ []) i (omega (arith, at.many))) ∙ there)
    each i p k here there (inr more) =
        let end : i ≡ length streams = omega (arith, slice_get_within (streams ++ phys ∷ []) i p here, length_push streams phys) in
        let same_phys : phys ≡ p = same_some (sym (slice_get-next streams phys i end) ∙ here) in
        let same_kept : one ≡ k = same_some (sym (slice_get-next kept one i (end ∙ sym at.many)) ∙ there) in
        subst (λ (q : Phys). KeepsStream (record { params = q.params; cycles = [] }) k) same_phys (subst (λ (x : StreamKept). KeepsStream (record { params = phys.params; cycles = [] }) x) same_kept last)

pub fresh-more : (streams : List Phys) (n : ℕ) (phys : Phys) (kept : List StreamKept) (one : StreamKept) → AreFresh (take n streams) kept → n < length streams → phys ≡ get_or streams n phys
    → KeepsStream (record { params = phys.params; cycles = [] }) one → AreFresh (take (n + 1) streams) (kept ++ one ∷ [])
fresh-more streams n phys kept one at within is last =
    let next : take (n + 1) streams ≡ take n streams ++ phys ∷ [] = ap (λ (k : ℕ). take k streams) (add-one n) ∙ take-suc streams n phys within ∙ ap (λ (p : Phys). take n streams ++ p ∷ []) (sym is) in
    subst (λ (l : List Phys). AreFresh l (kept ++ one ∷ [])) (sym next) (fresh-push (take n streams) phys kept one at last)

-- no cycle stands in a trace without rows
pub cycles-none : (t : TraceText) (stream : ℕ) → t.rows ≡ [] → cycles_of_stream t stream ≡ []
cycles-none t stream none = from t.cycles
  where
    from : (n : ℕ) → parts_below (row_in t stream) n ≡ []
    from zero = refl
    from (suc n) = ap (λ (l : List Cycle). l ++ row_in t stream n) (from n) ∙ ap (λ (rows : List Cycle). option_to_list (slice_get rows (n * length t.heads + stream))) none

-- the stream of a split at the place of a head
pub record HasPhys (split : PlainSplit) (stream : ℕ) (head : Head) : Type 0 where
  pub phys : Phys
  pub there : slice_get split.streams stream ≡ Some phys
  pub is : head ≡ head_of_stream phys

pub has_phys : (split : PlainSplit) (heads : List Head) (stream : ℕ) (head : Head) → heads ≡ heads_of split → slice_get heads stream ≡ Some head → HasPhys split stream head
has_phys split heads stream head same here =
    let inside : slice_get (heads_of split) stream ≡ Some head = ap (λ (l : List Head). slice_get l stream) (sym same) ∙ here in
    let within : stream < length split.streams = omega (arith, slice_get_within (heads_of split) stream head inside, length-map split.streams head_of_stream) in
    let found = slice_get-there split.streams stream within in
    record { phys = found.0; there = found.1; is = same_some (sym inside ∙ slice_get-map head_of_stream split.streams stream ∙ ap (option_map head_of_stream) found.1) }

pub runs-begun : (split : PlainSplit) (header : Header) (surveyor : Surveyor) (kept : List StreamKept) → IsHeader header → header.heads ≡ heads_of split
    → AreFresh split.streams kept → AreKept (streams_of (begun_by header)) kept
runs-begun split header surveyor kept is same fresh =
    let t : TraceText = begun_by header in
    record {
      many = omega (arith, fresh.many, length-streams t 0 t.heads, ap length same, length-map split.streams head_of_stream);
      each = λ i s one here there.
          let found = head_at t i s here in
          let phys = has_phys split header.heads i found.0 same found.1 in
          let is_stream : record { params = phys.phys.params; cycles = [] } ≡ s =
          ap (λ (p : Parameters). let x : StreamTrace = record { params = p; cycles = [] } in x) (sym (ap (λ (h : Head). h.params) phys.is))
          ∙ ap (λ (cs : List Cycle). let x : StreamTrace = record { params = found.0.params; cycles = cs } in x) (sym (cycles-none t i refl)) ∙ sym found.2 in
          subst (λ (x : StreamTrace). KeepsStream x one) is_stream (fresh.each i phys.phys one phys.there there);
    }

pub few_streams : (heads : List Head) → are_heads heads ≡ true → length heads ≤ 65536
few_streams heads are = grind (arith, nat_tests)

-- ---- one row more

pub shown-fits : (p q : Parameters) (shown : Option Transfer) → p ≡ q → IfSome shown (Shows p) → IfSome shown (Fits q)
shown-fits p q None same shows = tt
shown-fits p q (Some t) same shows = subst (λ (r : Parameters). Fits r t) same shows.fits

module _ (split : PlainSplit) (t : TraceText) (run : DecodeRun) (runs : RunsOver split t run) (row : Cycle) (can : CanTake t row) (streams : ℕ) (many : streams ≡ length run.kept.items) where
  pub few_rows : length t.rows < t.cycles * length t.heads
  few_rows = omega (arith, slice_get_within (owed (params_of_heads t.heads) t.cycles) (length t.rows) can.params can.turn, length-owed_heads t)

  all_heads : streams ≡ length t.heads
  all_heads = omega (arith, many, runs.kept.many, length-streams t 0 t.heads)

  pub some_streams : 0 < streams
  some_streams = omega (arith, all_heads, some_stream t.cycles (length t.heads) (length t.rows) few_rows)

  pub rows_below : run.rows < most_cycles * streams
  rows_below =
      let less : t.cycles * length t.heads ≤ most_cycles * length t.heads = mul-le-mul_right (length t.heads) runs.cycles in
      omega (arith, few_rows, runs.rows, less, ap (λ (n : ℕ). most_cycles * n) all_heads)

  abbrev cycle : ℕ
  cycle = run.rows / streams

  abbrev at : ℕ
  at = run.rows % streams

  place : length t.rows ≡ cycle * length t.heads + at
  place = sym runs.rows ∙ sym (div-add-mod' run.rows streams) ∙ ap (λ (n : ℕ). cycle * n + at) all_heads

  at_within : at < length t.heads
  at_within = omega (arith, all_heads, mod-lt run.rows some_streams)

  next : IsNextRow t cycle at
  next = record { place = place; within = λ some. at_within }

  turn : HasTurn t cycle at can.params
  turn = has_turn t cycle at next can.params can.turn

  phys : HasPhys split at turn.head
  phys = has_phys split t.heads at turn.head runs.heads turn.there

  is_params : phys.phys.params ≡ turn.head.params
  is_params = ap (λ (h : Head). h.params) (sym phys.is)

  here : slice_get (streams_of t) at ≡ Some (stream_with t at turn.head)
  here = stream_of_head t at ∙ ap (option_map (stream_with t at)) turn.there

  old : (one : StreamKept) × (slice_get run.kept.items at ≡ Some one)
  old = slice_get-there run.kept.items at (omega (arith, at_within, all_heads, many))

  was : KeepsStream (stream_with t at turn.head) old.0
  was = runs.kept.each at (stream_with t at turn.head) old.0 here old.1

  pub can_take : CanTakeRow split at run.kept.items row
  can_take = record {
    phys = phys.phys;
    there = phys.there;
    one = old.0;
    found = old.1;
    dims = subst (λ (p : Parameters). HasDims p.dims old.0.builder) (sym is_params) was.dims;
    shown = shown-fits can.params phys.phys.params row.shown (sym (is_params ∙ turn.params)) can.shown;
  }

  pub few_new : length (t.rows ++ row ∷ []) ≤ t.cycles * length t.heads
  few_new = omega (arith, few_rows, length_push t.rows row)

  module _ (new : List StreamKept) (named : Bool) (takes : TakesRowOf split at row run.kept.items new named) where
    more : HasMore (streams_of t) (streams_of (with_row t row)) at (stream_with t at turn.head) row
    more = has_more t cycle at place at_within turn.in_cycles row turn.head turn.there

    pub kept-more : AreKept (streams_of (with_row t row)) new
    kept-more = record {
      many = omega (arith, takes.many, runs.kept.many, length-streams t 0 t.heads, length-streams (with_row t row) 0 t.heads);
      each = λ i s one is found. each i s one is found (same_or_other i at);
    }
      where
        each : (i : ℕ) (s : StreamTrace) (one : StreamKept) → slice_get (streams_of (with_row t row)) i ≡ Some s → slice_get new i ≡ Some one → (i ≡ at) ⊎ (i ≡ at → ⊥) → KeepsStream s one
        each i s one is found (inr other) = runs.kept.each i s one (sym (more.others i other) ∙ is) (sym (takes.others i other) ∙ found)
        each i s one is found (inl same) =
            let longer : StreamTrace = record { params = turn.head.params; cycles = cycles_of_stream t at ++ row ∷ [] } in
            let is_longer : longer ≡ s = same_some (sym more.now ∙ ap (slice_get (streams_of (with_row t row))) (sym same) ∙ is) in
            let before = subst (λ (p : Parameters). KeepsStream (record { params = p; cycles = cycles_of_stream t at }) old.0) (sym is_params) was in
            let after = takes.kept phys.phys old.0 one (cycles_of_stream t at) phys.there old.1 (ap (slice_get new) (sym same) ∙ found) before in
            subst (λ (x : StreamTrace). KeepsStream x one) is_longer (subst (λ (p : Parameters). KeepsStream (record { params = p; cycles = cycles_of_stream t at ++ row ∷ [] }) one) is_params after)

    pub tag-more : (result : Option FoundOffence) → IsTagWith run.tag named run.rows streams result → TagsSay split (with_row t row) result
    tag-more result is =
        tags-more split t row cycle at place at_within turn.head turn.there run.tag result named run.rows streams refl refl
        (takes.is_named phys.phys phys.there ∙ ap (λ (p : Parameters). are_named_in (element_at split at) p row) is_params) runs.tag is
