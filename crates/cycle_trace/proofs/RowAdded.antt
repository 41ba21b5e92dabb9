-- One row more in a trace: its stream has one cycle more, and the others are as they were.
use Rattle.std.proofs.Common.{refl, ◌≡◌, ◌∙◌, ℕ, zero, suc, ◌+◌, ◌-◌, ◌*◌, ◌<◌, ◌≤◌, inl, inr, ◌⊎◌, List, [], ◌∷◌, ◌++◌, length, Option, None, Some, sym, ap, subst, arith}
use Rattle.std.specs.List.{slice_get}
use Rattle.std.specs.Option.{option_map, option_to_list}
use Rattle.std.proofs.Math.Nat.{mul-le-mul_right, suc-mul}
use Rattle.std.proofs.lemmas.Bool.{cases_lt}
use Rattle.std.proofs.lemmas.Nat.{mul-add-lt}
use Rattle.std.proofs.lemmas.List.{length-append}
use Rattle.std.proofs.lemmas.Option.{slice_get_within, slice_get_past}
use Rattle.physical_stream.specs.Cycles.{Cycle, StreamTrace}
use Rattle.physical_stream.specs.Items.{parts_below}
use Rattle.physical_stream.specs.Breaks.{BreaksAfter}
use Rattle.physical_stream.specs.First.{Offence}
use Rattle.physical_stream.specs.declared.head.Head.{Head}
use Rattle.physical_stream.proofs.AddedLemmas.{AddsOffences, HasMore, adds-one}
use Rattle.cycle_trace.specs.Trace.{TraceText, cycles_of_stream, row_in, streams_of}
use Rattle.cycle_trace.specs.RowSink.{with_row}
use Rattle.cycle_trace.specs.Surveying.{offends_in}
use Rattle.tydi_base.proofs.PlaceLemmas.{slice_get-front, slice_get-next, slice_get-there, slice_get-other}
use Rattle.physical_stream.proofs.PartsLemmas.{parts_below-same, parts_below-tail, length-parts_below}
use Rattle.cycle_trace.proofs.StreamLemmas.{head_at, stream_of_head, stream_with}

-- ---- the rows

row_in-past : (t : TraceText) (s i : ℕ) → length t.rows ≤ i * length t.heads + s → row_in t s i ≡ []
row_in-past t s i past = ap option_to_list (slice_get_past t.rows (i * length t.heads + s) past)

single_at_most : {A : Type 0} (o : Option A) → length (option_to_list o) ≤ 1
single_at_most None = omega arith
single_at_most (Some x) = omega arith

module _ (t : TraceText) (cycle at : ℕ) (place : length t.rows ≡ cycle * length t.heads + at) (within : at < length t.heads) (some : cycle < t.cycles) where
  cycles_end : (s n : ℕ) → n ≤ t.cycles → ((i : ℕ) → n ≤ i → length t.rows ≤ i * length t.heads + s) → cycles_of_stream t s ≡ parts_below (row_in t s) n
  cycles_end s n few past =
      let all : t.cycles ≡ n + (t.cycles - n) = omega arith in
      ap (parts_below (row_in t s)) all ∙ parts_below-tail (row_in t s) n (t.cycles - n) (λ i more. row_in-past t s i (past i more))

  past_here : (s i : ℕ) → at ≤ s → cycle ≤ i → length t.rows ≤ i * length t.heads + s
  past_here s i above more = omega (arith, place, mul-le-mul_right (length t.heads) more)

  past_next : (s i : ℕ) → cycle + 1 ≤ i → length t.rows ≤ i * length t.heads + s
  past_next s i more =
      let next : suc cycle ≤ i = omega arith in
      omega (arith, place, within, suc-mul cycle (length t.heads), mul-le-mul_right (length t.heads) next)

  cycles_here : cycles_of_stream t at ≡ parts_below (row_in t at) cycle
  cycles_here = cycles_end at cycle (omega arith) (λ i more. past_here at i (omega arith) more)

  -- the stream whose turn it is has had so many rows
  pub length-cycles_here : length (cycles_of_stream t at) ≡ cycle
  length-cycles_here = ap length cycles_here ∙ length-parts_below (row_in t at) cycle (λ i less.
      ap length (ap option_to_list (slice_get-there t.rows (i * length t.heads + at) (omega (arith, place, mul-add-lt i (length t.heads) at cycle less within))).1))

  few_cycles : (s : ℕ) → (length (cycles_of_stream t s) ≤ cycle) ⊎ ((s < at) × (length (cycles_of_stream t s) ≤ cycle + 1))
  few_cycles s = by_cases (cases_lt s at)
    where
      most : (s n : ℕ) → length (parts_below (row_in t s) n) ≤ n
      most s zero = omega arith
      most s (suc n) = omega (arith, most s n, length-append (parts_below (row_in t s) n) (row_in t s n), single_at_most (slice_get t.rows (n * length t.heads + s)))

      by_cases : (s < at) ⊎ (at ≤ s) → (length (cycles_of_stream t s) ≤ cycle) ⊎ ((s < at) × (length (cycles_of_stream t s) ≤ cycle + 1))
      by_cases (inl less) = inr (less, subst (λ (xs : List Cycle). length xs ≤ cycle + 1) (sym (cycles_end s (cycle + 1) (omega arith) (λ i more. past_next s i more))) (most s (cycle + 1)))
      by_cases (inr more) = inl (subst (λ (xs : List Cycle). length xs ≤ cycle) (sym (cycles_end s cycle (omega arith) (λ i above. past_here s i more above))) (most s cycle))

  -- an offence so far stands before the next row
  earlier : (o : Offence) → offends_in t o → (o.cycle < cycle) ⊎ ((o.cycle ≡ cycle) × (o.stream < at))
  earlier o b = by_cases (few_cycles o.stream) (cases_lt o.cycle cycle)
    where
      less : o.cycle < length (cycles_of_stream t o.stream)
      less = rw (head_at t o.stream b.trace b.stands).2 at (slice_get_within b.trace.cycles o.cycle b.breaks.now b.breaks.stands)

      by_cases : (length (cycles_of_stream t o.stream) ≤ cycle) ⊎ ((o.stream < at) × (length (cycles_of_stream t o.stream) ≤ cycle + 1)) → (o.cycle < cycle) ⊎ (cycle ≤ o.cycle) → (o.cycle < cycle) ⊎ ((o.cycle ≡ cycle) × (o.stream < at))
      by_cases few (inl before) = inl before
      by_cases (inl few) (inr after) = absurd (omega (arith, less))
      by_cases (inr few) (inr after) = inr (omega (arith, less, few.1), few.0)

  module _ (row : Cycle) where
    -- the cycles of the stream whose turn it is
    pub cycles_of_stream-turn : cycles_of_stream (with_row t row) at ≡ cycles_of_stream t at ++ row ∷ []
    cycles_of_stream-turn =
        let t' : TraceText = with_row t row in
        let long : length t'.rows ≡ length t.rows + 1 = length-append t.rows (row ∷ []) in
        let all : t.cycles ≡ suc cycle + (t.cycles - suc cycle) = omega arith in
        let last : row_in t' at cycle ≡ row ∷ [] = ap option_to_list (slice_get-next t.rows row (cycle * length t.heads + at) (sym place)) in
        let front : parts_below (row_in t' at) cycle ≡ parts_below (row_in t at) cycle =
        parts_below-same (row_in t' at) (row_in t at) cycle (λ i less. ap option_to_list (slice_get-front t.rows (row ∷ []) (i * length t.heads + at) (omega (arith, place, mul-add-lt i (length t.heads) at cycle less within)))) in
        ap (parts_below (row_in t' at)) all
        ∙ parts_below-tail (row_in t' at) (suc cycle) (t.cycles - suc cycle) (λ i more. row_in-past t' at i (omega (arith, long, place, within, suc-mul cycle (length t.heads), mul-le-mul_right (length t.heads) more)))
        ∙ ap (λ (xs : List Cycle). parts_below (row_in t' at) cycle ++ xs) last
        ∙ ap (λ (xs : List Cycle). xs ++ row ∷ []) (front ∙ sym cycles_here)

    -- those of the others
    pub cycles_of_stream-other : (s : ℕ) → s < length t.heads → (s ≡ at → ⊥) → cycles_of_stream (with_row t row) s ≡ cycles_of_stream t s
    cycles_of_stream-other s inside other =
        parts_below-same (row_in (with_row t row) s) (row_in t s) t.cycles (λ i less. ap option_to_list (slice_get-other t.rows row (i * length t.heads + s) (apart i)))
      where
        apart : (i : ℕ) → i * length t.heads + s ≡ length t.rows → ⊥
        apart i same = by_cases (cases_lt i cycle) (cases_lt cycle i)
          where
            by_cases : (i < cycle) ⊎ (cycle ≤ i) → (cycle < i) ⊎ (i ≤ cycle) → ⊥
            by_cases (inl less) after = omega (arith, place, mul-add-lt i (length t.heads) s cycle less inside)
            by_cases (inr more) (inl after) = omega (arith, place, mul-add-lt cycle (length t.heads) at i after within)
            by_cases (inr more) (inr most) = let same_cycle : i ≡ cycle = omega arith in other (omega (arith, place, ap (λ (n : ℕ). n * length t.heads) same_cycle))

    module _ (head : Head) (there : slice_get t.heads at ≡ Some head) where
      -- the stream whose turn it is has this row more
      pub has_more : HasMore (streams_of t) (streams_of (with_row t row)) at (stream_with t at head) row
      has_more = record {
        before = stream_of_head t at ∙ ap (option_map (stream_with t at)) there;
        now = stream_of_head (with_row t row) at ∙ ap (option_map (stream_with (with_row t row) at)) there ∙ ap (λ (cycles : List Cycle). let s : StreamTrace = record { params = head.params; cycles = cycles } in Some s) cycles_of_stream-turn;
        others = λ i other. stream_of_head (with_row t row) i ∙ same_stream i other (slice_get t.heads i) refl ∙ sym (stream_of_head t i);
      }
        where
          same_stream : (i : ℕ) → (i ≡ at → ⊥) → (found : Option Head) → slice_get t.heads i ≡ found → option_map (stream_with (with_row t row) i) found ≡ option_map (stream_with t i) found
          same_stream i other None is = refl
          same_stream i other (Some h) is = ap (λ (cycles : List Cycle). let s : StreamTrace = record { params = h.params; cycles = cycles } in Some s) (cycles_of_stream-other i (slice_get_within t.heads i h is) other)

      pub adds : AddsOffences (offends_in t) (offends_in (with_row t row)) cycle at (λ rule. BreaksAfter rule head.params (cycles_of_stream t at) row)
      adds = rw length-cycles_here at (adds-one (streams_of t) (streams_of (with_row t row)) at (stream_with t at head) row has_more (λ o b. rw length-cycles_here (earlier o b)))
