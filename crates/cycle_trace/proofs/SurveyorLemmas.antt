-- The survey of rows as they come: one row more.
use Rattle.std.proofs.Common.{◌≡◌, ◌∙◌, ℕ, ◌+◌, ◌-◌, ◌*◌, ◌^◌, ◌<◌, ◌≤◌, inl, inr, ◌⊎◌, Bool, true, false, ◌==◌, if◌then◌else◌, List, [], ◌∷◌, ◌++◌, length, Option, None, Some, IfSome, sym, ap, subst, arith}
use Rattle.std.specs.List.{slice_get}
use Rattle.std.proofs.Math.ListN.{set}
use Rattle.std.proofs.Math.Nat.{suc-mul}
use Rattle.std.proofs.lemmas.Bool.{cases_lt}
use Rattle.std.proofs.lemmas.Bool.Decides.{nat_tests}
use Rattle.std.proofs.lemmas.List.{length-append, length-set}
use Rattle.std.proofs.lemmas.Option.{slice_get_within}
use Rattle.physical_stream.specs.Params.{Parameters}
use Rattle.physical_stream.specs.Cycles.{Cycle, StreamTrace}
use Rattle.physical_stream.specs.Breaks.{BreaksAfter}
use Rattle.physical_stream.specs.Signals.{Shows, Fits}
use Rattle.physical_stream.specs.declared.transfer.Transfer.{Transfer}
use Rattle.physical_stream.specs.declared.head.Head.{Head}
use Rattle.physical_stream.specs.declared.rule.Rule.{Rule}
use Rattle.complexity_rules.specs.Checking.{StandsFor, Steps, params_in, seen_in}
use Rattle.complexity_rules.specs.declared.checker.Checker.{Checker}
use Rattle.cycle_trace.specs.Trace.{TraceText, cycles_of_stream, most_cycles, owed, params_of_heads, streams_of}
use Rattle.cycle_trace.specs.RowSink.{CanTake, with_row}
use Rattle.cycle_trace.specs.Surveying.{IsChecked, IsNextRow, RowsSay, offence_of, offends_in}
use Rattle.cycle_trace.specs.declared.surveying.outcome.FoundOffence.{FoundOffence}
use Rattle.tydi_base.proofs.PlaceLemmas.{same_or_other, slice_get-there, slice_get-set_same, slice_get-set_other}
use Rattle.cycle_trace.proofs.RowsLemmas.{length-owed_heads, owed_at, some_stream, turn_below}
use Rattle.physical_stream.proofs.AddedLemmas.{AddsOffences, HasMore, IsFirst-here, IsFirst-none, IsFirst-stays}
use Rattle.cycle_trace.proofs.RowAdded.{adds, has_more, length-cycles_here}
use Rattle.cycle_trace.proofs.StreamLemmas.{length-streams, stream_with}

shows_fit : (p : Parameters) (shown : Option Transfer) → IfSome shown (Shows p) → IfSome shown (Fits p)
shows_fit p None shows = tt
shows_fit p (Some t) shows = shows.fits

-- ---- the turn

-- the stream whose turn it is, where a row is needed
pub record HasTurn (t : TraceText) (cycle stream : ℕ) (p : Parameters) : Type 0 where
  pub in_cycles : cycle < t.cycles
  pub in_streams : stream < length t.heads
  pub head : Head
  pub there : slice_get t.heads stream ≡ Some head
  pub params : head.params ≡ p

pub has_turn : (t : TraceText) (cycle stream : ℕ) → IsNextRow t cycle stream → (p : Parameters) → slice_get (owed (params_of_heads t.heads) t.cycles) (length t.rows) ≡ Some p → HasTurn t cycle stream p
has_turn t cycle stream next p turn =
    let long = slice_get_within (owed (params_of_heads t.heads) t.cycles) (length t.rows) p turn in
    let less : length t.rows < t.cycles * length t.heads = omega (arith, length-owed_heads t) in
    let inside : stream < length t.heads = next.within (some_stream t.cycles (length t.heads) (length t.rows) less) in
    let in_cycles : cycle < t.cycles = turn_below t.cycles (length t.heads) cycle stream (length t.rows) next.place less in
    let found = slice_get-there t.heads stream inside in
    let here = owed_at t.heads t.cycles cycle stream found.0 found.1 in_cycles in
    let same : Some found.0.params ≡ Some p = sym here ∙ ap (slice_get (owed (params_of_heads t.heads) t.cycles)) (sym next.place) ∙ turn in
    record { in_cycles = in_cycles; in_streams = inside; head = found.0; there = found.1; params = cc }

-- ---- one row

module _ (t : TraceText) (cycle stream : ℕ) (next : IsNextRow t cycle stream) (row : Cycle) (can : CanTake t row) where
  pub turn : HasTurn t cycle stream can.params
  turn = has_turn t cycle stream next can.params can.turn

  same_some : {A : Type 0} {x y : A} → Some x ≡ Some y → x ≡ y
  same_some is = cc

  more : HasMore (streams_of t) (streams_of (with_row t row)) stream (stream_with t stream turn.head) row
  more = has_more t cycle stream next.place turn.in_streams turn.in_cycles row turn.head turn.there

  abbrev Broken : Rule → Type 0
  Broken rule = BreaksAfter rule turn.head.params (cycles_of_stream t stream) row

  added : AddsOffences (offends_in t) (offends_in (with_row t row)) cycle stream Broken
  added = adds t cycle stream next.place turn.in_streams turn.in_cycles row turn.head turn.there

  -- the answer of the survey so far stays where an offence was found
  pub RowsSay-found : (checkers new : List Checker) (found : FoundOffence) → RowsSay (offends_in t) t checkers (Some found) → RowsSay (offends_in (with_row t row)) (with_row t row) new (Some found)
  RowsSay-found checkers new found says = IsFirst-stays (offends_in t) (offends_in (with_row t row)) cycle stream Broken added (offence_of found) says

  module _ (checkers : List Checker) (says : RowsSay (offends_in t) t checkers None) where
    pub stream_within : stream < length checkers
    stream_within = let inside = turn.in_streams in omega (arith, says.0.many, length-streams t 0 t.heads)

    module _ (old : Checker) (there : slice_get checkers stream ≡ Some old) where
      checked : IsChecked (stream_with t stream turn.head) old
      checked = says.0.each stream (stream_with t stream turn.head) old more.before there

      pub row_fits : IfSome row.shown (Fits (params_in old))
      row_fits = subst (λ (p : Parameters). IfSome row.shown (Fits p)) (sym turn.params ∙ sym checked.params) (shows_fit can.params row.shown can.shown)

      pub few_seen : t.cycles ≤ most_cycles → seen_in old < 2 ^ 32 - 1
      few_seen few =
          let seen : seen_in old ≡ cycle = checked.stands.seen ∙ length-cycles_here t cycle stream next.place turn.in_streams turn.in_cycles in
          let inside = turn.in_cycles in
          omega arith

      by_head : (rule : Rule) → Broken rule → BreaksAfter rule (params_in old) (cycles_of_stream t stream) row
      by_head rule b = rw checked.params b

      pub RowsSay-broken : (new : Checker) (after : List Checker) (rule : Rule) → ((cycles : List Cycle) → StandsFor old cycles → Steps old new cycles row (Some rule)) →
          RowsSay (offends_in (with_row t row)) (with_row t row) after (Some (record { cycle = cycle; stream = stream; rule = rule }))
      RowsSay-broken new after rule steps =
          let step = steps (cycles_of_stream t stream) checked.stands in
          IsFirst-here (offends_in t) (offends_in (with_row t row)) cycle stream Broken added says.1 rule
          (subst (λ (p : Parameters). BreaksAfter rule p (cycles_of_stream t stream) row) checked.params step.0.0) (λ other b. step.0.1 other (by_head other b))

      pub RowsSay-unbroken : (new : Checker) → params_in new ≡ params_in old → ((cycles : List Cycle) → StandsFor old cycles → Steps old new cycles row None) → RowsSay (offends_in (with_row t row)) (with_row t row) (set checkers stream new) None
      RowsSay-unbroken new same steps =
          let step = steps (cycles_of_stream t stream) checked.stands in
          let many : length (set checkers stream new) ≡ length (streams_of (with_row t row)) = omega (arith, length-set checkers stream new, says.0.many, length-streams t 0 t.heads, length-streams (with_row t row) 0 t.heads) in
          (record { many = many; each = λ i s checker is here. each i s checker is here (same_or_other i stream) }, IsFirst-none (offends_in t) (offends_in (with_row t row)) cycle stream Broken added says.1 (λ rule b. step.0 rule (by_head rule b)))
        where
          each : (i : ℕ) (s : StreamTrace) (checker : Checker) → slice_get (streams_of (with_row t row)) i ≡ Some s → slice_get (set checkers stream new) i ≡ Some checker → (i ≡ stream) ⊎ (i ≡ stream → ⊥) → IsChecked s checker
          each i s checker is here (inr other) = says.0.each i s checker (sym (more.others i other) ∙ is) (sym (slice_get-set_other checkers stream i new (λ same. other (sym same))) ∙ here)
          each i s checker is here (inl at) =
              let step = steps (cycles_of_stream t stream) checked.stands in
              let is_new : new ≡ checker = same_some (sym (slice_get-set_same checkers stream new stream_within) ∙ ap (slice_get (set checkers stream new)) (sym at) ∙ here) in
              let longer : StreamTrace = record { params = turn.head.params; cycles = cycles_of_stream t stream ++ row ∷ [] } in
              let is_longer : longer ≡ s = same_some (sym more.now ∙ ap (slice_get (streams_of (with_row t row))) (sym at) ∙ is) in
              subst (λ (c : Checker). IsChecked s c) is_new (subst (λ (x : StreamTrace). IsChecked x new) is_longer (record { params = same ∙ checked.params; stands = step.1 }))

  -- whose turn is next
  pub next_row : (next_cycle next_stream : ℕ) → next_stream ≡ (if stream + 1 == length t.heads then 0 else stream + 1) → next_cycle ≡ (if next_stream == 0 then cycle + 1 else cycle) → IsNextRow (with_row t row) next_cycle next_stream
  next_row next_cycle next_stream stream_is cycle_is = by_cases (cases_lt (stream + 1) (length t.heads))
    where
      long : length (t.rows ++ row ∷ []) ≡ length t.rows + 1
      long = length-append t.rows (row ∷ [])

      by_cases : (stream + 1 < length t.heads) ⊎ (length t.heads ≤ stream + 1) → IsNextRow (with_row t row) next_cycle next_stream
      by_cases (inl less) =
          let other : (stream + 1 == length t.heads) ≡ false = grind (arith, nat_tests) in
          let is : next_stream ≡ stream + 1 = stream_is ∙ ap (λ (b : Bool). if b then 0 else stream + 1) other in
          let some : (next_stream == 0) ≡ false = grind (arith, nat_tests) in
          let cycle_same : next_cycle ≡ cycle = cycle_is ∙ ap (λ (b : Bool). if b then cycle + 1 else cycle) some in
          record { place = omega (arith, long, next.place, is, ap (λ (n : ℕ). n * length t.heads) cycle_same); within = λ positive. omega (arith, is) }
      by_cases (inr most) =
          let inside = turn.in_streams in
          let last : stream + 1 ≡ length t.heads = omega arith in
          let same : (stream + 1 == length t.heads) ≡ true = grind (arith, nat_tests) in
          let is : next_stream ≡ 0 = stream_is ∙ ap (λ (b : Bool). if b then 0 else stream + 1) same in
          let cycle_next : next_cycle ≡ cycle + 1 = cycle_is ∙ ap (λ (n : ℕ). if n == 0 then cycle + 1 else cycle) is in
          let grown : (cycle + 1) * length t.heads ≡ cycle * length t.heads + length t.heads = omega (arith, suc-mul cycle (length t.heads)) in
          record { place = omega (arith, long, next.place, is, last, grown, ap (λ (n : ℕ). n * length t.heads) cycle_next); within = λ positive. omega (arith, is) }
