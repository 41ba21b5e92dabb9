-- No text is without a thing that is said of it.
use Rattle.std.proofs.Common.{◌≡◌, ◌∙◌, ◌⊎◌, inl, inr, ℕ, zero, suc, ◌+◌, ◌<◌, ◌≤◌, List, [], ◌∷◌, length, take, Option, Some, None, slice_get, Result, Ok, Err, refl, sym, ap, subst, arith}
use Rattle.std.specs.List.{flat_map}
use Rattle.std.specs.Option.{option_to_list}
use Rattle.std.proofs.lemmas.Bool.{cases_lt}
use Rattle.std.proofs.lemmas.List.{take_all}
use Rattle.physical_stream.specs.Cycles.{Cycle, StreamTrace, items_done}
use Rattle.physical_stream.specs.declared.item.Item.{Item}
use Rattle.cycle_trace.specs.Trace.{TraceText, streams_of}
use Rattle.cycle_trace.specs.TraceText.{trace_of}
use Rattle.cycle_trace.specs.declared.fault.TraceFault.{TraceFault}
use Rattle.port_drive.specs.Drives.{heads_of}
use Rattle.trace_decode.proofs.RowLemmas.{same_some}
use Rattle.trace_decode.proofs.SomeLemmas.{differ_or_same}
use Rattle.trace_compare.specs.Differences.{AreDifferences, DifferFirst, IsCompared, IsDoneIn, count_done, done_by}
use Rattle.trace_compare.specs.Laws.{SomeComparison}
use Rattle.trace_compare.specs.Places.{place_after}
use Rattle.trace_compare.specs.Texts.{Compared, Misspelled, OtherHeader}
use Rattle.trace_compare.specs.declared.difference.Difference.{Difference}
use Rattle.trace_compare.proofs.LawLemmas.{long_wants}

-- two lists of items differ first at some number, or they are the same
items_differ_or_same : (want done : List Item) → ((number : ℕ) → DifferFirst want done number → ⊥) → (want ≡ done → ⊥) → ⊥
items_differ_or_same [] [] differ same = same refl
items_differ_or_same [] (y ∷ ys) differ same = differ 0 (record { same = refl; differ = λ e. cc })
items_differ_or_same (x ∷ xs) [] differ same = differ 0 (record { same = refl; differ = λ e. cc })
items_differ_or_same (x ∷ xs) (y ∷ ys) differ same =
    let go_on : x ≡ y → ⊥ = λ here.
    items_differ_or_same xs ys
    (λ number d. differ (suc number) (record { same = ap (λ (h : Item). h ∷ take number xs) here ∙ ap (λ (l : List Item). y ∷ l) d.same; differ = d.differ }))
    (λ rest. same (ap (λ (h : Item). h ∷ xs) here ∙ ap (λ (l : List Item). y ∷ l) rest)) in
    differ 0 (record { same = refl; differ = λ e. go_on (same_some e) })

-- the cycle in which an item is done
cycle_of_item : (s : StreamTrace) (item n : ℕ) → item < count_done s n → (cycle : ℕ) × IsDoneIn s item (Some cycle)
cycle_of_item s item zero less = absurd (omega (arith, less))
cycle_of_item s item (suc n) less = by_cases (λ before. cycle_of_item s item n before) (cases_lt item (count_done s n))
  where
    by_cases : (item < count_done s n → (cycle : ℕ) × IsDoneIn s item (Some cycle)) → (item < count_done s n) ⊎ (count_done s n ≤ item) → (cycle : ℕ) × IsDoneIn s item (Some cycle)
    by_cases earlier (inl before) = earlier before
    by_cases earlier (inr past) = (n, (past, less))

some_cycle : (s : StreamTrace) (item : ℕ) → (cycle : Option ℕ) × IsDoneIn s item cycle
some_cycle s item = by_cases (cases_lt item (length (done_by s)))
  where
    by_cases : (item < length (done_by s)) ⊎ (length (done_by s) ≤ item) → (cycle : Option ℕ) × IsDoneIn s item cycle
    by_cases (inl less) =
        let all : count_done s (length s.cycles) ≡ length (done_by s) = ap (λ (l : List Cycle). length (items_done s.params l)) (take_all (length s.cycles) s.cycles (omega arith)) in
        let found = cycle_of_item s item (length s.cycles) (omega (arith, less, all)) in
        (Some found.0, found.1)
    by_cases (inr past) = (None, past)

some_first : (number : ℕ) (want : List Item) (s : StreamTrace) → ((first : Option Difference) → IsCompared number want s first → ⊥) → ⊥
some_first number want s none =
    items_differ_or_same want (done_by s)
    (λ item differ.
    let cycle = some_cycle s item in
    let d : Difference =
    record { stream = number; item = item; place = place_after s.params.dims (take item want); cycle = cycle.0; want = slice_get want item; got = slice_get (done_by s) item } in
    none (Some d) (record { stream = refl; first = differ; place = refl; cycle = cycle.1; expected = refl; done = refl }))
    (λ same. none None (sym same))

-- the first differences of the streams from this number on
record HasFirsts (number : ℕ) (wants : List (List Item)) (streams : List StreamTrace) : Type 0 where
  firsts : List (Option Difference)
  many : length firsts ≡ length streams
  each : (i : ℕ) (want : List Item) (s : StreamTrace) (first : Option Difference) → slice_get wants i ≡ Some want → slice_get streams i ≡ Some s → slice_get firsts i ≡ Some first
      → IsCompared (number + i) want s first

some_firsts : (number : ℕ) (wants : List (List Item)) (streams : List StreamTrace) → length wants ≡ length streams → (HasFirsts number wants streams → ⊥) → ⊥
some_firsts number [] [] long none = none (record { firsts = []; many = refl; each = λ i want s first wanted here there. absurd cc })
some_firsts number [] (s ∷ streams) long none = absurd (omega (arith, long))
some_firsts number (want ∷ wants) [] long none = absurd (omega (arith, long))
some_firsts number (want ∷ wants) (s ∷ streams) long none =
    some_first number want s (λ first compared. some_firsts (suc number) wants streams (omega (arith, long)) (λ has. none (record {
      firsts = first ∷ has.firsts;
      many = omega (arith, has.many);
      each = each first compared has;
    })))
  where
    each : (first : Option Difference) → IsCompared number want s first → (has : HasFirsts (suc number) wants streams) → (i : ℕ) (wanted : List Item) (one : StreamTrace) (found : Option Difference)
        → slice_get (want ∷ wants) i ≡ Some wanted → slice_get (s ∷ streams) i ≡ Some one → slice_get (first ∷ has.firsts) i ≡ Some found → IsCompared (number + i) wanted one found
    each first compared has zero wanted one found a b c =
        subst (λ (n : ℕ). IsCompared n wanted one found) (let is : number ≡ number + 0 = omega arith in is)
        (subst (λ (f : Option Difference). IsCompared number wanted one f) (same_some c)
        (subst (λ (x : StreamTrace). IsCompared number wanted x first) (same_some b) (subst (λ (w : List Item). IsCompared number w s first) (same_some a) compared)))
    each first compared has (suc i) wanted one found a b c =
        subst (λ (n : ℕ). IsCompared n wanted one found) (let is : suc number + i ≡ number + suc i = omega arith in is) (has.each i wanted one found a b c)

some_differences : (wants : List (List Item)) (streams : List StreamTrace) → length wants ≡ length streams → ((differences : List Difference) → AreDifferences wants streams differences → ⊥) → ⊥
some_differences wants streams long none = some_firsts 0 wants streams long (λ has. none (flat_map option_to_list has.firsts) (record {
  firsts = has.firsts;
  many = has.many;
  each = λ i want s first wanted here there. subst (λ (n : ℕ). IsCompared n want s first) (let is : 0 + i ≡ i = omega arith in is) (has.each i want s first wanted here there);
  are = refl;
}))

pub some_comparison : SomeComparison
some_comparison split wants lists bytes none = by_read (trace_of bytes) refl
  where
    by_read : (read : Result TraceText TraceFault) → trace_of bytes ≡ read → ⊥
    by_read (Err fault) is = none (Misspelled fault) is
    by_read (Ok t) is =
        differ_or_same t.heads (heads_of split) (λ place differ. none (OtherHeader place) (t, (is, differ)))
        (λ same. some_differences wants (streams_of t) (long_wants split wants t lists same) (λ differences are. none (Compared differences) (t, (is, (same, are)))))
