-- The answers of the checkers of a trace before its first row and after its last one.
use Rattle.std.proofs.Common.{◌≡◌, ◌≢◌, ◌∙◌, ℕ, suc, ◌+◌, ◌*◌, ◌<◌, ◌≤◌, inl, inr, ◌⊎◌, List, [], ◌∷◌, ◌++◌, length, map, take, drop, get_or, slice_get, Option, None, Some, refl, sym, ap, subst, arith}
use Rattle.std.proofs.lemmas.Bool.{cases_lt}
use Rattle.std.proofs.lemmas.List.{length_push, drop_more, drop_all, map_more, take_all}
use Rattle.std.proofs.lemmas.Option.{slice_get_read, slice_get_within, get_or_from_slice_get}
use Rattle.physical_stream.specs.Cycles.{Cycle, StreamTrace}
use Rattle.physical_stream.specs.Counts.{transfers_of, packets_of}
use Rattle.physical_stream.specs.Ending.{ending_of}
use Rattle.physical_stream.specs.First.{IsFirst}
use Rattle.physical_stream.specs.declared.end.End.{End}
use Rattle.physical_stream.specs.declared.end.End.TheVariants as ends
use Rattle.physical_stream.specs.declared.head.Head.{Head}
use Rattle.complexity_rules.specs.Checking.{StandsFor, params_in}
use Rattle.complexity_rules.specs.declared.checker.Checker.{Checker}
use Rattle.cycle_trace.specs.declared.surveying.counts.Counts.{Counts}
use Rattle.cycle_trace.specs.Trace.{TraceText, cycles_of_stream, row_in, streams_from, streams_of}
use Rattle.cycle_trace.specs.Survey.{Surveys, UnfinishedStream, counts_of, first_unfinished, or_unfinished, survey_of}
use Rattle.cycle_trace.specs.Surveying.{AreChecked, IsChecked, offends_in, unseen}
use Rattle.std.specs.Option.{option_to_list}
use Rattle.physical_stream.specs.Items.{parts_below}
use Rattle.tydi_base.proofs.PlaceLemmas.{slice_get-there, slice_get-front, slice_get-next}
use Rattle.physical_stream.proofs.PartsLemmas.{parts_below-tail}
use Rattle.cycle_trace.proofs.StreamLemmas.{head_at}

-- ---- before the first row

AreChecked-none : AreChecked [] []
AreChecked-none = record { many = refl; each = λ i s checker is here. absurd cc }

-- one stream more, with its checker
AreChecked-push : (streams : List StreamTrace) (s : StreamTrace) (checkers : List Checker) (checker : Checker) → AreChecked streams checkers → IsChecked s checker → AreChecked (streams ++ s ∷ []) (checkers ++ checker ∷ [])
AreChecked-push streams s checkers checker at last = record { many = omega (arith, length_push checkers checker, length_push streams s, at.many); each = λ i x c is here. each i x c is here (cases_lt i (length streams)) }
  where
    each : (i : ℕ) (x : StreamTrace) (c : Checker) → slice_get (streams ++ s ∷ []) i ≡ Some x → slice_get (checkers ++ checker ∷ []) i ≡ Some c → (i < length streams) ⊎ (length streams ≤ i) → IsChecked x c
    each i x c is here (inl less) = at.each i x c (sym (slice_get-front streams (s ∷ []) i less) ∙ is) (sym (slice_get-front checkers (checker ∷ []) i (omega (arith, at.many))) ∙ here)
    each i x c is here (inr more) =
        let end : i ≡ length streams = omega (arith, slice_get_within (streams ++ s ∷ []) i x is, length_push streams s) in
        let same_stream : s ≡ x = let e = sym (slice_get-next streams s i end) ∙ is in cc in
        let same_checker : checker ≡ c = let e = sym (slice_get-next checkers checker i (end ∙ sym at.many)) ∙ here in cc in
        subst (λ (y : StreamTrace). IsChecked y c) same_stream (subst (λ (y : Checker). IsChecked s y) same_checker last)

pub HaveCheckers-none : (heads : List Head) (checkers : List Checker) → checkers ≡ [] → AreChecked (map unseen (take 0 heads)) checkers
HaveCheckers-none heads checkers none = rw none AreChecked-none

pub HaveCheckers-more : (heads : List Head) (n : ℕ) (checkers : List Checker) (checker : Checker) (head : Head) → AreChecked (map unseen (take n heads)) checkers → n < length heads → head ≡ get_or heads n head →
    params_in checker ≡ head.params → StandsFor checker [] → AreChecked (map unseen (take (n + 1) heads)) (checkers ++ checker ∷ [])
HaveCheckers-more heads n checkers checker head have within is params stands =
    let next : map unseen (take (n + 1) heads) ≡ map unseen (take n heads) ++ unseen head ∷ [] = map_more unseen heads n head within ∙ ap (λ (h : Head). map unseen (take n heads) ++ unseen h ∷ []) (sym is) in
    subst (λ (streams : List StreamTrace). AreChecked streams (checkers ++ checker ∷ [])) (sym next) (AreChecked-push (map unseen (take n heads)) (unseen head) checkers checker have (record { params = params; stands = stands }))

-- no cycle stands in a trace without rows
cycles-none : (t : TraceText) (stream : ℕ) → t.rows ≡ [] → cycles_of_stream t stream ≡ []
cycles-none t stream none =
    let all : t.cycles ≡ 0 + t.cycles = omega arith in
    ap (parts_below (row_in t stream)) all ∙ parts_below-tail (row_in t stream) 0 t.cycles (λ i more. ap (λ (rows : List Cycle). option_to_list (slice_get rows (i * length t.heads + stream))) none)

streams-none : (t : TraceText) (k : ℕ) (heads : List Head) → t.rows ≡ [] → streams_from t k heads ≡ map unseen heads
streams-none t k [] none = refl
streams-none t k (head ∷ heads) none = rw (cycles-none t k none, streams-none t (suc k) heads none) refl

pub AreChecked-unseen : (t : TraceText) (checkers : List Checker) → t.rows ≡ [] → AreChecked (map unseen t.heads) checkers → AreChecked (streams_of t) checkers
AreChecked-unseen t checkers none at = rw (streams-none t 0 t.heads none) at

pub IsFirst-none_yet : (t : TraceText) → t.rows ≡ [] → IsFirst (offends_in t) None
IsFirst-none_yet t none o b =
    let found = head_at t o.stream b.trace b.stands in
    let empty : b.trace.cycles ≡ [] = ap (λ (s : StreamTrace). s.cycles) found.2 ∙ cycles-none t o.stream none in
    let stands = ap (λ (cycles : List Cycle). slice_get cycles o.cycle) (sym empty) ∙ b.breaks.stands in
    absurd cc

-- ---- after the last row

not_whole : (i : ℕ) (end : End) (later : Option UnfinishedStream) → end ≢ ends.Whole → or_unfinished i end later ≡ Some (record { stream = i; end = end })
not_whole i ends.Whole later unlike = absurd (unlike refl)
not_whole i ends.Pending later unlike = refl
not_whole i (ends.Unclosed k) later unlike = refl

-- the first stream of all that does not end whole is the first one from this number on
abbrev pub GoesOn : List StreamTrace → ℕ → Type 0
GoesOn streams i = first_unfinished 0 streams ≡ first_unfinished i (drop i streams)

-- a checker reports how its stream ends
abbrev pub TellsEnd : Checker → End → Type 0
TellsEnd checker end = (cycles : List Cycle) → StandsFor checker cycles → end ≡ ending_of (params_in checker) cycles

-- the transfers and the packets of a stream
abbrev pub count_in : StreamTrace → ℕ × ℕ
count_in s = (transfers_of s.cycles, packets_of s.params s.cycles)

module _ (streams : List StreamTrace) (checkers : List Checker) (i : ℕ) (at : AreChecked streams checkers) where
  -- the stream of a checker
  checked : (checker : Checker) → i < length checkers → checker ≡ get_or checkers i checker → (s : StreamTrace) × (slice_get streams i ≡ Some s) × IsChecked s checker
  checked checker within is =
      let found = slice_get-there streams i (omega (arith, at.many)) in
      (found.0, found.1, at.each i found.0 checker found.1 (slice_get_read checkers (length checkers) i checker refl within is))

  module _ (goes : GoesOn streams i) where
    module _ (checker : Checker) (end : End) (within : i < length checkers) (is : checker ≡ get_or checkers i checker) (tells : TellsEnd checker end) where
      ends_here : first_unfinished 0 streams ≡ or_unfinished i end (first_unfinished (i + 1) (drop (i + 1) streams))
      ends_here =
          let h = checked checker within is in
          let s = h.0 in
          let end_is : ending_of s.params s.cycles ≡ end = sym (tells s.cycles h.2.stands ∙ ap (λ p. ending_of p s.cycles) h.2.params) in
          let parts = drop_more streams i s (slice_get_within streams i s h.1) in
          let next : suc i ≡ i + 1 = omega arith in
          goes ∙ ap (first_unfinished i) (parts ∙ ap (λ (x : StreamTrace). x ∷ drop (i + 1) streams) (get_or_from_slice_get streams i s s h.1))
          ∙ ap (λ (k : ℕ). or_unfinished i (ending_of s.params s.cycles) (first_unfinished k (drop (i + 1) streams))) next
          ∙ ap (λ (e : End). or_unfinished i e (first_unfinished (i + 1) (drop (i + 1) streams))) end_is

      pub GoesOn-more : end ≡ ends.Whole → GoesOn streams (i + 1)
      GoesOn-more whole = ends_here ∙ ap (λ (e : End). or_unfinished i e (first_unfinished (i + 1) (drop (i + 1) streams))) whole

      pub GoesOn-ends : end ≢ ends.Whole → Some (record { stream = i; end = end }) ≡ first_unfinished 0 streams
      GoesOn-ends unlike = sym (ends_here ∙ not_whole i end (first_unfinished (i + 1) (drop (i + 1) streams)) unlike)

    pub GoesOn-all : length checkers ≤ i → None ≡ first_unfinished 0 streams
    GoesOn-all past = sym (goes ∙ ap (first_unfinished i) (drop_all i streams (omega (arith, at.many))))

  -- the counts of one stream more
  pub counts_in-more : (checker : Checker) (transfers packets : ℕ) → i < length checkers → checker ≡ get_or checkers i checker →
      ((cycles : List Cycle) → StandsFor checker cycles → transfers ≡ transfers_of cycles) → ((cycles : List Cycle) → StandsFor checker cycles → packets ≡ packets_of (params_in checker) cycles) →
      map count_in (take i streams) ++ (transfers, packets) ∷ [] ≡ map count_in (take (i + 1) streams)
  counts_in-more checker transfers packets within is tells_transfers tells_packets =
      let h = checked checker within is in
      let s = h.0 in
      let done : transfers ≡ transfers_of s.cycles = tells_transfers s.cycles h.2.stands in
      let packed : packets ≡ packets_of s.params s.cycles = tells_packets s.cycles h.2.stands ∙ ap (λ p. packets_of p s.cycles) h.2.params in
      let same : ◌≡◌ {A = ℕ × ℕ} (transfers, packets) (count_in s) = rw (done, packed) refl in
      ap (λ (x : ℕ × ℕ). map count_in (take i streams) ++ x ∷ []) (same ∙ sym (ap count_in (get_or_from_slice_get streams i s s h.1))) ∙ sym (map_more count_in streams i s (slice_get_within streams i s h.1))

  pub counts_in-all : length checkers ≤ i → map count_in (take i streams) ≡ (counts_of streams).streams
  counts_in-all past = ap (map count_in) (take_all i streams (omega (arith, at.many)))

-- ---- the whole survey

pub surveys_legal : (t : TraceText) (unfinished : Option UnfinishedStream) (counts : Counts) → IsFirst (offends_in t) None → unfinished ≡ first_unfinished 0 (streams_of t) → counts ≡ counts_of (streams_of t)
    → Surveys (offends_in t) (streams_of t) (survey_of None unfinished counts)
surveys_legal t unfinished counts legal ends counted = record {
  first = None;
  is_first = legal;
  says = ap (λ (u : Option UnfinishedStream). survey_of None u counts) ends ∙ ap (survey_of None (first_unfinished 0 (streams_of t))) counted;
}
