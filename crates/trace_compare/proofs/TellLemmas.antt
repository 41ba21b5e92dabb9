-- The differences of streams, stream by stream.
use Rattle.std.proofs.Common.{◌≡◌, ◌∙◌, ◌⊎◌, inl, inr, ℕ, ◌+◌, ◌<◌, ◌≤◌, List, [], ◌∷◌, ◌++◌, length, get_or, Option, Some, Result, Ok, Err, IfOk, slice_get, refl, sym, ap, subst, arith, append-nil}
use Rattle.std.specs.Prelude.{option_map}
use Rattle.std.specs.List.{flat_map}
use Rattle.std.specs.Option.{option_to_list}
use Rattle.std.proofs.lemmas.Bool.{cases_lt}
use Rattle.std.proofs.lemmas.Grind.{flat_map-append}
use Rattle.std.proofs.lemmas.List.{length_push}
use Rattle.std.proofs.lemmas.Option.{slice_get_within}
use Rattle.tydi_base.proofs.PlaceLemmas.{slice_get-front, slice_get-next, slice_get-there}
use Rattle.physical_stream.specs.Params.{Parameters}
use Rattle.physical_stream.specs.Cycles.{StreamTrace}
use Rattle.physical_stream.specs.declared.head.Head.{Head}
use Rattle.physical_stream.specs.declared.item.Item.{Item}
use Rattle.type_split.specs.Streams.{PlainSplit}
use Rattle.type_split.specs.declared.split.Phys.{Phys}
use Rattle.cycle_trace.specs.Trace.{TraceText, streams_of}
use Rattle.cycle_trace.proofs.StreamLemmas.{length-streams, stream_of_head, stream_with}
use Rattle.trace_decode.proofs.RowLemmas.{is_read, same_some}
use Rattle.trace_decode.proofs.RunLemmas.{HasPhys, has_phys}
use Rattle.trace_compare.specs.Differences.{IsCompared}
use Rattle.trace_compare.specs.Keeping.{ComparesStream}
use Rattle.trace_compare.specs.Standing.{HasStream, RunsOver, TellsStream}
use Rattle.trace_compare.specs.declared.compare_run.CompareRun.{CompareRun}
use Rattle.trace_compare.specs.declared.difference.Difference.{Difference}
use Rattle.trace_compare.specs.declared.stream_compared.StreamCompared.{StreamCompared}

-- the differences of the first so many streams
pub record AreTold (wants : List (List Item)) (streams : List StreamTrace) (count : ℕ) (found : List Difference) : Type 0 where
  pub firsts : List (Option Difference)
  pub many : length firsts ≡ count
  pub each : (i : ℕ) (want : List Item) (s : StreamTrace) (first : Option Difference) → slice_get wants i ≡ Some want → slice_get streams i ≡ Some s → slice_get firsts i ≡ Some first
      → IsCompared i want s first
  pub are : found ≡ flat_map option_to_list firsts

-- one stream more
pub more_told : (wants : List (List Item)) (streams : List StreamTrace) (count : ℕ) (found next : List Difference) (first : Option Difference) → AreTold wants streams count found
    → ((want : List Item) (s : StreamTrace) → slice_get wants count ≡ Some want → slice_get streams count ≡ Some s → IsCompared count want s first)
    → next ≡ found ++ option_to_list first → AreTold wants streams (count + 1) next
more_told wants streams count found next first told here now = record {
  firsts = told.firsts ++ first ∷ [];
  many = omega (arith, told.many, length_push told.firsts first);
  each = λ i want s one wanted is there. each i want s one wanted is there (cases_lt i count);
  are =
      now ∙ ap (λ (l : List Difference). l ++ option_to_list first) told.are ∙ ap (λ (l : List Difference). flat_map option_to_list told.firsts ++ l) (sym (append-nil (option_to_list first)))
      ∙ sym (flat_map-append option_to_list told.firsts (first ∷ []));
}
  where
    each : (i : ℕ) (want : List Item) (s : StreamTrace) (one : Option Difference) → slice_get wants i ≡ Some want → slice_get streams i ≡ Some s
        → slice_get (told.firsts ++ first ∷ []) i ≡ Some one → (i < count) ⊎ (count ≤ i) → IsCompared i want s one
    each i want s one wanted is there (inl less) = told.each i want s one wanted is (sym (slice_get-front told.firsts (first ∷ []) i (omega (arith, told.many))) ∙ there)
    each i want s one wanted is there (inr past) =
        let inside = slice_get_within (told.firsts ++ first ∷ []) i one there in
        let last : i ≡ length told.firsts = omega (arith, inside, length_push told.firsts first, told.many) in
        let same : first ≡ one = same_some (sym (slice_get-next told.firsts first i last) ∙ there) in
        let number : count ≡ i = omega (arith, last, told.many) in
        let compared = here want s (ap (slice_get wants) number ∙ wanted) (ap (slice_get streams) number ∙ is) in
        subst (λ (d : Option Difference). IsCompared i want s d) same (subst (λ (n : ℕ). IsCompared n want s first) number compared)

-- ---- what the code reads

-- the difference of the stream that is read
pub tells : {E : Type 0} → (split : PlainSplit) (wants : List (List Item)) (states : List StreamCompared) (i : ℕ) (phys : Phys) (want : List Item) (state : StreamCompared) (read : List Item)
    (streams : List Phys) (dims : ℕ) (result : Result (Option Difference) E) → dims ≡ phys.params.dims → streams ≡ split.streams → phys ≡ get_or streams i phys → want ≡ get_or wants i want
    → state ≡ get_or states i state → read ≡ want
    → ((s : StreamTrace) → s.params.dims ≡ dims → ComparesStream read s state → IfOk result (IsCompared i read s)) → IfOk result (TellsStream split wants states i)
tells split wants states i phys want state read streams dims (Err e) wide all is_phys is_want is_state same_read said = tt
tells split wants states i phys want state read streams dims (Ok first) wide all is_phys is_want is_state same_read said = λ phys' want' state' s there' wanted' found' params compares.
    let same_phys : phys ≡ phys' = is_read split.streams streams i phys' phys there' all is_phys in
    let same_want : read ≡ want' = same_read ∙ is_read wants wants i want' want wanted' refl is_want in
    let same_state : state ≡ state' = is_read states states i state' state found' refl is_state in
    let deep : s.params.dims ≡ dims = ap (λ (p : Parameters). p.dims) params ∙ ap (λ (q : Phys). q.params.dims) (sym same_phys) ∙ sym wide in
    subst (λ (w : List Item). IsCompared i w s first) same_want
    (said s deep (subst (λ (k : StreamCompared). ComparesStream read s k) (sym same_state) (subst (λ (w : List Item). ComparesStream w s state') (sym same_want) compares)))

module _ (split : PlainSplit) (wants : List (List Item)) (t : TraceText) (run : CompareRun) (runs : RunsOver split wants t run) where
  module _ (i : ℕ) (within : i < length run.states.items) where
    head : (h : Head) × (slice_get t.heads i ≡ Some h)
    head = slice_get-there t.heads i (omega (arith, within, runs.states.many, length-streams t 0 t.heads))

    phys : HasPhys split i head.0
    phys = has_phys split t.heads i head.0 runs.heads head.1

    stream : slice_get (streams_of t) i ≡ Some (stream_with t i head.0)
    stream = stream_of_head t i ∙ ap (option_map (stream_with t i)) head.1

    pub has_stream : HasStream split wants run.states.items i
    has_stream =
        let want = slice_get-there wants i (omega (arith, within, runs.states.many, runs.states.lists)) in
        let state = slice_get-there run.states.items i within in
        record {
          phys = phys.phys;
          there = phys.there;
          want = want.0;
          wanted = want.1;
          state = state.0;
          found = state.1;
          within = (runs.states.each i want.0 (stream_with t i head.0) state.0 want.1 stream state.1).within;
        }

    pub is_compared : (first : Option Difference) → TellsStream split wants run.states.items i first → (want : List Item) (s : StreamTrace) → slice_get wants i ≡ Some want
        → slice_get (streams_of t) i ≡ Some s → IsCompared i want s first
    is_compared first tells want s wanted here =
        let state = slice_get-there run.states.items i within in
        let same : stream_with t i head.0 ≡ s = same_some (sym stream ∙ here) in
        let params = ap (λ (x : StreamTrace). x.params) (sym same) ∙ ap (λ (h : Head). h.params) phys.is in
        tells phys.phys want state.0 s phys.there wanted state.1 params (runs.states.each i want s state.0 wanted here state.1)
