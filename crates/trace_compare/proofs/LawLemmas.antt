-- Exactly one thing is said of a text, and there are no differences exactly where the items done are the expected ones.
use Rattle.std.proofs.Common.{◌≡◌, ◌∙◌, ◌⊎◌, inl, inr, ℕ, zero, suc, ◌+◌, ◌-◌, ◌<◌, ◌≤◌, List, [], ◌∷◌, ◌++◌, length, map, take, drop, Option, Some, None, slice_get, Result, Ok, Err, refl, sym, ap, subst, arith}
use Rattle.std.specs.Prelude.{option_map}
use Rattle.std.specs.List.{flat_map}
use Rattle.std.specs.Option.{option_to_list}
use Rattle.std.proofs.Math.Seq.{take-add}
use Rattle.std.proofs.lemmas.Bool.{cases_lt}
use Rattle.std.proofs.lemmas.Grind.{flat_map-append}
use Rattle.std.proofs.lemmas.List.{length-append, length-map, take-append-drop}
use Rattle.std.proofs.lemmas.List.Concat.{flat_map-cons}
use Rattle.std.proofs.lemmas.Option.{slice_get-map, slice_get_within}
use Rattle.tydi_base.proofs.PlaceLemmas.{slice_get-there}
use Rattle.physical_stream.specs.Params.{Parameters}
use Rattle.physical_stream.specs.Cycles.{Cycle, StreamTrace, done_in, done_of, items_done}
use Rattle.physical_stream.specs.Items.{items_of, items_of_all}
use Rattle.physical_stream.specs.declared.item.Item.{Item}
use Rattle.type_split.specs.Streams.{PlainSplit}
use Rattle.cycle_trace.specs.Trace.{TraceText, streams_of}
use Rattle.cycle_trace.specs.TraceText.{trace_of}
use Rattle.cycle_trace.proofs.StreamLemmas.{length-streams}
use Rattle.port_drive.specs.Drives.{head_of_stream, heads_of}
use Rattle.port_drive.specs.Laws.{done_on}
use Rattle.trace_decode.specs.Outcome as heads
use Rattle.trace_decode.proofs.LawLemmas.{lists_same, not_other, one_place}
use Rattle.trace_decode.proofs.RowLemmas.{same_some}
use Rattle.trace_compare.specs.Differences.{AreDifferences, DifferFirst, IsCompared, IsDoneIn, IsFirstDifference, count_done, done_by}
use Rattle.trace_compare.specs.Laws.{NoneSaidWhereSame, NoneWhereSame, OneComparison}
use Rattle.trace_compare.specs.Places.{place_after}
use Rattle.trace_compare.specs.Standing.{OneForEach}
use Rattle.trace_compare.specs.Texts.{Compared, IsComparison, Misspelled, OtherHeader}
use Rattle.trace_compare.specs.declared.difference.Difference.{Difference}

-- ---- no differences

-- nothing is left of options that are all none
nothing_left : {A : Type 0} (firsts : List (Option A)) → ((i : ℕ) (first : Option A) → slice_get firsts i ≡ Some first → first ≡ None) → flat_map option_to_list firsts ≡ []
nothing_left [] none = refl
nothing_left (first ∷ firsts) none =
    flat_map-cons option_to_list first firsts ∙ ap (λ (o : Option _). option_to_list o ++ flat_map option_to_list firsts) (none zero first refl)
    ∙ nothing_left firsts (λ i one here. none (suc i) one here)

-- where nothing is left, all are none
all_none : {A : Type 0} (firsts : List (Option A)) → flat_map option_to_list firsts ≡ [] → (i : ℕ) (first : Option A) → slice_get firsts i ≡ Some first → first ≡ None
all_none [] empty i first here = absurd cc
all_none (None ∷ firsts) empty zero first here = sym (same_some here)
all_none (None ∷ firsts) empty (suc i) first here = all_none firsts (sym (flat_map-cons option_to_list None firsts) ∙ empty) i first here
all_none (Some x ∷ firsts) empty i first here = let clash = sym (flat_map-cons option_to_list (Some x) firsts) ∙ empty in absurd cc

none_same : (number : ℕ) (want : List Item) (s : StreamTrace) (first : Option Difference) → IsCompared number want s first → first ≡ None → done_by s ≡ want
none_same number want s None compared none = compared
none_same number want s (Some d) compared none = absurd cc

same_none : (number : ℕ) (want : List Item) (s : StreamTrace) (first : Option Difference) → IsCompared number want s first → done_by s ≡ want → first ≡ None
same_none number want s None compared same = refl
same_none number want s (Some d) compared same = absurd (compared.first.differ (ap (λ (l : List Item). slice_get l d.item) (sym same)))

-- the items done on the stream of this number
done_there : (streams : List StreamTrace) (i : ℕ) (s : StreamTrace) → slice_get streams i ≡ Some s → slice_get (done_on streams) i ≡ Some (done_by s)
done_there streams i s here = slice_get-map done_by streams i ∙ ap (option_map done_by) here

pub none_where_same : NoneWhereSame
none_where_same wants streams long differences are = (same, none)
  where
    same : differences ≡ [] → done_on streams ≡ wants
    same empty = lists_same (done_on streams) wants (length-map streams done_by ∙ sym long) each
      where
        each : (i : ℕ) (x y : List Item) → slice_get (done_on streams) i ≡ Some x → slice_get wants i ≡ Some y → x ≡ y
        each i x y done wanted =
            let inside = slice_get_within wants i y wanted in
            let s = slice_get-there streams i (omega (arith, inside, long)) in
            let first = slice_get-there are.firsts i (omega (arith, inside, long, are.many)) in
            same_some (sym done ∙ done_there streams i s.0 s.1)
            ∙ none_same i y s.0 first.0 (are.each i y s.0 first.0 wanted s.1 first.1) (all_none are.firsts (sym are.are ∙ empty) i first.0 first.1)

    none : done_on streams ≡ wants → differences ≡ []
    none same_items = are.are ∙ nothing_left are.firsts each
      where
        each : (i : ℕ) (first : Option Difference) → slice_get are.firsts i ≡ Some first → first ≡ None
        each i first here =
            let inside = slice_get_within are.firsts i first here in
            let s = slice_get-there streams i (omega (arith, inside, are.many)) in
            let want = slice_get-there wants i (omega (arith, inside, are.many, long)) in
            let is : done_by s.0 ≡ want.0 = same_some (sym (done_there streams i s.0 s.1) ∙ ap (λ (l : List (List Item)). slice_get l i) same_items ∙ want.1) in
            same_none i want.0 s.0 first (are.each i want.0 s.0 first want.1 s.1 here) is

-- ---- one difference of a stream

-- lists that are the same up to a place have the same item before it
same_before : (one other : List Item) (place at : ℕ) → take place one ≡ take place other → at < place → slice_get one at ≡ slice_get other at
same_before one other place at same less = sym (taken one place at less) ∙ ap (λ (l : List Item). slice_get l at) same ∙ taken other place at less
  where
    taken : (l : List Item) (n k : ℕ) → k < n → slice_get (take n l) k ≡ slice_get l k
    taken l zero k less = absurd (omega arith)
    taken [] (suc n) k less = refl
    taken (x ∷ l) (suc n) zero less = refl
    taken (x ∷ l) (suc n) (suc k) less = taken l n k (omega arith)

one_number : (want done : List Item) (n m : ℕ) → DifferFirst want done n → DifferFirst want done m → n ≡ m
one_number want done n m is is' = by_cases (cases_lt n m) (cases_lt m n)
  where
    by_cases : (n < m) ⊎ (m ≤ n) → (m < n) ⊎ (n ≤ m) → n ≡ m
    by_cases (inl less) right = absurd (is.differ (same_before want done m n is'.same less))
    by_cases (inr more) (inl less) = absurd (is'.differ (same_before want done n m is.same less))
    by_cases (inr more) (inr most) = omega arith

-- more cycles have no fewer items
count-front : (p : Parameters) (front back : List Cycle) → length (items_done p front) ≤ length (items_done p (front ++ back))
count-front p front back =
    let both : items_done p (front ++ back) ≡ items_done p front ++ items_done p back =
    ap (items_of_all p) (flat_map-append done_in front back) ∙ flat_map-append (items_of p) (done_of front) (done_of back) in
    omega (arith, ap length both, length-append (items_done p front) (items_done p back))

count-more : (s : StreamTrace) (n m : ℕ) → n ≤ m → count_done s n ≤ count_done s m
count-more s n m less =
    let parts : take m s.cycles ≡ take n s.cycles ++ take (m - n) (drop n s.cycles) =
    ap (λ (k : ℕ). take k s.cycles) (let sum : m ≡ n + (m - n) = omega (arith, less) in sum) ∙ take-add n (m - n) s.cycles in
    subst (λ (l : List Cycle). count_done s n ≤ length (items_done s.params l)) (sym parts) (count-front s.params (take n s.cycles) (take (m - n) (drop n s.cycles)))

count-all : (s : StreamTrace) (n : ℕ) → count_done s n ≤ length (done_by s)
count-all s n =
    subst (λ (l : List Cycle). count_done s n ≤ length (items_done s.params l)) (take-append-drop n s.cycles) (count-front s.params (take n s.cycles) (drop n s.cycles))

one_cycle : (s : StreamTrace) (item : ℕ) (one other : Option ℕ) → IsDoneIn s item one → IsDoneIn s item other → one ≡ other
one_cycle s item None None is is' = refl
one_cycle s item None (Some c) is is' = absurd (omega (arith, is, is'.1, count-all s (suc c)))
one_cycle s item (Some c) None is is' = absurd (omega (arith, is', is.1, count-all s (suc c)))
one_cycle s item (Some c) (Some d) is is' = by_cases (cases_lt c d) (cases_lt d c)
  where
    by_cases : (c < d) ⊎ (d ≤ c) → (d < c) ⊎ (c ≤ d) → Some c ≡ Some d
    by_cases (inl less) right = absurd (omega (arith, is'.0, is.1, count-more s (suc c) d (omega (arith, less))))
    by_cases (inr more) (inl less) = absurd (omega (arith, is.0, is'.1, count-more s (suc d) c (omega (arith, less))))
    by_cases (inr more) (inr most) = ap (λ (k : ℕ). Some k) (omega arith)

abbrev of_fields : (stream item : ℕ) → List ℕ → Option ℕ → (want got : Option Item) → Difference
of_fields stream item place cycle want got = record { stream = stream; item = item; place = place; cycle = cycle; want = want; got = got }

same_fields : (d e : Difference) → d.stream ≡ e.stream → d.item ≡ e.item → d.place ≡ e.place → d.cycle ≡ e.cycle → d.want ≡ e.want → d.got ≡ e.got → d ≡ e
same_fields d e stream item place cycle want got =
    ap (λ (k : ℕ). of_fields k d.item d.place d.cycle d.want d.got) stream ∙ ap (λ (k : ℕ). of_fields e.stream k d.place d.cycle d.want d.got) item
    ∙ ap (λ (l : List ℕ). of_fields e.stream e.item l d.cycle d.want d.got) place ∙ ap (λ (o : Option ℕ). of_fields e.stream e.item e.place o d.want d.got) cycle
    ∙ ap (λ (o : Option Item). of_fields e.stream e.item e.place e.cycle o d.got) want ∙ ap (λ (o : Option Item). of_fields e.stream e.item e.place e.cycle e.want o) got

one_difference : (number : ℕ) (want : List Item) (s : StreamTrace) (d e : Difference) → IsFirstDifference number want s d → IsFirstDifference number want s e → d ≡ e
one_difference number want s d e is is' =
    let item : d.item ≡ e.item = one_number want (done_by s) d.item e.item is.first is'.first in
    same_fields d e (is.stream ∙ sym is'.stream) item (is.place ∙ ap (λ (k : ℕ). place_after s.params.dims (take k want)) item ∙ sym is'.place)
    (one_cycle s e.item d.cycle e.cycle (subst (λ (k : ℕ). IsDoneIn s k d.cycle) item is.cycle) is'.cycle)
    (is.expected ∙ ap (slice_get want) item ∙ sym is'.expected) (is.done ∙ ap (slice_get (done_by s)) item ∙ sym is'.done)

one_first : (number : ℕ) (want : List Item) (s : StreamTrace) (one other : Option Difference) → IsCompared number want s one → IsCompared number want s other → one ≡ other
one_first number want s None None is is' = refl
one_first number want s None (Some d) is is' = sym (same_none number want s (Some d) is' is)
one_first number want s (Some d) None is is' = same_none number want s (Some d) is is'
one_first number want s (Some d) (Some e) is is' = ap (λ (x : Difference). Some x) (one_difference number want s d e is is')

one_list : (wants : List (List Item)) (streams : List StreamTrace) (one other : List Difference) → length wants ≡ length streams → AreDifferences wants streams one → AreDifferences wants streams other
    → one ≡ other
one_list wants streams one other long are are' = are.are ∙ ap (flat_map option_to_list) (lists_same are.firsts are'.firsts (are.many ∙ sym are'.many) each) ∙ sym are'.are
  where
    each : (i : ℕ) (x y : Option Difference) → slice_get are.firsts i ≡ Some x → slice_get are'.firsts i ≡ Some y → x ≡ y
    each i x y here there =
        let inside = slice_get_within are.firsts i x here in
        let s = slice_get-there streams i (omega (arith, inside, are.many)) in
        let want = slice_get-there wants i (omega (arith, inside, are.many, long)) in
        one_first i want.0 s.0 x y (are.each i want.0 s.0 x want.1 s.1 here) (are'.each i want.0 s.0 y want.1 s.1 there)

-- ---- one comparison

same_ok : {A E : Type 0} {x y : A} → ◌≡◌ {A = Result A E} (Ok x) (Ok y) → x ≡ y
same_ok is = cc

same_err : {A E : Type 0} {x y : E} → ◌≡◌ {A = Result A E} (Err x) (Err y) → x ≡ y
same_err is = cc

ok_not_err : {A E : Type 0} (read : Result A E) (x : A) (e : E) → read ≡ Ok x → read ≡ Err e → ⊥
ok_not_err read x e ok err = let clash = sym ok ∙ err in cc

-- there is a list for each stream of a trace whose heads are the port's
pub long_wants : (split : PlainSplit) (wants : List (List Item)) (t : TraceText) → OneForEach split wants → t.heads ≡ heads_of split → length wants ≡ length (streams_of t)
long_wants split wants t lists same = omega (arith, lists, length-streams t 0 t.heads, ap length same, length-map split.streams head_of_stream)

pub one_comparison : OneComparison
one_comparison split wants lists bytes (Misspelled f) (Misspelled g) a b = ap Misspelled (same_err (sym a ∙ b))
one_comparison split wants lists bytes (Misspelled f) (OtherHeader m) a b = absurd (ok_not_err (trace_of bytes) b.0 f b.1.0 a)
one_comparison split wants lists bytes (Misspelled f) (Compared e) a b = absurd (ok_not_err (trace_of bytes) b.0 f b.1.0 a)
one_comparison split wants lists bytes (OtherHeader n) (Misspelled g) a b = absurd (ok_not_err (trace_of bytes) a.0 g a.1.0 b)
one_comparison split wants lists bytes (OtherHeader n) (OtherHeader m) a b =
    let same : b.0 ≡ a.0 = same_ok (sym b.1.0 ∙ a.1.0) in
    ap OtherHeader (one_place a.0.heads (heads_of split) n m a.1.1 (subst (λ (t : TraceText). heads.DifferFirst t.heads (heads_of split) m) same b.1.1))
one_comparison split wants lists bytes (OtherHeader n) (Compared e) a b =
    let same : b.0 ≡ a.0 = same_ok (sym b.1.0 ∙ a.1.0) in
    absurd (not_other a.0.heads (heads_of split) n a.1.1 (ap (λ (t : TraceText). t.heads) (sym same) ∙ b.1.1.0))
one_comparison split wants lists bytes (Compared d) (Misspelled g) a b = absurd (ok_not_err (trace_of bytes) a.0 g a.1.0 b)
one_comparison split wants lists bytes (Compared d) (OtherHeader m) a b =
    let same : a.0 ≡ b.0 = same_ok (sym a.1.0 ∙ b.1.0) in
    absurd (not_other b.0.heads (heads_of split) m b.1.1 (ap (λ (t : TraceText). t.heads) (sym same) ∙ a.1.1.0))
one_comparison split wants lists bytes (Compared d) (Compared e) a b =
    let same : b.0 ≡ a.0 = same_ok (sym b.1.0 ∙ a.1.0) in
    ap Compared (one_list wants (streams_of a.0) d e (long_wants split wants a.0 lists a.1.1.0) a.1.1.1 (subst (λ (t : TraceText). AreDifferences wants (streams_of t) e) same b.1.1.1))

-- ---- no differences of a text

-- no stream has a difference, where the items done are the expected ones
no_firsts : (wants : List (List Item)) (streams : List StreamTrace) → done_on streams ≡ wants → AreDifferences wants streams []
no_firsts wants streams same_items = record {
  firsts = map none_of streams;
  many = length-map streams none_of;
  each = λ number want s first wanted here there.
      let is : Some first ≡ Some None = sym there ∙ slice_get-map none_of streams number ∙ ap (option_map none_of) here in
      let same : done_by s ≡ want = same_some (sym (done_there streams number s here) ∙ ap (λ (l : List (List Item)). slice_get l number) same_items ∙ wanted) in
      subst (λ (f : Option Difference). IsCompared number want s f) (sym (same_some is)) same;
  are = sym (nothing_left (map none_of streams) (λ i first here. all_of_map streams i first here));
}
  where
    none_of : StreamTrace → Option Difference
    none_of s = None

    all_of_map : (l : List StreamTrace) (i : ℕ) (first : Option Difference) → slice_get (map none_of l) i ≡ Some first → first ≡ None
    all_of_map [] i first here = absurd cc
    all_of_map (s ∷ l) zero first here = sym (same_some here)
    all_of_map (s ∷ l) (suc i) first here = all_of_map l i first here

pub none_said_where_same : NoneSaidWhereSame
none_said_where_same split wants lists bytes t read same = (there, back)
  where
    there : IsComparison split wants bytes (Compared []) → done_on (streams_of t) ≡ wants
    there said =
        let is : said.0 ≡ t = same_ok (sym said.1.0 ∙ read) in
        (none_where_same wants (streams_of t) (long_wants split wants t lists same) [] (subst (λ (x : TraceText). AreDifferences wants (streams_of x) []) is said.1.1.1)).0 refl

    back : done_on (streams_of t) ≡ wants → IsComparison split wants bytes (Compared [])
    back same_items = (t, (read, (same, no_firsts wants (streams_of t) same_items)))
