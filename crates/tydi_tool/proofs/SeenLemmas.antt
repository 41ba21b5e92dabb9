-- What the monitor of a port says of streams, by the items that are done: all is seen exactly where these are the expected ones.
use Rattle.std.proofs.Common.{◌≡◌, ◌∙◌, ℕ, zero, suc, ◌<◌, ◌≤◌, ◌⊎◌, inl, inr, List, [], ◌∷◌, ◌++◌, length, map, take, drop, Option, Some, None, slice_get, refl, sym, ap, subst, arith}
use Rattle.std.specs.Prelude.{option_map}
use Rattle.std.proofs.lemmas.Bool.{cases_lt}
use Rattle.std.proofs.lemmas.Grind.{flat_map-append}
use Rattle.std.proofs.lemmas.List.{length-map, take-append-drop, take-append-le, take_all}
use Rattle.std.proofs.lemmas.Option.{slice_get-map, slice_get_within}
use Rattle.tydi_base.proofs.PlaceLemmas.{slice_get-there}
use Rattle.physical_stream.specs.Cycles.{Cycle, StreamTrace, done_in, done_of, items_done}
use Rattle.physical_stream.specs.Items.{items_of, items_of_all}
use Rattle.physical_stream.specs.Params.{Parameters}
use Rattle.physical_stream.specs.declared.head.Head.{Head}
use Rattle.physical_stream.specs.declared.item.Item.{Item}
use Rattle.cycle_trace.specs.Trace.{TraceText, streams_of}
use Rattle.cycle_trace.proofs.StreamLemmas.{head_at, length-streams}
use Rattle.monitor_bench.specs.Laws.{IsFirstOther, IsFront, MonitorsReport, ReportsFirstOther}
use Rattle.monitor_bench.specs.Meaning.{Process, place_of, processes_from, processes_of, report_of}
use Rattle.monitor_bench.specs.Monitors.{monitor_of, process_for}
use Rattle.port_drive.specs.Drives.{head_of_stream, heads_of}
use Rattle.port_drive.specs.Laws.{done_on}
use Rattle.trace_decode.proofs.LawLemmas.{lists_same}
use Rattle.trace_decode.proofs.RowLemmas.{same_some}
use Rattle.trace_watch.specs.Watched.{watched_by, watched_by_each, watched_of}
use Rattle.trace_watch.specs.declared.watched.StreamWatched.{StreamWatched}
use Rattle.type_split.specs.Streams.{PlainSplit}
use Rattle.watch_text.specs.Statements.{Statements}
use Rattle.tydi_tool.specs.WatchLaw.{AreFirstOthers, all_seen}

-- ---- processes and their streams

pub many-processes : (heads : List Head) (wants : List (List Item)) (procs : List Statements) → length wants ≡ length heads → length procs ≡ length heads → length (processes_from heads wants procs) ≡ length heads
many-processes [] wants procs many more = refl
many-processes (head ∷ heads) [] procs many more = absurd (omega (arith, many))
many-processes (head ∷ heads) (want ∷ wants) [] many more = absurd (omega (arith, more))
many-processes (head ∷ heads) (want ∷ wants) (process ∷ procs) many more = ap suc (many-processes heads wants procs (omega (arith, many)) (omega (arith, more)))

pub many-watched : (processes : List Process) (streams : List StreamTrace) → length processes ≡ length streams → length (watched_by_each processes streams) ≡ length streams
many-watched [] [] same = refl
many-watched [] (s ∷ streams) same = absurd (omega (arith, same))
many-watched (process ∷ processes) [] same = refl
many-watched (process ∷ processes) (s ∷ streams) same = ap suc (many-watched processes streams (omega (arith, same)))

-- the process of the stream of this head
abbrev process_of : Head → List Item → Process
process_of head want = record { params = head.params; want = want; statements = process_for head }

process-at : (heads : List Head) (wants : List (List Item)) (i : ℕ) (head : Head) (want : List Item) → slice_get heads i ≡ Some head → slice_get wants i ≡ Some want
    → slice_get (processes_from heads wants (map process_for heads)) i ≡ Some (process_of head want)
process-at [] wants i head want there wanted = absurd cc
process-at (first ∷ heads) [] i head want there wanted = absurd cc
process-at (first ∷ heads) (one ∷ wants) zero head want there wanted =
    ap (λ (h : Head). Some (process_of h one)) (same_some there) ∙ ap (λ (w : List Item). Some (process_of head w)) (same_some wanted)
process-at (first ∷ heads) (one ∷ wants) (suc i) head want there wanted = process-at heads wants i head want there wanted

watched-at : (processes : List Process) (streams : List StreamTrace) (i : ℕ) (process : Process) (s : StreamTrace) → slice_get processes i ≡ Some process → slice_get streams i ≡ Some s
    → slice_get (watched_by_each processes streams) i ≡ Some (watched_by process s.cycles)
watched-at [] streams i process s there found = absurd cc
watched-at (first ∷ processes) [] i process s there found = absurd cc
watched-at (first ∷ processes) (one ∷ streams) zero process s there found =
    ap (λ (p : Process). Some (watched_by p one.cycles)) (same_some there) ∙ ap (λ (o : StreamTrace). Some (watched_by process o.cycles)) (same_some found)
watched-at (first ∷ processes) (one ∷ streams) (suc i) process s there found = watched-at processes streams i process s there found

-- ---- fronts of the items done

front-done : (p : Parameters) (cycles : List Cycle) (n : ℕ) → IsFront (items_done p (take n cycles)) (items_done p cycles)
front-done p cycles n =
    let front = items_done p (take n cycles) in
    let back = items_done p (drop n cycles) in
    let both : items_done p cycles ≡ front ++ back =
    ap (items_done p) (sym (take-append-drop n cycles))
    ∙ (ap (items_of_all p) (flat_map-append done_in (take n cycles) (drop n cycles)) ∙ flat_map-append (items_of p) (done_of (take n cycles)) (done_of (drop n cycles))) in
    ap (take (length front)) both ∙ take-append-le (length front) front back (omega arith) ∙ take_all (length front) front (omega arith)

all-expected : (p : Parameters) (want : List Item) (cycles : List Cycle) → IsFirstOther p want cycles None → IsFront (items_done p cycles) want
all-expected p want [] none = refl
all-expected p want (row ∷ more) none =
    subst (λ (l : List Cycle). IsFront (items_done p l) want) (take_all (suc (length more)) (row ∷ more) (omega arith)) (none (length more) (omega arith))

-- what is said of a stream
abbrev said_of : ℕ → Option ℕ → StreamWatched
said_of place report = record { place = place; report = report }

module _ (process : Process) (cycles : List Cycle) (reports : ReportsFirstOther process cycles) where
  -- all items that are expected are seen, and no other ones
  seen-done : report_of process cycles ≡ None → length process.want ≤ place_of process cycles → items_done process.params cycles ≡ process.want
  seen-done none all =
      let done = items_done process.params cycles in
      let front : take (length done) process.want ≡ done = all-expected process.params process.want cycles (subst (IsFirstOther process.params process.want cycles) none reports.report) in
      sym front ∙ take_all (length done) process.want (omega (arith, all, reports.place none))

  not-other : (first : ℕ) → IsFirstOther process.params process.want cycles (Some first) → items_done process.params cycles ≡ process.want → ⊥
  not-other first is same =
      is.1.0 (subst (λ (want : List Item). IsFront (items_done process.params (take (suc first) cycles)) want) same (front-done process.params cycles (suc first)))

  done-none : items_done process.params cycles ≡ process.want → report_of process cycles ≡ None
  done-none same = by (report_of process cycles) reports.report
    where
      by : (report : Option ℕ) → IsFirstOther process.params process.want cycles report → report ≡ None
      by None is = refl
      by (Some first) is = absurd (not-other first is same)

  done-seen : items_done process.params cycles ≡ process.want → watched_by process cycles ≡ said_of (length process.want) None
  done-seen same =
      let none = done-none same in
      ap (λ (report : Option ℕ). said_of (place_of process cycles) report) none ∙ ap (λ (place : ℕ). said_of place None) (reports.place none ∙ ap length same)

-- ---- the monitor of a port

module _ (law : MonitorsReport) (split : PlainSplit) (wants : List (List Item)) (lists : length wants ≡ length split.streams) (t : TraceText) (same : t.heads ≡ heads_of split) where
  abbrev watched : List StreamWatched
  watched = watched_of (monitor_of split wants) (streams_of t)

  many-streams : length (streams_of t) ≡ length split.streams
  many-streams = length-streams t 0 t.heads ∙ ap length same ∙ length-map split.streams head_of_stream

  many-heads : length (heads_of split) ≡ length split.streams
  many-heads = length-map split.streams head_of_stream

  many : length watched ≡ length (streams_of t)
  many =
      let processes = many-processes (heads_of split) wants (map process_for (heads_of split)) (lists ∙ sym many-heads) (length-map (heads_of split) process_for) in
      many-watched (processes_of (monitor_of split wants)) (streams_of t) (processes ∙ many-heads ∙ sym many-streams)

  -- what is said of one stream
  pub record SaidOf (stream : ℕ) (want : List Item) (s : StreamTrace) : Type 0 where
    pub process : Process
    pub params : s.params ≡ process.params
    pub wanted : want ≡ process.want
    pub said : slice_get watched stream ≡ Some (watched_by process s.cycles)
    pub reports : ReportsFirstOther process s.cycles

  said-of : (stream : ℕ) (want : List Item) (s : StreamTrace) → slice_get wants stream ≡ Some want → slice_get (streams_of t) stream ≡ Some s → SaidOf stream want s
  said-of stream want s wanted there =
      let head = head_at t stream s there in
      let at : slice_get (heads_of split) stream ≡ Some head.0 = ap (λ (l : List Head). slice_get l stream) (sym same) ∙ head.1 in
      let process = process-at (heads_of split) wants stream head.0 want at wanted in
      record {
        process = process_of head.0 want;
        params = ap (λ (o : StreamTrace). o.params) head.2;
        wanted = refl;
        said = watched-at (processes_of (monitor_of split wants)) (streams_of t) stream (process_of head.0 want) s process there;
        reports = law split wants stream (process_of head.0 want) process s.cycles;
      }

  -- the first other items of all streams
  pub first-others : AreFirstOthers wants (streams_of t) watched
  first-others = record { many = many; each = each }
    where
      each : (stream : ℕ) (want : List Item) (s : StreamTrace) (one : StreamWatched) → slice_get wants stream ≡ Some want → slice_get (streams_of t) stream ≡ Some s → slice_get watched stream ≡ Some one
          → IsFirstOther s.params want s.cycles one.report × (one.report ≡ None → one.place ≡ length (items_done s.params s.cycles))
      each stream want s one wanted there found =
          let here = said-of stream want s wanted there in
          let is : watched_by here.process s.cycles ≡ one = same_some (sym here.said ∙ found) in
          subst (λ (w : StreamWatched). IsFirstOther s.params want s.cycles w.report × (w.report ≡ None → w.place ≡ length (items_done s.params s.cycles))) is
          (subst (λ (p : Parameters). IsFirstOther p want s.cycles (report_of here.process s.cycles) × (report_of here.process s.cycles ≡ None → place_of here.process s.cycles ≡ length (items_done p s.cycles))) (sym here.params)
          (subst (λ (w : List Item). IsFirstOther here.process.params w s.cycles (report_of here.process s.cycles) × (report_of here.process s.cycles ≡ None → place_of here.process s.cycles ≡ length (items_done here.process.params s.cycles)))
          (sym here.wanted) (here.reports.report, here.reports.place)))

  -- where the items done are the expected ones, all is seen
  pub all-seen : done_on (streams_of t) ≡ wants → watched ≡ all_seen wants
  all-seen shows = lists_same watched (all_seen wants) (many ∙ many-streams ∙ sym (length-map wants (λ (want : List Item). said_of (length want) None) ∙ lists)) each
    where
      each : (i : ℕ) (x y : StreamWatched) → slice_get watched i ≡ Some x → slice_get (all_seen wants) i ≡ Some y → x ≡ y
      each i x y found expected =
          let s = slice_get-there (streams_of t) i (omega (arith, slice_get_within watched i x found, many)) in
          let want = slice_get-there wants i (omega (arith, slice_get_within watched i x found, many, many-streams, lists)) in
          let here = said-of i want.0 s.0 want.1 s.1 in
          let done : items_done s.0.params s.0.cycles ≡ want.0 =
          same_some (sym (slice_get-map (λ (o : StreamTrace). items_done o.params o.cycles) (streams_of t) i ∙ ap (option_map (λ (o : StreamTrace). items_done o.params o.cycles)) s.1)
          ∙ ap (λ (l : List (List Item)). slice_get l i) shows ∙ want.1) in
          let in_process : items_done here.process.params s.0.cycles ≡ here.process.want = ap (λ (p : Parameters). items_done p s.0.cycles) (sym here.params) ∙ done ∙ here.wanted in
          let seen : watched_by here.process s.0.cycles ≡ said_of (length here.process.want) None = done-seen here.process s.0.cycles here.reports in_process in
          let wanted : Some y ≡ Some (said_of (length want.0) None) =
          sym expected ∙ slice_get-map (λ (w : List Item). said_of (length w) None) wants i ∙ ap (option_map (λ (w : List Item). said_of (length w) None)) want.1 in
          same_some (sym found ∙ here.said) ∙ seen ∙ ap (λ (w : List Item). said_of (length w) None) (sym here.wanted) ∙ sym (same_some wanted)

  -- where each stream has seen all items that are expected of it, these are the items done
  pub seen-all : ((i : ℕ) (want : List Item) (one : StreamWatched) → slice_get wants i ≡ Some want → slice_get watched i ≡ Some one → (one.report ≡ None) × (length want ≤ one.place)) → done_on (streams_of t) ≡ wants
  seen-all all = lists_same (done_on (streams_of t)) wants (length-map (streams_of t) (λ (o : StreamTrace). items_done o.params o.cycles) ∙ many-streams ∙ sym lists) each
    where
      each : (i : ℕ) (x y : List Item) → slice_get (done_on (streams_of t)) i ≡ Some x → slice_get wants i ≡ Some y → x ≡ y
      each i x y found wanted =
          let s = slice_get-there (streams_of t) i (omega (arith, slice_get_within wants i y wanted, lists, many-streams)) in
          let here = said-of i y s.0 wanted s.1 in
          let is = all i y (watched_by here.process s.0.cycles) wanted here.said in
          let done : items_done here.process.params s.0.cycles ≡ here.process.want =
          seen-done here.process s.0.cycles here.reports is.0 (subst (λ (w : List Item). length w ≤ place_of here.process s.0.cycles) here.wanted is.1) in
          same_some (sym found ∙ (slice_get-map (λ (o : StreamTrace). items_done o.params o.cycles) (streams_of t) i ∙ ap (option_map (λ (o : StreamTrace). items_done o.params o.cycles)) s.1))
          ∙ ap (λ (p : Parameters). items_done p s.0.cycles) here.params ∙ done ∙ sym here.wanted

-- ---- some stream has seen less, or all have seen all

-- a stream reports, or has seen fewer items than are expected of it
abbrev pub IsLess : List Item → StreamWatched → Type 0
IsLess want one = ((edge : ℕ) × (one.report ≡ Some edge)) ⊎ (one.place < length want)

abbrev pub HasLess : List (List Item) → List StreamWatched → Type 0
HasLess wants watched =
    (stream : ℕ) × ((want : List Item) × ((one : StreamWatched) × ((slice_get wants stream ≡ Some want) × ((slice_get watched stream ≡ Some one) × IsLess want one))))

abbrev pub SeesAll : List (List Item) → List StreamWatched → Type 0
SeesAll wants watched =
    (stream : ℕ) (want : List Item) (one : StreamWatched) → slice_get wants stream ≡ Some want → slice_get watched stream ≡ Some one → (one.report ≡ None) × (length want ≤ one.place)

one-less : (want : List Item) (one : StreamWatched) → IsLess want one ⊎ ((one.report ≡ None) × (length want ≤ one.place))
one-less want one = by one.report refl (cases_lt one.place (length want))
  where
    by : (report : Option ℕ) → one.report ≡ report → (one.place < length want) ⊎ (length want ≤ one.place) → IsLess want one ⊎ ((one.report ≡ None) × (length want ≤ one.place))
    by (Some edge) is place = inl (inl (edge, is))
    by None is (inl fewer) = inl (inr fewer)
    by None is (inr all) = inr (is, all)

pub less-or-all : (wants : List (List Item)) (watched : List StreamWatched) → HasLess wants watched ⊎ SeesAll wants watched
less-or-all [] watched = inr (λ stream want one wanted there. absurd cc)
less-or-all (want ∷ wants) [] = inr (λ stream one said wanted there. absurd cc)
less-or-all (want ∷ wants) (one ∷ watched) = by (one-less want one) (less-or-all wants watched)
  where
    by : IsLess want one ⊎ ((one.report ≡ None) × (length want ≤ one.place)) → HasLess wants watched ⊎ SeesAll wants watched → HasLess (want ∷ wants) (one ∷ watched) ⊎ SeesAll (want ∷ wants) (one ∷ watched)
    by (inl less) more = inl (zero, (want, (one, (refl, (refl, less)))))
    by (inr all) (inl less) = inl (suc less.0, less.1)
    by (inr all) (inr rest) = inr each
      where
        each : SeesAll (want ∷ wants) (one ∷ watched)
        each zero w o wanted there =
            subst (λ (x : StreamWatched). (x.report ≡ None) × (length w ≤ x.place)) (same_some there) (subst (λ (x : List Item). (one.report ≡ None) × (length x ≤ one.place)) (same_some wanted) all)
        each (suc stream) w o wanted there = rest stream w o wanted there
