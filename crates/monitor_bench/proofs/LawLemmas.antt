-- The processes of a monitor need exactly the items that are done, one after another.
use Rattle.std.proofs.Common.{◌≡◌, ◌∙◌, ℕ, zero, suc, ◌+◌, ◌<◌, Bool, true, false, Decides, List, [], ◌∷◌, ◌++◌, length, map, take, drop, Option, Some, None, slice_get, refl, sym, ap, subst, arith, append-nil}
use Rattle.std.specs.Prelude.{if◌then◌else◌}
use Rattle.std.specs.Bool.{beq}
use Rattle.std.specs.Cmp.Lexicographic.{pointwise_decides}
use Rattle.std.specs.List.{fold}
use Rattle.std.specs.Option.{option_map}
use Rattle.std.proofs.lemmas.Bool.Decides.{nat_tests}
use Rattle.std.proofs.lemmas.Grind.{flat_map-append, fold-append}
use Rattle.std.proofs.lemmas.Option.{same_Some}
use Rattle.physical_stream.specs.Cycles.{Cycle, done_in, done_of, items_done}
use Rattle.physical_stream.specs.Items.{is_active, items_of, items_of_all, lane_items, lane_word, last_bit, parts_below}
use Rattle.physical_stream.specs.Params.{Parameters}
use Rattle.physical_stream.specs.declared.head.Head.{Head}
use Rattle.physical_stream.specs.declared.item.Item.{Item}
use Rattle.physical_stream.specs.declared.item.Item.TheVariants as items
use Rattle.physical_stream.specs.declared.transfer.Transfer.{Transfer}
use Rattle.physical_stream.proofs.ItemsLemmas.{close_at}
use Rattle.port_drive.specs.Drives.{heads_of}
use Rattle.watch_text.specs.Statements.{Statements, if_last, need_close}
use Rattle.monitor_bench.specs.Laws.{IsAsExpected, IsFirstOther, IsFront, MonitorsReport, ReportsFirstOther}
use Rattle.monitor_bench.specs.Meaning.{Process, State, after_edge, after_edges, after_transfer, for_each, going, has_stopped, is_expected, is_same_item, needs, place_in, processes_from, report_of, run_all, state_after, stopped, stops_at}
use Rattle.monitor_bench.specs.Monitors.{lane_statements, only, process_for, statements_for}

-- ---- an item that is needed

same_bits : (one other : Bool) → Decides (beq one other) (one ≡ other)
same_bits true true = (λ so. refl, λ same. refl)
same_bits true false = (λ so. cc, λ same. cc)
same_bits false true = (λ so. cc, λ same. cc)
same_bits false false = (λ so. refl, λ same. refl)

item_is : (one other : Item) → is_same_item one other ≡ true → one ≡ other
item_is (items.Elem one) (items.Elem other) so = ap items.Elem ((pointwise_decides same_bits one other).0 so)
item_is (items.Elem one) (items.Close dim) so = absurd cc
item_is (items.Close dim) (items.Elem other) so = absurd cc
item_is (items.Close dim) (items.Close other) so = ap items.Close (let told = so in grind (arith, nat_tests))

item_itself : (one : Item) → is_same_item one one ≡ true
item_itself (items.Elem one) = (pointwise_decides same_bits one one).1 refl
item_itself (items.Close dim) = grind (arith, nat_tests)

expected_is : (there : Option Item) (item : Item) → is_expected there item ≡ true → there ≡ Some item
expected_is None item so = absurd cc
expected_is (Some one) item so = ap Some (item_is one item so)

-- ---- items that are needed, one after another

abbrev needs_all : List Item → List Item → State → State
needs_all want some state = fold (λ s item. needs want item s) state some

needs_all-append : (want one other : List Item) (state : State) → needs_all want (one ++ other) state ≡ needs_all want other (needs_all want one state)
needs_all-append want one other state = fold-append (λ s item. needs want item s) state one other

needs_all-stopped : (want some : List Item) (place : ℕ) → needs_all want some (stopped place) ≡ stopped place
needs_all-stopped want [] place = refl
needs_all-stopped want (item ∷ more) place = needs_all-stopped want more place

-- a process that needed these items where the expected ones begin with the rest: it went on past them all where they are a front of the rest, and has
-- stopped where they are none
abbrev Tells : List Item → List Item → ℕ → State → Type 0
Tells some rest place (going end) = IsFront some rest × (end ≡ place + length some)
Tells some rest place (stopped end) = IsFront some rest → ⊥

drop-there : {A : Type 0} (l : List A) (k : ℕ) (x : A) → slice_get l k ≡ Some x → drop k l ≡ x ∷ drop (suc k) l
drop-there [] k x is = absurd cc
drop-there (y ∷ l) zero x is = ap (λ h. h ∷ l) (same_Some _ _ is)
drop-there (y ∷ l) (suc k) x is = drop-there l k x is

front_first : (l : List Item) (k : ℕ) (item : Item) (more : List Item) → IsFront (item ∷ more) (drop k l) → slice_get l k ≡ Some item
front_first [] zero item more front = absurd cc
front_first [] (suc k) item more front = absurd cc
front_first (y ∷ l) zero item more front = cc
front_first (y ∷ l) (suc k) item more front = front_first l k item more front

front_rest : (item : Item) (more rest : List Item) → IsFront (item ∷ more) (item ∷ rest) → IsFront more rest
front_rest item more rest front = cc

tells_past : (item : Item) (more rest : List Item) (place : ℕ) (state : State) → Tells more rest (suc place) state → Tells (item ∷ more) (item ∷ rest) place state
tells_past item more rest place (going end) tells = (ap (λ l. item ∷ l) tells.0, omega (arith, tells.1))
tells_past item more rest place (stopped end) tells = λ front. tells (front_rest item more rest front)

tells_step : (want : List Item) (item : Item) (more : List Item) (place : ℕ) (test : Bool) → is_expected (slice_get want place) item ≡ test
    → Tells more (drop (suc place) want) (suc place) (needs_all want more (going (suc place)))
    → Tells (item ∷ more) (drop place want) place (needs_all want more (if test then going (suc place) else stopped place))
tells_step want item more place true so rest =
    subst (λ (l : List Item). Tells (item ∷ more) l place (needs_all want more (going (suc place)))) (sym (drop-there want place item (expected_is (slice_get want place) item so)))
    (tells_past item more (drop (suc place) want) place (needs_all want more (going (suc place))) rest)
tells_step want item more place false so rest =
    subst (λ (s : State). Tells (item ∷ more) (drop place want) place s) (sym (needs_all-stopped want more place))
    (λ front. let is = ap (λ o. is_expected o item) (front_first want place item more front) ∙ item_itself item in absurd cc)

tells : (want some : List Item) (place : ℕ) → Tells some (drop place want) place (needs_all want some (going place))
tells want [] place = (refl, omega arith)
tells want (item ∷ more) place = tells_step want item more place (is_expected (slice_get want place) item) refl (tells want more (suc place))

-- ---- the statements of a monitor

module _ (p : Parameters) (want : List Item) (t : Transfer) where
  one_test : (test : Bool) (item : Item) (state : State) → (if test then needs want item state else state) ≡ needs_all want (if test then item ∷ [] else []) state
  one_test true item state = refl
  one_test false item state = refl

  each_part : (step : ℕ → State → State) (part : ℕ → List Item) → ((n : ℕ) (state : State) → step n state ≡ needs_all want (part n) state) → (bound : ℕ) (state : State)
      → for_each step bound state ≡ needs_all want (parts_below part bound) state
  each_part step part is zero state = refl
  each_part step part is (suc bound) state =
      is bound (for_each step bound state) ∙ ap (needs_all want (part bound)) (each_part step part is bound state)
      ∙ sym (needs_all-append want (parts_below part bound) (part bound) state)

  closes : (lane : ℕ) (state : State)
      → for_each (λ dim. run_all p want t lane dim (only (if_last (only need_close)))) p.dims state ≡ needs_all want (parts_below (close_at p t lane) p.dims) state
  closes lane state =
      each_part (λ dim. run_all p want t lane dim (only (if_last (only need_close)))) (close_at p t lane) (λ dim s. one_test (last_bit p t lane dim) (items.Close dim) s) p.dims state

  abbrev element : ℕ → List Item
  element lane = if is_active t lane then items.Elem (lane_word p t lane) ∷ [] else []

  -- the statements for one lane need its items
  lane_needs : (lane count : ℕ) → count ≡ p.dims → (state : State) → run_all p want t lane 0 (lane_statements count) state ≡ needs_all want (lane_items p t lane) state
  lane_needs lane zero is state =
      let none : lane_items p t lane ≡ element lane =
      ap (λ (n : ℕ). element lane ++ parts_below (close_at p t lane) n) (sym is) ∙ append-nil (element lane) in
      one_test (is_active t lane) (items.Elem (lane_word p t lane)) state ∙ ap (λ (l : List Item). needs_all want l state) (sym none)
  lane_needs lane (suc less) is state =
      closes lane (if is_active t lane then needs want (items.Elem (lane_word p t lane)) state else state)
      ∙ ap (needs_all want (parts_below (close_at p t lane) p.dims)) (one_test (is_active t lane) (items.Elem (lane_word p t lane)) state)
      ∙ sym (needs_all-append want (element lane) (parts_below (close_at p t lane) p.dims) state)

  transfer_needs : (state : State) → run_all p want t 0 0 (statements_for p.dims) state ≡ needs_all want (items_of p t) state
  transfer_needs state =
      each_part (λ lane. run_all p want t lane 0 (lane_statements p.dims)) (lane_items p t) (λ lane s. lane_needs lane p.dims refl s) p.lanes state

-- ---- cycles

-- the process of a stream with these parameters, of which these items are expected
abbrev monitoring : Parameters → List Item → Process
monitoring p want = record { params = p; want = want; statements = statements_for p.dims }

after_transfer-needs : (p : Parameters) (want : List Item) (t : Transfer) (state : State) → after_transfer (monitoring p want) state t ≡ needs_all want (items_of p t) state
after_transfer-needs p want t (going place) = transfer_needs p want t (going place)
after_transfer-needs p want t (stopped place) = sym (needs_all-stopped want (items_of p t) place)

transfers_need : (p : Parameters) (want : List Item) (ts : List Transfer) (state : State) → fold (after_transfer (monitoring p want)) state ts ≡ needs_all want (items_of_all p ts) state
transfers_need p want [] state = refl
transfers_need p want (t ∷ ts) state =
    transfers_need p want ts (after_transfer (monitoring p want) state t) ∙ ap (needs_all want (items_of_all p ts)) (after_transfer-needs p want t state)
    ∙ sym (needs_all-append want (items_of p t) (items_of_all p ts) state)

edges_need : (p : Parameters) (want : List Item) (cycles : List Cycle) (state : State) → after_edges (monitoring p want) state cycles ≡ needs_all want (items_done p cycles) state
edges_need p want [] state = refl
edges_need p want (row ∷ more) state =
    edges_need p want more (after_edge (monitoring p want) state row) ∙ ap (needs_all want (items_done p more)) (transfers_need p want (done_in row) state)
    ∙ sym (needs_all-append want (items_of_all p (done_in row)) (items_done p more) state)
    ∙ ap (λ (l : List Item). needs_all want l state) (sym (flat_map-append (items_of p) (done_in row) (done_of more)))

-- ---- the first cycle after which a process has stopped

abbrev stops_by : Process → State → List Cycle → ℕ → Bool
stops_by process state cycles cycle = has_stopped (after_edges process state (take (suc cycle) cycles))

abbrev StopsFirst : Process → State → List Cycle → Option ℕ → Type 0
StopsFirst process state cycles None = (cycle : ℕ) → cycle < length cycles → stops_by process state cycles cycle ≡ false
StopsFirst process state cycles (Some first) =
    (first < length cycles) × ((stops_by process state cycles first ≡ true) × ((cycle : ℕ) → cycle < first → stops_by process state cycles cycle ≡ false))

stops_step : (process : Process) (state : State) (row : Cycle) (more : List Cycle) (test : Bool) → has_stopped (after_edge process state row) ≡ test → (rest : Option ℕ)
    → StopsFirst process (after_edge process state row) more rest → StopsFirst process state (row ∷ more) (if test then Some 0 else option_map suc rest)
stops_step process state row more true so rest later = (omega arith, (so, λ cycle less. absurd (omega (arith, less))))
stops_step process state row more false so None later = each
  where
    each : (cycle : ℕ) → cycle < length (row ∷ more) → stops_by process state (row ∷ more) cycle ≡ false
    each zero less = so
    each (suc cycle) less = later cycle (omega (arith, less))
stops_step process state row more false so (Some first) later = (omega (arith, later.0), (later.1.0, each))
  where
    each : (cycle : ℕ) → cycle < suc first → stops_by process state (row ∷ more) cycle ≡ false
    each zero less = so
    each (suc cycle) less = later.1.1 cycle (omega (arith, less))

stops_first : (process : Process) (state : State) (cycles : List Cycle) → StopsFirst process state cycles (stops_at process state cycles)
stops_first process state [] = λ cycle less. absurd (omega (arith, less))
stops_first process state (row ∷ more) =
    let next = after_edge process state row in
    stops_step process state row more (has_stopped next) refl (stops_at process next more) (stops_first process next more)

-- a process that never stops goes on after all cycles
goes_step : (process : Process) (state next : State) (more : List Cycle) (test : Bool) → has_stopped next ≡ test → (rest : Option ℕ) → (if test then Some 0 else option_map suc rest) ≡ None
    → (rest ≡ None → has_stopped next ≡ false → has_stopped (after_edges process next more) ≡ false) → has_stopped (after_edges process next more) ≡ false
goes_step process state next more true so rest none later = absurd cc
goes_step process state next more false so None none later = later refl so
goes_step process state next more false so (Some first) none later = absurd cc

goes_on : (process : Process) (state : State) (cycles : List Cycle) → stops_at process state cycles ≡ None → has_stopped state ≡ false → has_stopped (after_edges process state cycles) ≡ false
goes_on process state [] none so = so
goes_on process state (row ∷ more) none so =
    let next = after_edge process state row in
    goes_step process state next more (has_stopped next) refl (stops_at process next more) none (goes_on process next more)

-- ---- the law

went : (some rest : List Item) (place : ℕ) (state : State) → Tells some rest place state → has_stopped state ≡ false → IsFront some rest × (place_in state ≡ place + length some)
went some rest place (going end) told so = told
went some rest place (stopped end) told so = absurd cc

stuck : (some rest : List Item) (place : ℕ) (state : State) → Tells some rest place state → has_stopped state ≡ true → IsFront some rest → ⊥
stuck some rest place (going end) told so = absurd cc
stuck some rest place (stopped end) told so = told

module _ (p : Parameters) (want : List Item) (cycles : List Cycle) where
  abbrev state_by : ℕ → State
  state_by cycle = after_edges (monitoring p want) (going 0) (take (suc cycle) cycles)

  told : (some : List Cycle) → Tells (items_done p some) want 0 (after_edges (monitoring p want) (going 0) some)
  told some = subst (λ (s : State). Tells (items_done p some) want 0 s) (sym (edges_need p want some (going 0))) (tells want (items_done p some) 0)

  is_front : (cycle : ℕ) → has_stopped (state_by cycle) ≡ false → IsAsExpected p want cycles cycle
  is_front cycle so = (went (items_done p (take (suc cycle) cycles)) want 0 (state_by cycle) (told (take (suc cycle) cycles)) so).0

  is_other : (cycle : ℕ) → has_stopped (state_by cycle) ≡ true → IsAsExpected p want cycles cycle → ⊥
  is_other cycle so = stuck (items_done p (take (suc cycle) cycles)) want 0 (state_by cycle) (told (take (suc cycle) cycles)) so

  first_other : (report : Option ℕ) → StopsFirst (monitoring p want) (going 0) cycles report → IsFirstOther p want cycles report
  first_other None stops = λ cycle less. is_front cycle (stops cycle less)
  first_other (Some first) stops = (stops.0, (is_other first stops.1.0, λ cycle less. is_front cycle (stops.1.1 cycle less)))

  reports : ReportsFirstOther (monitoring p want) cycles
  reports = record {
    report = first_other (report_of (monitoring p want) cycles) (stops_first (monitoring p want) (going 0) cycles);
    place = λ none.
        let so = goes_on (monitoring p want) (going 0) cycles none refl in
        let end = (went (items_done p cycles) want 0 (state_after (monitoring p want) cycles) (told cycles) so).1 in
        omega (arith, end);
  }

-- each process of a monitor has the statements for its stream
has_statements : (heads : List Head) (wants : List (List Item)) (stream : ℕ) (process : Process) → slice_get (processes_from heads wants (map process_for heads)) stream ≡ Some process
    → process.statements ≡ statements_for process.params.dims
has_statements [] wants stream process is = absurd cc
has_statements (head ∷ heads) [] stream process is = absurd cc
has_statements (head ∷ heads) (want ∷ wants) zero process is =
    subst (λ (q : Process). q.statements ≡ statements_for q.params.dims) (same_Some (monitoring head.params want) process is) refl
has_statements (head ∷ heads) (want ∷ wants) (suc stream) process is = has_statements heads wants stream process is

pub monitors_report : MonitorsReport
monitors_report split some stream process is cycles =
    let statements = has_statements (heads_of split) some stream process is in
    let same : monitoring process.params process.want ≡ process =
    ap (λ (s : Statements). let q : Process = record { params = process.params; want = process.want; statements = s } in q) (sym statements) in
    subst (λ (q : Process). ReportsFirstOther q cycles) same (reports process.params process.want cycles)
