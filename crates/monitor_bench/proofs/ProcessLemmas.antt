-- The processes of a monitor: before their first edges, and one edge more of one of them.
use Rattle.std.proofs.Common.{◌≡◌, ◌∙◌, ◌⊎◌, inl, inr, ℕ, zero, suc, ◌+◌, ◌-◌, ◌^◌, ◌<◌, ◌≤◌, Bool, true, false, List, [], ◌∷◌, ◌++◌, length, map, get_or, Some, IfSome, slice_get, refl, sym, ap, subst, arith}
use Rattle.std.specs.Prelude.{◌==◌, if◌then◌else◌, option_map}
use Rattle.std.specs.Vec.{with_item}
use Rattle.std.proofs.lemmas.Bool.Decides.{nat_tests}
use Rattle.std.proofs.lemmas.List.{length-map, length_push}
use Rattle.std.proofs.lemmas.Option.{slice_get-map, slice_get_read, slice_get_within, same_Some}
use Rattle.tydi_base.proofs.PlaceLemmas.{same_or_other, slice_get-front, slice_get-next, slice_get-set_other, slice_get-set_same}
use Rattle.physical_stream.specs.Cycles.{Cycle}
use Rattle.physical_stream.specs.Signals.{Fits}
use Rattle.physical_stream.specs.declared.head.Head.{Head}
use Rattle.physical_stream.specs.declared.item.Item.{Item}
use Rattle.watch_text.specs.Statements.{PlainWatch, Statements, plain_statements, plain_watch}
use Rattle.watch_text.specs.declared.watch.Watch.{Watch}
use Rattle.watch_text.specs.declared.watch.WStmt.{WStmt}
use Rattle.monitor_bench.specs.Meaning.{Process, processes_from, processes_of}
use Rattle.monitor_bench.specs.Running.{process_with}
use Rattle.monitor_bench.specs.Standing.{AreAfter, CanTakeEdge, CanWatch, IsAfter, with_cycle}
use Rattle.monitor_bench.specs.declared.process_sim.ProcessSim.{ProcessSim}
use Rattle.monitor_bench.specs.declared.processes.Processes.{Processes}

-- ---- the processes of a monitor

-- the process of this number, by its head, its items and its statements
pub process_there : (heads : List Head) (wants : List (List Item)) (procs : List Statements) (stream : ℕ) (head : Head) (want : List Item) (process : Statements)
    → slice_get heads stream ≡ Some head → slice_get wants stream ≡ Some want → slice_get procs stream ≡ Some process
    → slice_get (processes_from heads wants procs) stream ≡ Some (record { params = head.params; want = want; statements = process })
process_there [] wants procs stream head want process a b c = absurd cc
process_there (h ∷ heads) [] procs stream head want process a b c = absurd cc
process_there (h ∷ heads) (w ∷ wants) [] stream head want process a b c = absurd cc
process_there (h ∷ heads) (w ∷ wants) (p ∷ procs) zero head want process a b c = cc
process_there (h ∷ heads) (w ∷ wants) (p ∷ procs) (suc stream) head want process a b c = process_there heads wants procs stream head want process a b c

-- there is a head with the parameters of each process
pub process_head : (heads : List Head) (wants : List (List Item)) (procs : List Statements) (stream : ℕ) (process : Process) → slice_get (processes_from heads wants procs) stream ≡ Some process
    → (head : Head) × ((slice_get heads stream ≡ Some head) × (process.params ≡ head.params))
process_head [] wants procs stream process is = absurd cc
process_head (h ∷ heads) [] procs stream process is = absurd cc
process_head (h ∷ heads) (w ∷ wants) [] stream process is = absurd cc
process_head (h ∷ heads) (w ∷ wants) (p ∷ procs) zero process is = (h, (refl, ap (λ (q : Process). q.params) (sym (same_Some _ _ is))))
process_head (h ∷ heads) (w ∷ wants) (p ∷ procs) (suc stream) process is = process_head heads wants procs stream process is

pub length-processes : (heads : List Head) (wants : List (List Item)) (procs : List Statements) → length wants ≡ length heads → length procs ≡ length heads
    → length (processes_from heads wants procs) ≡ length heads
length-processes [] wants procs a b = refl
length-processes (h ∷ heads) [] procs a b = absurd (omega (arith, a))
length-processes (h ∷ heads) (w ∷ wants) [] a b = absurd (omega (arith, b))
length-processes (h ∷ heads) (w ∷ wants) (p ∷ procs) a b = let more = length-processes heads wants procs (omega (arith, a)) (omega (arith, b)) in omega arith

-- the same cycles of each stream, told otherwise
pub are_after-same : (watch : PlainWatch) (cycles others : ℕ → List Cycle) (sims : Processes) → ((stream : ℕ) → stream < length watch.heads → cycles stream ≡ others stream)
    → AreAfter watch cycles sims → AreAfter watch others sims
are_after-same watch cycles others sims same after = record {
  watch_can = after.watch_can;
  many = after.many;
  are = λ stream process sim is there.
      let head = process_head watch.heads watch.want watch.procs stream process is in
      subst (λ (l : List Cycle). IsAfter process l sim) (same stream (slice_get_within watch.heads stream head.0 head.1.0)) (after.are stream process sim is there);
}

-- ---- before the first edge

-- a process of each of the first so many streams
pub record AreFresh (heads : List Head) (count : ℕ) (sims : List ProcessSim) : Type 0 where
  pub many : length sims ≡ count
  pub within : count ≤ length heads
  pub each : (stream : ℕ) (head : Head) (sim : ProcessSim) → slice_get heads stream ≡ Some head → slice_get sims stream ≡ Some sim
      → (process : Process) → process.params ≡ head.params → IsAfter process [] sim

pub fresh-none : (heads : List Head) (sims : List ProcessSim) → sims ≡ [] → AreFresh heads 0 sims
fresh-none heads sims none = rw none (record { many = refl; within = omega arith; each = λ stream head sim here there. absurd cc })

pub fresh-more : (heads : List Head) (count : ℕ) (head : Head) (sims : List ProcessSim) (one : ProcessSim) → AreFresh heads count sims → slice_get heads count ≡ Some head
    → ((process : Process) → process.params ≡ head.params → IsAfter process [] one) → AreFresh heads (count + 1) (sims ++ one ∷ [])
fresh-more heads count head sims one fresh here last = record {
  many = omega (arith, fresh.many, length_push sims one);
  within = omega (arith, slice_get_within heads count head here);
  each = λ stream h sim is there. each stream h sim is there (same_or_other stream count);
}
  where
    each : (stream : ℕ) (h : Head) (sim : ProcessSim) → slice_get heads stream ≡ Some h → slice_get (sims ++ one ∷ []) stream ≡ Some sim → (stream ≡ count) ⊎ (stream ≡ count → ⊥)
        → (process : Process) → process.params ≡ h.params → IsAfter process [] sim
    each stream h sim is there (inl same) process params =
        let is_head : head ≡ h = same_Some _ _ (sym here ∙ ap (slice_get heads) (sym same) ∙ is) in
        let is_sim : one ≡ sim = same_Some _ _ (sym (slice_get-next sims one stream (same ∙ sym fresh.many)) ∙ there) in
        subst (λ (s : ProcessSim). IsAfter process [] s) is_sim (last process (params ∙ ap (λ (x : Head). x.params) (sym is_head)))
    each stream h sim is there (inr other) process params =
        let inside = slice_get_within (sims ++ one ∷ []) stream sim there in
        let less : stream < length sims = let long = length_push sims one in let many = fresh.many in let apart : stream ≡ length sims → ⊥ = λ e. other (e ∙ many) in grind arith in
        fresh.each stream h sim is (sym (slice_get-front sims (one ∷ []) stream less) ∙ there) process params

pub fresh_after : (watch : PlainWatch) (sims : Processes) (heads : List Head) (count : ℕ) → CanWatch watch → heads ≡ watch.heads → length heads ≤ count → AreFresh heads count sims.each.items
    → AreAfter watch (λ stream. []) sims
fresh_after watch sims heads count can same all fresh = record {
  watch_can = can;
  many = omega (arith, fresh.many, fresh.within, all, ap length same);
  are = λ stream process sim is there.
      let head = process_head watch.heads watch.want watch.procs stream process is in
      fresh.each stream head.0 sim (ap (λ (l : List Head). slice_get l stream) same ∙ head.1.0) there process head.1.1;
}

-- ---- one edge more

-- the cycles with one more, for the stream itself and for another one
chosen : {A : Type 0} (test : Bool) (one other : A) → test ≡ true → (if test then one else other) ≡ one
chosen true one other so = refl
chosen false one other so = absurd cc

not_chosen : {A : Type 0} (test : Bool) (one other : A) → test ≡ false → (if test then one else other) ≡ other
not_chosen true one other so = absurd cc
not_chosen false one other so = refl

pub with_cycle-same : (stream : ℕ) (row : Cycle) (cycles : ℕ → List Cycle) (other : ℕ) → other ≡ stream → with_cycle stream row cycles other ≡ cycles stream ++ row ∷ []
with_cycle-same stream row cycles other same =
    chosen (other == stream) (cycles other ++ row ∷ []) (cycles other) (let so = same in grind (arith, nat_tests)) ∙ ap (λ (n : ℕ). cycles n ++ row ∷ []) same

pub with_cycle-other : (stream : ℕ) (row : Cycle) (cycles : ℕ → List Cycle) (other : ℕ) → (other ≡ stream → ⊥) → with_cycle stream row cycles other ≡ cycles other
with_cycle-other stream row cycles other apart = not_chosen (other == stream) (cycles other ++ row ∷ []) (cycles other) (let so = apart in grind (arith, nat_tests))

module _ (w : Watch) (cycles : ℕ → List Cycle) (sims : Processes) (after : AreAfter (plain_watch w) cycles sims) (stream : ℕ) (row : Cycle) (can : CanTakeEdge (plain_watch w) cycles stream row)
    (heads : List Head) (head : Head) (wants : List (List Item)) (list want : List Item) (procs : List (List WStmt)) (body process : List WStmt) (sim : ProcessSim)
    (are_heads : heads ≡ w.heads) (is_head : head ≡ get_or heads stream head) (are_wants : wants ≡ w.want) (is_list : list ≡ get_or wants stream list) (is_want : want ≡ list)
    (are_procs : procs ≡ w.procs) (is_body : body ≡ get_or procs stream body) (is_process : process ≡ body) (is_sim : sim ≡ get_or sims.each.items stream sim) where
  head_there : slice_get w.heads stream ≡ Some head
  head_there = ap (λ (l : List Head). slice_get l stream) (sym are_heads) ∙ slice_get_read heads (length heads) stream head refl (omega (arith, can.within, ap length are_heads)) is_head

  want_there : slice_get w.want stream ≡ Some want
  want_there =
      ap (λ (l : List (List Item)). slice_get l stream) (sym are_wants)
      ∙ slice_get_read wants (length wants) stream list refl (omega (arith, can.within, after.watch_can.tables, ap length are_wants)) is_list ∙ ap Some (sym is_want)

  body_there : slice_get w.procs stream ≡ Some process
  body_there =
      ap (λ (l : List (List WStmt)). slice_get l stream) (sym are_procs)
      ∙ slice_get_read procs (length procs) stream body refl (omega (arith, can.within, after.watch_can.processes, length-map w.procs plain_statements, ap length are_procs)) is_body ∙ ap Some (sym is_process)

  pub sim_there : slice_get sims.each.items stream ≡ Some sim
  sim_there = slice_get_read sims.each.items (length sims.each.items) stream sim refl (omega (arith, can.within, after.many)) is_sim

  pub here : slice_get (processes_of (plain_watch w)) stream ≡ Some (process_with head.params want process)
  here = process_there w.heads w.want (map plain_statements w.procs) stream head want (plain_statements process) head_there want_there
      (slice_get-map plain_statements w.procs stream ∙ ap (option_map plain_statements) body_there)

  pub shown_here : IfSome row.shown (Fits head.params)
  shown_here = can.shown (process_with head.params want process) here

  pub after_here : (before : List Cycle) × (IsAfter (process_with head.params want process) before sim × (length before < 2 ^ 32 - 1))
  after_here = (cycles stream, (after.are stream (process_with head.params want process) sim here sim_there, can.few))

module _ (watch : PlainWatch) (cycles : ℕ → List Cycle) (sims : Processes) (after : AreAfter watch cycles sims) (stream : ℕ) (row : Cycle) (process : Process) (sim next : ProcessSim)
    (here : slice_get (processes_of watch) stream ≡ Some process) (sim_there : slice_get sims.each.items stream ≡ Some sim)
    (more : (before : List Cycle) → IsAfter process before sim → IsAfter process (before ++ row ∷ []) next) where
  after_each : (i : ℕ) (other : Process) (found : ProcessSim) → slice_get (processes_of watch) i ≡ Some other → slice_get (with_item sims.each stream next).items i ≡ Some found
      → (i ≡ stream) ⊎ (i ≡ stream → ⊥) → IsAfter other (with_cycle stream row cycles i) found
  after_each i other found is there (inl same) =
      let is_process : process ≡ other = same_Some _ _ (sym here ∙ ap (slice_get (processes_of watch)) (sym same) ∙ is) in
      let inside = slice_get_within sims.each.items stream sim sim_there in
      let is_next : next ≡ found = same_Some _ _ (sym (slice_get-set_same sims.each.items stream next inside) ∙ ap (slice_get (with_item sims.each stream next).items) (sym same) ∙ there) in
      subst (λ (l : List Cycle). IsAfter other l found) (sym (with_cycle-same stream row cycles i same))
      (subst (λ (s : ProcessSim). IsAfter other (cycles stream ++ row ∷ []) s) is_next
      (subst (λ (p : Process). IsAfter p (cycles stream ++ row ∷ []) next) is_process (more (cycles stream) (after.are stream process sim here sim_there))))
  after_each i other found is there (inr apart) =
      subst (λ (l : List Cycle). IsAfter other l found) (sym (with_cycle-other stream row cycles i apart))
      (after.are i other found is (sym (slice_get-set_other sims.each.items stream i next (λ e. apart (sym e))) ∙ there))

  pub are_after-more : AreAfter watch (with_cycle stream row cycles) (record { each = with_item sims.each stream next })
  are_after-more = record {
    watch_can = after.watch_can;
    many = (let long = (with_item sims.each stream next).ok.0 in let was = sims.each.ok.0 in omega (arith, long, was, after.many));
    are = λ i other found is there. after_each i other found is there (same_or_other i stream);
  }
