-- One process follows the run of its transfers: the statements that are left of it, and the transfer that its stream shows.
use Rattle.std.proofs.Common.{◌≡◌, ◌∙◌, ℕ, zero, suc, ◌+◌, ◌≤◌, ◌⊎◌, inl, inr, Bool, true, false, nat_le, if◌then◌else◌, List, [], ◌∷◌, ◌++◌, length, drop, get_or, slice_get, Option, Some, None, refl, sym, ap, subst, arith}
use Rattle.std.specs.List.{All}
use Rattle.std.proofs.lemmas.List.{length-append}
use Rattle.std.proofs.lemmas.Bool.Decides.{nat_tests}
use Rattle.std.proofs.lemmas.Option.{get_or_from_slice_get, slice_get_within}
use Rattle.physical_stream.specs.Params.{Parameters}
use Rattle.physical_stream.specs.Signals.{Shows}
use Rattle.physical_stream.specs.Cycles.{Cycle, done_of, done_in}
use Rattle.physical_stream.specs.Counts.{transfers_of}
use Rattle.physical_stream.specs.declared.transfer.Transfer.{Transfer}
use Rattle.signal_layout.specs.declared.signal.Signal.{Signal}
use Rattle.signal_layout.specs.declared.signal.Signal.TheVariants as signals
use Rattle.handshake.specs.Run.{gap_of, idle_of, is_done, shown_after, next_cycle}
use Rattle.handshake.proofs.RunLemmas.{done_of-more, idle_over-more}
use Rattle.handshake.proofs.CursorLemmas.{drop-get, drop-none}
use Rattle.vhdl_text.specs.declared.bench.Stmt.{Stmt}
use Rattle.vhdl_text.specs.declared.bench.Stmt.TheVariants as stmts
use Rattle.vhdl_meaning.specs.Meaning.{last_of, waits_at, resumed, transfer_in, shown_in}
use Rattle.testbench.specs.Driving.{pausing, showing, process_from}
use Rattle.testbench.proofs.WordLemmas.{lines_of, waits-showing, shown-showing, put-same}

-- ---- one cycle more

module _ (p : Parameters) (ts : List Transfer) (gaps : List ℕ) where
  transfers-next : (before : List Cycle) (bit : Bool) → transfers_of (before ++ next_cycle p ts gaps before bit ∷ []) ≡ transfers_of before + length (done_in (next_cycle p ts gaps before bit))
  transfers-next before bit = ap length (done_of-more before (next_cycle p ts gaps before bit)) ∙ length-append (done_of before) (done_in (next_cycle p ts gaps before bit))

  idle-next : (before : List Cycle) (bit : Bool) → idle_of (before ++ next_cycle p ts gaps before bit ∷ []) ≡ (if is_done (next_cycle p ts gaps before bit) then 0 else suc (idle_of before))
  idle-next before bit = idle_over-more 0 before (next_cycle p ts gaps before bit)

  -- the numbers after a cycle that does no transfer, and after one that does
  record Stays (before : List Cycle) (bit : Bool) : Type 0 where
    count : transfers_of (before ++ next_cycle p ts gaps before bit ∷ []) ≡ transfers_of before
    idle : idle_of (before ++ next_cycle p ts gaps before bit ∷ []) ≡ suc (idle_of before)

  record Goes (before : List Cycle) (bit : Bool) : Type 0 where
    count : transfers_of (before ++ next_cycle p ts gaps before bit ∷ []) ≡ suc (transfers_of before)
    idle : idle_of (before ++ next_cycle p ts gaps before bit ∷ []) ≡ 0

  stays-none : (before : List Cycle) (bit : Bool) → shown_after p ts gaps before ≡ None → Stays before bit
  stays-none before bit none = by_bit bit none
    where
      by_bit : (bit : Bool) → shown_after p ts gaps before ≡ None → Stays before bit
      by_bit true is =
          let c = transfers-next before true in
          let l : length (done_in (next_cycle p ts gaps before true)) ≡ 0 = ap (λ (s : Option Transfer). length (done_in (record { ready = true; shown = s }))) is in
          let i : (if is_done (next_cycle p ts gaps before true) then 0 else suc (idle_of before)) ≡ suc (idle_of before) =
          ap (λ (s : Option Transfer). if is_done (record { ready = true; shown = s }) then 0 else suc (idle_of before)) is in
          record { count = omega (arith, c, l); idle = idle-next before true ∙ i }
      by_bit false is =
          let c = transfers-next before false in
          record { count = omega (arith, c); idle = idle-next before false }

  stays-refused : (before : List Cycle) → Stays before false
  stays-refused before = let c = transfers-next before false in record { count = omega (arith, c); idle = idle-next before false }

  goes-done : (before : List Cycle) (t : Transfer) → shown_after p ts gaps before ≡ Some t → Goes before true
  goes-done before t is =
      let c = transfers-next before true in
      let l : length (done_in (next_cycle p ts gaps before true)) ≡ 1 = ap (λ (s : Option Transfer). length (done_in (record { ready = true; shown = s }))) is in
      let i : (if is_done (next_cycle p ts gaps before true) then 0 else suc (idle_of before)) ≡ 0 =
      ap (λ (s : Option Transfer). if is_done (record { ready = true; shown = s }) then 0 else suc (idle_of before)) is in
      record { count = omega (arith, c, l); idle = idle-next before true ∙ i }

-- ---- where a process stands

drop-next : {A : Type 0} (xs : List A) (n : ℕ) (x : A) (more : List A) → drop n xs ≡ x ∷ more → drop (suc n) xs ≡ more
drop-next [] zero x more is = cc
drop-next [] (suc n) x more is = cc
drop-next (y ∷ xs) zero x more is = let e : xs ≡ more = cc in e
drop-next (y ∷ xs) (suc n) x more is = drop-next xs n x more is

module _ (p : Parameters) (stream : ℕ) (ts : List Transfer) (gaps : List ℕ) where
  -- in the pause before a transfer; showing one; or past them all
  pub record Pausing (count idle : ℕ) (left : List Stmt) (lines : Signal → List Bool) : Type 0 where
    pub t : Transfer
    pub more : List Transfer
    pub edges : ℕ
    pub rest : drop count ts ≡ t ∷ more
    pub stands : left ≡ stmts.Pause (suc edges) ∷ (showing p stream t ++ process_from p stream ts gaps (suc count) more)
    pub gap : gap_of p ts gaps count ≡ idle + suc edges
    pub low : lines signals.Valid ≡ false ∷ []

  pub record Showing (count idle : ℕ) (left : List Stmt) (lines : Signal → List Bool) : Type 0 where
    pub t : Transfer
    pub more : List Transfer
    pub rest : drop count ts ≡ t ∷ more
    pub stands : left ≡ stmts.Await stream ∷ process_from p stream ts gaps (suc count) more
    pub gap : gap_of p ts gaps count ≤ idle
    pub shown : shown_in p lines ≡ Some t

  pub record Over (count idle : ℕ) (left : List Stmt) (lines : Signal → List Bool) : Type 0 where
    pub rest : drop count ts ≡ []
    pub stands : left ≡ stmts.Stop ∷ []
    pub low : lines signals.Valid ≡ false ∷ []

  abbrev pub Follows : (count idle : ℕ) → List Stmt → (Signal → List Bool) → Type 0
  Follows count idle left lines = Pausing count idle left lines ⊎ (Showing count idle left lines ⊎ Over count idle left lines)

  move : (count count' idle idle' : ℕ) (left : List Stmt) (lines : Signal → List Bool) → count' ≡ count → idle' ≡ idle → Follows count idle left lines → Follows count' idle' left lines
  move count count' idle idle' left lines same1 same2 f = subst (λ n. Follows n idle' left lines) (sym same1) (subst (λ n. Follows count n left lines) (sym same2) f)

  -- ---- it shows what the run shows

  pub shown-so : (before : List Cycle) (left : List Stmt) (lines : Signal → List Bool) → Follows (transfers_of before) (idle_of before) left lines → shown_in p lines ≡ shown_after p ts gaps before
  shown-so before left lines (inl f) =
      let gap = f.gap in
      let test : nat_le (gap_of p ts gaps (transfers_of before)) (idle_of before) ≡ false = grind (arith, nat_tests) in
      ap (λ word. if get_or word 0 false then Some (transfer_in p lines) else None) f.low
      ∙ sym (ap (λ (b : Bool). if b then slice_get ts (transfers_of before) else None) test)
  shown-so before left lines (inr (inl f)) =
      let gap = f.gap in
      let test : nat_le (gap_of p ts gaps (transfers_of before)) (idle_of before) ≡ true = grind (arith, nat_tests) in
      f.shown ∙ sym (ap (λ (b : Bool). if b then slice_get ts (transfers_of before) else None) test ∙ drop-get ts (transfers_of before) f.t f.more f.rest)
  shown-so before left lines (inr (inr f)) =
      ap (λ word. if get_or word 0 false then Some (transfer_in p lines) else None) f.low
      ∙ sym (by_test (nat_le (gap_of p ts gaps (transfers_of before)) (idle_of before)))
    where
      by_test : (test : Bool) → (if test then slice_get ts (transfers_of before) else None) ≡ None
      by_test true = drop-none ts (transfers_of before) f.rest
      by_test false = refl

  -- ---- it runs on to its next wait

  shows-at : (count : ℕ) (t : Transfer) (more : List Transfer) → All (Shows p) ts → drop count ts ≡ t ∷ more → Shows p t
  shows-at count t more all rest =
      let is : slice_get ts count ≡ Some t = drop-get ts count t more rest in
      subst (Shows p) (get_or_from_slice_get ts count t t is) (all count t (slice_get_within ts count t is))

  -- to the wait behind a transfer
  ran-showing : (count idle : ℕ) (lines : Signal → List Bool) (t : Transfer) (more : List Transfer) → All (Shows p) ts → drop count ts ≡ t ∷ more → gap_of p ts gaps count ≤ idle →
      Follows count idle (waits_at (showing p stream t ++ process_from p stream ts gaps (suc count) more)) (lines_of stream lines (showing p stream t ++ process_from p stream ts gaps (suc count) more))
  ran-showing count idle lines t more all rest gap = inr (inl (record {
    t = t;
    more = more;
    rest = rest;
    stands = waits-showing p stream t (process_from p stream ts gaps (suc count) more);
    gap = gap;
    shown = shown-showing p stream t lines (process_from p stream ts gaps (suc count) more) (shows-at count t more all rest);
  }))

  -- from behind the transfer before, or from the start
  pub ran-on : (count : ℕ) (lines : Signal → List Bool) (rest : List Transfer) → All (Shows p) ts → drop count ts ≡ rest →
      Follows count 0 (waits_at (process_from p stream ts gaps count rest)) (lines_of stream lines (process_from p stream ts gaps count rest))
  ran-on count lines [] all rest = inr (inr (record { rest = rest; stands = refl; low = ap (last_of (lines signals.Valid)) (put-same stream signals.Valid signals.Valid (false ∷ []) (stmts.Stop ∷ []) refl) }))
  ran-on count lines (t ∷ more) all rest = by_gap (gap_of p ts gaps count) refl
    where
      by_gap : (gap : ℕ) → gap_of p ts gaps count ≡ gap →
          Follows count 0 (waits_at (pausing stream gap ++ (showing p stream t ++ process_from p stream ts gaps (suc count) more)))
          (lines_of stream lines (pausing stream gap ++ (showing p stream t ++ process_from p stream ts gaps (suc count) more)))
      by_gap zero is = ran-showing count 0 lines t more all rest (omega (arith, is))
      by_gap (suc edges) is = inl (record {
        t = t;
        more = more;
        edges = edges;
        rest = rest;
        stands = refl;
        gap = omega (arith, is);
        low = ap (last_of (lines signals.Valid)) (put-same stream signals.Valid signals.Valid (false ∷ []) (stmts.Pause (suc edges) ∷ (showing p stream t ++ process_from p stream ts gaps (suc count) more)) refl);
      })

  -- ---- it goes on with the run by one cycle

  module _ (ready : List Bool) where
    -- its state after the edge, from its state before
    abbrev pub Steps : (count idle : ℕ) → List Stmt → (Signal → List Bool) → Type 0
    Steps count idle left lines = Follows count idle (waits_at (resumed ready left)) (lines_of stream lines (resumed ready left))

    step-pausing : (count idle : ℕ) (left : List Stmt) (lines : Signal → List Bool) → All (Shows p) ts → Pausing count idle left lines → Steps count (suc idle) left lines
    step-pausing count idle left lines all f = subst (λ l. Steps count (suc idle) l lines) (sym f.stands) (by_edges f.edges f.gap)
      where
        by_edges : (edges : ℕ) → gap_of p ts gaps count ≡ idle + suc edges →
            Steps count (suc idle) (stmts.Pause (suc edges) ∷ (showing p stream f.t ++ process_from p stream ts gaps (suc count) f.more)) lines
        by_edges zero gap = ran-showing count (suc idle) lines f.t f.more all f.rest (omega (arith, gap))
        by_edges (suc edges) gap = inl (record { t = f.t; more = f.more; edges = edges; rest = f.rest; stands = refl; gap = omega (arith, gap); low = f.low })

    step-over : (count idle : ℕ) (left : List Stmt) (lines : Signal → List Bool) → Over count idle left lines → Steps count (suc idle) left lines
    step-over count idle left lines f = subst (λ l. Steps count (suc idle) l lines) (sym f.stands) (inr (inr (record { rest = f.rest; stands = refl; low = f.low })))

    -- its wait is met by the ready bit of its stream, and by nothing else
    step-refused : (count idle : ℕ) (left : List Stmt) (lines : Signal → List Bool) → get_or ready stream false ≡ false → Showing count idle left lines → Steps count (suc idle) left lines
    step-refused count idle left lines bit f =
        let behind : List Stmt = process_from p stream ts gaps (suc count) f.more in
        let still : resumed ready left ≡ stmts.Await stream ∷ behind = ap (resumed ready) f.stands ∙ ap (λ (b : Bool). if b then behind else stmts.Await stream ∷ behind) bit in
        let gap = f.gap in
        subst (λ l. Follows count (suc idle) (waits_at l) (lines_of stream lines l)) (sym still)
        (inr (inl (record { t = f.t; more = f.more; rest = f.rest; stands = refl; gap = omega (arith, gap); shown = f.shown })))

    step-done : (count idle : ℕ) (left : List Stmt) (lines : Signal → List Bool) → get_or ready stream false ≡ true → All (Shows p) ts → Showing count idle left lines → Steps (suc count) 0 left lines
    step-done count idle left lines bit all f =
        let behind : List Stmt = process_from p stream ts gaps (suc count) f.more in
        let on : resumed ready left ≡ behind = ap (resumed ready) f.stands ∙ ap (λ (b : Bool). if b then behind else stmts.Await stream ∷ behind) bit in
        subst (λ l. Follows (suc count) 0 (waits_at l) (lines_of stream lines l)) (sym on) (ran-on (suc count) lines f.more all (drop-next ts count f.t f.more f.rest))

    pub step : (before : List Cycle) (left : List Stmt) (lines : Signal → List Bool) → All (Shows p) ts → Follows (transfers_of before) (idle_of before) left lines →
        Steps (transfers_of (before ++ next_cycle p ts gaps before (get_or ready stream false) ∷ [])) (idle_of (before ++ next_cycle p ts gaps before (get_or ready stream false) ∷ [])) left lines
    step before left lines all follows = by_bit (get_or ready stream false) refl follows (shown-so before left lines follows)
      where
        to : (bit : Bool) (count idle : ℕ) → transfers_of (before ++ next_cycle p ts gaps before bit ∷ []) ≡ count → idle_of (before ++ next_cycle p ts gaps before bit ∷ []) ≡ idle → Steps count idle left lines →
            Steps (transfers_of (before ++ next_cycle p ts gaps before bit ∷ [])) (idle_of (before ++ next_cycle p ts gaps before bit ∷ [])) left lines
        to bit count idle same1 same2 =
            move count (transfers_of (before ++ next_cycle p ts gaps before bit ∷ [])) idle (idle_of (before ++ next_cycle p ts gaps before bit ∷ [])) (waits_at (resumed ready left))
            (lines_of stream lines (resumed ready left)) same1 same2

        low-none : lines signals.Valid ≡ false ∷ [] → shown_in p lines ≡ None
        low-none low = ap (λ word. if get_or word 0 false then Some (transfer_in p lines) else None) low

        by_bit : (bit : Bool) → get_or ready stream false ≡ bit → Follows (transfers_of before) (idle_of before) left lines → shown_in p lines ≡ shown_after p ts gaps before →
            Steps (transfers_of (before ++ next_cycle p ts gaps before bit ∷ [])) (idle_of (before ++ next_cycle p ts gaps before bit ∷ [])) left lines
        by_bit bit is (inl f) shown =
            let s = stays-none p ts gaps before bit (sym shown ∙ low-none f.low) in
            to bit (transfers_of before) (suc (idle_of before)) s.count s.idle (step-pausing (transfers_of before) (idle_of before) left lines all f)
        by_bit false is (inr (inl f)) shown =
            let s = stays-refused p ts gaps before in
            to false (transfers_of before) (suc (idle_of before)) s.count s.idle (step-refused (transfers_of before) (idle_of before) left lines is f)
        by_bit true is (inr (inl f)) shown =
            let s = goes-done p ts gaps before f.t (sym shown ∙ f.shown) in
            to true (suc (transfers_of before)) 0 s.count s.idle (step-done (transfers_of before) (idle_of before) left lines is all f)
        by_bit bit is (inr (inr f)) shown =
            let s = stays-none p ts gaps before bit (sym shown ∙ low-none f.low) in
            to bit (transfers_of before) (suc (idle_of before)) s.count s.idle (step-over (transfers_of before) (idle_of before) left lines f)
