-- A chain without stages is the run of its source.
use Rattle.std.proofs.Common.{◌≡◌, ◌∙◌, ℕ, suc, ◌+◌, ◌<◌, ◌≤◌, ◌&&◌, ◌⊎◌, inl, inr, Bool, true, false, if◌then◌else◌, List, [], ◌∷◌, ◌++◌, length, slice_get, Option, None, Some, is_some, refl, sym, ap, append_assoc, arith}
use Rattle.std.proofs.lemmas.Bool.{cases_lt}
use Rattle.std.proofs.lemmas.List.{append-nil, length-append}
use Rattle.physical_stream.specs.Params.{Parameters}
use Rattle.physical_stream.specs.Counts.{transfers_of}
use Rattle.physical_stream.specs.Cycles.{Cycle, done_in, done_of}
use Rattle.physical_stream.specs.declared.transfer.Transfer.{Transfer}
use Rattle.handshake.specs.Run.{gap_of, idle_of, is_done, next_cycle, run_on, shown_after}
use Rattle.handshake.proofs.RunLemmas.{done_of-more, idle_over-more}
use Rattle.elastic_net.specs.Laws.{IsSound, NoStagesAreRuns, OrdersAreOf}
use Rattle.elastic_net.specs.Orders.{IsOrder}
use Rattle.elastic_net.specs.Sinks.{acts_of, order_now, sink_from, sink_now, state_behind}
use Rattle.elastic_net.specs.States.{ChainState, act_of, beyond, does_move, first_of, first_state, moved_on, next_cycle_of, shown_by}
use Rattle.elastic_net.proofs.NumberLemmas.{beyond-moved, beyond-zeros, le_no, le_yes, lt_no, lt_yes, many-more, next_at}
use Rattle.elastic_net.proofs.RoomLemmas.{past-none}
use Rattle.elastic_net.proofs.SoundLemmas.{act-sound, first-here, first-sound, moves-there, order-here}

-- an order of one component
one-order : (order : List ℕ) → IsOrder 1 order → order ≡ 0 ∷ []
one-order [] is = absurd (omega (arith, is.once 0 (omega arith)))
one-order (x ∷ []) is = let zero_it : x ≡ 0 = omega (arith, is.within 0 0 (omega arith)) in ap (λ (n : ℕ). n ∷ []) zero_it
one-order (x ∷ y ∷ order) is =
    let first : x ≡ 0 = omega (arith, is.within 0 0 (omega arith)) in
    let second : y ≡ 0 = omega (arith, is.within 1 0 (omega arith)) in
    absurd (omega (arith, is.once 0 (omega arith), many-more 0 x (y ∷ order) first, many-more 0 y order second))

module _ (p : Parameters) (ts : List Transfer) (gaps : List ℕ) where
  -- the state of the source after these cycles of its run
  record Alike (before : List Cycle) (s : ChainState) : Type 0 where
    pub sound : IsSound ts [] s.numbers
    pub count : transfers_of before ≡ beyond 0 s.numbers
    pub idle : s.cycle ≡ s.start + idle_of before

  first-all : (s : ChainState) → IsSound ts [] s.numbers → first_of 0 ts s.numbers ≡ slice_get ts (beyond 0 s.numbers)
  first-all s sound = first-here p ts gaps [] s sound 0 ∙ by_lt (cases_lt (beyond 0 s.numbers) (length s.numbers))
    where
      by_lt : (beyond 0 s.numbers < length s.numbers) ⊎ (length s.numbers ≤ beyond 0 s.numbers) → next_at ts (beyond 0 s.numbers) (length s.numbers) ≡ slice_get ts (beyond 0 s.numbers)
      by_lt (inl less) = ap (λ (b : Bool). if b then slice_get ts (beyond 0 s.numbers) else None) (lt_yes (beyond 0 s.numbers) (length s.numbers) less)
      by_lt (inr le) =
          ap (λ (b : Bool). if b then slice_get ts (beyond 0 s.numbers) else None) (lt_no (beyond 0 s.numbers) (length s.numbers) le)
          ∙ sym (past-none ts (beyond 0 s.numbers) (omega (arith, le, sound.many)))

  shown-alike : (before : List Cycle) (s : ChainState) → Alike before s → shown_by p ts gaps [] 0 s ≡ shown_after p ts gaps before
  shown-alike before s a =
      let gap : gap_of p ts gaps (transfers_of before) ≡ gap_of p ts gaps (beyond 0 s.numbers) = ap (gap_of p ts gaps) a.count in
      let same : first_of 0 ts s.numbers ≡ slice_get ts (transfers_of before) = first-all s a.sound ∙ ap (slice_get ts) (sym a.count) in
      by_due gap same (cases_lt s.cycle (s.start + gap_of p ts gaps (beyond 0 s.numbers)))
    where
      by_due : gap_of p ts gaps (transfers_of before) ≡ gap_of p ts gaps (beyond 0 s.numbers) → first_of 0 ts s.numbers ≡ slice_get ts (transfers_of before) →
          (s.cycle < s.start + gap_of p ts gaps (beyond 0 s.numbers)) ⊎ (s.start + gap_of p ts gaps (beyond 0 s.numbers) ≤ s.cycle) → shown_by p ts gaps [] 0 s ≡ shown_after p ts gaps before
      by_due gap same (inl early) =
          ap (λ (b : Bool). if b then first_of 0 ts s.numbers else None) (le_no (s.start + gap_of p ts gaps (beyond 0 s.numbers)) s.cycle early)
          ∙ sym (ap (λ (b : Bool). if b then slice_get ts (transfers_of before) else None) (le_no (gap_of p ts gaps (transfers_of before)) (idle_of before) (omega (arith, early, gap, a.idle))))
      by_due gap same (inr due) =
          ap (λ (b : Bool). if b then first_of 0 ts s.numbers else None) (le_yes (s.start + gap_of p ts gaps (beyond 0 s.numbers)) s.cycle due) ∙ same
          ∙ sym (ap (λ (b : Bool). if b then slice_get ts (transfers_of before) else None) (le_yes (gap_of p ts gaps (transfers_of before)) (idle_of before) (omega (arith, due, gap, a.idle))))

  -- the cycle that the source acts in
  abbrev now_of : ChainState → Bool → Cycle
  now_of s bit = record { ready = bit; shown = shown_by p ts gaps [] 0 s }

  moves-done : (s : ChainState) (bit : Bool) → does_move p ts gaps [] 0 bit s ≡ is_done (now_of s bit)
  moves-done s bit = by_both (is_some (shown_by p ts gaps [] 0 s)) bit
    where
      by_both : (a b : Bool) → (a && b) ≡ (b && a)
      by_both true true = refl
      by_both true false = refl
      by_both false true = refl
      by_both false false = refl

  done-length : (bit : Bool) (shown : Option Transfer) → length (done_in (record { ready = bit; shown = shown })) ≡ (if (bit && is_some shown) then 1 else 0)
  done-length true (Some t) = refl
  done-length true None = refl
  done-length false shown = refl

  alike-more : (before : List Cycle) (s : ChainState) (bit : Bool) → Alike before s →
      Alike (before ++ now_of s bit ∷ []) (record { numbers = (act_of p ts gaps [] 0 bit s).numbers; cycle = suc s.cycle; acted = []; start = (act_of p ts gaps [] 0 bit s).start; shown = (act_of p ts gaps [] 0 bit s).shown })
  alike-more before s bit a = record {
    sound = act-sound p ts gaps [] s a.sound 0 bit (omega arith);
    count =
        let longer : transfers_of (before ++ now_of s bit ∷ []) ≡ transfers_of before + length (done_in (now_of s bit)) =
        ap (length {A = Transfer}) (done_of-more before (now_of s bit)) ∙ length-append (done_of before) (done_in (now_of s bit)) in
        longer ∙ ap (λ (n : ℕ). transfers_of before + n) (done-length bit (shown_by p ts gaps [] 0 s)) ∙ by_count (is_done (now_of s bit)) (moves-done s bit);
    idle = by_idle (is_done (now_of s bit)) (moves-done s bit) (idle_over-more 0 before (now_of s bit));
  }
    where
      by_count : (b : Bool) → does_move p ts gaps [] 0 bit s ≡ b → transfers_of before + (if b then 1 else 0) ≡ beyond 0 (act_of p ts gaps [] 0 bit s).numbers
      by_count true moves =
          omega (arith, a.count, beyond-moved 1 0 s.numbers a.sound.falling (moves-there p ts gaps [] s a.sound 0 bit moves), ap (λ (b : Bool). beyond 0 (if b then moved_on 0 s.numbers else s.numbers)) moves)
      by_count false still = omega (arith, a.count, ap (λ (b : Bool). beyond 0 (if b then moved_on 0 s.numbers else s.numbers)) still)

      by_idle : (b : Bool) → does_move p ts gaps [] 0 bit s ≡ b → idle_of (before ++ now_of s bit ∷ []) ≡ (if b then 0 else suc (idle_of before)) → suc s.cycle ≡ (act_of p ts gaps [] 0 bit s).start + idle_of (before ++ now_of s bit ∷ [])
      by_idle true moves is = omega (arith, is, a.idle, ap (λ (b : Bool). if b then suc s.cycle else s.start) moves)
      by_idle false still is = omega (arith, is, a.idle, ap (λ (b : Bool). if b then suc s.cycle else s.start) still)

  module _ (orders : List (List ℕ)) (are : OrdersAreOf 1 orders) where
    run-from : (before : List Cycle) (s : ChainState) (bits : List Bool) → Alike before s → before ++ sink_from p ts gaps [] orders s bits ≡ run_on p ts gaps before bits
    run-from before s [] a = append-nil before
    run-from before s (bit ∷ bits) a =
        let order : order_now p ts gaps [] orders s ≡ 0 ∷ [] = one-order (order_now p ts gaps [] orders s) (order-here 1 orders are s.cycle) in
        let now : sink_now p ts gaps [] orders s bit ≡ now_of s bit = ap (λ (l : List ℕ). record { ready = bit; shown = (acts_of p ts gaps [] l bit s).shown }) order in
        let behind = ap (λ (l : List ℕ). next_cycle_of (acts_of p ts gaps [] l bit s)) order in
        let next : now_of s bit ≡ next_cycle p ts gaps before bit = ap (λ (o : Option Transfer). record { ready = bit; shown = o }) (shown-alike before s a) in
        let more : Alike (before ++ now_of s bit ∷ []) (next_cycle_of (act_of p ts gaps [] 0 bit s)) = alike-more before s bit a in
        ap (λ (c : Cycle). before ++ c ∷ sink_from p ts gaps [] orders (state_behind p ts gaps [] orders s bit) bits) now
        ∙ ap (λ (t : ChainState). before ++ now_of s bit ∷ sink_from p ts gaps [] orders t bits) behind
        ∙ sym (append_assoc before (now_of s bit ∷ []) (sink_from p ts gaps [] orders (next_cycle_of (act_of p ts gaps [] 0 bit s)) bits))
        ∙ run-from (before ++ now_of s bit ∷ []) (next_cycle_of (act_of p ts gaps [] 0 bit s)) bits more
        ∙ ap (λ (c : Cycle). run_on p ts gaps (before ++ c ∷ []) bits) next

pub no_stages_are_runs : NoStagesAreRuns
no_stages_are_runs p ts gaps orders ready are =
    run-from p ts gaps orders are [] (first_state ts) ready (record {
      sound = first-sound ts [];
      count = sym (beyond-zeros 0 (length ts));
      idle = omega arith;
    })
