-- The cycles at the sink of a chain.
use Rattle.std.proofs.Common.{◌≡◌, ◌∙◌, ℕ, zero, suc, ◌+◌, ◌<◌, ◌≤◌, ◌==◌, ◌&&◌, ◌⊎◌, inl, inr, Bool, true, false, nat_lt, nat_le, if◌then◌else◌, List, [], ◌∷◌, ◌++◌, length, map, take, get_or, slice_get, slice_index, Option, None, Some, is_some, refl, sym, ap, subst, append_assoc, arith}
use Rattle.std.proofs.lemmas.Bool.{cases_lt}
use Rattle.std.proofs.lemmas.List.{append-nil, length-append}
use Rattle.physical_stream.specs.Params.{Parameters}
use Rattle.physical_stream.specs.Counts.{transfers_of}
use Rattle.physical_stream.specs.Cycles.{Cycle, done_in, done_of, refused_in, waiting_of}
use Rattle.physical_stream.specs.declared.transfer.Transfer.{Transfer}
use Rattle.handshake.specs.Run.{gap_of}
use Rattle.handshake.proofs.RunLemmas.{done_of-more, waiting_of-more}
use Rattle.steady_run.specs.Steady.{IsSteady}
use Rattle.steady_run.proofs.FrontLemmas.{steady_is_front}
use Rattle.steady_run.proofs.GrowLemmas.{steady-next, steady-none}
use Rattle.elastic_net.specs.Laws.{IsSound, OrdersAreOf, RowsAreCycles, SinksAreReady, SinksAreSteady, SinksDeliver}
use Rattle.elastic_net.specs.Orders.{IsOrder, how_many}
use Rattle.elastic_net.specs.Sinks.{acts_of, order_now, sink_cycles, sink_from, sink_now, state_after, state_behind, state_from}
use Rattle.elastic_net.specs.States.{ChainState, act_of, beyond, does_move, first_of, first_state, has_room, is_due, moved_on, next_cycle_of, shown_by}
use Rattle.elastic_net.proofs.NumberLemmas.{beyond-moved, beyond-other, beyond-upto, beyond-within, beyond-zeros, le_true, le_yes, lt_no, lt_yes, many-more, many-same, same_no, same_yes}
use Rattle.elastic_net.proofs.SoundLemmas.{AreBelow, act-sound, acts-sound, below-all, first-here, first-sound, moves-there, order-here, shows-next, some-there}
use Rattle.elastic_net.proofs.SourceLemmas.{got-within}
use Rattle.elastic_net.proofs.StandLemmas.{moved-least}

module _ (p : Parameters) (ts : List Transfer) (gaps stages : List ℕ) where
  -- how many transfers are at the sink
  abbrev at_end : ChainState → ℕ
  at_end s = beyond (length stages) s.numbers

  -- the last component has a transfer to show
  abbrev pub Offers : ChainState → Type 0
  Offers s = is_some (shown_by p ts gaps stages (length stages) s) ≡ true

  -- ---- an act of another component

  act-end : (component : ℕ) (ready : Bool) (s : ChainState) → (component ≡ length stages → ⊥) → at_end (act_of p ts gaps stages component ready s) ≡ at_end s
  act-end component ready s other = by_move (does_move p ts gaps stages component ready s)
    where
      by_move : (b : Bool) → beyond (length stages) (if b then moved_on component s.numbers else s.numbers) ≡ beyond (length stages) s.numbers
      by_move true = beyond-other component (length stages) s.numbers (λ is. other (sym is))
      by_move false = refl

  act-shown : (component : ℕ) (ready : Bool) (s : ChainState) → (component ≡ length stages → ⊥) → (act_of p ts gaps stages component ready s).shown ≡ s.shown
  act-shown component ready s other = ap (λ (b : Bool). if b then shown_by p ts gaps stages component s else s.shown) (same_no component (length stages) other)

  -- a stage that has a transfer shows it
  stage-offers : (stage : ℕ) (s : ChainState) → IsSound ts stages s.numbers → beyond (suc stage) s.numbers < beyond stage s.numbers → is_some (shown_by p ts gaps stages (suc stage) s) ≡ true
  stage-offers stage s sound some =
      ap (λ (o : Option Transfer). is_some o)
      (first-here p ts gaps stages s sound (suc stage) ∙ ap (λ (b : Bool). if b then slice_get ts (beyond (suc stage) s.numbers) else None) (lt_yes (beyond (suc stage) s.numbers) (beyond stage s.numbers) some))
      ∙ got-within ts (beyond (suc stage) s.numbers) (omega (arith, some, beyond-within stage s.numbers, sound.many))

  act-least : (component j : ℕ) (ready : Bool) (s : ChainState) → beyond j s.numbers ≤ beyond j (act_of p ts gaps stages component ready s).numbers
  act-least component j ready s = by_move (does_move p ts gaps stages component ready s)
    where
      by_move : (b : Bool) → beyond j s.numbers ≤ beyond j (if b then moved_on component s.numbers else s.numbers)
      by_move true = moved-least component j s.numbers
      by_move false = omega arith

  act-offers : (component : ℕ) (ready : Bool) (s : ChainState) → component < length stages → IsSound ts stages s.numbers → Offers s → Offers (act_of p ts gaps stages component ready s)
  act-offers component ready s less sound offers = by_last (length stages) refl
    where
      by_last : (last : ℕ) → length stages ≡ last → Offers (act_of p ts gaps stages component ready s)
      by_last zero is = absurd (omega (arith, is, less))
      by_last (suc stage) is =
          let here : is_some (shown_by p ts gaps stages (suc stage) s) ≡ true = subst (λ (n : ℕ). is_some (shown_by p ts gaps stages n s) ≡ true) is offers in
          let some : beyond (suc stage) s.numbers < beyond stage s.numbers = some-there p ts gaps stages s sound (suc stage) here in
          let same : beyond (suc stage) (act_of p ts gaps stages component ready s).numbers ≡ beyond (suc stage) s.numbers =
          subst (λ (n : ℕ). beyond n (act_of p ts gaps stages component ready s).numbers ≡ beyond n s.numbers) is (act-end component ready s (λ at. omega (arith, at, less))) in
          let more = act-least component stage ready s in
          subst (λ (n : ℕ). is_some (shown_by p ts gaps stages n (act_of p ts gaps stages component ready s)) ≡ true) (sym is)
          (stage-offers stage (act_of p ts gaps stages component ready s) (act-sound p ts gaps stages s sound component ready (omega (arith, less))) (omega (arith, some, same, more)))

  -- ---- an act of the last component

  last-room : (ready : Bool) (s : ChainState) → has_room stages (length stages) ready s ≡ ready
  last-room ready s = ap (λ (b : Bool). if b then nat_lt (how_many (suc (length stages)) s.numbers) (slice_index stages (length stages)) else ready) (lt_no (length stages) (length stages) (omega arith))

  last-moves : (ready : Bool) (s : ChainState) → does_move p ts gaps stages (length stages) ready s ≡ (is_some (shown_by p ts gaps stages (length stages) s) && ready)
  last-moves ready s = ap (λ (b : Bool). is_some (shown_by p ts gaps stages (length stages) s) && b) (last-room ready s)

  last-shown : (ready : Bool) (s : ChainState) → (act_of p ts gaps stages (length stages) ready s).shown ≡ shown_by p ts gaps stages (length stages) s
  last-shown ready s = ap (λ (b : Bool). if b then shown_by p ts gaps stages (length stages) s else s.shown) (same_yes (length stages) (length stages) refl)

  -- what a cycle does at the sink: what is done there, and what waits
  pub record Ends (before after : ChainState) (ready : Bool) (shown : Option Transfer) : Type 0 where
    pub next : (t : Transfer) → shown ≡ Some t → slice_get ts (at_end before) ≡ Some t
    pub taken : ready ≡ true → is_some shown ≡ true → at_end after ≡ suc (at_end before)
    pub kept : (ready && is_some shown) ≡ false → at_end after ≡ at_end before
    pub waits : ready ≡ false → is_some shown ≡ true → Offers after

  and-false : (a b : Bool) → (b && a) ≡ false → (a && b) ≡ false
  and-false true true is = is
  and-false true false is = refl
  and-false false b is = refl

  last-ends : (ready : Bool) (s : ChainState) → IsSound ts stages s.numbers → Ends s (act_of p ts gaps stages (length stages) ready s) ready (act_of p ts gaps stages (length stages) ready s).shown
  last-ends ready s sound = record {
    next = λ t is. shows-next p ts gaps stages s sound (length stages) t (sym (last-shown ready s) ∙ is);
    taken = λ high some.
        let offers : Offers s = ap (λ (o : Option Transfer). is_some o) (sym (last-shown ready s)) ∙ some in
        let moves : does_move p ts gaps stages (length stages) ready s ≡ true = last-moves ready s ∙ ap (λ (b : Bool). b && ready) offers ∙ high in
        ap (λ (b : Bool). beyond (length stages) (if b then moved_on (length stages) s.numbers else s.numbers)) moves
        ∙ beyond-moved (suc (length stages)) (length stages) s.numbers sound.falling (moves-there p ts gaps stages s sound (length stages) ready moves);
    kept = λ none.
        let still : does_move p ts gaps stages (length stages) ready s ≡ false =
        last-moves ready s ∙ and-false (is_some (shown_by p ts gaps stages (length stages) s)) ready (ap (λ (o : Option Transfer). ready && is_some o) (sym (last-shown ready s)) ∙ none) in
        ap (λ (b : Bool). beyond (length stages) (if b then moved_on (length stages) s.numbers else s.numbers)) still;
    waits = λ low some.
        let offers : Offers s = ap (λ (o : Option Transfer). is_some o) (sym (last-shown ready s)) ∙ some in
        let still : does_move p ts gaps stages (length stages) ready s ≡ false = last-moves ready s ∙ ap (λ (b : Bool). b && ready) offers ∙ low in
        still-offers ready s still offers;
  }
    where
      and-last : (a : Bool) → (a && false) ≡ false
      and-last true = refl
      and-last false = refl

      still-offers : (bit : Bool) (before : ChainState) → does_move p ts gaps stages (length stages) bit before ≡ false → Offers before → Offers (act_of p ts gaps stages (length stages) bit before)
      still-offers bit before still offers =
          let numbers : (act_of p ts gaps stages (length stages) bit before).numbers ≡ before.numbers = ap (λ (b : Bool). if b then moved_on (length stages) before.numbers else before.numbers) still in
          let start : (act_of p ts gaps stages (length stages) bit before).start ≡ before.start = ap (λ (b : Bool). if b then suc before.cycle else before.start) (ap (λ (b : Bool). (length stages == 0) && b) still ∙ and-last (length stages == 0)) in
          by_last (length stages) before (act_of p ts gaps stages (length stages) bit before) numbers start refl offers
        where
          by_last : (last : ℕ) (a b : ChainState) → b.numbers ≡ a.numbers → b.start ≡ a.start → b.cycle ≡ a.cycle → is_some (shown_by p ts gaps stages last a) ≡ true → is_some (shown_by p ts gaps stages last b) ≡ true
          by_last zero a b same start cycle is =
              ap (λ (l : List ℕ). is_some (if nat_le (b.start + gap_of p ts gaps (beyond 0 l)) b.cycle then first_of 0 ts l else None)) same
              ∙ ap (λ (n : ℕ). is_some (if nat_le (n + gap_of p ts gaps (beyond 0 a.numbers)) b.cycle then first_of 0 ts a.numbers else None)) start
              ∙ ap (λ (n : ℕ). is_some (if nat_le (a.start + gap_of p ts gaps (beyond 0 a.numbers)) n then first_of 0 ts a.numbers else None)) cycle ∙ is
          by_last (suc stage) a b same start cycle is = ap (λ (l : List ℕ). is_some (first_of (suc stage) ts l)) same ∙ is

  -- ---- the acts of a cycle

  not-here : (x : ℕ) (order : List ℕ) → how_many (length stages) (x ∷ order) ≡ 0 → x ≡ length stages → ⊥
  not-here x order none is = omega (arith, none, many-more (length stages) x order is)

  -- components that are not the last
  rest-end : (order : List ℕ) (ready : Bool) (s : ChainState) → how_many (length stages) order ≡ 0 → at_end (acts_of p ts gaps stages order ready s) ≡ at_end s
  rest-end [] ready s none = refl
  rest-end (x ∷ order) ready s none = rest-end order ready (act_of p ts gaps stages x ready s) (omega (arith, none, many-same (length stages) x order (not-here x order none))) ∙ act-end x ready s (not-here x order none)

  rest-shown : (order : List ℕ) (ready : Bool) (s : ChainState) → how_many (length stages) order ≡ 0 → (acts_of p ts gaps stages order ready s).shown ≡ s.shown
  rest-shown [] ready s none = refl
  rest-shown (x ∷ order) ready s none = rest-shown order ready (act_of p ts gaps stages x ready s) (omega (arith, none, many-same (length stages) x order (not-here x order none))) ∙ act-shown x ready s (not-here x order none)

  rest-offers : (order : List ℕ) (ready : Bool) (s : ChainState) → how_many (length stages) order ≡ 0 → AreBelow (suc (length stages)) order → IsSound ts stages s.numbers → Offers s → Offers (acts_of p ts gaps stages order ready s)
  rest-offers [] ready s none are sound offers = offers
  rest-offers (x ∷ order) ready s none are sound offers =
      let other = not-here x order none in
      rest-offers order ready (act_of p ts gaps stages x ready s) (omega (arith, none, many-same (length stages) x order other)) are.1 (act-sound p ts gaps stages s sound x ready (omega (arith, are.0)))
      (act-offers x ready s (omega (arith, are.0, other)) sound offers)

  -- what a cycle does, and what it shows where a transfer waits
  abbrev pub EndsCycle : (before after : ChainState) → (ready : Bool) → Type 0
  EndsCycle before after ready = Ends before after ready after.shown × (Offers before → is_some after.shown ≡ true)

  -- another component acts first
  ends-later : (x : ℕ) (ready : Bool) (s after : ChainState) → x < length stages → IsSound ts stages s.numbers → EndsCycle (act_of p ts gaps stages x ready s) after ready → EndsCycle s after ready
  ends-later x ready s after less sound more =
      let same : at_end (act_of p ts gaps stages x ready s) ≡ at_end s = act-end x ready s (λ at. omega (arith, at, less)) in (
        record {
          next = λ t is. ap (slice_get ts) (sym same) ∙ more.0.next t is;
          taken = λ high some. more.0.taken high some ∙ ap suc same;
          kept = λ none. more.0.kept none ∙ same;
          waits = λ low some. more.0.waits low some;
        },
        λ offers. more.1 (act-offers x ready s less sound offers),
      )

  -- the last component acts first
  ends-first : (order : List ℕ) (ready : Bool) (s : ChainState) → how_many (length stages) order ≡ 0 → AreBelow (suc (length stages)) order → IsSound ts stages s.numbers →
      EndsCycle s (acts_of p ts gaps stages order ready (act_of p ts gaps stages (length stages) ready s)) ready
  ends-first order ready s none are sound =
      let ends = last-ends ready s sound in
      let shown = rest-shown order ready (act_of p ts gaps stages (length stages) ready s) none in
      let end = rest-end order ready (act_of p ts gaps stages (length stages) ready s) none in (
        record {
          next = λ t is. ends.next t (sym shown ∙ is);
          taken = λ high some. end ∙ ends.taken high (ap (λ (o : Option Transfer). is_some o) (sym shown) ∙ some);
          kept = λ no_one. end ∙ ends.kept (ap (λ (o : Option Transfer). ready && is_some o) (sym shown) ∙ no_one);
          waits = λ low some.
              rest-offers order ready (act_of p ts gaps stages (length stages) ready s) none are (act-sound p ts gaps stages s sound (length stages) ready (omega arith))
              (ends.waits low (ap (λ (o : Option Transfer). is_some o) (sym shown) ∙ some));
        },
        λ offers. ap (λ (o : Option Transfer). is_some o) (shown ∙ last-shown ready s) ∙ offers,
      )

  -- an order in which the last component stands once
  acts-end : (order : List ℕ) (ready : Bool) (s : ChainState) → how_many (length stages) order ≡ 1 → AreBelow (suc (length stages)) order → IsSound ts stages s.numbers → EndsCycle s (acts_of p ts gaps stages order ready s) ready
  acts-end [] ready s once are sound = absurd (omega (arith, once))
  acts-end (x ∷ order) ready s once are sound =
      by_last (λ less. acts-end order ready (act_of p ts gaps stages x ready s) (sym (many-same (length stages) x order (λ at. omega (arith, at, less))) ∙ once) are.1 (act-sound p ts gaps stages s sound x ready (omega (arith, are.0))))
      (cases_lt x (length stages))
    where
      by_last : (x < length stages → EndsCycle (act_of p ts gaps stages x ready s) (acts_of p ts gaps stages order ready (act_of p ts gaps stages x ready s)) ready) → (x < length stages) ⊎ (length stages ≤ x) →
          EndsCycle s (acts_of p ts gaps stages order ready (act_of p ts gaps stages x ready s)) ready
      by_last later (inl less) = ends-later x ready s (acts_of p ts gaps stages order ready (act_of p ts gaps stages x ready s)) less sound (later less)
      by_last later (inr le) =
          let last : x ≡ length stages = omega (arith, le, are.0) in
          subst (λ (n : ℕ). EndsCycle s (acts_of p ts gaps stages order ready (act_of p ts gaps stages n ready s)) ready) (sym last)
          (ends-first order ready s (omega (arith, once, many-more (length stages) x order last)) are.1 sound)

  -- ---- the next cycle begins

  next-offers : (s : ChainState) → Offers s → Offers (next_cycle_of s)
  next-offers s offers = by_last (length stages) offers
    where
      by_last : (last : ℕ) → is_some (shown_by p ts gaps stages last s) ≡ true → is_some (shown_by p ts gaps stages last (next_cycle_of s)) ≡ true
      by_last (suc stage) is = is
      by_last zero is = by_due (is_due p ts gaps stages s) refl is
        where
          by_due : (b : Bool) → is_due p ts gaps stages s ≡ b → is_some (if b then first_of 0 ts s.numbers else None) ≡ true → is_some (shown_by p ts gaps stages 0 (next_cycle_of s)) ≡ true
          by_due true due some =
              let before : s.start + gap_of p ts gaps (beyond 0 s.numbers) ≤ s.cycle = le_true (s.start + gap_of p ts gaps (beyond 0 s.numbers)) s.cycle due in
              ap (λ (b : Bool). is_some (if b then first_of 0 ts s.numbers else None)) (le_yes (s.start + gap_of p ts gaps (beyond 0 s.numbers)) (suc s.cycle) (omega (arith, before))) ∙ some
          by_due false due some = cc

  -- ---- all cycles

  module _ (orders : List (List ℕ)) (are : OrdersAreOf (suc (length stages)) orders) where
    here_is : (s : ChainState) → IsOrder (suc (length stages)) (order_now p ts gaps stages orders s)
    here_is s = order-here (suc (length stages)) orders are s.cycle

    here_below : (s : ChainState) → AreBelow (suc (length stages)) (order_now p ts gaps stages orders s)
    here_below s = below-all (suc (length stages)) (order_now p ts gaps stages orders s) (λ k d less. (here_is s).within k d less)

    pub behind-sound : (s : ChainState) (bit : Bool) → IsSound ts stages s.numbers → IsSound ts stages (state_behind p ts gaps stages orders s bit).numbers
    behind-sound s bit sound = acts-sound p ts gaps stages bit (order_now p ts gaps stages orders s) s (here_below s) sound

    now-ends : (s : ChainState) (bit : Bool) → IsSound ts stages s.numbers → EndsCycle s (acts_of p ts gaps stages (order_now p ts gaps stages orders s) bit s) bit
    now-ends s bit sound = acts-end (order_now p ts gaps stages orders s) bit s ((here_is s).once (length stages) (omega arith)) (here_below s) sound

    -- what is known of a state after these cycles
    pub record Follows (before : List Cycle) (s : ChainState) : Type 0 where
      pub sound : IsSound ts stages s.numbers
      pub steady : IsSteady ts before
      pub count : transfers_of before ≡ at_end s
      pub waits : (t : Transfer) → waiting_of before ≡ Some t → Offers s × (slice_get ts (at_end s) ≡ Some t)

    count-of : (s after : ChainState) (done : ℕ) (bit : Bool) (shown : Option Transfer) → Ends s after bit shown → done ≡ at_end s → done + length (done_in (record { ready = bit; shown = shown })) ≡ at_end after
    count-of s after done true (Some t) e is = omega (arith, is, e.taken refl refl)
    count-of s after done true None e is = omega (arith, is, e.kept refl)
    count-of s after done false shown e is = omega (arith, is, e.kept refl)

    waits-of : (s after : ChainState) (bit : Bool) (shown : Option Transfer) → Ends s after bit shown → (t : Transfer) → refused_in (record { ready = bit; shown = shown }) ≡ Some t → Offers after × (slice_get ts (at_end after) ≡ Some t)
    waits-of s after true shown e t is = cc
    waits-of s after false None e t is = cc
    waits-of s after false (Some x) e t is = (e.waits refl refl, ap (slice_get ts) (e.kept refl) ∙ e.next x refl ∙ is)

    again-of : (s after : ChainState) (bit : Bool) (shown : Option Transfer) → Ends s after bit shown → is_some shown ≡ true → (t : Transfer) → slice_get ts (at_end s) ≡ Some t → shown ≡ Some t
    again-of s after bit None e some t is = cc
    again-of s after bit (Some x) e some t is = sym (e.next x refl) ∙ is

    follows-more : (before : List Cycle) (s : ChainState) (bit : Bool) → Follows before s → Follows (before ++ sink_now p ts gaps stages orders s bit ∷ []) (state_behind p ts gaps stages orders s bit)
    follows-more before s bit f =
        let after : ChainState = acts_of p ts gaps stages (order_now p ts gaps stages orders s) bit s in
        let ends = now-ends s bit f.sound in
        let shown = (acts_of p ts gaps stages (order_now p ts gaps stages orders s) bit s).shown in
        record {
          sound = behind-sound s bit f.sound;
          steady = steady-next ts before (sink_now p ts gaps stages orders s bit) f.steady (λ t is. ap (slice_get ts) f.count ∙ ends.0.next t is)
              (λ t waiting. again-of s _ bit _ ends.0 (ends.1 (f.waits t waiting).0) t (f.waits t waiting).1);
          count = ap (length {A = Transfer}) (done_of-more before (sink_now p ts gaps stages orders s bit)) ∙ length-append (done_of before) (done_in (sink_now p ts gaps stages orders s bit)) ∙ count-of s _ (transfers_of before) bit _ ends.0 f.count;
          waits = λ t waiting.
              let w = waits-of s _ bit _ ends.0 t (sym (waiting_of-more before (sink_now p ts gaps stages orders s bit)) ∙ waiting) in
              (next-offers (acts_of p ts gaps stages (order_now p ts gaps stages orders s) bit s) w.0, w.1);
        }

    follows-all : (before : List Cycle) (s : ChainState) (bits : List Bool) → Follows before s → Follows (before ++ sink_from p ts gaps stages orders s bits) (state_from p ts gaps stages orders s bits)
    follows-all before s [] f = subst (λ (l : List Cycle). Follows l s) (sym (append-nil before)) f
    follows-all before s (bit ∷ bits) f =
        subst (λ (l : List Cycle). Follows l (state_from p ts gaps stages orders (state_behind p ts gaps stages orders s bit) bits))
        (append_assoc before (sink_now p ts gaps stages orders s bit ∷ []) (sink_from p ts gaps stages orders (state_behind p ts gaps stages orders s bit) bits))
        (follows-all (before ++ sink_now p ts gaps stages orders s bit ∷ []) (state_behind p ts gaps stages orders s bit) bits (follows-more before s bit f))

    pub follows : (ready : List Bool) → Follows (sink_cycles p ts gaps stages orders ready) (state_after p ts gaps stages orders ready)
    follows ready = follows-all [] (first_state ts) ready (record {
      sound = first-sound ts stages;
      steady = steady-none ts;
      count = sym (beyond-zeros (length stages) (length ts));
      waits = λ t is. cc;
    })

pub sinks_are_steady : SinksAreSteady
sinks_are_steady p ts gaps stages orders ready are = (follows p ts gaps stages orders are ready).steady

pub sinks_deliver : SinksDeliver
sinks_deliver p ts gaps stages orders ready are =
    let f = follows p ts gaps stages orders are ready in
    record {
      sound = f.sound;
      count = f.count;
      done = steady_is_front ts (sink_cycles p ts gaps stages orders ready) f.steady ∙ ap (λ (n : ℕ). take n ts) f.count;
      behind = beyond-upto 0 (length stages) (state_after p ts gaps stages orders ready).numbers (omega arith);
      within = omega (arith, beyond-within 0 (state_after p ts gaps stages orders ready).numbers, f.sound.many);
    }

-- ---- ready bits and rows

ready-from : (p : Parameters) (ts : List Transfer) (gaps stages : List ℕ) (orders : List (List ℕ)) (s : ChainState) (bits : List Bool) → map (λ (c : Cycle). c.ready) (sink_from p ts gaps stages orders s bits) ≡ bits
ready-from p ts gaps stages orders s [] = refl
ready-from p ts gaps stages orders s (bit ∷ bits) = ap (λ (l : List Bool). bit ∷ l) (ready-from p ts gaps stages orders (state_behind p ts gaps stages orders s bit) bits)

pub sinks_are_ready : SinksAreReady
sinks_are_ready p ts gaps stages orders ready = ready-from p ts gaps stages orders (first_state ts) ready

row-at : (p : Parameters) (ts : List Transfer) (gaps stages : List ℕ) (orders : List (List ℕ)) (s : ChainState) (bits : List Bool) (number : ℕ) → number < length bits →
    slice_get (sink_from p ts gaps stages orders s bits) number ≡ Some (sink_now p ts gaps stages orders (state_from p ts gaps stages orders s (take number bits)) (get_or bits number false))
row-at p ts gaps stages orders s [] number less = absurd (omega (arith, less))
row-at p ts gaps stages orders s (bit ∷ bits) zero less = refl
row-at p ts gaps stages orders s (bit ∷ bits) (suc number) less = row-at p ts gaps stages orders (state_behind p ts gaps stages orders s bit) bits number (omega (arith, less))

pub rows_are_cycles : RowsAreCycles
rows_are_cycles c number less = row-at c.run.params c.run.transfers c.run.gaps c.stages c.orders (first_state c.run.transfers) c.run.ready number less
