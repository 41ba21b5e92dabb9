-- How many ready bits a chain needs to finish.
use Rattle.std.proofs.Common.{◌≡◌, ℕ, zero, suc, ◌+◌, ◌-◌, ◌*◌, ◌<◌, ◌≤◌, ◌⊎◌, inl, inr, min, Bool, true, false, List, [], ◌∷◌, length, refl, sym, ap, subst, arith}
use Rattle.std.proofs.lemmas.Bool.{cases_lt}
use Rattle.physical_stream.specs.Params.{Parameters}
use Rattle.physical_stream.specs.declared.transfer.Transfer.{Transfer}
use Rattle.handshake.specs.Laws.{gaps_below, ones_in}
use Rattle.handshake.specs.Run.{gap_of}
use Rattle.elastic_net.specs.Laws.{HaveRoom, IsSound, OrdersAreOf, SinksFinish}
use Rattle.elastic_net.specs.Orders.{IsOrder}
use Rattle.elastic_net.specs.Sinks.{acts_of, order_now, state_after, state_behind, state_from}
use Rattle.elastic_net.specs.States.{ChainState, beyond, first_state}
use Rattle.elastic_net.proofs.AbleLemmas.{IsAble, IsKept, IsSent, able-acts, acts-least, due_at, moves-fewer, moves-least, moves-more, moves_upto, source-acts}
use Rattle.elastic_net.proofs.NumberLemmas.{beyond-split, beyond-upto}
use Rattle.elastic_net.proofs.NetLemmas.{acts-cycle}
use Rattle.elastic_net.proofs.SoundLemmas.{AreBelow, acts-sound, below-all, first-sound, order-here}

module _ (p : Parameters) (ts : List Transfer) (gaps stages : List ℕ) where
  gaps-rise : (t more : ℕ) → gaps_below p ts gaps t ≤ gaps_below p ts gaps (more + t)
  gaps-rise t zero = omega (arith, ap (gaps_below p ts gaps) (let e : 0 + t ≡ t = omega arith in e))
  gaps-rise t (suc more) =
      let one : gaps_below p ts gaps (suc more + t) ≡ gaps_below p ts gaps (more + t) + gap_of p ts gaps (more + t) = ap (gaps_below p ts gaps) (let e : suc more + t ≡ suc (more + t) = omega arith in e) in
      omega (arith, gaps-rise t more, one)

  gaps-upto : (t u : ℕ) → t ≤ u → gaps_below p ts gaps t ≤ gaps_below p ts gaps u
  gaps-upto t u le = let e : (u - t) + t ≡ u = omega (arith, le) in subst (λ (n : ℕ). gaps_below p ts gaps t ≤ gaps_below p ts gaps n) e (gaps-rise t (u - t))

  abbrev moves : ChainState → ℕ
  moves s = moves_upto (suc (length stages)) s.numbers

  -- ---- some component can move, or the source waits for a gap

  abbrev FindsAble : ChainState → Type 0
  FindsAble s = (c : ℕ) × ((c ≤ length stages) × IsAble p ts gaps stages c s)

  scan : (s : ChainState) (j : ℕ) → j ≤ length stages → beyond j s.numbers ≡ beyond (length stages) s.numbers → FindsAble s ⊎ (beyond 0 s.numbers ≡ beyond (length stages) s.numbers)
  scan s zero within empty = inr empty
  scan s (suc j) within empty = by_lt (λ same. scan s j (omega (arith, within)) same) (cases_lt (beyond (suc j) s.numbers) (beyond j s.numbers))
    where
      by_lt : (beyond j s.numbers ≡ beyond (length stages) s.numbers → FindsAble s ⊎ (beyond 0 s.numbers ≡ beyond (length stages) s.numbers)) →
          (beyond (suc j) s.numbers < beyond j s.numbers) ⊎ (beyond j s.numbers ≤ beyond (suc j) s.numbers) → FindsAble s ⊎ (beyond 0 s.numbers ≡ beyond (length stages) s.numbers)
      by_lt rest (inr le) = rest (omega (arith, le, empty, beyond-upto j (suc j) s.numbers (omega arith)))
      by_lt rest (inl some) = inl (
        suc j,
        (
          within,
          record {
            has = some;
            due = λ source. absurd (omega (arith, source));
            room = λ less. omega (arith, beyond-split (suc j) s.numbers, empty, beyond-upto (suc (suc j)) (length stages) s.numbers (omega (arith, less)));
          },
        ),
      )

  finds : (s : ChainState) → IsSound ts stages s.numbers → beyond (length stages) s.numbers < length ts → FindsAble s ⊎ ((s.cycle < due_at p ts gaps stages s) × (beyond 0 s.numbers < length ts))
  finds s sound left = by_scan (scan s (length stages) (omega arith) refl)
    where
      by_due : beyond 0 s.numbers ≡ beyond (length stages) s.numbers → (s.cycle < due_at p ts gaps stages s) ⊎ (due_at p ts gaps stages s ≤ s.cycle) →
          FindsAble s ⊎ ((s.cycle < due_at p ts gaps stages s) × (beyond 0 s.numbers < length ts))
      by_due same (inl early) = inr (early, omega (arith, same, left))
      by_due same (inr due) = inl (
        0,
        (
          omega arith,
          record {
            has = omega (arith, same, left, sound.many);
            due = λ source. due;
            room = λ less. omega (arith, beyond-split 0 s.numbers, same, beyond-upto 1 (length stages) s.numbers (omega (arith, less)));
          },
        ),
      )

      by_scan : FindsAble s ⊎ (beyond 0 s.numbers ≡ beyond (length stages) s.numbers) → FindsAble s ⊎ ((s.cycle < due_at p ts gaps stages s) × (beyond 0 s.numbers < length ts))
      by_scan (inl able) = inl able
      by_scan (inr same) = by_due same (cases_lt s.cycle (due_at p ts gaps stages s))

  -- while transfers are left, each ready bit that was 1 moved one on or stood in a gap
  record Paced (s : ChainState) (ones : ℕ) : Type 0 where
    pub sound : IsSound ts stages s.numbers
    pub started : s.start ≤ s.cycle
    pub paced : beyond 0 s.numbers < length ts → ones ≤ moves s + gaps_below p ts gaps (beyond 0 s.numbers) + min (s.cycle - s.start) (gap_of p ts gaps (beyond 0 s.numbers))
    pub over : length ts ≤ beyond 0 s.numbers → beyond (length stages) s.numbers < length ts → ones ≤ moves s + gaps_below p ts gaps (length ts)

  -- what a cycle moves
  abbrev Progress : (s after : ChainState) → Bool → Type 0
  Progress s after bit = beyond (length stages) s.numbers < length ts → bit ≡ true → (moves s < moves after) ⊎ ((s.cycle < due_at p ts gaps stages s) × (beyond 0 s.numbers < length ts))

  ones-most : (bit : Bool) → ones_in (bit ∷ []) ≤ 1
  ones-most true = omega arith
  ones-most false = omega arith

  module _ (s after : ChainState) (bit : Bool) (ones : ℕ) (f : Paced s ones) (least : (j : ℕ) → beyond j s.numbers ≤ beyond j after.numbers) (sound : IsSound ts stages after.numbers) (cycle : after.cycle ≡ suc s.cycle)
      (progress : Progress s after bit) where
    rise : moves s ≤ moves after
    rise = moves-least (suc (length stages)) s.numbers after.numbers least

    gained : beyond (length stages) s.numbers < length ts → (ones_in (bit ∷ []) ≡ 0) ⊎ ((moves s < moves after) ⊎ ((s.cycle < due_at p ts gaps stages s) × (beyond 0 s.numbers < length ts)))
    gained left = by_bit bit refl
      where
        by_bit : (b : Bool) → bit ≡ b → (ones_in (b ∷ []) ≡ 0) ⊎ ((moves s < moves after) ⊎ ((s.cycle < due_at p ts gaps stages s) × (beyond 0 s.numbers < length ts)))
        by_bit false is = inl refl
        by_bit true is = inr (progress left is)

    paced-kept : IsKept p ts gaps stages s after → Paced after (ones + ones_in (bit ∷ []))
    paced-kept k =
        let gap : gap_of p ts gaps (beyond 0 after.numbers) ≡ gap_of p ts gaps (beyond 0 s.numbers) = ap (gap_of p ts gaps) k.sent in
        let gaps_are : gaps_below p ts gaps (beyond 0 after.numbers) ≡ gaps_below p ts gaps (beyond 0 s.numbers) = ap (gaps_below p ts gaps) k.sent in
        record {
          sound = sound;
          started = omega (arith, f.started, k.start, cycle);
          paced = λ left. by_gain left gap gaps_are (gained (omega (arith, left, k.sent, beyond-upto 0 (length stages) s.numbers (omega arith))));
          over = λ all left. by_over all left (gained (omega (arith, left, least (length stages))));
        }
      where
        by_gain : beyond 0 after.numbers < length ts → gap_of p ts gaps (beyond 0 after.numbers) ≡ gap_of p ts gaps (beyond 0 s.numbers) → gaps_below p ts gaps (beyond 0 after.numbers) ≡ gaps_below p ts gaps (beyond 0 s.numbers) →
            (ones_in (bit ∷ []) ≡ 0) ⊎ ((moves s < moves after) ⊎ ((s.cycle < due_at p ts gaps stages s) × (beyond 0 s.numbers < length ts))) →
            ones + ones_in (bit ∷ []) ≤ moves after + gaps_below p ts gaps (beyond 0 after.numbers) + min (after.cycle - after.start) (gap_of p ts gaps (beyond 0 after.numbers))
        by_gain left gap below (inl none) =
            let old = f.paced (omega (arith, left, k.sent)) in omega (arith, old, none, rise, gap, below, cycle, k.start, f.started)
        by_gain left gap below (inr (inl more)) =
            let old = f.paced (omega (arith, left, k.sent)) in omega (arith, old, ones-most bit, more, gap, below, cycle, k.start, f.started)
        by_gain left gap below (inr (inr early)) =
            let old = f.paced (omega (arith, left, k.sent)) in omega (arith, old, ones-most bit, rise, early.0, gap, below, cycle, k.start, f.started)

        by_over : length ts ≤ beyond 0 after.numbers → beyond (length stages) after.numbers < length ts → (ones_in (bit ∷ []) ≡ 0) ⊎ ((moves s < moves after) ⊎ ((s.cycle < due_at p ts gaps stages s) × (beyond 0 s.numbers < length ts))) →
            ones + ones_in (bit ∷ []) ≤ moves after + gaps_below p ts gaps (length ts)
        by_over all left (inl none) = let old = f.over (omega (arith, all, k.sent)) (omega (arith, left, least (length stages))) in omega (arith, old, none, rise)
        by_over all left (inr (inl more)) = let old = f.over (omega (arith, all, k.sent)) (omega (arith, left, least (length stages))) in omega (arith, old, ones-most bit, more)
        by_over all left (inr (inr early)) = absurd (omega (arith, early.1, all, k.sent))

    paced-sent : IsSent p ts gaps stages s after → Paced after (ones + ones_in (bit ∷ []))
    paced-sent k =
        let some : beyond 0 s.numbers < length ts = omega (arith, k.some, f.sound.many) in
        let old : ones ≤ moves s + gaps_below p ts gaps (beyond 0 s.numbers) + min (s.cycle - s.start) (gap_of p ts gaps (beyond 0 s.numbers)) = f.paced some in
        let more : moves s < moves after = moves-more (suc (length stages)) 0 s.numbers after.numbers least (omega arith) (omega (arith, k.sent)) in
        let below : gaps_below p ts gaps (beyond 0 after.numbers) ≡ gaps_below p ts gaps (beyond 0 s.numbers) + gap_of p ts gaps (beyond 0 s.numbers) = ap (gaps_below p ts gaps) k.sent in
        let one = ones-most bit in
        let enough : ones + ones_in (bit ∷ []) ≤ moves after + gaps_below p ts gaps (beyond 0 after.numbers) = omega (arith, old, more, below, one, k.due, f.started) in
        record {
          sound = sound;
          started = omega (arith, k.start, cycle);
          paced = λ left. omega (arith, enough);
          over = λ all left. omega (arith, enough, gaps-upto (beyond 0 after.numbers) (length ts) (omega (arith, k.sent, some)));
        }

  module _ (orders : List (List ℕ)) (are : OrdersAreOf (suc (length stages)) orders) (wide : HaveRoom stages) where
    paced-more : (s : ChainState) (bit : Bool) (ones : ℕ) → Paced s ones → Paced (state_behind p ts gaps stages orders s bit) (ones + ones_in (bit ∷ []))
    paced-more s bit ones f = by_source (source-acts p ts gaps stages (order_now p ts gaps stages orders s) bit s all f.sound)
      where
        is : IsOrder (suc (length stages)) (order_now p ts gaps stages orders s)
        is = order-here (suc (length stages)) orders are s.cycle

        all : AreBelow (suc (length stages)) (order_now p ts gaps stages orders s)
        all = below-all (suc (length stages)) (order_now p ts gaps stages orders s) (λ k d less. is.within k d less)

        least : (j : ℕ) → beyond j s.numbers ≤ beyond j (state_behind p ts gaps stages orders s bit).numbers
        least j = acts-least p ts gaps stages (order_now p ts gaps stages orders s) bit s j

        sound : IsSound ts stages (state_behind p ts gaps stages orders s bit).numbers
        sound = acts-sound p ts gaps stages bit (order_now p ts gaps stages orders s) s all f.sound

        cycle : (state_behind p ts gaps stages orders s bit).cycle ≡ suc s.cycle
        cycle = ap suc (acts-cycle p ts gaps stages (order_now p ts gaps stages orders s) bit s)

        progress : Progress s (state_behind p ts gaps stages orders s bit) bit
        progress left high = by_able (finds s f.sound left)
          where
            by_able : FindsAble s ⊎ ((s.cycle < due_at p ts gaps stages s) × (beyond 0 s.numbers < length ts)) →
                (moves s < moves (state_behind p ts gaps stages orders s bit)) ⊎ ((s.cycle < due_at p ts gaps stages s) × (beyond 0 s.numbers < length ts))
            by_able (inr early) = inr early
            by_able (inl able) =
                let grown : beyond able.0 s.numbers < beyond able.0 (acts_of p ts gaps stages (order_now p ts gaps stages orders s) true s).numbers =
                able-acts p ts gaps stages able.0 (order_now p ts gaps stages orders s) s (omega (arith, is.once able.0 (omega (arith, able.1.0)))) all f.sound wide able.1.1 in
                inl (moves-more (suc (length stages)) able.0 s.numbers (state_behind p ts gaps stages orders s bit).numbers least (omega (arith, able.1.0))
                (subst (λ (b : Bool). beyond able.0 s.numbers < beyond able.0 (acts_of p ts gaps stages (order_now p ts gaps stages orders s) b s).numbers) (sym high) grown))

        by_source : IsKept p ts gaps stages s (acts_of p ts gaps stages (order_now p ts gaps stages orders s) bit s) ⊎ IsSent p ts gaps stages s (acts_of p ts gaps stages (order_now p ts gaps stages orders s) bit s) →
            Paced (state_behind p ts gaps stages orders s bit) (ones + ones_in (bit ∷ []))
        by_source (inl kept) = paced-kept s (state_behind p ts gaps stages orders s bit) bit ones f least sound cycle progress (record { sent = kept.sent; start = kept.start })
        by_source (inr sent) = paced-sent s (state_behind p ts gaps stages orders s bit) bit ones f least sound cycle progress (record { sent = sent.sent; start = sent.start; due = sent.due; some = sent.some })

    paced-all : (s : ChainState) (bits : List Bool) (ones : ℕ) → Paced s ones → Paced (state_from p ts gaps stages orders s bits) (ones + ones_in bits)
    paced-all s [] ones f = let e : ones ≡ ones + 0 = omega arith in subst (Paced s) e f
    paced-all s (bit ∷ bits) ones f =
        let e : (ones + ones_in (bit ∷ [])) + ones_in bits ≡ ones + ones_in (bit ∷ bits) = omega (arith, split bit) in
        subst (Paced (state_from p ts gaps stages orders (state_behind p ts gaps stages orders s bit) bits)) e
        (paced-all (state_behind p ts gaps stages orders s bit) bits (ones + ones_in (bit ∷ [])) (paced-more s bit ones f))
      where
        split : (b : Bool) → ones_in (b ∷ bits) ≡ ones_in (b ∷ []) + ones_in bits
        split true = omega arith
        split false = omega arith

    paced-first : Paced (first_state ts) 0
    paced-first = record {
      sound = first-sound ts stages;
      started = omega arith;
      paced = λ left. omega arith;
      over = λ all left. omega arith;
    }

pub sinks_finish : SinksFinish
sinks_finish p ts gaps stages orders ready are wide enough = by_left (cases_lt (beyond (length stages) (state_after p ts gaps stages orders ready).numbers) (length ts))
  where
    f : Paced p ts gaps stages (state_after p ts gaps stages orders ready) (0 + ones_in ready)
    f = paced-all p ts gaps stages orders are wide (first_state ts) ready 0 (paced-first p ts gaps stages orders are wide)

    by_sent : beyond (length stages) (state_after p ts gaps stages orders ready).numbers < length ts →
        (beyond 0 (state_after p ts gaps stages orders ready).numbers < length ts) ⊎ (length ts ≤ beyond 0 (state_after p ts gaps stages orders ready).numbers) → ⊥
    by_sent left (inl less) =
        let all : moves_upto (suc (length stages)) (state_after p ts gaps stages orders ready).numbers < suc (length stages) * length ts =
        subst (λ (n : ℕ). moves_upto (suc (length stages)) (state_after p ts gaps stages orders ready).numbers < suc (length stages) * n) f.sound.many (moves-fewer (length stages) (state_after p ts gaps stages orders ready).numbers (omega (arith, left, f.sound.many))) in
        let rest : gaps_below p ts gaps (suc (beyond 0 (state_after p ts gaps stages orders ready).numbers)) ≤ gaps_below p ts gaps (length ts) = gaps-upto p ts gaps stages (suc (beyond 0 (state_after p ts gaps stages orders ready).numbers)) (length ts) less in
        omega (arith, f.paced less, all, rest, enough)
    by_sent left (inr over) =
        let all : moves_upto (suc (length stages)) (state_after p ts gaps stages orders ready).numbers < suc (length stages) * length ts =
        subst (λ (n : ℕ). moves_upto (suc (length stages)) (state_after p ts gaps stages orders ready).numbers < suc (length stages) * n) f.sound.many (moves-fewer (length stages) (state_after p ts gaps stages orders ready).numbers (omega (arith, left, f.sound.many))) in
        omega (arith, f.over over left, all, enough)

    by_left : (beyond (length stages) (state_after p ts gaps stages orders ready).numbers < length ts) ⊎ (length ts ≤ beyond (length stages) (state_after p ts gaps stages orders ready).numbers) →
        length ts - beyond (length stages) (state_after p ts gaps stages orders ready).numbers ≡ 0
    by_left (inr over) = omega (arith, over)
    by_left (inl left) = absurd (by_sent left (cases_lt (beyond 0 (state_after p ts gaps stages orders ready).numbers) (length ts)))
