-- How many ready bits a run needs to finish.
use Rattle.std.proofs.Common.{◌≡◌, ◌∙◌, ℕ, zero, suc, ◌+◌, ◌-◌, ◌<◌, ◌≤◌, ◌⊎◌, inl, inr, Bool, true, false, List, [], ◌∷◌, ◌++◌, length, map, min, slice_get, Option, None, Some, refl, sym, ap, subst, arith}
use Rattle.std.proofs.lemmas.Bool.{cases_lt}
use Rattle.std.proofs.lemmas.List.{append-nil, length-append, map-append}
use Rattle.physical_stream.specs.Params.{Parameters}
use Rattle.physical_stream.specs.Cycles.{Cycle, done_of}
use Rattle.physical_stream.specs.Counts.{transfers_of}
use Rattle.physical_stream.specs.declared.transfer.Transfer.{Transfer}
use Rattle.handshake.specs.Laws.{RunsFinish, gaps_below, ones_in}
use Rattle.handshake.specs.Run.{gap_of, idle_of, next_cycle, run_of, shown_after, undone}
use Rattle.handshake.proofs.OneRunLemmas.{run_is}
use Rattle.handshake.proofs.RunLemmas.{ShowsAs, done_of-more, idle_over-more, past, run_on-keeps, shows}

ones-more : (bits : List Bool) (bit : Bool) → ones_in (bits ++ bit ∷ []) ≡ ones_in bits + ones_in (bit ∷ [])
ones-more [] bit = let none : ones_in (bit ∷ []) ≡ 0 + ones_in (bit ∷ []) = omega arith in none
ones-more (true ∷ bits) bit = omega (arith, ones-more bits bit)
ones-more (false ∷ bits) bit = ones-more bits bit

-- the ready bits of cycles that are 1
abbrev ones_of : List Cycle → ℕ
ones_of cycles = ones_in (map (λ (c : Cycle). c.ready) cycles)

ones_of-more : (cycles : List Cycle) (now : Cycle) → ones_of (cycles ++ now ∷ []) ≡ ones_of cycles + ones_in (now.ready ∷ [])
ones_of-more cycles now = ap ones_in (map-append (λ (c : Cycle). c.ready) cycles (now ∷ [])) ∙ ones-more (map (λ (c : Cycle). c.ready) cycles) now.ready

one-most : (bit : Bool) → ones_in (bit ∷ []) ≤ 1
one-most true = omega arith
one-most false = omega arith

-- how many transfers are done after a cycle more
count-none : (cycles : List Cycle) (bit : Bool) → transfers_of (cycles ++ record { ready = bit; shown = None } ∷ []) ≡ transfers_of cycles
count-none cycles true = ap length (done_of-more cycles (record { ready = true; shown = None }) ∙ append-nil (done_of cycles))
count-none cycles false = ap length (done_of-more cycles (record { ready = false; shown = None }) ∙ append-nil (done_of cycles))

count-offered : (cycles : List Cycle) (t : Transfer) → transfers_of (cycles ++ record { ready = false; shown = Some t } ∷ []) ≡ transfers_of cycles
count-offered cycles t = ap length (done_of-more cycles (record { ready = false; shown = Some t }) ∙ append-nil (done_of cycles))

count-taken : (cycles : List Cycle) (t : Transfer) → transfers_of (cycles ++ record { ready = true; shown = Some t } ∷ []) ≡ suc (transfers_of cycles)
count-taken cycles t = ap length (done_of-more cycles (record { ready = true; shown = Some t })) ∙ omega (arith, length-append (done_of cycles) (t ∷ []))

idle-none : (cycles : List Cycle) (bit : Bool) → idle_of (cycles ++ record { ready = bit; shown = None } ∷ []) ≡ suc (idle_of cycles)
idle-none cycles true = idle_over-more 0 cycles (record { ready = true; shown = None })
idle-none cycles false = idle_over-more 0 cycles (record { ready = false; shown = None })

module _ (p : Parameters) (ts : List Transfer) (gaps : List ℕ) where
  gaps-rise : (t more : ℕ) → gaps_below p ts gaps t ≤ gaps_below p ts gaps (more + t)
  gaps-rise t zero = omega (arith, ap (gaps_below p ts gaps) (let e : 0 + t ≡ t = omega arith in e))
  gaps-rise t (suc more) =
      let one : gaps_below p ts gaps (suc more + t) ≡ gaps_below p ts gaps (more + t) + gap_of p ts gaps (more + t) = ap (gaps_below p ts gaps) (let e : suc more + t ≡ suc (more + t) = omega arith in e) in
      omega (arith, gaps-rise t more, one)

  gaps-upto : (t u : ℕ) → t ≤ u → gaps_below p ts gaps t ≤ gaps_below p ts gaps u
  gaps-upto t u le = let e : (u - t) + t ≡ u = omega (arith, le) in subst (λ (n : ℕ). gaps_below p ts gaps t ≤ gaps_below p ts gaps n) e (gaps-rise t (u - t))

  -- while transfers are left, each ready bit that was 1 did a transfer or stood in a gap
  record Paced (cycles : List Cycle) : Type 0 where
    pub paced : transfers_of cycles < length ts → ones_of cycles ≤ transfers_of cycles + gaps_below p ts gaps (transfers_of cycles) + min (idle_of cycles) (gap_of p ts gaps (transfers_of cycles))

  module _ (before : List Cycle) (bit : Bool) (so : Paced before) where
    -- one cycle more that does nothing, with this many cycles in which nothing was done
    same-count : (now : Cycle) → now.ready ≡ bit → transfers_of (before ++ now ∷ []) ≡ transfers_of before → idle_of (before ++ now ∷ []) ≡ suc (idle_of before) →
        ((idle_of before < gap_of p ts gaps (transfers_of before)) ⊎ (ones_in (bit ∷ []) ≡ 0)) → Paced (before ++ now ∷ [])
    same-count now ready count idle (inl less) = record {
      paced = λ left.
          let gap : gap_of p ts gaps (transfers_of (before ++ now ∷ [])) ≡ gap_of p ts gaps (transfers_of before) = ap (gap_of p ts gaps) count in
          let below : gaps_below p ts gaps (transfers_of (before ++ now ∷ [])) ≡ gaps_below p ts gaps (transfers_of before) = ap (gaps_below p ts gaps) count in
          let ones : ones_of (before ++ now ∷ []) ≡ ones_of before + ones_in (now.ready ∷ []) = ones_of-more before now in
          let one = one-most now.ready in
          let old = so.paced (omega (arith, left, count)) in
          omega (arith, gap, below, ones, one, old, count, idle, less);
    }
    same-count now ready count idle (inr none) = record {
      paced = λ left.
          let gap : gap_of p ts gaps (transfers_of (before ++ now ∷ [])) ≡ gap_of p ts gaps (transfers_of before) = ap (gap_of p ts gaps) count in
          let below : gaps_below p ts gaps (transfers_of (before ++ now ∷ [])) ≡ gaps_below p ts gaps (transfers_of before) = ap (gaps_below p ts gaps) count in
          let ones : ones_of (before ++ now ∷ []) ≡ ones_of before + ones_in (now.ready ∷ []) = ones_of-more before now in
          let one : ones_in (now.ready ∷ []) ≡ 0 = ap (λ (b : Bool). ones_in (b ∷ [])) ready ∙ none in
          let old = so.paced (omega (arith, left, count)) in
          omega (arith, gap, below, ones, one, old, count, idle);
    }

    paced-offered : (t : Transfer) → bit ≡ false → Paced (before ++ record { ready = bit; shown = Some t } ∷ [])
    paced-offered t low =
        subst (λ (b : Bool). Paced (before ++ record { ready = b; shown = Some t } ∷ [])) (sym low)
        (same-count (record { ready = false; shown = Some t }) (sym low) (count-offered before t) (idle_over-more 0 before (record { ready = false; shown = Some t })) (inr (ap (λ (b : Bool). ones_in (b ∷ [])) low)))

    paced-taken : (t : Transfer) → bit ≡ true → gap_of p ts gaps (transfers_of before) ≤ idle_of before → Paced (before ++ record { ready = bit; shown = Some t } ∷ [])
    paced-taken t high passed =
        subst (λ (b : Bool). Paced (before ++ record { ready = b; shown = Some t } ∷ [])) (sym high)
        (record {
          paced = λ left.
              let now : Cycle = record { ready = true; shown = Some t } in
              let count = count-taken before t in
              let below : gaps_below p ts gaps (transfers_of (before ++ record { ready = true; shown = Some t } ∷ [])) ≡ gaps_below p ts gaps (transfers_of before) + gap_of p ts gaps (transfers_of before) = ap (gaps_below p ts gaps) count in
              let ones = ones_of-more before (record { ready = true; shown = Some t }) in
              let old = so.paced (omega (arith, left, count)) in
              omega (arith, below, ones, old, count, passed);
        })

    paced-nothing : (idle_of before < gap_of p ts gaps (transfers_of before)) ⊎ (length ts ≤ transfers_of before) → Paced (before ++ record { ready = bit; shown = None } ∷ [])
    paced-nothing (inl less) = same-count (record { ready = bit; shown = None }) refl (count-none before bit) (idle-none before bit) (inl less)
    paced-nothing (inr over) = record { paced = λ left. let count = count-none before bit in absurd (omega (arith, left, count, over)) }

    paced-shown : (shown : Option Transfer) → ShowsAs p ts gaps before shown → Paced (before ++ record { ready = bit; shown = shown } ∷ [])
    paced-shown None is = paced-nothing (by_why is.why)
      where
        by_why : (idle_of before < gap_of p ts gaps (transfers_of before)) ⊎ (slice_get ts (transfers_of before) ≡ None) → (idle_of before < gap_of p ts gaps (transfers_of before)) ⊎ (length ts ≤ transfers_of before)
        by_why (inl less) = inl less
        by_why (inr none) = inr (past ts (transfers_of before) none)
    paced-shown (Some t) is = by_bit bit refl
      where
        by_bit : (b : Bool) → bit ≡ b → Paced (before ++ record { ready = bit; shown = Some t } ∷ [])
        by_bit true high = paced-taken t high is.passed
        by_bit false low = paced-offered t low

  paced-next : (before : List Cycle) (bit : Bool) → Paced before → Paced (before ++ next_cycle p ts gaps before bit ∷ [])
  paced-next before bit so = paced-shown before bit so (shown_after p ts gaps before) (shows p ts gaps before)

  paced-run : (ready : List Bool) → Paced (run_of p ts gaps ready)
  paced-run ready = run_on-keeps p ts gaps Paced paced-next [] ready (record { paced = λ left. omega arith })

pub runs_finish : RunsFinish
runs_finish p ts gaps ready enough = by_left (cases_lt (transfers_of (run_of p ts gaps ready)) (length ts))
  where
    by_left : (transfers_of (run_of p ts gaps ready) < length ts) ⊎ (length ts ≤ transfers_of (run_of p ts gaps ready)) → undone p ts gaps ready ≡ 0
    by_left (inr over) = omega (arith, over)
    by_left (inl left) =
        let so = (paced-run p ts gaps ready).paced left in
        let ones : ones_of (run_of p ts gaps ready) ≡ ones_in ready = ap ones_in (run_is p ts gaps ready).bits in
        let more : gaps_below p ts gaps (suc (transfers_of (run_of p ts gaps ready))) ≤ gaps_below p ts gaps (length ts) = gaps-upto p ts gaps (suc (transfers_of (run_of p ts gaps ready))) (length ts) (omega (arith, left)) in
        absurd (omega (arith, so, ones, more, enough, left))
