-- What both sides of a reshaping run keep, cycle by cycle.
use Rattle.std.proofs.Common.{◌≡◌, ◌∙◌, ℕ, ◌+◌, ◌-◌, ◌≤◌, Bool, true, false, not, ◌==◌, if◌then◌else◌, List, [], ◌∷◌, ◌++◌, length, map, take, drop, Option, None, Some, refl, sym, ap, subst, append_assoc, arith}
use Rattle.std.proofs.lemmas.Bool.Decides.{nat_tests}
use Rattle.std.proofs.lemmas.Grind.{flat_map-append}
use Rattle.std.proofs.lemmas.List.{append-nil, drop-append-le, drop_all, length-append, length-drop, map-append, take-append-drop}
use Rattle.physical_stream.specs.Params.{Parameters}
use Rattle.physical_stream.specs.Counts.{transfers_of}
use Rattle.physical_stream.specs.Cycles.{Cycle, done_in, done_of, items_done, refused_in, waiting_of}
use Rattle.physical_stream.specs.Items.{items_of, items_of_all}
use Rattle.physical_stream.specs.declared.item.Item.{Item}
use Rattle.physical_stream.specs.declared.transfer.Transfer.{Transfer}
use Rattle.handshake.specs.Run.{next_cycle, run_of, undone}
use Rattle.handshake.proofs.RunLemmas.{done_of-more, run_on-more, waiting_of-more}
use Rattle.scheduler.specs.Laws.{AreItems}
use Rattle.scheduler.specs.Planned.{Planned, first_user, first_wish}
use Rattle.scheduler.proofs.LoadLemmas.{AreItems-drop, carries}
use Rattle.scheduler.proofs.PlanLemmas.{planned_some}
use Rattle.steady_run.specs.Steady.{IsSteady, next_of}
use Rattle.steady_run.proofs.FrontLemmas.{run-front, steady_is_front}
use Rattle.steady_run.proofs.GrowLemmas.{steady-next, steady-none}
use Rattle.reshape.specs.Reshaping.{Sides, behind_front, buffer_of, far_cycle, front_of, has_ended, is_due, near_cycles, next_sides, offered, sides_of, sides_on}
use Rattle.reshape_laws.specs.Laws.{CanBeReshaped, far_plan}
use Rattle.reshape_laws.proofs.DueLemmas.{due_fronts_stay, items-apart}
use Rattle.reshape_laws.proofs.SuffixLemmas.{items-behind, next-front, planned-from}

-- what each cycle more keeps holds for the run
pub sides-keep : (from to : Parameters) (ts : List Transfer) (gaps : List ℕ) (Kept : Sides → Type 0) → ((sides : Sides) (bit : Bool) → Kept sides → Kept (next_sides from to ts gaps sides bit)) →
    (sides : Sides) (ready : List Bool) → Kept sides → Kept (sides_on from to ts gaps sides ready)
sides-keep from to ts gaps Kept step sides [] kept = kept
sides-keep from to ts gaps Kept step sides (bit ∷ ready) kept = sides-keep from to ts gaps Kept step (next_sides from to ts gaps sides bit) ready (step sides bit kept)

-- the far cycles have the far ready bits
pub far-bits : (from to : Parameters) (ts : List Transfer) (gaps : List ℕ) (sides : Sides) (ready : List Bool) →
    map (λ (c : Cycle). c.ready) (sides_on from to ts gaps sides ready).far ≡ map (λ (c : Cycle). c.ready) sides.far ++ ready
far-bits from to ts gaps sides [] = sym (append-nil (map (λ (c : Cycle). c.ready) sides.far))
far-bits from to ts gaps sides (bit ∷ ready) =
    far-bits from to ts gaps (next_sides from to ts gaps sides bit) ready
    ∙ ap (λ (l : List Bool). l ++ ready) (map-append (λ (c : Cycle). c.ready) sides.far (far_cycle from to ts gaps sides bit ∷ []))
    ∙ append_assoc (map (λ (c : Cycle). c.ready) sides.far) (bit ∷ []) ready

-- ---- one cycle more

module _ (p : Parameters) (cycles : List Cycle) where
  pub done-same : (now : Cycle) → done_in now ≡ [] → done_of (cycles ++ now ∷ []) ≡ done_of cycles
  done-same now none = done_of-more cycles now ∙ ap (λ (l : List Transfer). done_of cycles ++ l) none ∙ append-nil (done_of cycles)

  pub done-one : (now : Cycle) (t : Transfer) → done_in now ≡ t ∷ [] → done_of (cycles ++ now ∷ []) ≡ done_of cycles ++ t ∷ []
  done-one now t one = done_of-more cycles now ∙ ap (λ (l : List Transfer). done_of cycles ++ l) one

  items-more : (now : Cycle) → length (items_done p (cycles ++ now ∷ [])) ≡ length (items_done p cycles) + length (items_of_all p (done_in now))
  items-more now =
      ap length (ap (items_of_all p) (done_of-more cycles now) ∙ flat_map-append (items_of p) (done_of cycles) (done_in now))
      ∙ length-append (items_done p cycles) (items_of_all p (done_in now))

-- ---- the near side

module _ (from : Parameters) (ts : List Transfer) (gaps : List ℕ) (near : List Bool) where
  near-low : done_of (run_of from ts gaps (near ++ false ∷ [])) ≡ done_of (run_of from ts gaps near)
  near-low = ap done_of (run_on-more from ts gaps [] near false) ∙ done-same from (run_of from ts gaps near) (next_cycle from ts gaps (run_of from ts gaps near) false) refl

  near-grows : (bit : Bool) → length (items_done from (run_of from ts gaps near)) ≤ length (items_done from (run_of from ts gaps (near ++ bit ∷ [])))
  near-grows bit =
      let more = items-more from (run_of from ts gaps near) (next_cycle from ts gaps (run_of from ts gaps near) bit) in
      let is : length (items_done from (run_of from ts gaps (near ++ bit ∷ []))) ≡ length (items_done from (run_of from ts gaps near ++ next_cycle from ts gaps (run_of from ts gaps near) bit ∷ [])) =
      ap (λ (l : List Cycle). length (items_done from l)) (run_on-more from ts gaps [] near bit) in
      omega (arith, more, is)

  -- the items that did not go in yet
  abbrev pub to_come : List Item
  to_come = items_of_all from (drop (transfers_of (run_of from ts gaps near)) ts)

  pub near-splits : items_done from (run_of from ts gaps near) ++ to_come ≡ items_of_all from ts
  near-splits =
      ap (λ (l : List Transfer). items_of_all from l ++ to_come) (run-front from ts gaps near)
      ∙ sym (flat_map-append (items_of from) (take (transfers_of (run_of from ts gaps near)) ts) (drop (transfers_of (run_of from ts gaps near)) ts))
      ∙ ap (items_of_all from) (take-append-drop (transfers_of (run_of from ts gaps near)) ts)

  pub none-to-come : (undone from ts gaps near == 0) ≡ true → to_come ≡ []
  none-to-come over = ap (items_of_all from) (drop_all (transfers_of (run_of from ts gaps near)) ts (let left : undone from ts gaps near ≡ 0 = grind (arith, nat_tests) in omega (arith, left)))

-- ---- both sides

module _ (from to : Parameters) (ts : List Transfer) (gaps : List ℕ) where
  -- the far side is steady, its items went in, and what waits is offered again
  pub record Goes (sides : Sides) : Type 0 where
    pub steady : IsSteady (far_plan from to ts) sides.far
    pub within : length (items_done to sides.far) ≤ length (items_done from (near_cycles from to ts gaps sides))
    pub waits : (t : Transfer) → waiting_of sides.far ≡ Some t → offered to (has_ended from to ts gaps sides) (buffer_of from to ts gaps sides) ≡ Some t

  module _ (reshaped : CanBeReshaped from to ts) where
    pub planned : Planned to [] [] (items_of_all from ts) (far_plan from to ts)
    planned = planned_some (length (items_of_all from ts) + 0) to [] [] (items_of_all from ts) reshaped.can.lanes tt (omega arith)

    module _ (sides : Sides) (goes : Goes sides) where
      abbrev pub ended : Bool
      ended = has_ended from to ts gaps sides

      abbrev pub buffer : List Item
      buffer = buffer_of from to ts gaps sides

      abbrev pub coming : List Item
      coming = to_come from ts gaps sides.near

      -- the items that did not go out are those in the buffer and those that did not go in yet
      pub left-is : items_of_all to (drop (transfers_of sides.far) (far_plan from to ts)) ≡ buffer ++ coming
      left-is =
          sym (items-behind to (items_of_all from ts) (far_plan from to ts) (transfers_of sides.far) reshaped.can.lanes reshaped.can.fit planned)
          ∙ ap (λ (l : List Transfer). drop (length (items_of_all to l)) (items_of_all from ts)) (sym (steady_is_front (far_plan from to ts) sides.far goes.steady))
          ∙ ap (drop (length (items_done to sides.far))) (sym (near-splits from ts gaps sides.near))
          ∙ drop-append-le (length (items_done to sides.far)) (items_done from (near_cycles from to ts gaps sides)) coming goes.within

      pub left-planned : Planned to [] [] (buffer ++ coming) (drop (transfers_of sides.far) (far_plan from to ts))
      left-planned =
          subst (λ (l : List Item). Planned to [] [] l (drop (transfers_of sides.far) (far_plan from to ts))) left-is
          (planned-from to (items_of_all from ts) (far_plan from to ts) (transfers_of sides.far) reshaped.can.lanes reshaped.can.fit planned)

      left-fit : AreItems to (buffer ++ coming)
      left-fit =
          subst (AreItems to)
          (ap (drop (length (items_done to sides.far))) (sym (near-splits from ts gaps sides.near))
          ∙ drop-append-le (length (items_done to sides.far)) (items_done from (near_cycles from to ts gaps sides)) coming goes.within)
          (AreItems-drop to (length (items_done to sides.far)) (items_of_all from ts) reshaped.can.fit)

      -- a due buffer's front is the next transfer
      due-next : is_due to ended buffer ≡ true → next_of (far_plan from to ts) sides.far ≡ Some (front_of to buffer)
      due-next due =
          let same = due_fronts_stay to ended buffer coming reshaped.can.lanes left-fit (none-to-come from ts gaps sides.near) due in
          by_items (buffer ++ coming) refl ∙ ap Some same.front
        where
          some-due : (items : List Item) → is_due to ended items ≡ true → items ++ coming ≡ [] → ⊥
          some-due [] d none = cc
          some-due (item ∷ more) d none = cc

          by_items : (items : List Item) → buffer ++ coming ≡ items → next_of (far_plan from to ts) sides.far ≡ Some (front_of to (buffer ++ coming))
          by_items [] is = absurd (some-due buffer due is)
          by_items (item ∷ more) is =
              subst (λ (l : List Item). next_of (far_plan from to ts) sides.far ≡ Some (front_of to l)) (sym is)
              (next-front to item more (far_plan from to ts) (transfers_of sides.far) (subst (λ (l : List Item). Planned to [] [] l (drop (transfers_of sides.far) (far_plan from to ts))) is left-planned))

      -- its items are in the buffer
      front-fits : length (items_done to sides.far) + length (items_of to (front_of to buffer)) ≤ length (items_done from (near_cycles from to ts gaps sides))
      front-fits =
          let whole = ap length (carries to (first_wish to []) (first_user to []) buffer reshaped.can.lanes (items-apart to buffer coming left-fit).0) in
          let sum = length-append (items_of to (front_of to buffer)) (behind_front to buffer) in
          let size = length-drop (length (items_done to sides.far)) (items_done from (near_cycles from to ts gaps sides)) in
          omega (arith, whole, sum, size, goes.within)

      abbrev pub after : Bool → Bool → Option Transfer → Sides
      after near bit shown = record { near = sides.near ++ near ∷ []; far = sides.far ++ record { ready = bit; shown = shown } ∷ [] }

      -- nothing is shown, and the near side may do a transfer
      goes-open : (bit : Bool) → is_due to ended buffer ≡ false → Goes (after true bit None)
      goes-open bit open_so = record {
        steady = steady-next (far_plan from to ts) sides.far now goes.steady (λ t shows. cc) again;
        within = omega (arith, goes.within, near-grows from ts gaps sides.near true, ap (λ (l : List Transfer). length (items_of_all to l)) (done-same to sides.far now (none-done bit)));
        waits = λ t waiting. let e : ◌≡◌ {A = Option Transfer} None (Some t) = sym (waiting_of-more sides.far now ∙ none-refused bit) ∙ waiting in cc;
      }
        where
          now : Cycle
          now = record { ready = bit; shown = None }

          none-done : (b : Bool) → done_in (record { ready = b; shown = None }) ≡ []
          none-done true = refl
          none-done false = refl

          none-refused : (b : Bool) → refused_in (record { ready = b; shown = None }) ≡ None
          none-refused true = refl
          none-refused false = refl

          again : (t : Transfer) → waiting_of sides.far ≡ Some t → None ≡ Some t
          again t waiting = ap (λ (b : Bool). if b then Some (front_of to buffer) else None) (sym open_so) ∙ goes.waits t waiting

      -- the front is shown, and the near side does nothing
      module _ (due : is_due to ended buffer ≡ true) where
        again-due : (t : Transfer) → waiting_of sides.far ≡ Some t → Some (front_of to buffer) ≡ Some t
        again-due t waiting = ap (λ (b : Bool). if b then Some (front_of to buffer) else None) (sym due) ∙ goes.waits t waiting

        shows-due : (bit : Bool) → (t : Transfer) → Some (front_of to buffer) ≡ Some t → next_of (far_plan from to ts) sides.far ≡ Some t
        shows-due bit t is = due-next due ∙ is

        same-in : length (items_done from (run_of from ts gaps (sides.near ++ false ∷ []))) ≡ length (items_done from (near_cycles from to ts gaps sides))
        same-in = ap (λ (l : List Transfer). length (items_of_all from l)) (near-low from ts gaps sides.near)

        goes-taken : Goes (after false true (Some (front_of to buffer)))
        goes-taken = record {
          steady = steady-next (far_plan from to ts) sides.far now goes.steady (shows-due true) again-due;
          within = omega (arith, front-fits, same-in, items-more to sides.far now, ap length (append-nil (items_of to (front_of to buffer))));
          waits = λ t waiting. let e : ◌≡◌ {A = Option Transfer} None (Some t) = sym (waiting_of-more sides.far now) ∙ waiting in cc;
        }
          where
            now : Cycle
            now = record { ready = true; shown = Some (front_of to buffer) }

        goes-held : Goes (after false false (Some (front_of to buffer)))
        goes-held = record {
          steady = steady-next (far_plan from to ts) sides.far now goes.steady (shows-due false) again-due;
          within = omega (arith, goes.within, same-in, ap (λ (l : List Transfer). length (items_of_all to l)) same-out);
          waits = λ t waiting. offers ∙ sym (waiting_of-more sides.far now) ∙ waiting;
        }
          where
            now : Cycle
            now = record { ready = false; shown = Some (front_of to buffer) }

            same-out : done_of (sides.far ++ now ∷ []) ≡ done_of sides.far
            same-out = done-same to sides.far now refl

            same-ended : has_ended from to ts gaps (after false false (Some (front_of to buffer))) ≡ ended
            same-ended = ap (λ (l : List Transfer). length ts - length l == 0) (near-low from ts gaps sides.near)

            same-buffer : buffer_of from to ts gaps (after false false (Some (front_of to buffer))) ≡ buffer
            same-buffer =
                ap (λ (l : List Transfer). drop (length (items_of_all to l)) (items_done from (run_of from ts gaps (sides.near ++ false ∷ [])))) same-out
                ∙ ap (λ (l : List Transfer). drop (length (items_done to sides.far)) (items_of_all from l)) (near-low from ts gaps sides.near)

            offers : offered to (has_ended from to ts gaps (after false false (Some (front_of to buffer)))) (buffer_of from to ts gaps (after false false (Some (front_of to buffer)))) ≡ Some (front_of to buffer)
            offers =
                ap (λ (b : Bool). offered to b (buffer_of from to ts gaps (after false false (Some (front_of to buffer))))) same-ended
                ∙ ap (offered to ended) same-buffer ∙ ap (λ (b : Bool). if b then Some (front_of to buffer) else None) due

      pub goes-next : (bit : Bool) → Goes (next_sides from to ts gaps sides bit)
      goes-next bit = by_due (is_due to ended buffer) bit refl
        where
          by_due : (due : Bool) (b : Bool) → is_due to ended buffer ≡ due → Goes (after (not due) b (if due then Some (front_of to buffer) else None))
          by_due false b is = goes-open b is
          by_due true true is = goes-taken is
          by_due true false is = goes-held is

    pub goes-run : (ready : List Bool) → Goes (sides_of from to ts gaps ready)
    goes-run ready =
        sides-keep from to ts gaps Goes (λ sides bit goes. goes-next sides goes bit) (record { near = []; far = [] }) ready
        (record { steady = steady-none (far_plan from to ts); within = omega arith; waits = λ t waiting. cc })
