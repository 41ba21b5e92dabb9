-- The far side of a stream: its items, its plan and its run.
use Rattle.std.proofs.Common.{◌≡◌, ◌∙◌, ℕ, zero, suc, ◌+◌, ◌-◌, ◌<◌, ◌≤◌, ◌⊎◌, inl, inr, Bool, true, false, ◌&&◌, nat_lt, List, [], ◌∷◌, ◌++◌, length, take, get_or, refl, sym, ap, subst, arith, slice_get, Some}
use Rattle.std.proofs.lemmas.Bool.Decides.{nat_tests}
use Rattle.std.proofs.lemmas.List.{append-nil, append_assoc, length-map, take_all}
use Rattle.std.specs.List.{All}
use Rattle.tydi_base.specs.Level.{LevelNumbers, number_of}
use Rattle.physical_stream.specs.Params.{Parameters}
use Rattle.physical_stream.specs.Counts.{transfers_of}
use Rattle.physical_stream.specs.Cycles.{Cycle}
use Rattle.physical_stream.specs.Items.{items_of_all}
use Rattle.physical_stream.specs.declared.item.Item.{Item}
use Rattle.physical_stream.specs.declared.item.Item.TheVariants.{Elem, Close}
use Rattle.logical_value.specs.Tree.{Tree}
use Rattle.type_split.specs.Streams.{PlainSplit}
use Rattle.type_split.specs.declared.split.Phys.{Phys}
use Rattle.plan_text.specs.declared.plan.StreamPlan.{StreamPlan}
use Rattle.handshake.specs.Rows.{StreamRun, row_at, rows_from}
use Rattle.handshake.specs.Run.{run_of}
use Rattle.handshake.proofs.RunLemmas.{run_on-more}
use Rattle.scheduler.specs.Laws.{AreItems, CanBePlanned}
use Rattle.scheduler.specs.Planned.{Planned, plan_of}
use Rattle.scheduler.proofs.LawLemmas.{planned_are_shown, planned_items}
use Rattle.scheduler.proofs.PlanLemmas.{planned_some}
use Rattle.cycle_trace.specs.Trace.{AreShown, owed}
use Rattle.physical_stream.specs.Signals.{Shows}
use Rattle.physical_stream.specs.declared.head.Head.{Head}
use Rattle.trace_pieces.specs.Laws.{AreRunsOf}
use Rattle.trace_pieces.proofs.RunLemmas.{runs-shown}
use Rattle.steady_run.specs.Laws.{IsGappedRun}
use Rattle.steady_run.proofs.GapLemmas.{steady_is_run}
use Rattle.steady_run.proofs.PauseLemmas.{high_streams_pause}
use Rattle.reshape.specs.Reshaping.{far_of, undone_far}
use Rattle.reshape_laws.specs.Laws.{CanBeReshaped, IsReshapedWell, far_plan}
use Rattle.reshape_laws.proofs.LegalLemmas.{reshaping_is_legal}
use Rattle.port_drive.specs.Drives.{is_multiple, items_on, left_of, planned_run}
use Rattle.port_drive.proofs.DriveLemmas.{IsItemsOn, PlanFits, multiple-so}
use Rattle.port_reshape.specs.Far.{IsShape, far_params, is_low}

-- the items of a stream are items of its far side
pub items-far : (lanes : ℕ) (level : LevelNumbers) (p : Parameters) (items : List Item) → AreItems p items → AreItems (far_params lanes level p) items
items-far lanes level p [] fit = tt
items-far lanes level p (Elem word ∷ more) fit = (fit.0, items-far lanes level p more fit.1)
items-far lanes level p (Close dim ∷ more) fit = (fit.0, items-far lanes level p more fit.1)

-- ---- the rows of one stream

get-take : {A : Type 0} (xs : List A) (n : ℕ) (d : A) → n < length xs → take (suc n) xs ≡ take n xs ++ get_or xs n d ∷ []
get-take [] n d less = absurd (omega (arith, less))
get-take (x ∷ xs) zero d less = refl
get-take (x ∷ xs) (suc n) d less = ap (λ (l : List _). x ∷ l) (get-take xs n d (omega (arith, less)))

rows-behind : (s : StreamRun) (number many : ℕ) → number + many ≡ length s.ready →
    run_of s.params s.transfers s.gaps (take number s.ready) ++ rows_from (s ∷ []) number many ≡ run_of s.params s.transfers s.gaps s.ready
rows-behind s number zero all =
    append-nil (run_of s.params s.transfers s.gaps (take number s.ready))
    ∙ ap (run_of s.params s.transfers s.gaps) (take_all number s.ready (omega (arith, all)))
rows-behind s number (suc many) all =
    let next : run_of s.params s.transfers s.gaps (take (suc number) s.ready) ≡ run_of s.params s.transfers s.gaps (take number s.ready) ++ row_at number s ∷ [] =
    ap (run_of s.params s.transfers s.gaps) (get-take s.ready number false (omega (arith, all)))
    ∙ run_on-more s.params s.transfers s.gaps [] (take number s.ready) (get_or s.ready number false) in
    sym (append_assoc (run_of s.params s.transfers s.gaps (take number s.ready)) (row_at number s ∷ []) (rows_from (s ∷ []) (suc number) many))
    ∙ ap (λ (l : List Cycle). l ++ rows_from (s ∷ []) (suc number) many) (sym next)
    ∙ rows-behind s (suc number) many (omega (arith, all))

-- the rows of a port with one stream are its run
pub rows-one : (s : StreamRun) → rows_from (s ∷ []) 0 (length s.ready) ≡ run_of s.params s.transfers s.gaps s.ready
rows-one s = rows-behind s 0 (length s.ready) (omega arith)

-- ---- one stream

-- a level that is not low lets the far side pause anywhere
pub high-pauses : (dims : ℕ) (level : LevelNumbers) → is_low dims level ≡ false → (dims ≡ 0) ⊎ (3 ≤ number_of level)
high-pauses zero level high = inl refl
high-pauses (suc dims) level high = by_test (nat_lt (number_of level) 3) refl
  where
    by_test : (test : Bool) → nat_lt (number_of level) 3 ≡ test → (suc dims ≡ 0) ⊎ (3 ≤ number_of level)
    by_test true is = absurd (let some : nat_lt 0 (suc dims) ≡ true = grind (arith, nat_tests) in let e : true ≡ false = sym (ap (λ (b : Bool). b && nat_lt (number_of level) 3) some ∙ is) ∙ high in cc)
    by_test false is = inr (grind (arith, nat_tests))

module _ (split : PlainSplit) (value : List (List Tree)) (cycles : ℕ) (stream : Phys) (one : StreamPlan) (lanes : ℕ) (level : LevelNumbers) where
  abbrev pub items_here : List Item
  items_here = items_on split value 0 stream

  abbrev pub to_here : Parameters
  to_here = far_params lanes level stream.params

  abbrev pub source_here : StreamRun
  source_here = planned_run stream.params items_here one

  abbrev pub far_here : List Cycle
  far_here = far_of stream.params to_here source_here.transfers one.gaps one.ready

  module _ (some : 1 ≤ stream.params.lanes) (on : IsItemsOn split value 0 stream) (fits : PlanFits cycles stream.params one) (shape : IsShape lanes level) (high : is_low stream.params.dims level ≡ false) where
    planned-here : Planned stream.params one.wishes one.users items_here source_here.transfers
    planned-here = planned_some (length items_here + length one.wishes) stream.params one.wishes one.users items_here some fits.masks (omega arith)

    -- the transfers of the source carry the items
    pub source-items : items_of_all stream.params source_here.transfers ≡ items_here
    source-items = planned_items stream.params one.wishes one.users items_here source_here.transfers some on.are planned-here

    module _ (multiple : is_multiple to_here items_here ≡ true) where
      can-far : CanBePlanned to_here [] items_here
      can-far = record {
        lanes = shape.some_lane;
        fit = items-far lanes level stream.params items_here on.are;
        nested = on.whole.nested;
        whole = on.whole.whole;
        multiple = multiple-so to_here items_here shape.some_lane multiple;
        masks = tt;
      }

      pub can-reshape : CanBeReshaped stream.params to_here source_here.transfers
      can-reshape = record { can = subst (CanBePlanned to_here []) (sym source-items) can-far; pauses = high-pauses stream.params.dims level high }

      well : IsReshapedWell stream.params to_here source_here.transfers one.gaps one.ready
      well = reshaping_is_legal stream.params to_here source_here.transfers one.gaps one.ready can-reshape

      pub gapped : IsGappedRun to_here (far_plan stream.params to_here source_here.transfers) far_here
      gapped = steady_is_run to_here (far_plan stream.params to_here source_here.transfers) far_here (high_streams_pause to_here (high-pauses stream.params.dims level high)) well.steady

      -- the plan at the far side
      abbrev pub far_one : StreamPlan
      far_one = record { gaps = gapped.gaps; ready = one.ready; wishes = []; users = [] }

      abbrev pub far_run : StreamRun
      far_run = planned_run to_here items_here far_one

      pub far-run-is : run_of to_here far_run.transfers gapped.gaps one.ready ≡ far_here
      far-run-is =
          ap (λ (l : List Item). run_of to_here (plan_of to_here [] [] l) gapped.gaps one.ready) (sym source-items)
          ∙ ap (run_of to_here (far_plan stream.params to_here source_here.transfers) gapped.gaps) (sym well.bits)
          ∙ sym gapped.run

      pub far-rows : rows_from (far_run ∷ []) 0 cycles ≡ far_here
      far-rows = ap (rows_from (far_run ∷ []) 0) (sym fits.long) ∙ rows-one far_run ∙ far-run-is

      pub far-left : left_of far_run ≡ undone_far stream.params to_here source_here.transfers one.gaps one.ready
      far-left =
          ap (λ (l : List Cycle). length far_run.transfers - transfers_of l) far-run-is
          ∙ ap (λ (l : List Item). length (plan_of to_here [] [] l) - transfers_of far_here) (sym source-items)

      far-long : length far_here ≡ cycles
      far-long = sym (length-map far_here (λ (c : Cycle). c.ready)) ∙ ap length well.bits ∙ fits.long

      pub far-gaps : All (λ gap. gap ≤ cycles) gapped.gaps
      far-gaps = subst (λ (n : ℕ). All (λ gap. gap ≤ n) gapped.gaps) far-long gapped.few

      -- the far side can show each transfer that it shows
      pub far-shown : AreShown (owed (to_here ∷ []) cycles) far_here
      far-shown = subst (AreShown (owed (to_here ∷ []) cycles)) far-rows (runs-shown cycles (head_here ∷ []) (far_run ∷ []) are)
        where
          head_here : Head
          head_here = record { path = stream.path; params = to_here; reversed = stream.reversed }

          at-first : (i : ℕ) (s : StreamRun) → slice_get (far_run ∷ []) i ≡ Some s → far_run ≡ s
          at-first zero s there = cc
          at-first (suc i) s there = cc

          shows : All (Shows to_here) far_run.transfers
          shows = planned_are_shown to_here [] [] items_here far_run.transfers can-far tt (planned_some (length items_here + 0) to_here [] [] items_here shape.some_lane tt (omega arith))

          are : AreRunsOf cycles (head_here ∷ []) (far_run ∷ [])
          are = record {
            params = refl;
            long = λ i s there. ap (λ (r : StreamRun). length r.ready) (sym (at-first i s there)) ∙ fits.long;
            shown = λ i s there. subst (λ (r : StreamRun). All (Shows r.params) r.transfers) (at-first i s there) shows;
          }
