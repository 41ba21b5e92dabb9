-- The text of the bench of a port, from its runs.
use Rattle.std.proofs.Common.{◌≡◌, ◌∙◌, ℕ, suc, ◌≤◌, List, [], ◌∷◌, ◌++◌, length, map, take, drop, Bool, Option, None, Some, Result, Ok, Err, MatchOption, true, refl, sym, ap, subst, arith}
use Rattle.std.proofs.lemmas.List.{length-map}
use Rattle.std.specs.Prelude.{IsErrAnd}
use Rattle.tydi_base.specs.Reading.{◌>>=◌, Gives}
use Rattle.physical_stream.specs.Params.{Parameters}
use Rattle.physical_stream.specs.declared.head.Head.{Head}
use Rattle.cycle_trace.specs.Trace.{are_heads, params_of_heads}
use Rattle.type_split.specs.Streams.{PlainSplit}
use Rattle.type_split.specs.declared.split.Phys.{Phys}
use Rattle.logical_value.specs.Tree.{Tree}
use Rattle.plan_text.specs.Laws.{FitsPort}
use Rattle.plan_text.specs.declared.plan.Plan.{Plan}
use Rattle.handshake.specs.Ports.{runs_in}
use Rattle.handshake.specs.Rows.{StreamRun, undone_in}
use Rattle.handshake.specs.Turns.{KeepRuns}
use Rattle.handshake.specs.declared.cursor.Cursor.{Cursor}
use Rattle.handshake.specs.declared.feed.TransferFeed.{Ghosts}
use Rattle.handshake.proofs.PortLemmas.{runs-kept}
use Rattle.handshake.proofs.RewindLemmas.{given-back}
use Rattle.scheduler.specs.Planners.{rest_of, whole_of}
use Rattle.scheduler.specs.declared.planner.Planner.{Planner}
use Rattle.vhdl_text.specs.Text.{bench_text}
use Rattle.port_drive.specs.Drives.{Undriven, finished_from, head_of_stream, heads_of, runs_of}
use Rattle.port_drive.specs.Faults.{reason_in}
use Rattle.port_drive.specs.Finishing.{FinishedRunsDrive, finishing, unfinished_from}
use Rattle.port_drive.specs.declared.fault.DriveFault.{DriveFault}
use Rattle.port_drive.proofs.DriveLemmas.{many-runs, plans-fit, runs-params}
use Rattle.testbench.specs.Driving.{Driven, driving}
use Rattle.testbench.specs.Pieces.{driven_in}
use Rattle.testbench.specs.TextLeft.{HaveParams}
use Rattle.port_bench.proofs.BytesLemmas.{heads-few}
use Rattle.port_bench.specs.Benches.{bench_of_runs, bench_text_of, driven_runs, text_unless}

-- ---- cursors, and the runs that they are of

module _ {T : Ghosts Planner} where
  pub many-in : (cursors : List (Cursor Planner T)) (ready : List (List Bool)) → length cursors ≡ length ready → length (runs_in rest_of whole_of cursors ready) ≡ length cursors
  many-in [] ready same = refl
  many-in (c ∷ cursors) [] same = absurd (omega (arith, same))
  many-in (c ∷ cursors) (bits ∷ ready) same = ap suc (many-in cursors ready (omega (arith, same)))

  pub params-in : (cursors : List (Cursor Planner T)) (ready : List (List Bool)) → length cursors ≡ length ready
      → map (λ (s : StreamRun). s.params) (runs_in rest_of whole_of cursors ready) ≡ map (λ (c : Cursor Planner T). c.params) cursors
  params-in [] ready same = refl
  params-in (c ∷ cursors) [] same = absurd (omega (arith, same))
  params-in (c ∷ cursors) (bits ∷ ready) same = ap (λ (l : List Parameters). c.params ∷ l) (params-in cursors ready (omega (arith, same)))

  pub driven-in : (heads : List Head) (cursors : List (Cursor Planner T)) (ready : List (List Bool)) → length cursors ≡ length ready
      → driven_in {T = T} whole_of heads cursors ≡ driven_runs heads (runs_in rest_of whole_of cursors ready)
  driven-in [] cursors ready same = refl
  driven-in (head ∷ heads) [] ready same = refl
  driven-in (head ∷ heads) (c ∷ cursors) [] same = absurd (omega (arith, same))
  driven-in (head ∷ heads) (c ∷ cursors) (bits ∷ ready) same =
      ap (λ (l : List Driven). record { head = head; transfers = whole_of c.feed; gaps = c.gaps } ∷ l) (driven-in heads cursors ready (omega (arith, same)))

  -- the cursors of these runs
  module _ (cursors : List (Cursor Planner T)) (ready : List (List Bool)) (runs : List StreamRun) (same : length cursors ≡ length ready) (are : runs_in rest_of whole_of cursors ready ≡ runs) where
    pub ends-few : length runs ≤ 65536 → length cursors ≤ 65536
    ends-few few = omega (arith, few, ap length are, many-in cursors ready same)

    pub ends-params : (heads : List Head) → params_of_heads heads ≡ map (λ (s : StreamRun). s.params) runs → HaveParams heads cursors
    ends-params heads params = params ∙ ap (map (λ (s : StreamRun). s.params)) (sym are) ∙ params-in cursors ready same

    pub ends-text : (heads : List Head) (found : Option Undriven) (text : List ℕ) → found ≡ None → text ≡ bench_text (driving (driven_in {T = T} whole_of heads cursors))
        → text_unless found (bench_text (driving (driven_runs heads runs))) ≡ Ok text
    ends-text heads found text none is =
        ap (λ (f : Option Undriven). text_unless f (bench_text (driving (driven_runs heads runs)))) none
        ∙ ap Ok (sym (is ∙ ap (λ (ds : List Driven). bench_text (driving ds)) (driven-in heads cursors ready same ∙ ap (driven_runs heads) are)))

  -- cursors that were taken out of a list, begun anew and given back
  module _ (start items one new two : List (Cursor Planner T)) (len : ℕ) (bits ready : List (List Bool)) (items_are : items ≡ start) (one_is : one ≡ items) (kept : KeepRuns whole_of one new) (long : len ≡ length items)
      (two_is : two ≡ take len (new ++ drop (length new) items)) (bits_are : bits ≡ ready) where
    many_new : length new ≡ len
    many_new = kept.many ∙ ap length one_is ∙ sym long

    two_new : two ≡ new
    two_new = two_is ∙ given-back new items len many_new

    pub begun-runs : runs_in rest_of whole_of two bits ≡ runs_in rest_of whole_of start ready
    begun-runs =
        ap (λ (l : List (Cursor Planner T)). runs_in rest_of whole_of l bits) two_new
        ∙ runs-kept rest_of whole_of one new bits kept
        ∙ ap (λ (l : List (Cursor Planner T)). runs_in rest_of whole_of l bits) (one_is ∙ items_are)
        ∙ ap (runs_in rest_of whole_of start) bits_are

    pub begun-many : length two ≡ length start
    begun-many = ap length two_new ∙ kept.many ∙ ap length (one_is ∙ items_are)

    -- and once more
    module _ (next other end : List (Cursor Planner T)) (kept_next : KeepRuns whole_of two next) (end_is : end ≡ take len (next ++ drop (length next) other)) where
      end_next : end ≡ next
      end_next = end_is ∙ given-back next other len (kept_next.many ∙ ap length two_new ∙ many_new)

      pub ended-runs : runs_in rest_of whole_of end ready ≡ runs_in rest_of whole_of start ready
      ended-runs =
          ap (λ (l : List (Cursor Planner T)). runs_in rest_of whole_of l ready) end_next
          ∙ runs-kept rest_of whole_of two next ready kept_next
          ∙ ap (runs_in rest_of whole_of two) (sym bits_are)
          ∙ begun-runs

      pub ended-many : length end ≡ length start
      ended-many = ap length end_next ∙ kept_next.many ∙ begun-many

-- ---- runs that do not finish

pub unless-found : (found : Option Undriven) (text : List ℕ) (reason : Option Undriven) → MatchOption reason ⊥ (λ one. found ≡ Some one) → MatchOption reason (Unit {0}) (λ one. text_unless found text ≡ Err one)
unless-found found text None why = tt
unless-found found text (Some one) why = ap (λ (f : Option Undriven). text_unless f text) why

pub unless-none : {X : Type 0} (view : X → List ℕ) (result : Result X DriveFault) (fault : DriveFault) (found other : Option Undriven) (text : List ℕ) → IsErrAnd result (λ e. e ≡ fault)
    → MatchOption (reason_in fault) ⊥ (λ one. other ≡ Some one) → other ≡ found → Gives reason_in view result (text_unless found text)
unless-none view (Ok x) fault found other text is why same = absurd is
unless-none view (Err e) fault found other text is why same =
    subst (λ (f : DriveFault). MatchOption (reason_in f) (Unit {0}) (λ one. text_unless found text ≡ Err one)) (sym is)
    (subst (λ (f : Option Undriven). MatchOption (reason_in fault) (Unit {0}) (λ one. text_unless f text ≡ Err one)) same (unless-found other text (reason_in fault) why))

-- ---- the runs of a value and a plan

module _ (split : PlainSplit) (value : List (List Tree)) (plan : Plan) (fits : FitsPort split.streams plan) (apart : are_heads (heads_of split) ≡ true) (slice : List Phys) (slice_is : slice ≡ split.streams) where
  heads-are : map head_of_stream slice ≡ heads_of split
  heads-are = ap (map head_of_stream) slice_is

  module _ (runs : List StreamRun) (made : runs_of split value plan.streams ≡ Ok runs) where
    pub runs-few : length runs ≤ 65536
    runs-few =
        let few = heads-few (heads_of split) apart in
        let many : length split.streams ≡ length runs = many-runs split value plan.cycles split.streams plan.streams 0 runs (plans-fit plan.cycles split.streams plan.streams fits.each) made in
        omega (arith, few, many, length-map split.streams head_of_stream)

    pub heads-params : (heads : List Head) → heads ≡ map head_of_stream slice → params_of_heads heads ≡ map (λ (s : StreamRun). s.params) runs
    heads-params heads is =
        ap params_of_heads (is ∙ heads-are)
        ∙ runs-params split value plan.cycles split.streams plan.streams 0 runs (plans-fit plan.cycles split.streams plan.streams fits.each) made

    by-found : (found : Option Undriven) → (finishing runs found >>= λ all. Ok (bench_text (bench_of_runs split all))) ≡ text_unless found (bench_text (bench_of_runs split runs))
    by-found None = refl
    by-found (Some reason) = refl

    -- the text that a value and a plan make is that of the bench of their runs, unless one of them does not finish
    pub text-is : FinishedRunsDrive → (heads : List Head) → heads ≡ map head_of_stream slice
        → bench_text_of split value plan ≡ text_unless (unfinished_from 0 (undone_in runs)) (bench_text (driving (driven_runs heads runs)))
    text-is law heads is =
        ap (λ (r : Result (List StreamRun) Undriven). r >>= λ all. Ok (bench_text (bench_of_runs split all))) (law split value plan.streams runs made)
        ∙ by-found (unfinished_from 0 (undone_in runs))
        ∙ ap (λ (hs : List Head). text_unless (unfinished_from 0 (undone_in runs)) (bench_text (driving (driven_runs hs runs)))) (sym (is ∙ heads-are))

    pub text-made : {X : Type 0} (view : X → List ℕ) (result : Result X DriveFault) → FinishedRunsDrive → (heads : List Head) → heads ≡ map head_of_stream slice
        → Gives reason_in view result (text_unless (unfinished_from 0 (undone_in runs)) (bench_text (driving (driven_runs heads runs)))) → Gives reason_in view result (bench_text_of split value plan)
    text-made view result law heads is gives = subst (λ (r : Result (List ℕ) Undriven). Gives reason_in view result r) (sym (text-is law heads is)) gives

  none-by : (reason : Option Undriven) → MatchOption reason (Unit {0}) (λ one. runs_of split value plan.streams ≡ Err one) → MatchOption reason (Unit {0}) (λ one. bench_text_of split value plan ≡ Err one)
  none-by None why = tt
  none-by (Some one) why = ap (λ (r : Result (List StreamRun) Undriven). (r >>= λ all. finished_from 0 all all) >>= λ runs. Ok (bench_text (bench_of_runs split runs))) why

  -- no runs, no text
  pub text-none : {X : Type 0} (view : X → List ℕ) (result : Result X DriveFault) (fault : DriveFault) → IsErrAnd result (λ e. e ≡ fault)
      → MatchOption (reason_in fault) (Unit {0}) (λ one. runs_of split value plan.streams ≡ Err one) → Gives reason_in view result (bench_text_of split value plan)
  text-none view (Ok x) fault is why = absurd is
  text-none view (Err e) fault is why =
      subst (λ (f : DriveFault). MatchOption (reason_in f) (Unit {0}) (λ one. bench_text_of split value plan ≡ Err one)) (sym is) (none-by (reason_in fault) why)
