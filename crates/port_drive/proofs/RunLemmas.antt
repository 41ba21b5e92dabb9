-- The runs of streams, one after another, before their first cycles.
use Rattle.std.proofs.Common.{◌≡◌, ◌∙◌, ℕ, zero, suc, ◌+◌, ◌<◌, Bool, true, false, if◌then◌else◌, List, [], ◌∷◌, ◌++◌, length, drop, slice_get, Option, Some, None, Result, Ok, Err, MatchOption, append_assoc, append-nil, length-append, refl, sym, ap, subst, arith}
use Rattle.std.specs.Iterator.{Yields}
use Rattle.std.specs.Prelude.{IsErrAnd}
use Rattle.std.proofs.lemmas.Iterator.Adapters.{YieldsList-from_vec}
use Rattle.std.proofs.lemmas.Iterator.Consumers.{YieldsList-end, YieldsList-turn}
use Rattle.std.proofs.lemmas.List.{drop_all}
use Rattle.std.proofs.lemmas.Option.{slice_get_read, slice_get_within}
use Rattle.std.specs.declared.vec.IntoIter.{IntoIter}
use Rattle.std.specs.Vec.Iter.{into_iter_items, into_iter_len, into_iter_steps}
use Rattle.tydi_base.specs.Reading.{Gives, ◌>>=◌}
use Rattle.physical_stream.specs.Params.{Parameters}
use Rattle.physical_stream.specs.declared.item.Item.{Item}
use Rattle.physical_stream.specs.declared.transfer.Transfer.{Transfer}
use Rattle.logical_value.specs.Fits.{fits_split}
use Rattle.logical_value.specs.Tree.{Tree}
use Rattle.type_split.specs.Streams.{IsPortSplit, PlainSplit}
use Rattle.type_split.specs.declared.split.Phys.{Phys}
use Rattle.plan_text.specs.Laws.{FitEach}
use Rattle.plan_text.specs.declared.plan.StreamPlan.{StreamPlan}
use Rattle.plan_text.specs.declared.plan.Wish.{Wish}
use Rattle.handshake.specs.Ports.{runs_in}
use Rattle.handshake.specs.Rows.{StreamRun}
use Rattle.handshake.specs.Standing.{StandsFor}
use Rattle.handshake.specs.declared.cursor.Cursor.{Cursor}
use Rattle.handshake.specs.declared.feed.TransferFeed.{Ghosts}
use Rattle.handshake.specs.declared.port_run.PortRun.{PortRun}
use Rattle.handshake.proofs.CursorLemmas.{drop-is}
use Rattle.scheduler.specs.Laws.{AreItems}
use Rattle.scheduler.specs.Planned.{plan_of}
use Rattle.scheduler.specs.Planners.{rest_of, whole_of}
use Rattle.scheduler.specs.declared.planner.Planner.{Planner}
use Rattle.port_drive.specs.Drives.{CountNotMultiple, Undriven, is_multiple, items_on, planned_run, run_unless, runs_from, runs_of}
use Rattle.port_drive.specs.Faults.{reason_in}
use Rattle.port_drive.specs.Starting.{Starts, StartsItems, runs_of_port}
use Rattle.port_drive.specs.declared.fault.DriveFault.{DriveFault}
use Rattle.port_drive.proofs.DriveLemmas.{PlanFits, items-so, plan-fits}

-- ---- one stream

pub number-within : (streams : List Phys) (number : ℕ) (stream : Phys) → slice_get streams number ≡ Some stream → number < length streams
number-within streams number stream there = slice_get_within streams number stream there

pub are-items-on : (split : PlainSplit) (value : List (List Tree)) (number : ℕ) (stream : Phys) (some : List Item) → IsPortSplit split → fits_split split value ≡ true → slice_get split.streams number ≡ Some stream
    → some ≡ items_on split value number stream → AreItems stream.params some
are-items-on split value number stream some port fits there is = subst (AreItems stream.params) (sym is) (items-so split value port fits number stream there).are

pub starts-on : {T : Ghosts Planner} → (number : ℕ) (p : Parameters) (some items : List Item) (gaps : List ℕ) (wishes : List Wish) (users : List (List Bool)) (result : Result (Cursor Planner T) DriveFault)
    → some ≡ items → Starts {T = T} number p some gaps wishes users result → Starts {T = T} number p items gaps wishes users result
starts-on {T} number p some items gaps wishes users result is starts = subst (λ (l : List Item). Starts {T = T} number p l gaps wishes users result) is starts

-- ---- plans, one after another

many-plans : (cycles : ℕ) (streams : List Phys) (plans : List StreamPlan) → FitEach cycles streams plans → length streams ≡ length plans
many-plans cycles [] [] fit = refl
many-plans cycles [] (plan ∷ plans) fit = absurd fit
many-plans cycles (stream ∷ streams) [] fit = absurd fit
many-plans cycles (stream ∷ streams) (plan ∷ plans) fit = ap suc (many-plans cycles streams plans fit.1)

fits-at : (cycles : ℕ) (streams : List Phys) (plans : List StreamPlan) (number : ℕ) (stream : Phys) (one : StreamPlan) → FitEach cycles streams plans → slice_get streams number ≡ Some stream → slice_get plans number ≡ Some one → PlanFits cycles stream.params one
fits-at cycles [] plans number stream one fit there is = cc
fits-at cycles (first ∷ streams) [] number stream one fit there is = absurd fit
fits-at cycles (first ∷ streams) (plan ∷ plans) zero stream one fit there is =
    let same : first ≡ stream = cc in
    let same_plan : plan ≡ one = cc in
    subst (λ (q : StreamPlan). PlanFits cycles stream.params q) same_plan (subst (λ (s : Phys). PlanFits cycles s.params plan) same (plan-fits cycles first.params plan fit.0))
fits-at cycles (first ∷ streams) (plan ∷ plans) (suc number) stream one fit there is = fits-at cycles streams plans number stream one fit.1 there is

-- the plan of this number is the next one: there is a stream of this number, which it fits
pub record IsTurn (cycles : ℕ) (streams : List Phys) (plans : List StreamPlan) (number : ℕ) (one : StreamPlan) : Type 0 where
  pub within : number < length streams
  pub few : number < length plans
  pub there : slice_get plans number ≡ Some one
  pub fits : (stream : Phys) → slice_get streams number ≡ Some stream → PlanFits cycles stream.params one

module _ {Z : Type 0} (cycles : ℕ) (streams : List Phys) (plans : List StreamPlan) (s t u : IntoIter StreamPlan Z) (yielded : List StreamPlan) (number : ℕ) (fit : FitEach cycles streams plans)
    (items : into_iter_items s ≡ plans) (many : into_iter_len s ≡ length plans) (is_number : number ≡ length yielded) (runs : Yields (into_iter_steps {X = StreamPlan} {Z = Z}) s yielded t) where
  -- the next plan that an iterator over the plans gives
  pub turn-of : (r : Option StreamPlan) (one : StreamPlan) → r ≡ Some one → into_iter_steps t r u → IsTurn cycles streams plans number one
  turn-of r one is steps =
      let turn = YieldsList-turn (YieldsList-from_vec plans items many) yielded t runs r u one is steps in
      let few : number < length plans = omega (arith, is_number, turn.0) in
      let there : slice_get plans number ≡ Some one = subst (λ (n : ℕ). slice_get plans n ≡ Some one) (sym is_number) (slice_get_read plans (length plans) (length yielded) one refl turn.0 turn.1) in
      record {
        within = omega (arith, few, many-plans cycles streams plans fit);
        few = few;
        there = there;
        fits = λ stream stream_there. fits-at cycles streams plans number stream one fit stream_there there;
      }

  -- where it gives none, all plans have been given
  pub end-of : (r : Option StreamPlan) → r ≡ None → into_iter_steps t r u → (number ≡ length plans) × (length streams ≡ length plans)
  end-of r is steps =
      let end = YieldsList-end (YieldsList-from_vec plans items many) yielded t runs r u is steps in
      (is_number ∙ end.1, many-plans cycles streams plans fit)

-- ---- runs, one after another

-- these runs, and then those that are left
abbrev pub joined : List StreamRun → Result (List StreamRun) Undriven → Result (List StreamRun) Undriven
joined begun rest = rest >>= λ more. Ok (begun ++ more)

joined-none : (rest : Result (List StreamRun) Undriven) → rest ≡ joined [] rest
joined-none (Ok more) = refl
joined-none (Err fault) = refl

joined-more : (begun : List StreamRun) (run : StreamRun) (rest : Result (List StreamRun) Undriven) → joined begun (rest >>= λ more. Ok (run ∷ more)) ≡ joined (begun ++ run ∷ []) rest
joined-more begun run (Ok more) = ap Ok (sym (append_assoc begun (run ∷ []) more))
joined-more begun run (Err fault) = refl

-- the rest of a run over streams: the run of the first one, and then of the others
first-of : (split : PlainSplit) (value : List (List Tree)) (number : ℕ) (streams : List Phys) (plans : List StreamPlan) (stream : Phys) (one : StreamPlan) → slice_get streams number ≡ Some stream → slice_get plans number ≡ Some one
    → runs_from split value number (drop number streams) (drop number plans)
    ≡ (run_unless number stream.params (items_on split value number stream) one >>= λ run. runs_from split value (number + 1) (drop (number + 1) streams) (drop (number + 1) plans) >>= λ runs. Ok (run ∷ runs))
first-of split value number streams plans stream one there is =
    let next : suc number ≡ number + 1 = omega arith in
    ap (λ (l : List Phys). runs_from split value number l (drop number plans)) (drop-is streams number stream there)
    ∙ ap (λ (l : List StreamPlan). runs_from split value number (stream ∷ drop (number + 1) streams) l) (drop-is plans number one is)
    ∙ ap (λ (n : ℕ). run_unless number stream.params (items_on split value number stream) one >>= λ run. runs_from split value n (drop (number + 1) streams) (drop (number + 1) plans) >>= λ runs. Ok (run ∷ runs)) next

each-more : {A : Type 0} (P : A → Type 0) (xs : List A) (x : A) → ((i : ℕ) (y : A) → slice_get xs i ≡ Some y → P y) → P x → (i : ℕ) (y : A) → slice_get (xs ++ x ∷ []) i ≡ Some y → P y
each-more P [] x all this zero y is = let same : x ≡ y = cc in subst P same this
each-more P [] x all this (suc i) y is = cc
each-more P (z ∷ xs) x all this zero y is = all 0 y is
each-more P (z ∷ xs) x all this (suc i) y is = each-more P xs x (λ k w there. all (suc k) w there) this i y is

module _ {T : Ghosts Planner} where
  -- the cursors and ready bits of so many streams are the first runs of a port, and the rest is made of the other streams; each cursor
  -- stands before its first cycle
  pub record AreBegun (split : PlainSplit) (value : List (List Tree)) (cycles : ℕ) (plans : List StreamPlan) (number : ℕ) (cursors : List (Cursor Planner T)) (ready : List (List Bool)) : Type 0 where
    pub same : length cursors ≡ length ready
    pub runs : runs_of split value plans ≡ joined (runs_in rest_of whole_of cursors ready) (runs_from split value number (drop number split.streams) (drop number plans))
    pub long : (i : ℕ) (bits : List Bool) → slice_get ready i ≡ Some bits → length bits ≡ cycles
    pub stands : (i : ℕ) (c : Cursor Planner T) → slice_get cursors i ≡ Some c → StandsFor rest_of c (whole_of c.feed) []

  begun-none : (split : PlainSplit) (value : List (List Tree)) (cycles : ℕ) (plans : List StreamPlan) → AreBegun split value cycles plans 0 [] []
  begun-none split value cycles plans = record { same = refl; runs = joined-none (runs_of split value plans); long = λ i bits is. cc; stands = λ i c is. cc }

  runs_in-more : (cursors : List (Cursor Planner T)) (ready : List (List Bool)) (c : Cursor Planner T) (bits : List Bool) → length cursors ≡ length ready
      → runs_in rest_of whole_of (cursors ++ c ∷ []) (ready ++ bits ∷ []) ≡ runs_in rest_of whole_of cursors ready ++ record { params = c.params; transfers = whole_of c.feed; gaps = c.gaps; ready = bits } ∷ []
  runs_in-more [] [] c bits same = refl
  runs_in-more [] (other ∷ ready) c bits same = absurd (omega (arith, same))
  runs_in-more (d ∷ cursors) [] c bits same = absurd (omega (arith, same))
  runs_in-more (d ∷ cursors) (other ∷ ready) c bits same =
      ap (λ (l : List StreamRun). record { params = d.params; transfers = whole_of d.feed; gaps = d.gaps; ready = other } ∷ l) (runs_in-more cursors ready c bits (omega (arith, same)))

  run-is : (p : Parameters) (items : List Item) (one : StreamPlan) (c : Cursor Planner T) → StartsItems {T = T} p items one.gaps one.wishes one.users c
      → planned_run p items one ≡ record { params = c.params; transfers = whole_of c.feed; gaps = c.gaps; ready = one.ready }
  run-is p items one c starts =
      ap (λ (q : Parameters). record { params = q; transfers = plan_of p one.wishes one.users items; gaps = one.gaps; ready = one.ready }) (sym starts.params)
      ∙ ap (λ (ts : List Transfer). record { params = c.params; transfers = ts; gaps = one.gaps; ready = one.ready }) (sym starts.whole)
      ∙ ap (λ (gaps : List ℕ). record { params = c.params; transfers = whole_of c.feed; gaps = gaps; ready = one.ready }) (sym starts.gaps_are)

  module _ (split : PlainSplit) (value : List (List Tree)) (cycles : ℕ) (plans : List StreamPlan) (number : ℕ) (cursors : List (Cursor Planner T)) (ready : List (List Bool)) (begun : AreBegun split value cycles plans number cursors ready) where
    module _ (stream : Phys) (one : StreamPlan) (turn : IsTurn cycles split.streams plans number one) (there : slice_get split.streams number ≡ Some stream) where
      p : Parameters
      p = stream.params

      items : List Item
      items = items_on split value number stream

      left : Result (List StreamRun) Undriven
      left = runs_from split value (number + 1) (drop (number + 1) split.streams) (drop (number + 1) plans)

      runs-by : (test : Bool) → is_multiple p items ≡ test → runs_of split value plans
          ≡ joined (runs_in rest_of whole_of cursors ready) ((if test then Ok (planned_run p items one) else Err (CountNotMultiple number (length items) p.lanes)) >>= λ run. left >>= λ runs. Ok (run ∷ runs))
      unfolding left p items
      runs-by test is =
          begun.runs
          ∙ ap (joined (runs_in rest_of whole_of cursors ready)) (first-of split value number split.streams plans stream one there turn.there
          ∙ ap (λ (b : Bool). (if b then Ok (planned_run p items one) else Err (CountNotMultiple number (length items) p.lanes)) >>= λ run. left >>= λ runs. Ok (run ∷ runs)) is)

      -- one stream more
      pub begun-more : (c : Cursor Planner T) → StartsItems {T = T} stream.params (items_on split value number stream) one.gaps one.wishes one.users c
          → AreBegun split value cycles plans (number + 1) (cursors ++ c ∷ []) (ready ++ one.ready ∷ [])
      unfolding left p items
      begun-more c starts = record {
        same = omega (arith, begun.same, length-append cursors (c ∷ []), length-append ready (one.ready ∷ []));
        runs = runs-by true starts.multiple
            ∙ ap (λ (run : StreamRun). joined (runs_in rest_of whole_of cursors ready) (left >>= λ runs. Ok (run ∷ runs))) (run-is p items one c starts)
            ∙ joined-more (runs_in rest_of whole_of cursors ready) (record { params = c.params; transfers = whole_of c.feed; gaps = c.gaps; ready = one.ready }) left
            ∙ ap (λ (l : List StreamRun). joined l left) (sym (runs_in-more cursors ready c one.ready begun.same));
        long = each-more (λ (bits : List Bool). length bits ≡ cycles) ready one.ready begun.long (turn.fits stream there).long;
        stands = each-more (λ (d : Cursor Planner T). StandsFor rest_of d (whole_of d.feed) []) cursors c begun.stands starts.stands;
      }

      none-by : (found : Option Undriven) → MatchOption found (Unit {0}) (λ reason. (is_multiple p items ≡ false) × (reason ≡ CountNotMultiple number (length items) p.lanes))
          → MatchOption found (Unit {0}) (λ reason. runs_of split value plans ≡ Err reason)
      none-by None why = tt
      none-by (Some reason) why = runs-by false why.0 ∙ ap Err (sym why.1)

      -- the lanes do not divide the items of the stream
      pub begun-err : (result : Result (PortRun Planner T) DriveFault) (fault : DriveFault) → IsErrAnd result (λ e. e ≡ fault)
          → MatchOption (reason_in fault) (Unit {0}) (λ reason. (is_multiple stream.params (items_on split value number stream) ≡ false) × (reason ≡ CountNotMultiple number (length (items_on split value number stream)) stream.params.lanes))
          → Gives reason_in (runs_of_port {T = T}) result (runs_of split value plans)
      unfolding p items
      begun-err (Ok run) fault is why = absurd is
      begun-err (Err e) fault is why = subst (λ (f : DriveFault). MatchOption (reason_in f) (Unit {0}) (λ reason. runs_of split value plans ≡ Err reason)) (sym is) (none-by (reason_in fault) why)

    -- all streams
    pub begun-all : (number ≡ length plans) × (length split.streams ≡ length plans) → runs_of split value plans ≡ Ok (runs_in rest_of whole_of cursors ready)
    begun-all all =
        begun.runs
        ∙ ap (λ (l : List Phys). joined (runs_in rest_of whole_of cursors ready) (runs_from split value number l (drop number plans))) (drop_all number split.streams (omega (arith, all.0, all.1)))
        ∙ ap Ok (append-nil (runs_in rest_of whole_of cursors ready))
