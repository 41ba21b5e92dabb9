-- The chains of streams, one after another, before their first cycles.
use Rattle.std.proofs.Common.{◌≡◌, ◌∙◌, ℕ, zero, suc, ◌+◌, ◌%◌, ◌<◌, ◌≤◌, ◌==◌, ◌&&◌, ◌||◌, not, nat_le, Bool, true, false, if◌then◌else◌, List, [], ◌∷◌, ◌++◌, length, take, drop, get_or, slice_get, Option, Some, None, Result, Ok, Err, MatchOption, append_assoc, append-nil, length-append, refl, sym, ap, subst, arith}
use Rattle.std.specs.List.{All}
use Rattle.std.specs.Prelude.{IsErrAnd}
use Rattle.std.proofs.lemmas.List.{drop_all, take_all, take_more}
use Rattle.tydi_base.specs.Reading.{Gives, ◌>>=◌}
use Rattle.physical_stream.specs.Params.{Parameters}
use Rattle.physical_stream.specs.declared.item.Item.{Item}
use Rattle.physical_stream.specs.declared.transfer.Transfer.{Transfer}
use Rattle.logical_value.specs.Tree.{Tree}
use Rattle.type_split.specs.Streams.{PlainSplit}
use Rattle.type_split.specs.declared.split.Phys.{Phys}
use Rattle.plan_text.specs.declared.plan.StreamPlan.{StreamPlan}
use Rattle.plan_text.specs.declared.plan.Wish.{Wish}
use Rattle.handshake.specs.Rows.{StreamRun}
use Rattle.handshake.specs.declared.feed.TransferFeed.{Ghosts}
use Rattle.handshake.proofs.CursorLemmas.{drop-is}
use Rattle.net_text.specs.Laws.{AreStages}
use Rattle.elastic_net.specs.Ports.{chain_runs, stages_in}
use Rattle.elastic_net.specs.Standing.{StandsFor}
use Rattle.elastic_net.specs.States.{first_state}
use Rattle.elastic_net.specs.declared.chain.Chain.{Chain}
use Rattle.elastic_net.specs.declared.elastic_run.ElasticRun.{ElasticRun}
use Rattle.scheduler.specs.Planned.{MasksFit, plan_of}
use Rattle.scheduler.specs.Planners.{IsPlannerOf, rest_of, whole_of}
use Rattle.scheduler.specs.declared.planner.Planner.{Planner}
use Rattle.scheduler.proofs.PlanLemmas.{planned_once, planned_some}
use Rattle.port_drive.specs.Drives.{CountNotMultiple, Undriven, is_multiple, items_on, planned_run, run_unless, runs_from, runs_of}
use Rattle.port_drive.specs.Faults.{reason_in}
use Rattle.port_drive.specs.declared.fault.DriveFault.{DriveFault}
use Rattle.port_drive.proofs.RunLemmas.{IsTurn, joined}
use Rattle.scheduler.specs.Laws.{IsMultiple}
use Rattle.scheduler.proofs.ScheduleLemmas.{multiple-rest}
use Rattle.std.proofs.lemmas.Bool.Decides.{nat_tests}
use Rattle.tydi_base.specs.Level.{number_of}
use Rattle.port_elastic.specs.Starting.{Plans, PlansItems, runs_of_net}

-- ---- one stream

-- the lanes divide the items
multiple-is : (p : Parameters) (items : List Item) → 1 ≤ p.lanes → IsMultiple p items → is_multiple p items ≡ true
multiple-is p items some is = by_test (is_multiple p items) refl
  where
    by_test : (test : Bool) → is_multiple p items ≡ test → test ≡ true
    by_test true e = refl
    by_test false e = by_whole (p.dims == 0) (nat_le (number_of p.level) 4) refl refl
      where
        by_whole : (flat low : Bool) → (p.dims == 0) ≡ flat → nat_le (number_of p.level) 4 ≡ low → false ≡ true
        by_whole true true is_flat is_low =
            let none : p.dims ≡ 0 = grind (arith, nat_tests) in
            let few : number_of p.level ≤ 4 = grind (arith, nat_tests) in
            sym e ∙ ap (λ (b : Bool). not (b && nat_le (number_of p.level) 4) || (length items % p.lanes == 0)) is_flat ∙ ap (λ (b : Bool). not b || (length items % p.lanes == 0)) is_low
            ∙ (multiple-rest p items p.lanes some refl (none, few)).1 is
        by_whole true false is_flat is_low =
            sym e ∙ ap (λ (b : Bool). not (b && nat_le (number_of p.level) 4) || (length items % p.lanes == 0)) is_flat ∙ ap (λ (b : Bool). not b || (length items % p.lanes == 0)) is_low
        by_whole false low is_flat is_low = sym e ∙ ap (λ (b : Bool). not (b && nat_le (number_of p.level) 4) || (length items % p.lanes == 0)) is_flat

pub plans-on : (number : ℕ) (p : Parameters) (some items : List Item) (wishes : List Wish) (users : List (List Bool)) (result : Result Planner DriveFault)
    → some ≡ items → Plans number p some wishes users result → Plans number p items wishes users result
plans-on number p some items wishes users result is plans = subst (λ (l : List Item). Plans number p l wishes users result) is plans

-- a planner that was made
pub plans-items : (p : Parameters) (items : List Item) (plan : StreamPlan) (planner : Planner) → 1 ≤ p.lanes → MasksFit p plan.wishes → IsPlannerOf p items plan planner → PlansItems p items plan.wishes plan.users planner
plans-items p items plan planner some masks is = record {
  multiple = multiple-is p items some is.all.multiple;
  params = is.params;
  whole = planned_once p plan.wishes plan.users items (whole_of planner) (plan_of p plan.wishes plan.users items) is.all.planned
      (planned_some (length items + length plan.wishes) p plan.wishes plan.users items some masks (omega arith));
  rest = is.rest;
}

-- the stages of a stream are few
pub stages-few : (stages : List (List ℕ)) (number : ℕ) (own : List ℕ) → All AreStages stages → number < length stages → own ≡ get_or stages number own → length own ≤ 16
stages-few stages number own all within is = subst (λ (l : List ℕ). length l ≤ 16) (sym is) (all number own within).few

pub own-there : (stages slice : List (List ℕ)) (number : ℕ) (one own : List ℕ) → slice ≡ stages → one ≡ get_or slice number one → own ≡ one → own ≡ get_or stages number own
own-there stages slice number one own same is own_is =
    subst (λ (l : List ℕ). l ≡ get_or stages number l) (sym own_is) (subst (λ (l : List (List ℕ)). one ≡ get_or l number one) same is)

module _ {T : Ghosts Planner} where
  -- a chain stands before its first step, for the items of a stream by a plan, through these stages
  pub record StartsChain (p : Parameters) (items : List Item) (plan : StreamPlan) (stages : List ℕ) (c : Chain Planner T) : Type 0 where
    pub multiple : is_multiple p items ≡ true
    pub params : c.params ≡ p
    pub whole : whole_of c.feed ≡ plan_of p plan.wishes plan.users items
    pub gaps_are : c.gaps ≡ plan.gaps
    pub stages_are : c.stages ≡ stages
    pub stands : StandsFor rest_of c (whole_of c.feed) (first_state (whole_of c.feed))

  pub starts-chain : (p : Parameters) (items : List Item) (plan : StreamPlan) (stages : List ℕ) (planner : Planner) (c : Chain Planner T) → PlansItems p items plan.wishes plan.users planner
      → c.params ≡ p → c.gaps ≡ plan.gaps → c.stages ≡ stages → whole_of c.feed ≡ whole_of planner → StandsFor rest_of c (rest_of planner) (first_state (rest_of planner)) → StartsChain p items plan stages c
  starts-chain p items plan stages planner c is params gaps_are stages_are whole stands = record {
    multiple = is.multiple;
    params = params;
    whole = whole ∙ is.whole;
    gaps_are = gaps_are;
    stages_are = stages_are;
    stands = subst (λ (ts : List Transfer). StandsFor rest_of c ts (first_state ts)) (is.rest ∙ sym whole) stands;
  }

-- ---- chains, one after another

joined-none : (rest : Result (List StreamRun) Undriven) → rest ≡ joined [] rest
joined-none (Ok more) = refl
joined-none (Err fault) = refl

joined-more : (begun : List StreamRun) (run : StreamRun) (rest : Result (List StreamRun) Undriven) → joined begun (rest >>= λ more. Ok (run ∷ more)) ≡ joined (begun ++ run ∷ []) rest
joined-more begun run (Ok more) = ap Ok (sym (append_assoc begun (run ∷ []) more))
joined-more begun run (Err fault) = refl

-- the rest of a run over streams: the run of the first one, and then of the others
first-of : (split : PlainSplit) (value : List (List Tree)) (number : ℕ) (streams : List Phys) (plans : List StreamPlan) (stream : Phys) (one : StreamPlan) → slice_get streams number ≡ Some stream → slice_get plans number ≡ Some one
    → runs_from split value number (drop number streams) (drop number plans)
    ≡ (run_unless number stream.params (items_on split value number stream) one >>= λ run. runs_from split value (number + 1) (drop (number + 1) streams) (drop (number + 1) plans) >>= λ runs. Ok (run ∷ runs))
first-of split value number streams plans stream one there is =
    let next : suc number ≡ number + 1 = omega arith in
    ap (λ (l : List Phys). runs_from split value number l (drop number plans)) (drop-is streams number stream there)
    ∙ ap (λ (l : List StreamPlan). runs_from split value number (stream ∷ drop (number + 1) streams) l) (drop-is plans number one is)
    ∙ ap (λ (n : ℕ). run_unless number stream.params (items_on split value number stream) one >>= λ run. runs_from split value n (drop (number + 1) streams) (drop (number + 1) plans) >>= λ runs. Ok (run ∷ runs)) next

each-more : {A : Type 0} (P : A → Type 0) (xs : List A) (x : A) → ((i : ℕ) (y : A) → slice_get xs i ≡ Some y → P y) → P x → (i : ℕ) (y : A) → slice_get (xs ++ x ∷ []) i ≡ Some y → P y
each-more P [] x all this zero y is = let same : x ≡ y = cc in subst P same this
each-more P [] x all this (suc i) y is = cc
each-more P (z ∷ xs) x all this zero y is = all 0 y is
each-more P (z ∷ xs) x all this (suc i) y is = each-more P xs x (λ k w there. all (suc k) w there) this i y is

module _ {T : Ghosts Planner} where
  -- the chains and ready bits of so many streams make the first runs of a port, and the rest is made of the other streams; each chain has
  -- its stages, and stands before its first step
  pub record AreBegun (split : PlainSplit) (value : List (List Tree)) (cycles : ℕ) (plans : List StreamPlan) (stages : List (List ℕ)) (number : ℕ) (chains : List (Chain Planner T)) (ready : List (List Bool)) : Type 0 where
    pub same : length chains ≡ length ready
    pub runs : runs_of split value plans ≡ joined (chain_runs rest_of whole_of chains ready) (runs_from split value number (drop number split.streams) (drop number plans))
    pub staged : stages_in chains ≡ take number stages
    pub long : (i : ℕ) (bits : List Bool) → slice_get ready i ≡ Some bits → length bits ≡ cycles
    pub stands : (i : ℕ) (c : Chain Planner T) → slice_get chains i ≡ Some c → StandsFor rest_of c (whole_of c.feed) (first_state (whole_of c.feed))

  begun-none : (split : PlainSplit) (value : List (List Tree)) (cycles : ℕ) (plans : List StreamPlan) (stages : List (List ℕ)) → AreBegun split value cycles plans stages 0 [] []
  begun-none split value cycles plans stages = record { same = refl; runs = joined-none (runs_of split value plans); staged = refl; long = λ i bits is. cc; stands = λ i c is. cc }

  runs-more : (chains : List (Chain Planner T)) (ready : List (List Bool)) (c : Chain Planner T) (bits : List Bool) → length chains ≡ length ready
      → chain_runs rest_of whole_of (chains ++ c ∷ []) (ready ++ bits ∷ []) ≡ chain_runs rest_of whole_of chains ready ++ record { params = c.params; transfers = whole_of c.feed; gaps = c.gaps; ready = bits } ∷ []
  runs-more [] [] c bits same = refl
  runs-more [] (other ∷ ready) c bits same = absurd (omega (arith, same))
  runs-more (d ∷ chains) [] c bits same = absurd (omega (arith, same))
  runs-more (d ∷ chains) (other ∷ ready) c bits same =
      ap (λ (l : List StreamRun). record { params = d.params; transfers = whole_of d.feed; gaps = d.gaps; ready = other } ∷ l) (runs-more chains ready c bits (omega (arith, same)))

  staged-more : (chains : List (Chain Planner T)) (c : Chain Planner T) → stages_in (chains ++ c ∷ []) ≡ stages_in chains ++ c.stages ∷ []
  staged-more [] c = refl
  staged-more (d ∷ chains) c = ap (λ (l : List (List ℕ)). d.stages ∷ l) (staged-more chains c)

  run-is : (p : Parameters) (items : List Item) (one : StreamPlan) (stages : List ℕ) (c : Chain Planner T) → StartsChain {T = T} p items one stages c
      → planned_run p items one ≡ record { params = c.params; transfers = whole_of c.feed; gaps = c.gaps; ready = one.ready }
  run-is p items one stages c starts =
      ap (λ (q : Parameters). record { params = q; transfers = plan_of p one.wishes one.users items; gaps = one.gaps; ready = one.ready }) (sym starts.params)
      ∙ ap (λ (ts : List Transfer). record { params = c.params; transfers = ts; gaps = one.gaps; ready = one.ready }) (sym starts.whole)
      ∙ ap (λ (gaps : List ℕ). record { params = c.params; transfers = whole_of c.feed; gaps = gaps; ready = one.ready }) (sym starts.gaps_are)

  module _ (split : PlainSplit) (value : List (List Tree)) (cycles : ℕ) (plans : List StreamPlan) (stages : List (List ℕ)) (number : ℕ) (chains : List (Chain Planner T)) (ready : List (List Bool))
      (begun : AreBegun split value cycles plans stages number chains ready) where
    module _ (stream : Phys) (one : StreamPlan) (turn : IsTurn cycles split.streams plans number one) (there : slice_get split.streams number ≡ Some stream) where
      p : Parameters
      p = stream.params

      items : List Item
      items = items_on split value number stream

      left : Result (List StreamRun) Undriven
      left = runs_from split value (number + 1) (drop (number + 1) split.streams) (drop (number + 1) plans)

      runs-by : (test : Bool) → is_multiple p items ≡ test → runs_of split value plans
          ≡ joined (chain_runs rest_of whole_of chains ready) ((if test then Ok (planned_run p items one) else Err (CountNotMultiple number (length items) p.lanes)) >>= λ run. left >>= λ runs. Ok (run ∷ runs))
      unfolding left p items
      runs-by test is =
          begun.runs
          ∙ ap (joined (chain_runs rest_of whole_of chains ready)) (first-of split value number split.streams plans stream one there turn.there
          ∙ ap (λ (b : Bool). (if b then Ok (planned_run p items one) else Err (CountNotMultiple number (length items) p.lanes)) >>= λ run. left >>= λ runs. Ok (run ∷ runs)) is)

      -- one stream more
      pub begun-more : (own : List ℕ) (c : Chain Planner T) → number < length stages → own ≡ get_or stages number own → StartsChain {T = T} stream.params (items_on split value number stream) one own c
          → AreBegun split value cycles plans stages (number + 1) (chains ++ c ∷ []) (ready ++ one.ready ∷ [])
      unfolding left p items
      begun-more own c within is starts = record {
        same = omega (arith, begun.same, length-append chains (c ∷ []), length-append ready (one.ready ∷ []));
        runs = runs-by true starts.multiple
            ∙ ap (λ (run : StreamRun). joined (chain_runs rest_of whole_of chains ready) (left >>= λ runs. Ok (run ∷ runs))) (run-is p items one own c starts)
            ∙ joined-more (chain_runs rest_of whole_of chains ready) (record { params = c.params; transfers = whole_of c.feed; gaps = c.gaps; ready = one.ready }) left
            ∙ ap (λ (l : List StreamRun). joined l left) (sym (runs-more chains ready c one.ready begun.same));
        staged = staged-more chains c ∙ ap (λ (l : List (List ℕ)). l ++ c.stages ∷ []) begun.staged ∙ ap (λ (s : List ℕ). take number stages ++ s ∷ []) (starts.stages_are ∙ is)
            ∙ sym (take_more stages number own within);
        long = each-more (λ (bits : List Bool). length bits ≡ cycles) ready one.ready begun.long (turn.fits stream there).long;
        stands = each-more (λ (d : Chain Planner T). StandsFor rest_of d (whole_of d.feed) (first_state (whole_of d.feed))) chains c begun.stands starts.stands;
      }

      none-by : (found : Option Undriven) → MatchOption found (Unit {0}) (λ reason. (is_multiple p items ≡ false) × (reason ≡ CountNotMultiple number (length items) p.lanes))
          → MatchOption found (Unit {0}) (λ reason. runs_of split value plans ≡ Err reason)
      none-by None why = tt
      none-by (Some reason) why = runs-by false why.0 ∙ ap Err (sym why.1)

      -- the lanes do not divide the items of the stream
      pub begun-err : (result : Result (ElasticRun Planner T) DriveFault) (fault : DriveFault) → IsErrAnd result (λ e. e ≡ fault)
          → MatchOption (reason_in fault) (Unit {0}) (λ reason. (is_multiple stream.params (items_on split value number stream) ≡ false) × (reason ≡ CountNotMultiple number (length (items_on split value number stream)) stream.params.lanes))
          → Gives reason_in (runs_of_net {T = T}) result (runs_of split value plans)
      unfolding p items
      begun-err (Ok run) fault is why = absurd is
      begun-err (Err e) fault is why = subst (λ (f : DriveFault). MatchOption (reason_in f) (Unit {0}) (λ reason. runs_of split value plans ≡ Err reason)) (sym is) (none-by (reason_in fault) why)

    -- all streams
    pub begun-all : (number ≡ length plans) × (length split.streams ≡ length plans) → runs_of split value plans ≡ Ok (chain_runs rest_of whole_of chains ready)
    begun-all all =
        begun.runs
        ∙ ap (λ (l : List Phys). joined (chain_runs rest_of whole_of chains ready) (runs_from split value number l (drop number plans))) (drop_all number split.streams (omega (arith, all.0, all.1)))
        ∙ ap Ok (append-nil (chain_runs rest_of whole_of chains ready))

    pub staged-all : (number ≡ length plans) × (length split.streams ≡ length plans) → length stages ≡ length split.streams → stages_in chains ≡ stages
    staged-all all many = begun.staged ∙ take_all number stages (omega (arith, all.0, all.1, many))
