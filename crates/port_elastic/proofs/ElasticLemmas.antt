-- The text at the sinks is one that drives the port without stages.
use Rattle.std.proofs.Common.{◌≡◌, ◌∙◌, ℕ, suc, ◌≤◌, ◌⊎◌, inl, inr, ◌==◌, Bool, true, false, ◌&&◌, nat_lt, if◌then◌else◌, List, [], ◌∷◌, length, slice_get, Option, Some, None, Result, Ok, Err, refl, sym, ap, subst, arith}
use Rattle.std.specs.List.{All}
use Rattle.std.proofs.lemmas.Bool.Decides.{nat_tests}
use Rattle.std.proofs.lemmas.List.Elements.{All-get_or}
use Rattle.std.proofs.lemmas.Option.{get_or_from_slice_get, slice_get_within}
use Rattle.tydi_base.specs.Level.{number_of}
use Rattle.tydi_base.specs.Reading.{◌>>=◌}
use Rattle.physical_stream.specs.Cycles.{Cycle}
use Rattle.physical_stream.specs.Params.{Parameters}
use Rattle.logical_value.specs.Tree.{Tree}
use Rattle.type_split.specs.Streams.{PlainSplit}
use Rattle.plan_text.specs.Laws.{FitsPort}
use Rattle.plan_text.specs.declared.plan.Plan.{Plan}
use Rattle.handshake.specs.Rows.{StreamRun, rows_from}
use Rattle.net_text.specs.Laws.{AreStages}
use Rattle.net_text.specs.declared.net.NetPlan.{NetPlan}
use Rattle.elastic_net.specs.Sinks.{left_in, state_after}
use Rattle.elastic_net.specs.Nets.{ChainRun, components_of, left_of_chains, sink_rows}
use Rattle.steady_run.specs.Steady.{PausesAnywhere}
use Rattle.steady_run.proofs.PauseLemmas.{high_streams_pause}
use Rattle.port_drive.specs.Drives.{NotFinished, Undriven, runs_of}
use Rattle.port_drive.specs.Finishing.{CanBeMeasured, finishing, unfinished_from}
use Rattle.port_drive.specs.Laws.{CanBeDriven, trace_of}
use Rattle.port_drive.specs.Text.{MayDrive, drive_text, written_text}
use Rattle.port_drive.proofs.DriveLemmas.{many-runs, plans-fit}
use Rattle.port_drive.proofs.DrivenLemmas.{at, can-be-measured}
use Rattle.port_drive.proofs.FinishLemmas.{runs-finish}
use Rattle.port_drive.proofs.TextLemmas.{can-drive, texts-are}
use Rattle.port_elastic.specs.Elastic.{chains_on, elastic_text, is_low, trace_of_chains, unless_left}
use Rattle.port_elastic.specs.Laws.{ElasticTextsAreDriven, IsFlowText, MayFlow, ReadyChainsFinish}
use Rattle.port_elastic.proofs.PlanLemmas.{replanned, replanned-fit, replanned-many, replanned-same, runs-regapped}
use Rattle.elastic_net.proofs.FinishLemmas.{sinks_finish}
use Rattle.port_elastic.proofs.SinkLemmas.{chain-fits, CanReplay, ReplaysAll, regapped, replays-all, rows-same}
use Rattle.port_elastic.proofs.OrderLemmas.{many-plans, net-orders}

-- how many transfers of a chain are not at its sink
abbrev left_of : ChainRun → ℕ
left_of c = left_in c.run.params c.run.transfers c.run.gaps c.stages (state_after c.run.params c.run.transfers c.run.gaps c.stages c.orders c.run.ready)

-- ---- a stream that is not low pauses anywhere

high-pauses : (p : Parameters) → is_low p ≡ false → PausesAnywhere p
high-pauses p is = high_streams_pause p (by_tests (nat_lt 0 p.dims) (nat_lt (number_of p.level) 3) refl refl is)
  where
    by_tests : (some low : Bool) → nat_lt 0 p.dims ≡ some → nat_lt (number_of p.level) 3 ≡ low → (some && low) ≡ false → (p.dims ≡ 0) ⊎ (3 ≤ number_of p.level)
    by_tests false low is_some is_level both = inl (let none : p.dims ≡ 0 = grind (arith, nat_tests) in none)
    by_tests true false is_some is_level both = inr (let high : 3 ≤ number_of p.level = grind (arith, nat_tests) in high)
    by_tests true true is_some is_level both = absurd (let e : true ≡ false = both in cc)

-- ---- a net of a port

module _ (split : PlainSplit) (value : List (List Tree)) (plan : Plan) (net : NetPlan) (may : MayFlow split value plan net) (runs : List StreamRun)
    (made : runs_of split value plan.streams ≡ Ok runs) where
  can : CanBeDriven split value plan
  can = can-drive split value plan may.drive

  runs-many : length split.streams ≡ length runs
  runs-many = many-runs split value plan.cycles split.streams plan.streams 0 runs (plans-fit plan.cycles split.streams plan.streams may.drive.plan_fits.each) made

  can-replay : (number : ℕ) (run : StreamRun) → slice_get runs number ≡ Some run → CanReplay plan.cycles run
  can-replay number run there =
      let a = at split value plan runs can made number run there in
      record {
        pauses = subst PausesAnywhere (sym (ap (λ (r : StreamRun). r.params) a.is)) (high-pauses a.stream.params (may.high number a.stream a.stream_there));
        long = ap (λ (r : StreamRun). length r.ready) a.is ∙ a.fits.long;
      }

  pub replay : ReplaysAll runs (chains_on runs net) plan.cycles
  replay = replays-all 0 (components_of net.stages) runs net.stages net.orders plan.cycles (sym runs-many ∙ sym may.net_fits.streams_are) can-replay (omega arith) (net-orders (length split.streams) plan.cycles net may.net_fits)

  -- the plan with the gaps with which the runs have the rows at the sinks
  unfoldable pub other : Plan
  other = record { cycles = plan.cycles; streams = replanned plan.streams replay.gaps }

  pub other-fits : FitsPort split.streams other
  unfolding other
  other-fits = record {
    cycles = may.drive.plan_fits.cycles;
    each = replanned-fit plan.cycles split.streams plan.streams replay.gaps may.drive.plan_fits.cycles (replay.many ∙ sym runs-many) replay.few may.drive.plan_fits.each;
  }

  pub other-may : MayDrive split value other
  unfolding other
  other-may = record { port = may.drive.port; heads = may.drive.heads; value_fits = may.drive.value_fits; plan_fits = other-fits }

  pub other-runs : runs_of split value other.streams ≡ Ok (regapped runs replay.gaps)
  unfolding other
  other-runs = runs-regapped split value 0 split.streams plan.streams replay.gaps runs replay.many made

  pub rows-are : sink_rows (chains_on runs net) 0 plan.cycles ≡ rows_from (regapped runs replay.gaps) 0 plan.cycles
  rows-are = rows-same runs (chains_on runs net) plan.cycles replay plan.cycles 0 (omega arith)

  pub measured-too : CanBeMeasured split plan.cycles (regapped runs replay.gaps)
  unfolding other
  measured-too = can-be-measured split value other (regapped runs replay.gaps) (can-drive split value other other-may) other-runs

  text-same : written_text (trace_of_chains split plan.cycles (chains_on runs net)) ≡ written_text (trace_of split plan.cycles (regapped runs replay.gaps))
  text-same = ap (λ (rows : List Cycle). written_text (record { cycles = plan.cycles; heads = (trace_of_chains split plan.cycles (chains_on runs net)).heads; rows = rows })) rows-are

  -- what the runs with other gaps drive is what comes to the sinks
  driven-too : (unfinished : Option Undriven) → unfinished_from 0 (left_of_chains (chains_on runs net)) ≡ unfinished
      → drive_text split value other ≡ (unless_left (chains_on runs net) unfinished >>= λ chains. Ok (written_text (trace_of_chains split plan.cycles chains)))
  unfolding other
  driven-too unfinished is =
      ap (λ (r : Result (List StreamRun) Undriven). r >>= λ rs. Ok (written_text (trace_of split plan.cycles rs)))
      (runs-finish split value other.streams (regapped runs replay.gaps) other-runs
      ∙ ap (λ (l : List ℕ). finishing (regapped runs replay.gaps) (unfinished_from 0 l)) (sym replay.left) ∙ ap (finishing (regapped runs replay.gaps)) is)
      ∙ by_reason unfinished
    where
      by_reason : (o : Option Undriven) → (finishing (regapped runs replay.gaps) o >>= λ rs. Ok (written_text (trace_of split plan.cycles rs)))
          ≡ (unless_left (chains_on runs net) o >>= λ chains. Ok (written_text (trace_of_chains split plan.cycles chains)))
      by_reason None = ap Ok (sym text-same)
      by_reason (Some reason) = refl

  elastic-made : elastic_text split value plan net ≡ (unless_left (chains_on runs net) (unfinished_from 0 (left_of_chains (chains_on runs net))) >>= λ chains. Ok (written_text (trace_of_chains split plan.cycles chains)))
  elastic-made = ap (λ (r : Result (List StreamRun) Undriven). (r >>= λ rs. unless_left (chains_on rs net) (unfinished_from 0 (left_of_chains (chains_on rs net)))) >>= λ chains. Ok (written_text (trace_of_chains split plan.cycles chains))) made

  pub elastic-same : elastic_text split value plan net ≡ drive_text split value other
  elastic-same = elastic-made ∙ sym (driven-too (unfinished_from 0 (left_of_chains (chains_on runs net))) refl)

  pub flows : (text : List ℕ) → elastic_text split value plan net ≡ Ok text → IsFlowText split value plan text
  unfolding other
  flows text is =
      let drives : drive_text split value other ≡ Ok text = sym elastic-same ∙ is in
      record {
        other = other;
        same = record { cycles = refl; many = replanned-many plan.streams replay.gaps (replay.many ∙ plans-many); streams = replanned-same plan.streams replay.gaps };
        fits = other-fits;
        drives = drives;
        driven = texts-are split value other text other-may drives;
      }
    where
      plans-many : length runs ≡ length plan.streams
      plans-many = sym runs-many ∙ many-plans plan.cycles split.streams plan.streams may.drive.plan_fits.each

pub texts-flow : ElasticTextsAreDriven
texts-flow split value plan net text may is = by_runs (runs_of split value plan.streams) refl is
  where
    by_runs : (r : Result (List StreamRun) Undriven) → runs_of split value plan.streams ≡ r
        → ((r >>= λ rs. unless_left (chains_on rs net) (unfinished_from 0 (left_of_chains (chains_on rs net)))) >>= λ chains. Ok (written_text (trace_of_chains split plan.cycles chains))) ≡ Ok text → IsFlowText split value plan text
    by_runs (Ok runs) made e = flows split value plan net may runs made text is
    by_runs (Err reason) made e = cc

-- ---- where all transfers come to their sinks

left-none : (number : ℕ) (chains : List ChainRun) → ((k : ℕ) (c : ChainRun) → slice_get chains k ≡ Some c → left_of c ≡ 0) → unfinished_from number (left_of_chains chains) ≡ None
left-none number [] all = refl
left-none number (c ∷ chains) all =
    let none : left_of c ≡ 0 = all 0 c refl in
    let test : (left_of c == 0) ≡ true = grind (arith, nat_tests) in
    ap (λ (b : Bool). if b then unfinished_from (suc number) (left_of_chains chains) else Some (NotFinished number (left_of c))) test ∙ left-none (suc number) chains (λ k d there. all (suc k) d there)

pub ready-chains-finish : ReadyChainsFinish
ready-chains-finish split value plan net runs may made ready =
    ap (λ (r : Result (List StreamRun) Undriven). r >>= λ rs. unless_left (chains_on rs net) (unfinished_from 0 (left_of_chains (chains_on rs net)))) made
    ∙ ap (unless_left (chains_on runs net)) (left-none 0 (chains_on runs net) (λ number c there.
    let fits = chain-fits 0 (components_of net.stages) runs net.stages net.orders (omega arith) (net-orders (length split.streams) plan.cycles net may.net_fits) some number c there in
    sinks_finish c.run.params c.run.transfers c.run.gaps c.stages c.orders c.run.ready fits.0 (λ stage less. fits.1 stage 0 less) (ready number c there)))
  where
    some : (number : ℕ) (one : List ℕ) → slice_get net.stages number ≡ Some one → All (λ capacity. 1 ≤ capacity) one
    some number one there =
        let within = slice_get_within net.stages number one there in
        let are : AreStages one = subst AreStages (get_or_from_slice_get net.stages number one one there) (All-get_or AreStages net.stages number one within may.net_fits.stages) in
        λ k d less. (are.capacities k d less).0
