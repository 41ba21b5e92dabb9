-- A plan with other gaps.
use Rattle.std.proofs.Common.{◌≡◌, ◌∙◌, ℕ, zero, suc, ◌≤◌, Bool, if◌then◌else◌, List, [], ◌∷◌, length, slice_get, Some, Result, Ok, Err, refl, sym, ap, subst, arith}
use Rattle.std.specs.List.{All}
use Rattle.tydi_base.specs.Reading.{◌>>=◌}
use Rattle.tydi_base.proofs.ReadingLaws.{bind_ok, bind-at_ok, ok_is}
use Rattle.tydi_base.proofs.TestLemmas.{kept}
use Rattle.physical_stream.specs.Params.{Parameters}
use Rattle.physical_stream.specs.declared.item.Item.{Item}
use Rattle.logical_value.specs.Tree.{Tree}
use Rattle.type_split.specs.Streams.{PlainSplit}
use Rattle.type_split.specs.declared.split.Phys.{Phys}
use Rattle.plan_text.specs.Laws.{FitEach}
use Rattle.plan_text.specs.Words.{most_cycles}
use Rattle.plan_text.specs.declared.plan.StreamPlan.{StreamPlan}
use Rattle.handshake.specs.Rows.{StreamRun}
use Rattle.port_drive.specs.Drives.{CountNotMultiple, Undriven, is_multiple, items_on, planned_run, run_unless, runs_from}
use Rattle.port_elastic.specs.Laws.{SameButGaps}
use Rattle.port_elastic.proofs.SinkLemmas.{regap, regapped}

-- a plan of a stream with these gaps
abbrev pub with_gaps : StreamPlan → List ℕ → StreamPlan
with_gaps plan gaps = record { gaps = gaps; ready = plan.ready; wishes = plan.wishes; users = plan.users }

-- plans with these gaps
abbrev pub replanned : List StreamPlan → List (List ℕ) → List StreamPlan
replanned [] gaps = []
replanned (plan ∷ plans) [] = []
replanned (plan ∷ plans) (one ∷ gaps) = with_gaps plan one ∷ replanned plans gaps

pub replanned-many : (plans : List StreamPlan) (gaps : List (List ℕ)) → length gaps ≡ length plans → length (replanned plans gaps) ≡ length plans
replanned-many [] gaps same = refl
replanned-many (plan ∷ plans) [] same = absurd (omega (arith, same))
replanned-many (plan ∷ plans) (one ∷ gaps) same = ap suc (replanned-many plans gaps (omega (arith, same)))

pub replanned-same : (plans : List StreamPlan) (gaps : List (List ℕ)) (number : ℕ) (first second : StreamPlan) → slice_get plans number ≡ Some first → slice_get (replanned plans gaps) number ≡ Some second → SameButGaps first second
replanned-same [] gaps number first second one other = cc
replanned-same (plan ∷ plans) [] number first second one other = cc
replanned-same (plan ∷ plans) (these ∷ gaps) zero first second one other =
    let is_first : plan ≡ first = cc in
    let is_second : with_gaps plan these ≡ second = cc in
    subst (λ (s : StreamPlan). SameButGaps first s) is_second (subst (λ (f : StreamPlan). SameButGaps f (with_gaps plan these)) is_first (record { ready = refl; wishes = refl; users = refl }))
replanned-same (plan ∷ plans) (these ∷ gaps) (suc number) first second one other = replanned-same plans gaps number first second one other

-- plans with such gaps fit where the plans do
pub replanned-fit : (cycles : ℕ) (streams : List Phys) (plans : List StreamPlan) (gaps : List (List ℕ)) → cycles ≤ most_cycles → length gaps ≡ length streams
    → ((number : ℕ) (one : List ℕ) → slice_get gaps number ≡ Some one → All (λ gap. gap ≤ cycles) one) → FitEach cycles streams plans → FitEach cycles streams (replanned plans gaps)
replanned-fit cycles [] [] gaps most same few fit = tt
replanned-fit cycles [] (plan ∷ plans) gaps most same few fit = absurd fit
replanned-fit cycles (stream ∷ streams) [] gaps most same few fit = absurd fit
replanned-fit cycles (stream ∷ streams) (plan ∷ plans) [] most same few fit = absurd (omega (arith, same))
replanned-fit cycles (stream ∷ streams) (plan ∷ plans) (one ∷ gaps) most same few fit =
    let fits = fit.0 in (
      record { gaps = λ k d less. let f = few 0 one refl k d less in omega (arith, f, most); ready = fits.ready; wishes = fits.wishes; users = fits.users },
      replanned-fit cycles streams plans gaps most (omega (arith, same)) (λ number these there. few (suc number) these there) fit.1,
    )

-- ---- the runs that they make

unless-regapped : (number : ℕ) (p : Parameters) (items : List Item) (plan : StreamPlan) (gaps : List ℕ) (run : StreamRun) → run_unless number p items plan ≡ Ok run → run_unless number p items (with_gaps plan gaps) ≡ Ok (regap run gaps)
unless-regapped number p items plan gaps run is =
    let both = kept (is_multiple p items) (Ok (planned_run p items plan)) (CountNotMultiple number (length items) p.lanes) run is in
    let same : planned_run p items plan ≡ run = ok_is (planned_run p items plan) run both.1 in
    ap (λ (b : Bool). if b then Ok (planned_run p items (with_gaps plan gaps)) else Err (CountNotMultiple number (length items) p.lanes)) both.0
    ∙ ap (λ (r : StreamRun). Ok (regap r gaps)) same

pub runs-regapped : (split : PlainSplit) (value : List (List Tree)) (number : ℕ) (streams : List Phys) (plans : List StreamPlan) (gaps : List (List ℕ)) (runs : List StreamRun) → length gaps ≡ length runs
    → runs_from split value number streams plans ≡ Ok runs → runs_from split value number streams (replanned plans gaps) ≡ Ok (regapped runs gaps)
runs-regapped split value number [] plans gaps runs same made =
    let none : runs ≡ [] = sym (ok_is [] runs made) in
    subst (λ (l : List StreamRun). ◌≡◌ {A = Result (List StreamRun) Undriven} (Ok []) (Ok (regapped l gaps))) (sym none) refl
runs-regapped split value number (stream ∷ streams) [] gaps runs same made =
    let none : runs ≡ [] = sym (ok_is [] runs made) in
    subst (λ (l : List StreamRun). ◌≡◌ {A = Result (List StreamRun) Undriven} (Ok []) (Ok (regapped l gaps))) (sym none) refl
runs-regapped split value number (stream ∷ streams) (plan ∷ plans) gaps runs same made =
    let (run, first, rest) = bind_ok (run_unless number stream.params (items_on split value number stream) plan) _ runs made in
    let (more, later, end) = bind_ok (runs_from split value (suc number) streams plans) _ runs rest in
    let is : run ∷ more ≡ runs = ok_is (run ∷ more) runs end in
    with_gaps_of gaps run more is (omega (arith, same, ap length is)) first (λ these left. runs-regapped split value (suc number) streams plans these more left later)
  where
    with_gaps_of : (all : List (List ℕ)) (run : StreamRun) (more : List StreamRun) → run ∷ more ≡ runs → length all ≡ suc (length more) → run_unless number stream.params (items_on split value number stream) plan ≡ Ok run
        → ((these : List (List ℕ)) → length these ≡ length more → runs_from split value (suc number) streams (replanned plans these) ≡ Ok (regapped more these))
        → runs_from split value number (stream ∷ streams) (replanned (plan ∷ plans) all) ≡ Ok (regapped runs all)
    with_gaps_of [] run more is same first later = absurd (omega (arith, same))
    with_gaps_of (one ∷ left) run more is same first later =
        bind-at_ok (run_unless number stream.params (items_on split value number stream) (with_gaps plan one)) (λ r. runs_from split value (suc number) streams (replanned plans left) >>= λ rs. Ok (r ∷ rs)) (regap run one)
        (unless-regapped number stream.params (items_on split value number stream) plan one run first)
        ∙ bind-at_ok (runs_from split value (suc number) streams (replanned plans left)) (λ rs. Ok (regap run one ∷ rs)) (regapped more left) (later left (omega (arith, same)))
        ∙ ap (λ (l : List StreamRun). Ok (regapped l (one ∷ left))) is
