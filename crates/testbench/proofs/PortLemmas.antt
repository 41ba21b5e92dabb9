-- The bench of a port keeps the laws of driving benches.
use Rattle.std.proofs.Common.{◌≡◌, ℕ, zero, suc, ◌≤◌, Bool, true, false, ltb, if◌then◌else◌, List, [], ◌∷◌, length, slice_get, slice_index, Some, refl, sym, ap, subst, arith}
use Rattle.std.specs.List.{All}
use Rattle.std.proofs.Math.ListN.{get_or-eq_default}
use Rattle.std.proofs.lemmas.Bool.Decides.{nat_tests}
use Rattle.std.proofs.lemmas.List.Elements.{All-cons, All-nil}
use Rattle.physical_stream.specs.declared.transfer.Transfer.{Transfer}
use Rattle.handshake.specs.Run.{gap_of}
use Rattle.type_split.specs.declared.split.Phys.{Phys}
use Rattle.plan_text.specs.declared.plan.StreamPlan.{StreamPlan}
use Rattle.plan_text.specs.Laws.{FitEach}
use Rattle.plan_text.specs.Words.{most_cycles}
use Rattle.vhdl_text.specs.WellFormed.{AreHeads}
use Rattle.testbench.specs.Driving.{AreShown, Driven}
use Rattle.testbench.specs.Given.{FitLists, ShowLists, driven_by, head_of}
use Rattle.testbench.specs.Laws.{AreShort}
use Rattle.testbench.specs.PortLaws.{PortBenchesAreWellFormed, PortBenchesRun}
use Rattle.testbench.proofs.DrivingLemmas.{driving_runs}
use Rattle.testbench.proofs.MakingLemmas.{heads-driven, lists-long, plans-long}
use Rattle.testbench.proofs.WellLemmas.{driving_is_well_formed}

-- transfers that the streams can show are as wide as their streams
pub shown-fit : (streams : List Phys) (lists : List (List Transfer)) → ShowLists streams lists → FitLists streams lists
shown-fit [] [] show = show
shown-fit [] (transfers ∷ lists) show = absurd show
shown-fit (stream ∷ streams) [] show = absurd show
shown-fit (stream ∷ streams) (transfers ∷ lists) show = (λ k d less. (show.0 k d less).fits, shown-fit streams lists show.1)

driven-shown : (streams : List Phys) (lists : List (List Transfer)) (plans : List StreamPlan) → ShowLists streams lists → All AreShown (driven_by streams lists plans)
driven-shown [] lists plans show = All-nil AreShown
driven-shown (stream ∷ streams) [] plans show = All-nil AreShown
driven-shown (stream ∷ streams) (transfers ∷ lists) [] show = All-nil AreShown
driven-shown (stream ∷ streams) (transfers ∷ lists) (plan ∷ plans) show =
    All-cons AreShown (record { head = head_of stream; transfers = transfers; gaps = plan.gaps }) (driven_by streams lists plans) show.0 (driven-shown streams lists plans show.1)

driven-long : (streams : List Phys) (lists : List (List Transfer)) (plans : List StreamPlan) → length lists ≡ length streams → length plans ≡ length streams
    → length (driven_by streams lists plans) ≡ length streams
driven-long [] lists plans lists_long plans_long = refl
driven-long (stream ∷ streams) [] plans lists_long plans_long = cc
driven-long (stream ∷ streams) (transfers ∷ lists) [] lists_long plans_long = cc
driven-long (stream ∷ streams) (transfers ∷ lists) (plan ∷ plans) lists_long plans_long = ap suc (driven-long streams lists plans (omega (arith, lists_long)) (omega (arith, plans_long)))

driven-there : (streams : List Phys) (lists : List (List Transfer)) (plans : List StreamPlan) (number : ℕ) (stream : Phys) (transfers : List Transfer) (plan : StreamPlan)
    → slice_get streams number ≡ Some stream → slice_get lists number ≡ Some transfers → slice_get plans number ≡ Some plan
    → slice_get (driven_by streams lists plans) number ≡ Some (record { head = head_of stream; transfers = transfers; gaps = plan.gaps })
driven-there [] lists plans number stream transfers plan one two three = cc
driven-there (s ∷ streams) [] plans number stream transfers plan one two three = cc
driven-there (s ∷ streams) (ts ∷ lists) [] number stream transfers plan one two three = cc
driven-there (s ∷ streams) (ts ∷ lists) (p ∷ plans) zero stream transfers plan one two three =
    let s_is : s ≡ stream = cc in
    let ts_is : ts ≡ transfers = cc in
    let p_is : p ≡ plan = cc in
    rw (s_is, ts_is, p_is) refl
driven-there (s ∷ streams) (ts ∷ lists) (p ∷ plans) (suc number) stream transfers plan one two three = driven-there streams lists plans number stream transfers plan one two three

-- ---- gaps

short-in : (gaps : List ℕ) (number : ℕ) → All (λ gap. gap ≤ most_cycles) gaps → slice_index gaps number ≤ 1000000
short-in gaps number all = by (ltb number (length gaps)) refl
  where
    by : (test : Bool) → ltb number (length gaps) ≡ test → slice_index gaps number ≤ 1000000
    by true is = all number 0 (grind (arith, nat_tests))
    by false is = let over : length gaps ≤ number = grind (arith, nat_tests) in omega (arith, get_or-eq_default gaps 0 over)

short-where : (test : Bool) (gap : ℕ) → gap ≤ 1000000 → (if test then gap else 0) ≤ 1000000
short-where true gap short = short
short-where false gap short = omega arith

driven-short : (cycles : ℕ) (streams : List Phys) (lists : List (List Transfer)) (plans : List StreamPlan) → FitEach cycles streams plans → AreShort (driven_by streams lists plans)
driven-short cycles [] lists plans fit at d there number = cc
driven-short cycles (stream ∷ streams) [] plans fit at d there number = cc
driven-short cycles (stream ∷ streams) (transfers ∷ lists) [] fit at d there number = cc
driven-short cycles (stream ∷ streams) (transfers ∷ lists) (plan ∷ plans) fit zero d there number =
    let one : record { head = head_of stream; transfers = transfers; gaps = plan.gaps } ≡ d = cc in
    subst (λ (x : Driven). gap_of x.head.params x.transfers x.gaps number ≤ 1000000) one (short-where _ (slice_index plan.gaps number) (short-in plan.gaps number fit.0.gaps))
driven-short cycles (stream ∷ streams) (transfers ∷ lists) (plan ∷ plans) fit (suc at) d there number = driven-short cycles streams lists plans fit.1 at d there number

-- ---- the laws

pub port_benches_run : PortBenchesRun
port_benches_run streams lists plan show fit edges number stream transfers one orders there list_there plan_there =
    let long = driven-long streams lists plan.streams (lists-long streams lists (shown-fit streams lists show)) (plans-long plan.cycles streams plan.streams fit.each) in
    driving_runs (driven_by streams lists plan.streams) edges number (record { head = head_of stream; transfers = transfers; gaps = one.gaps })
    (driven-shown streams lists plan.streams show) (rw long orders) (driven-there streams lists plan.streams number stream transfers one there list_there plan_there)

pub port_benches_are_well_formed : PortBenchesAreWellFormed
port_benches_are_well_formed streams lists plan heads show fit =
    let same = heads-driven streams lists plan.streams (lists-long streams lists (shown-fit streams lists show)) (plans-long plan.cycles streams plan.streams fit.each) in
    driving_is_well_formed (driven_by streams lists plan.streams) (subst AreHeads (sym same) heads) (driven-shown streams lists plan.streams show)
    (driven-short plan.cycles streams lists plan.streams fit.each)
