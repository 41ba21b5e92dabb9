-- The moments of a bench under the inputs of a run, by their numbers.
use Rattle.std.proofs.Common.{◌≡◌, ◌∙◌, ℕ, zero, suc, ◌+◌, ◌<◌, Bool, false, List, [], ◌∷◌, ◌++◌, length, map, get_or, slice_get, Some, refl, sym, ap, subst, arith}
use Rattle.std.proofs.lemmas.List.{get_or-map}
use Rattle.vhdl_text.specs.WellFormed.{IsWellFormed}
use Rattle.vhdl_text.specs.declared.bench.Bench.{Bench}
use Rattle.vhdl_meaning.specs.Laws.{AreOrders, ready_of}
use Rattle.vhdl_meaning.specs.Meaning.{Edge, IsOrder, Moment, Standing, started, after_edge, after_edges, rows_from, meaning}
use Rattle.vhdl_meaning.specs.RunLaws.{FitsBench}
use Rattle.vhdl_meaning.specs.declared.run.SimRun.{SimRun}
use Rattle.vhdl_meaning.proofs.MeaningLemmas.{length-rows_from}
use Rattle.vhdl_meaning.proofs.OrderLemmas.{benches_are_confluent}
use Rattle.bench_run.specs.Traces.{edge_at, edges_from, edges_of}

-- ---- the inputs

pub length-edges : (run : SimRun) (first many : ℕ) → length (edges_from run first many) ≡ many
length-edges run first zero = refl
length-edges run first (suc many) = ap suc (length-edges run (suc first) many)

pub edges-more : (run : SimRun) (first many : ℕ) → edges_from run first many ++ edge_at run (first + many) ∷ [] ≡ edges_from run first (suc many)
edges-more run first zero = let e : first + 0 ≡ first = omega arith in ap (λ n. edge_at run n ∷ []) e
edges-more run first (suc many) =
    let e : first + suc many ≡ suc first + many = omega arith in
    ap (λ n. edge_at run first ∷ (edges_from run (suc first) many ++ edge_at run n ∷ [])) e
    ∙ ap (λ (l : List Edge). edge_at run first ∷ l) (edges-more run (suc first) many)

-- the inputs of the cycles before this one, and then those of this one
pub edges-next : (run : SimRun) (number : ℕ) → edges_from run 0 number ++ edge_at run number ∷ [] ≡ edges_from run 0 (suc number)
edges-next run number = let e : number ≡ 0 + number = omega arith in ap (λ n. edges_from run 0 number ++ edge_at run n ∷ []) e ∙ edges-more run 0 number

edge-there : (run : SimRun) (first many k : ℕ) (d : Edge) → k < many → get_or (edges_from run first many) k d ≡ edge_at run (first + k)
edge-there run first zero k d less = absurd (omega (arith, less))
edge-there run first (suc many) zero d less = let e : first ≡ first + 0 = omega arith in ap (edge_at run) e
edge-there run first (suc many) (suc k) d less = let e : suc first + k ≡ first + suc k = omega arith in edge-there run (suc first) many k d (omega (arith, less)) ∙ ap (edge_at run) e

pub are-orders : (bench : Bench) (run : SimRun) → FitsBench bench run → AreOrders (length bench.procs) (edges_of run)
are-orders bench run fits k d less =
    let below : k < run.cycles = let l = length-edges run 0 run.cycles in omega (arith, less, l) in
    let first : 0 + k ≡ k = omega arith in
    subst (λ (edge : Edge). IsOrder (length bench.procs) edge.order) (sym (edge-there run 0 run.cycles k d below ∙ ap (edge_at run) first))
    (fits.orders k [] (let l = fits.edges in omega (arith, below, l)))

-- the ready bit of a stream among the inputs
pub bit-is : (run : SimRun) (number stream : ℕ) → stream < length run.ready → get_or (edge_at run number).ready stream false ≡ get_or (get_or run.ready stream []) number false
bit-is run number stream less = get_or-map (λ (bits : List Bool). get_or bits number false) run.ready stream [] false less

-- ---- the moments

-- the moment of the cycle of this number: the values after the edges before it, and its ready bits
abbrev pub moment_at : Bench → SimRun → ℕ → Moment
moment_at bench run number = record { values = (after_edges (edges_from run 0 number) (started bench)).values; ready = (edge_at run number).ready }

abbrev moment_from : Standing → SimRun → (first c : ℕ) → Moment
moment_from now run first c = record { values = (after_edges (edges_from run first c) now).values; ready = (edge_at run (first + c)).ready }

from-there : (c : ℕ) (now : Standing) (run : SimRun) (first many : ℕ) → c < many → slice_get (rows_from now (edges_from run first many)) c ≡ Some (moment_from now run first c)
from-there c now run first zero less = absurd (omega (arith, less))
from-there zero now run first (suc many) less = let e : first ≡ first + 0 = omega arith in ap (λ n. Some (record { values = now.values; ready = (edge_at run n).ready })) e
from-there (suc c) now run first (suc many) less =
    let e : suc first + c ≡ first + suc c = omega arith in
    from-there c (after_edge (edge_at run first) now) run (suc first) many (omega (arith, less))
    ∙ ap (λ n. Some (record { values = (after_edges (edges_from run (suc first) c) (after_edge (edge_at run first) now)).values; ready = (edge_at run n).ready })) e

pub moment-there : (bench : Bench) (run : SimRun) (number many : ℕ) → number < many → slice_get (meaning bench (edges_from run 0 many)) number ≡ Some (moment_at bench run number)
moment-there bench run number many less =
    let e : 0 + number ≡ number = omega arith in
    from-there number (started bench) run 0 many less
    ∙ ap (λ n. Some (record { values = (after_edges (edges_from run 0 number) (started bench)).values; ready = (edge_at run n).ready })) e

pub length-meaning : (bench : Bench) (run : SimRun) → length (meaning bench (edges_of run)) ≡ run.cycles
length-meaning bench run = length-rows_from (started bench) (edges_of run) ∙ length-edges run 0 run.cycles

-- ---- confluence

same-ready : (one other : SimRun) (first many : ℕ) → one.ready ≡ other.ready → ready_of (edges_from one first many) ≡ ready_of (edges_from other first many)
same-ready one other first zero same = refl
same-ready one other first (suc many) same =
    ap (λ (l : List (List Bool)). map (λ (bits : List Bool). get_or bits first false) l ∷ ready_of (edges_from one (suc first) many)) same
    ∙ ap (λ (l : List (List Bool)). (edge_at other first).ready ∷ l) (same-ready one other (suc first) many same)

pub same-meaning : (bench : Bench) (one other : SimRun) → IsWellFormed bench → FitsBench bench one → FitsBench bench other → one.cycles ≡ other.cycles → one.ready ≡ other.ready →
    meaning bench (edges_of one) ≡ meaning bench (edges_of other)
same-meaning bench one other well is_one is_other cycles ready =
    benches_are_confluent bench (edges_of one) (edges_of other) well (are-orders bench one is_one) (are-orders bench other is_other)
    (ap (λ n. ready_of (edges_from one 0 n)) cycles ∙ same-ready one other 0 other.cycles ready)
