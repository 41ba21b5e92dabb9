-- Facts that ranks show about a graph.
use Rattle.std.proofs.Common.{◌≡◌, ℕ, ◌<◌, ◌≤◌, List, [], ◌∷◌, length, get_or, Contains, sym, subst, arith}
use Rattle.std.proofs.lemmas.List.{get_or_read}
use Rattle.std.proofs.lemmas.List.Elements.{Contains-get_or}
use Rattle.til_resolve.specs.Cycles.{ByWay, LeadsTo}
use Rattle.til_resolve.specs.Graph.{targets_of, Leads, Falls, NeverRises, rank_of}

pub Falls-from : (ranks : List ℕ) (graph : List (List ℕ)) (one : ℕ) (targets : List ℕ) (rank : ℕ) → targets ≡ targets_of graph one → rank ≡ rank_of ranks one
    → ((k : ℕ) → k < length targets → rank_of ranks (get_or targets k 0) < rank) → Falls ranks graph one
Falls-from ranks graph one targets rank same is falls = λ other step. by other (subst (λ (l : List ℕ). Contains l other) (sym same) step)
  where
    by : (other : ℕ) → Contains targets other → rank_of ranks other < rank_of ranks one
    by other there =
        let value : other ≡ get_or targets there.0 0 = get_or_read targets there.0 other there.1 (sym there.2) 0 in
        subst (λ n. rank_of ranks n < rank_of ranks one) (sym value) (subst (λ r. rank_of ranks (get_or targets there.0 0) < r) is (falls there.0 there.1))

-- each target of a number is led to
leads_at : (graph : List (List ℕ)) (one : ℕ) (targets : List ℕ) → targets ≡ targets_of graph one → (k : ℕ) → k < length targets → Leads graph one (get_or targets k 0)
leads_at graph one targets same k within = subst (λ (l : List ℕ). Contains l (get_or targets k 0)) same (Contains-get_or targets k 0 within)

pub Falls-at : (ranks : List ℕ) (graph : List (List ℕ)) (one : ℕ) (targets : List ℕ) (rank : ℕ) → targets ≡ targets_of graph one → rank ≡ rank_of ranks one
    → Falls ranks graph one → (k : ℕ) → k < length targets → rank_of ranks (get_or targets k 0) < rank
Falls-at ranks graph one targets rank same is falls k within = omega (arith, is, falls (get_or targets k 0) (leads_at graph one targets same k within))

pub NeverRises-at : (ranks : List ℕ) (graph : List (List ℕ)) (one : ℕ) (targets : List ℕ) (rank : ℕ) → targets ≡ targets_of graph one → rank ≡ rank_of ranks one
    → NeverRises ranks graph → (k : ℕ) → k < length targets → rank_of ranks (get_or targets k 0) ≤ rank
NeverRises-at ranks graph one targets rank same is rises k within = omega (arith, is, rises one (get_or targets k 0) (leads_at graph one targets same k within))

lower : (ranks : List ℕ) (graph : List (List ℕ)) → NeverRises ranks graph → (from to : ℕ) (way : List ℕ) → ByWay (Leads graph) from way to → rank_of ranks to ≤ rank_of ranks from
lower ranks graph rises from to [] step = rises from to step
lower ranks graph rises from to (next ∷ more) step = omega (arith, rises from next step.0, lower ranks graph rises next to more step.1)

pub acyclic : (ranks : List ℕ) (graph : List (List ℕ)) (one : ℕ) → NeverRises ranks graph → Falls ranks graph one → ¬ LeadsTo (Leads graph) one one
acyclic ranks graph one rises falls way = by way.0 way.1
  where
    by : (ways : List ℕ) → ByWay (Leads graph) one ways one → ⊥
    by [] step = omega (arith, falls one step)
    by (next ∷ more) step = omega (arith, falls next step.0, lower ranks graph rises next one more step.1)
