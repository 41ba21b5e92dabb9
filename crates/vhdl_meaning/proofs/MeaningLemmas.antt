-- The meaning under one edge more.
use Rattle.std.proofs.Common.{◌≡◌, suc, List, [], ◌∷◌, ◌++◌, length, refl, ap}
use Rattle.vhdl_meaning.specs.Meaning.{Edge, Standing, started, after_edge, after_edges, rows_from}
use Rattle.vhdl_meaning.specs.Laws.{MeaningGoesOn}

pub length-rows_from : (now : Standing) (edges : List Edge) → length (rows_from now edges) ≡ length edges
length-rows_from now [] = refl
length-rows_from now (edge ∷ edges) = ap suc (length-rows_from (after_edge edge now) edges)

pub after-more : (edges : List Edge) (edge : Edge) (now : Standing) → after_edges (edges ++ edge ∷ []) now ≡ after_edge edge (after_edges edges now)
after-more [] edge now = refl
after-more (e ∷ edges) edge now = after-more edges edge (after_edge e now)

pub rows-more : (edges : List Edge) (edge : Edge) (now : Standing) →
    rows_from now (edges ++ edge ∷ []) ≡ rows_from now edges ++ record { values = (after_edges edges now).values; ready = edge.ready } ∷ []
rows-more [] edge now = refl
rows-more (e ∷ edges) edge now = ap (λ l. record { values = now.values; ready = e.ready } ∷ l) (rows-more edges edge (after_edge e now))

pub meaning_goes_on : MeaningGoesOn
meaning_goes_on bench edges edge = rows-more edges edge (started bench)
