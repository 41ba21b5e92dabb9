-- The streams of ports whose types are one, levels aside: their paths, and their heads at both ends.
use Rattle.std.proofs.Common.{◌≡◌, ◌∙◌, ℕ, suc, Bool, true, false, List, [], ◌∷◌, map, Option, Some, refl, sym, ap, if◌then◌else◌}
use Rattle.std.specs.List.{list_any, slice_get}
use Rattle.tydi_base.specs.Level.{LevelNumbers}
use Rattle.physical_stream.specs.Levels.{at_level}
use Rattle.physical_stream.specs.Params.{Parameters}
use Rattle.physical_stream.specs.declared.head.Head.{Head}
use Rattle.logical_types.specs.Tree.{Ltype}
use Rattle.type_split.specs.Streams.{PlainSplit, clash_from, is_same_path, streams_of}
use Rattle.type_split.specs.declared.split.Phys.{Phys}
use Rattle.link_check.specs.Carry.{head_from, head_of_stream, head_to, heads_from, heads_of_port, heads_to}
use Rattle.link_check.specs.Compatible.{Compatible}
use Rattle.carried_values.specs.Laws.{CompatiblePortsClash, HaveOneLevelBack}
use Rattle.carried_values.specs.WithoutLevels.{one_level, without_levels}
use Rattle.carried_values.proofs.CompatibleLemmas.{types_are_one}
use Rattle.carried_values.proofs.SeriesLemmas.{phys_without, split-stays}

-- the streams of both types, levels aside
pub same-streams : (source sink : Ltype) → without_levels source ≡ without_levels sink
    → map phys_without (streams_of source) ≡ map phys_without (streams_of sink)
same-streams source sink same =
    ap (λ (s : PlainSplit). s.streams) (sym (split-stays source)) ∙ ap (λ (l : Ltype). streams_of l) same
    ∙ ap (λ (s : PlainSplit). s.streams) (split-stays sink)

first-inside : {A : Type 0} (one other : A) (more others : List A) → ◌≡◌ {A = List A} (one ∷ more) (other ∷ others) → one ≡ other
first-inside one other more others same = cc

rest-inside : {A : Type 0} (one other : A) (more others : List A) → ◌≡◌ {A = List A} (one ∷ more) (other ∷ others) → more ≡ others
rest-inside one other more others same = cc

-- ---- clashes

clash-stays : (before : List (List (List ℕ))) (streams : List Phys) → clash_from before (map phys_without streams) ≡ clash_from before streams
clash-stays before [] = refl
clash-stays before (one ∷ more) = ap (λ (o : Option (List (List ℕ))). if list_any (is_same_path one.path) before then Some one.path else o)
    (clash-stays (one.path ∷ before) more)

pub ports_clash : CompatiblePortsClash
ports_clash source sink compatible =
    sym (clash-stays [] (streams_of sink)) ∙ ap (clash_from []) (sym (same-streams source sink (types_are_one false source sink compatible)))
    ∙ clash-stays [] (streams_of source)

-- ---- heads where the streams that flow back have one level

-- parameters that are one, levels aside, are one where their levels are
same-params : (one other : Parameters) → at_level one_level one ≡ at_level one_level other → one.level ≡ other.level → one ≡ other
same-params one other same level = ap (at_level one.level) same ∙ ap (λ (l : LevelNumbers). at_level l (at_level one_level other)) level

head_with : List (List ℕ) → Parameters → Bool → Head
head_with path params reversed = record { path = path; params = params; reversed = reversed }

-- and so are the heads of two streams
same-head : (one other : Phys) → phys_without one ≡ phys_without other → one.params.level ≡ other.params.level → head_of_stream one ≡ head_of_stream other
unfolding head_with
same-head one other same level =
    ap (λ (p : List (List ℕ)). head_with p one.params one.reversed) (ap (λ (p : Phys). p.path) same)
    ∙ ap (λ (p : Parameters). head_with other.path p one.reversed) (same-params one.params other.params (ap (λ (p : Phys). p.params) same) level)
    ∙ ap (head_with other.path other.params) (ap (λ (p : Phys). p.reversed) same)

-- the head where the data comes from is the source's, and the one where it arrives is the sink's
ends-are : (one other : Phys) → phys_without one ≡ phys_without other → (one.reversed ≡ true → one.params.level ≡ other.params.level)
    → (head_from (head_of_stream one) (head_of_stream other) ≡ head_of_stream one) × (head_to (head_of_stream one) (head_of_stream other) ≡ head_of_stream
    other)
ends-are one other same level = by one.reversed refl
  where
    by : (reversed : Bool) → one.reversed ≡ reversed
        → ((if reversed then head_of_stream other else head_of_stream one) ≡ head_of_stream one) ×
        ((if reversed then head_of_stream one else head_of_stream other) ≡ head_of_stream other)
    by false is = (refl, refl)
    by true is = let heads = same-head one other same (level is) in (sym heads, heads)

pub heads-are : (source sink : List Phys) → map phys_without source ≡ map phys_without sink
    → ((stream : ℕ) (one other : Head) → slice_get (map head_of_stream source) stream ≡ Some one → slice_get (map head_of_stream sink) stream ≡ Some other
    → one.reversed ≡ true → one.params.level ≡ other.params.level)
    → (heads_from (map head_of_stream source) (map head_of_stream sink) ≡ map head_of_stream source) ×
    (heads_to (map head_of_stream source) (map head_of_stream sink) ≡ map head_of_stream sink)
heads-are [] [] same level = (refl, refl)
heads-are [] (other ∷ others) same level = absurd cc
heads-are (one ∷ more) [] same level = absurd cc
heads-are (one ∷ more) (other ∷ others) same level =
    let first = ends-are one other (first-inside (phys_without one) (phys_without other) (map phys_without more) (map phys_without others) same)
    (level 0 (head_of_stream one) (head_of_stream other) refl refl) in
    let rest = heads-are more others (rest-inside (phys_without one) (phys_without other) (map phys_without more) (map phys_without others) same)
    (λ stream a b here there back. level (suc stream) a b here there back) in (
      ap (λ (h : Head). h ∷ heads_from (map head_of_stream more) (map head_of_stream others)) first.0 ∙ ap (λ (l : List Head). head_of_stream one ∷ l) rest.0,
      ap (λ (h : Head). h ∷ heads_to (map head_of_stream more) (map head_of_stream others)) first.1 ∙ ap (λ (l : List Head). head_of_stream other ∷ l) rest.1,
    )

pub port-heads : (source sink : Ltype) → Compatible false source sink → HaveOneLevelBack source sink
    → (heads_from (heads_of_port source) (heads_of_port sink) ≡ heads_of_port source) × (heads_to (heads_of_port source) (heads_of_port sink) ≡ heads_of_port
    sink)
port-heads source sink compatible level = heads-are (streams_of source) (streams_of sink) (same-streams source sink
    (types_are_one false source sink compatible)) level
