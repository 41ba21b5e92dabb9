-- Values of types in which no Stream stands: there is nothing to fill in them.
use Rattle.std.proofs.Common.{◌≡◌, ◌∙◌, ℕ, zero, suc, ◌+◌, List, [], ◌∷◌, map, refl, sym, ap, arith}
use Rattle.std.specs.List.{filter_map, flat_map}
use Rattle.logical_types.specs.Tree.{Ltype, Parts}
use Rattle.logical_types.specs.Tree as types
use Rattle.type_split.specs.Nodes.{number_of_streams, streams_in_parts}
use Rattle.logical_value.specs.Element.{set_apart, set_all_apart, set_variant_apart}
use Rattle.logical_value.specs.Tree.{Tree, null, word, group, union, list, apart, Trees, no_trees, tree, members}
use Rattle.value_views.specs.Series.{first_part, listed, other_parts}
use Rattle.value_views.specs.Shown.{AreNests}
use Rattle.value_views.specs.Taking.{IsTaken, NestsWait, Takes, TakeParts, Waits}
use Rattle.value_views.specs.Words.{in_nest}
use Rattle.value_views.proofs.NestLemmas.{nests-append}

-- nothing in them is set apart
mutual
  set_apart-same : (ltype : Ltype) (value : Tree) → number_of_streams ltype ≡ 0 → set_apart ltype value ≡ value
  set_apart-same types.null value none = refl
  set_apart-same (types.bits width) value none = refl
  set_apart-same (types.group parts) (group values) none = ap group (set_all_apart-same parts values none)
  set_apart-same (types.group parts) null none = refl
  set_apart-same (types.group parts) (word bits) none = refl
  set_apart-same (types.group parts) (union tag value) none = refl
  set_apart-same (types.group parts) (list values) none = refl
  set_apart-same (types.group parts) apart none = refl
  set_apart-same (types.union parts) (union tag value) none = ap (union tag) (set_variant_apart-same parts tag value none)
  set_apart-same (types.union parts) null none = refl
  set_apart-same (types.union parts) (word bits) none = refl
  set_apart-same (types.union parts) (group values) none = refl
  set_apart-same (types.union parts) (list values) none = refl
  set_apart-same (types.union parts) apart none = refl
  set_apart-same (types.stream element user settings) value none = absurd (omega (arith, none))

  set_all_apart-same : (parts : Parts) (values : Trees) → streams_in_parts parts ≡ 0 → set_all_apart parts values ≡ values
  set_all_apart-same types.no_parts values none = refl
  set_all_apart-same (types.part name ltype more) no_trees none = refl
  set_all_apart-same (types.part name ltype more) (tree value others) none =
      ap (λ (v : Tree). tree v (set_all_apart more others)) (set_apart-same ltype value (omega (arith, none)))
      ∙ ap (tree value) (set_all_apart-same more others (omega (arith, none)))

  set_variant_apart-same : (parts : Parts) (tag : ℕ) (value : Tree) → streams_in_parts parts ≡ 0 → set_variant_apart parts tag value ≡ value
  set_variant_apart-same types.no_parts tag value none = refl
  set_variant_apart-same (types.part name ltype more) zero value none = set_apart-same ltype value (omega (arith, none))
  set_variant_apart-same (types.part name ltype more) (suc tag) value none = set_variant_apart-same more tag value (omega (arith, none))

-- nests stay as they are where their leaves do
in_nest-same : (f : Tree → Tree) → ((value : Tree) → f value ≡ value) → (depth : ℕ) (series : List Tree) → AreNests depth series → map (in_nest f depth) series ≡ series
in_nest-same f same zero [] nested = refl
in_nest-same f same zero (value ∷ series) nested =
    ap (λ (v : Tree). v ∷ map f series) (same value) ∙ ap (λ (l : List Tree). value ∷ l) (in_nest-same f same zero series tt)
in_nest-same f same (suc depth) [] nested = refl
in_nest-same f same (suc depth) (value ∷ series) nested =
    let inner = nests-append depth (members value) (flat_map members series) nested.1 in
    ap (λ (v : Tree). v ∷ map (in_nest f (suc depth)) series) (ap listed (in_nest-same f same depth (members value) inner.0) ∙ nested.0.0)
    ∙ ap (λ (l : List Tree). value ∷ l) (in_nest-same f same (suc depth) series (nested.0.1, inner.1))

-- they take nothing from the queues
mutual
  takes-nothing : (queues : ℕ → List Tree) (number : ℕ) (ltype : Ltype) (values : List Tree) → number_of_streams ltype ≡ 0 → Takes queues number ltype values
  takes-nothing queues number types.null values none = tt
  takes-nothing queues number (types.bits width) values none = tt
  takes-nothing queues number (types.group parts) values none = parts-take_nothing queues number parts values none
  takes-nothing queues number (types.union parts) values none = parts-take_nothing queues number parts values none
  takes-nothing queues number (types.stream element user settings) values none = absurd (omega (arith, none))

  parts-take_nothing : (queues : ℕ → List Tree) (number : ℕ) (parts : Parts) (values : List Tree) → streams_in_parts parts ≡ 0 → TakeParts queues number parts values
  parts-take_nothing queues number types.no_parts values none = tt
  parts-take_nothing queues number (types.part name ltype more) values none = (
    takes-nothing queues number ltype (filter_map first_part values) (omega (arith, none)),
    parts-take_nothing queues (number_of_streams ltype + number) more (filter_map other_parts values) (omega (arith, none)),
  )

-- a value that waits and has no Stream is filled
pub nothing-filled : (queues : ℕ → List Tree) (number : ℕ) (ltype : Ltype) (one value : Tree) (more : List Tree) → number_of_streams ltype ≡ 0 → Waits queues number ltype one value more
    → (one ≡ value) × IsTaken queues queues number ltype more
nothing-filled queues number ltype one value more none waits =
    (sym waits.same ∙ set_apart-same ltype value none, record { takes = takes-nothing queues number ltype more none; kept = λ k outside. refl })

-- nests that wait and whose leaves have no Stream are filled
pub nests-filled : (queues : ℕ → List Tree) (number : ℕ) (ltype : Ltype) (depth : ℕ) (plains some more : List Tree) → number_of_streams ltype ≡ 0
    → NestsWait queues number ltype depth plains some more → (plains ≡ some) × IsTaken queues queues number ltype more
nests-filled queues number ltype depth plains some more none waits = (
  sym waits.same ∙ in_nest-same (set_apart ltype) (λ value. set_apart-same ltype value none) depth some waits.nested,
  record { takes = takes-nothing queues number ltype more none; kept = λ k outside. refl },
)
