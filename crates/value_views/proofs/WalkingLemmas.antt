-- The walk that compares nodes with those around them, part by part.
use Rattle.std.proofs.Common.{◌≡◌, ◌∙◌, ◌<◌, ◌≤◌, ℕ, zero, suc, ◌+◌, ◌-◌, Bool, false, List, [], ◌∷◌, ◌++◌, length, map, get_or, slice_get, Option, Some, None, refl, sym, ap, subst, arith}
use Rattle.std.specs.Prelude.{if◌then◌else◌, Result, Ok, Err, MatchResult, MatchOption, min, ◌^◌}
use Rattle.std.specs.List.{cons_option, filter_map, flat_map}
use Rattle.logical_types.specs.Synchronicity.{is_apart}
use Rattle.logical_types.specs.Tree.{Ltype, Parts, Settings}
use Rattle.logical_types.specs.Tree as types
use Rattle.type_split.specs.Nodes.{StreamNode, is_physical, node_at, nodes_in, number_of_physical, number_of_streams, place_inside, streams_in_parts}
use Rattle.type_split.specs.Standing.{AreFrom}
use Rattle.type_split.specs.Streams.{PlainSplit}
use Rattle.type_split.proofs.StandingLemmas.{AreFrom-inside, AreFrom-part, AreFrom-parts}
use Rattle.logical_types.specs.declared.ltype.Sync.{Sync}
use Rattle.logical_value.specs.Tree.{Tree, members, plain}
use Rattle.logical_value.specs.declared.value.Value.{Value}
use Rattle.value_views.specs.Giving.{plain_series}
use Rattle.value_views.specs.Along.{along, parts_behind}
use Rattle.value_views.specs.Comparing.{Disagreement, disagreements_in, disagreements_in_parts, disagrees_at, packet_of}
use Rattle.value_views.specs.Series.{dims_inside, first_part, listed, other_parts, replaced, series_at}
use Rattle.value_views.specs.Shown.{AreLists, AreNests}
use Rattle.value_views.specs.Walking.{ArePlaced, CanCompare, Compares, IsFirst, IsPlaced}
use Rattle.value_views.specs.Way.{and_then, part_of}
use Rattle.value_views.specs.declared.fault.JoinFault.{JoinFault}
use Rattle.value_views.specs.declared.fault.JoinFault.TheVariants as faults
use Rattle.value_views.proofs.GivenNodeLemmas.{found-within}
use Rattle.value_views.proofs.JoinLemmas.{one-found}
use Rattle.value_views.proofs.NodeLemmas.{dims-are}
use Rattle.value_views.proofs.NestLemmas.{nests-append}
use Rattle.value_views.proofs.SeriesLemmas.{found-front, replaced-twice}

-- ---- leaves replaced alike

filtered-same : (f g : Tree → Option Tree) → ((v : Tree) → f v ≡ g v) → (l : List Tree) → filter_map f l ≡ filter_map g l
filtered-same f g same [] = refl
filtered-same f g same (v ∷ l) = ap (λ (o : Option Tree). cons_option o (filter_map f l)) (same v) ∙ ap (cons_option (g v)) (filtered-same f g same l)

lists-same : (F G : List Tree → List Tree) → ((l : List Tree) → F l ≡ G l) → (l : List Tree) → map (λ v. listed (F (members v))) l ≡ map (λ v. listed (G (members v))) l
lists-same F G same [] = refl
lists-same F G same (v ∷ l) =
    ap (λ (m : List Tree). listed m ∷ map (λ v. listed (F (members v))) l) (same (members v)) ∙ ap (λ (m : List Tree). listed (G (members v)) ∷ m) (lists-same F G same l)

pub replaced-same : (f g : Tree → Option Tree) → ((v : Tree) → f v ≡ g v) → (dims : ℕ) (l : List Tree) → replaced f dims l ≡ replaced g dims l
replaced-same f g same zero l = filtered-same f g same l
replaced-same f g same (suc dims) l = lists-same (replaced f dims) (replaced g dims) (replaced-same f g same dims) l

-- nests whose leaves stay as they are
kept-leaves : (l : List Tree) → filter_map (λ v. Some v) l ≡ l
kept-leaves [] = refl
kept-leaves (v ∷ l) = ap (λ (m : List Tree). v ∷ m) (kept-leaves l)

pub kept-nests : (dims : ℕ) (l : List Tree) → AreNests dims l → replaced (λ v. Some v) dims l ≡ l
kept-nests zero l are = kept-leaves l
kept-nests (suc dims) l are = each l are.0 (λ m nested. kept-nests dims m nested) are.1
  where
    front : (d : ℕ) (one other : List Tree) → AreNests d (one ++ other) → AreNests d one × AreNests d other
    front d one other nested = nests-append d one other nested

    each : (l : List Tree) → AreLists l → ((m : List Tree) → AreNests dims m → replaced (λ v. Some v) dims m ≡ m) → AreNests dims (flat_map members l)
        → map (λ v. listed (replaced (λ w. Some w) dims (members v))) l ≡ l
    each [] lists inner nested = refl
    each (v ∷ l) lists inner nested =
        let both = front dims (members v) (flat_map members l) nested in
        ap (λ (m : List Tree). listed m ∷ map (λ v. listed (replaced (λ w. Some w) dims (members v))) l) (inner (members v) both.0)
        ∙ ap (λ (w : Tree). w ∷ map (λ v. listed (replaced (λ w. Some w) dims (members v))) l) lists.0
        ∙ ap (λ (m : List Tree). v ∷ m) (each l lists.1 inner both.1)

-- ---- ways

then-same : (f g : Tree → Option Tree) → ((v : Tree) → f v ≡ g v) → (o : Option Tree) → and_then f o ≡ and_then g o
then-same f g same None = refl
then-same f g same (Some v) = same v

then-twice : (f g : Tree → Option Tree) (o : Option Tree) → and_then f (and_then g o) ≡ and_then (λ v. and_then f (g v)) o
then-twice f g None = refl
then-twice f g (Some v) = refl

then-some : (o : Option Tree) → and_then (λ v. Some v) o ≡ o
then-some None = refl
then-some (Some v) = refl

along-more : (way : List ℕ) (at : ℕ) (v : Tree) → along (way ++ at ∷ []) v ≡ and_then (part_of at) (along way v)
along-more [] at v = then-some (part_of at v)
along-more (number ∷ way) at v =
    then-same (along (way ++ at ∷ [])) (λ w. and_then (part_of at) (along way w)) (along-more way at) (part_of number v) ∙ sym (then-twice (part_of at) (along way) (part_of number v))

part-behind : (number : ℕ) (v : Tree) → part_of number v ≡ and_then first_part (parts_behind number v)
part-behind zero v = refl
part-behind (suc number) v =
    then-same (part_of number) (λ w. and_then first_part (parts_behind number w)) (part-behind number) (other_parts v) ∙ sym (then-twice first_part (parts_behind number) (other_parts v))

behind-next : (number : ℕ) (v : Tree) → and_then other_parts (parts_behind number v) ≡ parts_behind (suc number) v
behind-next zero v = sym (then-some (other_parts v))
behind-next (suc number) v =
    then-twice other_parts (parts_behind number) (other_parts v)
    ∙ then-same (λ w. and_then other_parts (parts_behind number w)) (parts_behind (suc number)) (behind-next number) (other_parts v)

-- the part behind so many parts, in the leaves around
abbrev behind : List ℕ → ℕ → Tree → Option Tree
behind way at v = and_then (parts_behind at) (along way v)

first-of_behind : (way : List ℕ) (at dims : ℕ) (l : List Tree) → replaced first_part dims (replaced (behind way at) dims l) ≡ replaced (along (way ++ at ∷ [])) dims l
first-of_behind way at dims l =
    replaced-twice first_part (behind way at) dims l
    ∙ replaced-same (λ v. and_then first_part (behind way at v)) (along (way ++ at ∷ []))
    (λ v. then-twice first_part (parts_behind at) (along way v)
    ∙ then-same (λ w. and_then first_part (parts_behind at w)) (part_of at) (λ w. sym (part-behind at w)) (along way v) ∙ sym (along-more way at v)) dims l

others-of_behind : (way : List ℕ) (at dims : ℕ) (l : List Tree) → replaced other_parts dims (replaced (behind way at) dims l) ≡ replaced (behind way (suc at)) dims l
others-of_behind way at dims l =
    replaced-twice other_parts (behind way at) dims l
    ∙ replaced-same (λ v. and_then other_parts (behind way at v)) (behind way (suc at))
    (λ v. then-twice other_parts (parts_behind at) (along way v) ∙ then-same (λ w. and_then other_parts (parts_behind at w)) (parts_behind (suc at)) (behind-next at) (along way v)) dims l

behind-none : (way : List ℕ) (dims : ℕ) (l : List Tree) → replaced (along way) dims l ≡ replaced (behind way 0) dims l
behind-none way dims l = replaced-same (along way) (behind way 0) (λ v. sym (then-some (along way v))) dims l

-- ---- parts

-- the parts behind so many, whose first disagreement is that of all parts
pub record PartsGo (split : PlainSplit) (given : List (List Tree)) (way : List ℕ) (around number next dims at : ℕ) (all rest : Parts) (names : List (List ℕ)) : Type 0 where
  pub placed : ArePlaced split next dims rest
  pub names_are : placed.names ≡ names
  pub goes : disagreements_in_parts (λ n. series_at n given) names number dims all (replaced (along way) dims (series_at around given))
      ≡ disagreements_in_parts (λ n. series_at n given) names next dims rest (replaced (behind way at) dims (series_at around given))

pub record PartsLeft (split : PlainSplit) (given : List (List Tree)) (old now : List ℕ) (around number next dims at : ℕ) (all rest : Parts) : Type 0 where
  pub can : CanCompare split given around (streams_in_parts rest + next) (ArePlaced split next dims rest)
  pub way : now ≡ old
  pub go : (placed : ArePlaced split number dims all) → PartsGo split given old around number next dims at all rest placed.names

pub parts-start : (split : PlainSplit) (given : List (List Tree)) (old : List ℕ) (around number dims : ℕ) (all : Parts)
    → CanCompare split given around (streams_in_parts all + number) (ArePlaced split number dims all) → PartsLeft split given old old around number number dims 0 all all
parts-start split given old around number dims all can = record {
  can = can;
  way = refl;
  go = λ placed. record {
    placed = placed;
    names_are = refl;
    goes = ap (disagreements_in_parts (λ n. series_at n given) placed.names number dims all) (behind-none old dims (series_at around given));
  };
}

abbrev first-placed : (split : PlainSplit) (next dims : ℕ) (name : List ℕ) (ltype : Ltype) (more : Parts) → ArePlaced split next dims (types.part name ltype more) → IsPlaced split next dims ltype
first-placed split next dims name ltype more placed =
    record { names = placed.names ++ name ∷ []; place = placed.place; physical = placed.physical; around = placed.around; from = AreFrom-part split.nodes placed.names placed.place next placed.physical name ltype more placed.from }

abbrev others-placed : (split : PlainSplit) (next dims : ℕ) (name : List ℕ) (ltype : Ltype) (more : Parts) → ArePlaced split next dims (types.part name ltype more)
    → ArePlaced split (number_of_streams ltype + next) dims more
others-placed split next dims name ltype more placed = record {
  names = placed.names;
  place = placed.place;
  physical = number_of_physical ltype + placed.physical;
  around = placed.around;
  from = AreFrom-parts split.nodes placed.names placed.place next placed.physical name ltype more placed.from;
}

-- the first part that is left may be compared
pub part-can : (split : PlainSplit) (given : List (List Tree)) (around next dims : ℕ) (rest : Parts) (name : List ℕ) (ltype : Ltype) (more : Parts) → rest ≡ types.part name ltype more
    → CanCompare split given around (streams_in_parts rest + next) (ArePlaced split next dims rest) → CanCompare split given around (number_of_streams ltype + next) (IsPlaced split next dims ltype)
part-can split given around next dims rest name ltype more is can =
    let count = ap streams_in_parts is in
    let few = can.few in
    record {
      long = can.long;
      few = omega (arith, count, few);
      within = can.within;
      nested = can.nested;
      placed = first-placed split next dims name ltype more (subst (ArePlaced split next dims) is can.placed);
    }

-- the disagreements of parts are those of the first, and of the others
part-goes : (split : PlainSplit) (given : List (List Tree)) (way : List ℕ) (around next dims at : ℕ) (name : List ℕ) (ltype : Ltype) (more : Parts) (names : List (List ℕ))
    → disagreements_in_parts (λ n. series_at n given) names next dims (types.part name ltype more) (replaced (behind way at) dims (series_at around given))
    ≡ disagreements_in (λ n. series_at n given) (names ++ name ∷ []) next dims ltype (replaced (along (way ++ at ∷ [])) dims (series_at around given))
    ++ disagreements_in_parts (λ n. series_at n given) names (number_of_streams ltype + next) dims more (replaced (behind way (suc at)) dims (series_at around given))
part-goes split given way around next dims at name ltype more names =
    let l = series_at around given in
    ap (λ (m : List Tree). disagreements_in (λ n. series_at n given) (names ++ name ∷ []) next dims ltype m
    ++ disagreements_in_parts (λ n. series_at n given) names (number_of_streams ltype + next) dims more (replaced other_parts dims (replaced (behind way at) dims l)))
    (first-of_behind way at dims l)
    ∙ ap (λ (m : List Tree). disagreements_in (λ n. series_at n given) (names ++ name ∷ []) next dims ltype (replaced (along (way ++ at ∷ [])) dims l)
    ++ disagreements_in_parts (λ n. series_at n given) names (number_of_streams ltype + next) dims more m) (others-of_behind way at dims l)

same-way : (old now new : List ℕ) (at : ℕ) (last : Option ℕ) → now ≡ old ++ at ∷ [] → MatchOption last ((now ≡ []) × (new ≡ [])) (λ x. now ≡ new ++ x ∷ []) → new ≡ old
same-way old now new at None is popped = absurd (no_more old (sym is ∙ popped.0))
  where
    no_more : (l : List ℕ) → l ++ at ∷ [] ≡ [] → ⊥
    no_more [] e = cc
    no_more (x ∷ l) e = cc
same-way old now new at (Some x) is popped = same_front new old (sym popped ∙ is)
  where
    same_front : (one other : List ℕ) → one ++ x ∷ [] ≡ other ++ at ∷ [] → one ≡ other
    same_front [] [] e = refl
    same_front [] (y ∷ []) e = cc
    same_front [] (y ∷ z ∷ other) e = cc
    same_front (y ∷ []) [] e = cc
    same_front (y ∷ z ∷ one) [] e = cc
    same_front (y ∷ one) (z ∷ other) e = (let rest = same_front one other (cc) in let head : y ≡ z = cc in cc)

pub parts-next : (split : PlainSplit) (given : List (List Tree)) (old now pushed compared popped : List ℕ) (last : Option ℕ) (around number next after dims at : ℕ) (all rest : Parts)
    (name : List ℕ) (ltype : Ltype) (more : Parts) → rest ≡ types.part name ltype more → pushed ≡ now ++ at ∷ [] → after ≡ next + number_of_streams ltype
    → ((placed : IsPlaced split next dims ltype) → (compared ≡ pushed) × (disagreements_in (λ n. series_at n given) placed.names next dims ltype (replaced (along pushed) dims (series_at around given)) ≡ []))
    → MatchOption last ((compared ≡ []) × (popped ≡ [])) (λ x. compared ≡ popped ++ x ∷ [])
    → PartsLeft split given old now around number next dims at all rest → PartsLeft split given old popped around number after dims (at + 1) all more
parts-next split given old now pushed compared popped last around number next after dims at all rest name ltype more is added after_is compares pops is_left =
    subst (λ (n : ℕ). PartsLeft split given old popped around number n dims (at + 1) all more) same
    (subst (λ (n : ℕ). PartsLeft split given old popped around number (number_of_streams ltype + next) dims n all more) next_at
    (record {
      can = record {
        long = can.long;
        few = omega (arith, few);
        within = can.within;
        nested = can.nested;
        placed = others-placed split next dims name ltype more can.placed;
      };
      way = same-way old compared popped at last ((compares (first-placed split next dims name ltype more can.placed)).0 ∙ pushed_is) pops;
      go = λ placed.
          let go = left_is.go placed in
          let first = (compares (first-placed split next dims name ltype more go.placed)).1 in
          let none : disagreements_in series (placed.names ++ name ∷ []) next dims ltype (replaced (along (old ++ at ∷ [])) dims around_series) ≡ [] =
          ap (λ (p : List (List ℕ)). disagreements_in series (p ++ name ∷ []) next dims ltype (replaced (along (old ++ at ∷ [])) dims around_series)) (sym go.names_are)
          ∙ ap (λ (w : List ℕ). disagreements_in series (go.placed.names ++ name ∷ []) next dims ltype (replaced (along w) dims around_series)) (sym pushed_is) ∙ first in
          record {
            placed = others-placed split next dims name ltype more go.placed;
            names_are = go.names_are;
            goes = go.goes ∙ part-goes split given old around next dims at name ltype more placed.names
                ∙ ap (λ (l : List Disagreement). l ++ disagreements_in_parts series placed.names (number_of_streams ltype + next) dims more (replaced (behind old (suc at)) dims around_series)) none;
          };
    }))
  where
    series : ℕ → List Tree
    series = λ n. series_at n given

    around_series : List Tree
    around_series = series_at around given

    left_is : PartsLeft split given old now around number next dims at all (types.part name ltype more)
    left_is = subst (PartsLeft split given old now around number next dims at all) is is_left

    can : CanCompare split given around (streams_in_parts (types.part name ltype more) + next) (ArePlaced split next dims (types.part name ltype more))
    can = left_is.can

    few : streams_in_parts (types.part name ltype more) + next ≤ 65536
    few = can.few

    same : number_of_streams ltype + next ≡ after
    same = omega (arith, after_is)

    next_at : suc at ≡ at + 1
    next_at = omega arith

    pushed_is : pushed ≡ old ++ at ∷ []
    pushed_is = added ∙ ap (λ (l : List ℕ). l ++ at ∷ []) is_left.way

first-in : (one other : List Disagreement) (fault : JoinFault) → IsFirst one fault → IsFirst (one ++ other) fault
first-in one other (faults.Disagree path packet) is = found-front one other 0 (record { path = path; packet = packet }) is
first-in one other faults.Memory is = tt

-- the first disagreement of a part is that of all parts
pub parts-differ : (split : PlainSplit) (given : List (List Tree)) (old now pushed : List ℕ) (around number next dims at : ℕ) (all rest : Parts) (name : List ℕ) (ltype : Ltype) (more : Parts)
    (fault : JoinFault) → rest ≡ types.part name ltype more → pushed ≡ now ++ at ∷ []
    → ((placed : IsPlaced split next dims ltype) → IsFirst (disagreements_in (λ n. series_at n given) placed.names next dims ltype (replaced (along pushed) dims (series_at around given))) fault)
    → PartsLeft split given old now around number next dims at all rest → (placed : ArePlaced split number dims all)
    → IsFirst (disagreements_in_parts (λ n. series_at n given) placed.names number dims all (replaced (along old) dims (series_at around given))) fault
parts-differ split given old now pushed around number next dims at all rest name ltype more fault is added differs is_left placed =
    subst (λ (l : List Disagreement). IsFirst l fault) (sym (go.goes ∙ part-goes split given old around next dims at name ltype more placed.names))
    (first-in (disagreements_in series (placed.names ++ name ∷ []) next dims ltype (replaced (along (old ++ at ∷ [])) dims around_series))
    (disagreements_in_parts series placed.names (number_of_streams ltype + next) dims more (replaced (behind old (suc at)) dims around_series)) fault
    (subst (λ (p : List (List ℕ)). IsFirst (disagreements_in series (p ++ name ∷ []) next dims ltype (replaced (along (old ++ at ∷ [])) dims around_series)) fault) go.names_are
    (subst (λ (w : List ℕ). IsFirst (disagreements_in series (go.placed.names ++ name ∷ []) next dims ltype (replaced (along w) dims around_series)) fault) pushed_is
    (differs (first-placed split next dims name ltype more go.placed)))))
  where
    series : ℕ → List Tree
    series = λ n. series_at n given

    around_series : List Tree
    around_series = series_at around given

    left_is : PartsLeft split given old now around number next dims at all (types.part name ltype more)
    left_is = subst (PartsLeft split given old now around number next dims at all) is is_left

    go : PartsGo split given old around number next dims at all (types.part name ltype more) placed.names
    go = left_is.go placed

    pushed_is : pushed ≡ old ++ at ∷ []
    pushed_is = added ∙ ap (λ (l : List ℕ). l ++ at ∷ []) is_left.way

pub parts-done : (split : PlainSplit) (given : List (List Tree)) (old now : List ℕ) (around number next dims at : ℕ) (all rest : Parts) → rest ≡ types.no_parts
    → PartsLeft split given old now around number next dims at all rest → (placed : ArePlaced split number dims all)
    → (now ≡ old) × (disagreements_in_parts (λ n. series_at n given) placed.names number dims all (replaced (along old) dims (series_at around given)) ≡ [])
parts-done split given old now around number next dims at all rest none is_left placed =
    let go = is_left.go placed in
    (is_left.way, go.goes ∙ ap (λ (r : Parts). disagreements_in_parts (λ n. series_at n given) placed.names next dims r (replaced (behind old at) dims (series_at around given))) none)

-- ---- a Stream

-- the node of a Stream that is placed
pub stream-found : (split : PlainSplit) (number dims : ℕ) (element user : Ltype) (settings : Settings) (placed : IsPlaced split number dims (types.stream element user settings))
    → slice_get split.nodes number ≡ Some (node_at placed.names placed.place number placed.physical element user settings)
stream-found split number dims element user settings placed = (AreFrom-inside split.nodes placed.names placed.place number placed.physical element user settings placed.from).0

pub stream-within : (split : PlainSplit) (number dims : ℕ) (element user : Ltype) (settings : Settings) → IsPlaced split number dims (types.stream element user settings) → number < length split.nodes
stream-within split number dims element user settings placed = found-within split.nodes number _ (stream-found split number dims element user settings placed)

inside-placed : (split : PlainSplit) (number dims : ℕ) (element user : Ltype) (settings : Settings) → IsPlaced split number dims (types.stream element user settings)
    → IsPlaced split (suc number) (dims_inside settings.sync dims settings.dims) element
inside-placed split number dims element user settings placed = record {
  names = placed.names;
  place = place_inside placed.place number settings;
  physical = (if is_physical element user settings then 1 else 0) + placed.physical;
  around = dims-are settings.sync placed.place.around.dims dims settings.dims placed.around;
  from = (AreFrom-inside split.nodes placed.names placed.place number placed.physical element user settings placed.from).1;
}

-- the dimensionality of its node
pub stream-dims : (split : PlainSplit) (number dims : ℕ) (element user : Ltype) (settings : Settings) (node : StreamNode) → slice_get split.nodes number ≡ Some node
    → IsPlaced split number dims (types.stream element user settings) → node.params.dims ≡ dims_inside settings.sync dims settings.dims
stream-dims split number dims element user settings node found placed =
    let same = one-found (slice_get split.nodes number) node (node_at placed.names placed.place number placed.physical element user settings) found (stream-found split number dims element user settings placed) in
    ap (λ (n : StreamNode). n.params.dims) same ∙ dims-are settings.sync placed.place.around.dims dims settings.dims placed.around

-- the nodes inside it may be compared
pub inside-can : (split : PlainSplit) (given : List (List Tree)) (around number dims inner : ℕ) (element user : Ltype) (settings : Settings) → inner ≡ dims_inside settings.sync dims settings.dims
    → CanCompare split given around (number_of_streams (types.stream element user settings) + number) (IsPlaced split number dims (types.stream element user settings))
    → CanCompare split given number (number_of_streams element + (number + 1)) (IsPlaced split (number + 1) inner element)
inside-can split given around number dims inner element user settings deep can =
    let few = can.few in
    let next : suc number ≡ number + 1 = omega arith in
    record {
      long = can.long;
      few = omega (arith, few);
      within = stream-within split number dims element user settings can.placed;
      nested = can.nested;
      placed = subst (λ (n : ℕ). IsPlaced split n inner element) next
          (subst (λ (d : ℕ). IsPlaced split (suc number) d element) (sym deep) (inside-placed split number dims element user settings can.placed));
    }

pub map_result : {A E : Type 0} (r : Result A E) (P Q : A → Type 0) (F G : E → Type 0) → ((a : A) → P a → Q a) → ((e : E) → F e → G e) → MatchResult r P F → MatchResult r Q G
map_result (Ok a) P Q F G each error is = each a is
map_result (Err e) P Q F G each error is = error e is

-- the disagreements inside a Stream, in the walk and in the definition
inside-same : (split : PlainSplit) (given : List (List Tree)) (number dims inner : ℕ) (element user : Ltype) (settings : Settings) (names : List (List ℕ))
    → inner ≡ dims_inside settings.sync dims settings.dims → AreNests inner (series_at number given)
    → disagreements_in (λ n. series_at n given) names (number + 1) inner element (replaced (along []) inner (series_at number given))
    ≡ disagreements_in (λ n. series_at n given) names (suc number) (dims_inside settings.sync dims settings.dims) element (series_at number given)
inside-same split given number dims inner element user settings names deep nested =
    let next : number + 1 ≡ suc number = omega arith in
    ap (disagreements_in (λ n. series_at n given) names (number + 1) inner element)
    (replaced-same (along []) (λ v. Some v) (λ v. refl) inner (series_at number given) ∙ kept-nests inner (series_at number given) nested)
    ∙ ap (λ (n : ℕ). disagreements_in (λ n. series_at n given) names n inner element (series_at number given)) next
    ∙ ap (λ (d : ℕ). disagreements_in (λ n. series_at n given) names (suc number) d element (series_at number given)) deep

-- its own disagreement, where it has one
abbrev own : (given : List (List Tree)) (way : List ℕ) (around number dims : ℕ) (settings : Settings) (names : List (List ℕ)) → List Disagreement
own given way around number dims settings names =
    if is_apart settings.sync then [] else disagrees_at names (packet_of settings.sync dims (replaced (along way) dims (series_at around given)) (series_at number given))

path-is : (split : PlainSplit) (number dims : ℕ) (element user : Ltype) (settings : Settings) (placed : IsPlaced split number dims (types.stream element user settings)) (node : StreamNode)
    → slice_get split.nodes number ≡ Some node → node.path ≡ placed.names
path-is split number dims element user settings placed node found =
    ap (λ (n : StreamNode). n.path)
    (one-found (slice_get split.nodes number) node (node_at placed.names placed.place number placed.physical element user settings) found (stream-found split number dims element user settings placed))

-- the disagreements of a Stream are its own, and those inside it
pub stream-compared : (split : PlainSplit) (given : List (List Tree)) (way inside : List ℕ) (around number dims inner : ℕ) (ltype element user : Ltype) (settings : Settings)
    (compared : Result (Unit {0}) JoinFault) → ltype ≡ types.stream element user settings → inner ≡ dims_inside settings.sync dims settings.dims
    → CanCompare split given around (number_of_streams ltype + number) (IsPlaced split number dims ltype)
    → ((path : List (List ℕ)) → ((node : StreamNode) → slice_get split.nodes number ≡ Some node → node.path ≡ path) → own given way around number dims settings path ≡ [])
    → Compares split given [] inside number (number + 1) inner element compared → Compares split given way way around number dims ltype compared
stream-compared split given way inside around number dims inner ltype element user settings compared is deep can checked compares =
    subst (λ (t : Ltype). Compares split given way way around number dims t compared) (sym is)
    (λ placed.
    let next : suc number ≡ number + 1 = omega arith in
    let found = stream-found split number dims element user settings placed in
    let names = placed.names in
    let none = checked names (path-is split number dims element user settings placed) in
    let node_dims = stream-dims split number dims element user settings (node_at names placed.place number placed.physical element user settings) found placed in
    let nested : AreNests inner (series_at number given) = subst (λ (d : ℕ). AreNests d (series_at number given)) (node_dims ∙ sym deep) (can.nested number (node_at names placed.place number placed.physical element user settings) found) in
    let same = inside-same split given number dims inner element user settings names deep nested in
    let deeper = disagreements_in (λ n. series_at n given) names (suc number) (dims_inside settings.sync dims settings.dims) element (series_at number given) in
    let there = compares (placed-again placed) in
    map_result compared (λ _. (inside ≡ []) × (disagreements_in (λ n. series_at n given) names (number + 1) inner element (replaced (along []) inner (series_at number given)) ≡ []))
    (λ _. (way ≡ way) × (own given way around number dims settings names ++ deeper ≡ []))
    (IsFirst (disagreements_in (λ n. series_at n given) names (number + 1) inner element (replaced (along []) inner (series_at number given))))
    (IsFirst (own given way around number dims settings names ++ deeper))
    (λ _ both. (refl, ap (λ (l : List Disagreement). l ++ deeper) none ∙ sym same ∙ both.1))
    (λ fault first. subst (λ (l : List Disagreement). IsFirst (l ++ deeper) fault) (sym none) (subst (λ (l : List Disagreement). IsFirst l fault) same first))
    there)
  where
    placed-again : (placed : IsPlaced split number dims (types.stream element user settings)) → IsPlaced split (number + 1) inner element
    placed-again placed = record {
      names = placed.names;
      place = place_inside placed.place number settings;
      physical = (if is_physical element user settings then 1 else 0) + placed.physical;
      around = dims-are settings.sync placed.place.around.dims dims settings.dims placed.around ∙ sym deep;
      from = (let next : suc number ≡ number + 1 = omega arith in
          subst (λ (n : ℕ). AreFrom split.nodes n (nodes_in placed.names (place_inside placed.place number settings) n ((if is_physical element user settings then 1 else 0) + placed.physical) element))
          next (AreFrom-inside split.nodes placed.names placed.place number placed.physical element user settings placed.from).1);
    }

pub stream-differs : (split : PlainSplit) (given : List (List Tree)) (way : List ℕ) (around number dims : ℕ) (ltype element user : Ltype) (settings : Settings) (fault : JoinFault)
    → ltype ≡ types.stream element user settings
    → ((path : List (List ℕ)) → ((node : StreamNode) → slice_get split.nodes number ≡ Some node → node.path ≡ path) → IsFirst (own given way around number dims settings path) fault)
    → (placed : IsPlaced split number dims ltype)
    → IsFirst (disagreements_in (λ n. series_at n given) placed.names number dims ltype (replaced (along way) dims (series_at around given))) fault
stream-differs split given way around number dims ltype element user settings fault is checked =
    subst (λ (t : Ltype). (placed : IsPlaced split number dims t) → IsFirst (disagreements_in (λ n. series_at n given) placed.names number dims t (replaced (along way) dims (series_at around given))) fault)
    (sym is)
    (λ placed. first-in (own given way around number dims settings placed.names)
    (disagreements_in (λ n. series_at n given) placed.names (suc number) (dims_inside settings.sync dims settings.dims) element (series_at number given)) fault
    (checked placed.names (path-is split number dims element user settings placed)))

-- ---- one comparison

pub check-some : (apart : Bool) (path made : List (List ℕ)) (found : Option ℕ) (packet : ℕ) → apart ≡ false → found ≡ Some packet → made ≡ path
    → slice_get (if apart then [] else disagrees_at path found) 0 ≡ Some (record { path = made; packet = packet })
check-some apart path made found packet tied is same =
    ap (λ (b : Bool). slice_get (if b then [] else disagrees_at path found) 0) tied
    ∙ ap (λ (o : Option ℕ). slice_get (disagrees_at path o) 0) is ∙ ap (λ (p : List (List ℕ)). Some (record { path = p; packet = packet })) (sym same)

pub check-none : (apart : Bool) (path : List (List ℕ)) (found : Option ℕ) → apart ≡ false → found ≡ None → (if apart then [] else disagrees_at path found) ≡ []
check-none apart path found tied is = ap (λ (b : Bool). if b then [] else disagrees_at path found) tied ∙ ap (disagrees_at path) is

series-got : (series : List (List Value)) (at : ℕ) (other : List Value) → at < length series → series_at at (plain_series series) ≡ map plain (get_or series at other)
series-got [] at other less = absurd (omega (arith, less))
series-got (first ∷ series) zero other less = refl
series-got (first ∷ series) (suc at) other less = series-got series at other (omega (arith, less))

pub found-packet : (way : List ℕ) (dims : ℕ) (sync : Sync) (given : List (List Value)) (around number : ℕ) (one one_slice other other_slice : List Value) (found : Option ℕ)
    → around < length given → number < length given → one_slice ≡ get_or given around one → other_slice ≡ get_or given number other
    → found ≡ packet_of sync dims (replaced (along way) dims (map plain one_slice)) (map plain other_slice)
    → packet_of sync dims (replaced (along way) dims (series_at around (plain_series given))) (series_at number (plain_series given)) ≡ found
found-packet way dims sync given around number one one_slice other other_slice found less less' same same' found_is =
    ap (λ (l : List Tree). packet_of sync dims (replaced (along way) dims l) (series_at number (plain_series given))) (series-got given around one less ∙ ap (map plain) (sym same))
    ∙ ap (λ (l : List Tree). packet_of sync dims (replaced (along way) dims (map plain one_slice)) l) (series-got given number other less' ∙ ap (map plain) (sym same'))
    ∙ sym found_is

-- few Streams are counted as they are
pub streams-added : (ltype : Ltype) (next count : ℕ) → number_of_streams ltype + next ≤ 65536 → count ≡ min (number_of_streams ltype) (2 ^ 64 - 1) → next + count ≡ next + number_of_streams ltype
streams-added ltype next count few is = (let small : number_of_streams ltype ≤ 2 ^ 64 - 1 = omega (arith, few) in ap (λ (n : ℕ). next + n) (is ∙ least (number_of_streams ltype) (2 ^ 64 - 1) small))
  where
    least : (n m : ℕ) → n ≤ m → min n m ≡ n
    least n m less = omega (arith, less)

pub part-few : (split : PlainSplit) (given : List (List Tree)) (around next dims : ℕ) (rest : Parts) (name : List ℕ) (ltype : Ltype) (more : Parts) → rest ≡ types.part name ltype more
    → CanCompare split given around (streams_in_parts rest + next) (ArePlaced split next dims rest) → number_of_streams ltype + next ≤ 65536
part-few split given around next dims rest name ltype more is can = (part-can split given around next dims rest name ltype more is can).few

-- ---- Groups and Unions

pub group-can : (split : PlainSplit) (given : List (List Tree)) (around number dims : ℕ) (ltype : Ltype) (parts : Parts) → ltype ≡ types.group parts
    → CanCompare split given around (number_of_streams ltype + number) (IsPlaced split number dims ltype) → CanCompare split given around (streams_in_parts parts + number) (ArePlaced split number dims parts)
group-can split given around number dims ltype parts is can =
    let here = subst (λ (t : Ltype). CanCompare split given around (number_of_streams t + number) (IsPlaced split number dims t)) is can in
    let placed = here.placed in
    record {
      long = here.long;
      few = here.few;
      within = here.within;
      nested = here.nested;
      placed = record { names = placed.names; place = placed.place; physical = placed.physical; around = placed.around; from = placed.from };
    }

pub union-can : (split : PlainSplit) (given : List (List Tree)) (around number dims : ℕ) (ltype : Ltype) (parts : Parts) → ltype ≡ types.union parts
    → CanCompare split given around (number_of_streams ltype + number) (IsPlaced split number dims ltype) → CanCompare split given around (streams_in_parts parts + number) (ArePlaced split number dims parts)
union-can split given around number dims ltype parts is can =
    let here = subst (λ (t : Ltype). CanCompare split given around (number_of_streams t + number) (IsPlaced split number dims t)) is can in
    let placed = here.placed in
    record {
      long = here.long;
      few = here.few;
      within = here.within;
      nested = here.nested;
      placed = record { names = placed.names; place = placed.place; physical = placed.physical; around = placed.around; from = placed.from };
    }
