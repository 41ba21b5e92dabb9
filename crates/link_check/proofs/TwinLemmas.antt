-- The streams of compatible types: each is the same at both ends, but for its level.
use Rattle.std.proofs.Common.{◌≡◌, ◌∙◌, ℕ, zero, suc, ◌+◌, Bool, true, false, ◌||◌, IsTrue, nat_lt, max, List, [], ◌∷◌, ◌++◌, map, length, Option, Some, None, refl, sym, ap, subst, if◌then◌else◌}
use Rattle.std.specs.List.{slice_get}
use Rattle.tydi_base.specs.Level.{IsAtMost, LevelNumbers}
use Rattle.physical_stream.specs.Levels.{at_level}
use Rattle.physical_stream.specs.Params.{Parameters}
use Rattle.physical_stream.specs.declared.head.Head.{Head}
use Rattle.logical_types.specs.Faults.{inside}
use Rattle.logical_types.specs.Tree.{Ltype, null, bits, group, union, stream, Parts, no_parts, part, Settings, number_of_parts}
use Rattle.logical_types.specs.Width.{width_of, total_width, greatest_width, tag_width}
use Rattle.logical_types.specs.declared.streams.Around.{Around}
use Rattle.type_split.specs.Nodes.{StreamNode, is_physical, node_at, nodes_in, nodes_in_parts, nodes_of, number_of_physical, number_of_streams, outermost_place, physical_in_parts, place_inside, rounded_up, streams_in_parts, turned}
use Rattle.type_split.specs.Streams.{gathered, stream_at, stream_in}
use Rattle.link_check.specs.Carry.{IsAlike, head_from, head_of_stream, head_to, heads_from, heads_of_port, heads_to}
use Rattle.link_check.specs.CarryLaws.{CompatiblePortsRise}
use Rattle.link_check.specs.Compatible.{Agree, AreCompatible, Compatible, are_in_order}

-- ---- nodes

-- the place of a type in a port's type, whose own name is private to its crate
abbrev Taken : {A B : Type 0} → (A → B) → Type 0
Taken {A} {B} function = A

abbrev Place : Type 0
Place = Taken (nodes_in [])

-- two nodes are one, but for their levels, which are in order
pub record IsTwin (one other : StreamNode) : Type 0 where
  pub path : other.path ≡ one.path
  pub params : other.params ≡ at_level other.params.level one.params
  pub reversed : other.reversed ≡ one.reversed
  pub phys : other.phys ≡ one.phys
  pub level : IsTrue (are_in_order one.reversed one.params.level other.params.level)

abbrev pub AreTwins : List StreamNode → List StreamNode → Type 0
AreTwins [] [] = Unit {0}
AreTwins (one ∷ ones) (other ∷ others) = IsTwin one other × AreTwins ones others
AreTwins ones others = ⊥

twins-append : (a b c d : List StreamNode) → AreTwins a b → AreTwins c d → AreTwins (a ++ c) (b ++ d)
twins-append [] [] c d front back = back
twins-append [] (y ∷ b) c d front back = absurd front
twins-append (x ∷ a) [] c d front back = absurd front
twins-append (x ∷ a) (y ∷ b) c d front back = (front.0, twins-append a b c d front.1 back)

-- ---- types

-- two types have the same widths, the same numbers of Streams, and twin nodes
pub record HasTwins (reversed : Bool) (source sink : Ltype) : Type 0 where
  pub width : width_of source ≡ width_of sink
  pub streams : number_of_streams source ≡ number_of_streams sink
  pub physical : number_of_physical source ≡ number_of_physical sink
  pub nodes : (names : List (List ℕ)) (place : Place) (number before : ℕ) → place.reversed ≡ reversed → AreTwins (nodes_in names place number before source) (nodes_in names place number before sink)

pub record HaveTwins (reversed : Bool) (parts others : Parts) : Type 0 where
  pub many : number_of_parts parts ≡ number_of_parts others
  pub total : total_width parts ≡ total_width others
  pub greatest : greatest_width parts ≡ greatest_width others
  pub streams : streams_in_parts parts ≡ streams_in_parts others
  pub physical : physical_in_parts parts ≡ physical_in_parts others
  pub nodes : (names : List (List ℕ)) (place : Place) (number before : ℕ) → place.reversed ≡ reversed
      → AreTwins (nodes_in_parts names place number before parts) (nodes_in_parts names place number before others)

made : (lanes lanes' dims dims' element element' user user' : ℕ) (level : LevelNumbers) → lanes' ≡ lanes → dims' ≡ dims → element' ≡ element → user' ≡ user
    → ◌≡◌ {A = Parameters} (record { lanes = lanes'; dims = dims'; level = level; element = element'; user = user' }) (record { lanes = lanes; dims = dims; level = level; element = element; user = user })
made lanes lanes' dims dims' element element' user user' level l d e u = cc

-- a Stream and the other one, whose arguments agree
module _ (reversed : Bool) (element other_element user other_user : Ltype) (settings others : Settings) (agree : Agree (turned reversed settings.reverse) settings others) (same_user : user ≡ other_user)
    (within : HasTwins (turned reversed settings.reverse) element other_element) where
  same-inside : (around : Around) → inside around others ≡ inside around settings
  same-inside around = let t = agree.throughput in let d = agree.dims in let s = agree.sync in cc

  same-physical : is_physical other_element other_user others ≡ is_physical element user settings
  same-physical = ap (λ w. nat_lt 0 w || nat_lt 0 (width_of other_user) || others.keep) (sym within.width) ∙ ap (λ (u : Ltype). nat_lt 0 (width_of element) || nat_lt 0 (width_of u) || others.keep) (sym same_user)
      ∙ ap (λ k. nat_lt 0 (width_of element) || nat_lt 0 (width_of user) || k) (sym agree.keep)

  same-place : (place : Place) (number : ℕ) → place_inside place number others ≡ place_inside place number settings
  same-place place number = let around = same-inside place.around in let s = agree.sync in let r = agree.reverse in cc

  abbrev one-count : ℕ → ℕ
  one-count before = (if is_physical element user settings then 1 else 0) + before

  stream-node : (names : List (List ℕ)) (place : Place) (number before : ℕ) → place.reversed ≡ reversed → IsTwin (node_at names place number before element user settings) (node_at names place number before other_element other_user others)
  stream-node names place number before same = record {
    path = refl;
    params = made (rounded_up (inside place.around settings).product) (rounded_up (inside place.around others).product) (inside place.around settings).dims (inside place.around others).dims
        (width_of element) (width_of other_element) (width_of user) (width_of other_user) others.level (ap (λ (i : Around). rounded_up i.product) (same-inside place.around))
        (ap (λ (i : Around). i.dims) (same-inside place.around)) (sym within.width) (ap width_of (sym same_user));
    reversed = ap (turned place.reversed) (sym agree.reverse);
    phys = ap (λ b. if b then Some before else None) same-physical;
    level = subst (λ r. IsTrue (are_in_order (turned r settings.reverse) settings.level others.level)) (sym same) agree.level;
  }

  stream-twins : HasTwins reversed (stream element user settings) (stream other_element other_user others)
  stream-twins = record {
    width = refl;
    streams = ap (λ n. suc n) within.streams;
    physical = ap (λ b. (if b then 1 else 0) + number_of_physical element) (sym same-physical) ∙ ap (λ n. (if is_physical other_element other_user others then 1 else 0) + n) within.physical;
    nodes = λ names place number before same. (
      stream-node names place number before same,
      subst (λ (p : Place). AreTwins (nodes_in names (place_inside place number settings) (suc number) (one-count before) element)
          (nodes_in names p (suc number) ((if is_physical other_element other_user others then 1 else 0) + before) other_element)) (sym (same-place place number))
          (subst (λ b. AreTwins (nodes_in names (place_inside place number settings) (suc number) (one-count before) element)
          (nodes_in names (place_inside place number settings) (suc number) ((if b then 1 else 0) + before) other_element)) (sym same-physical)
          (within.nodes names (place_inside place number settings) (suc number) (one-count before) (ap (λ r. turned r settings.reverse) same))),
    );
  }

first-twins : (reversed : Bool) (name other_name : List ℕ) (ltype other : Ltype) (more others : Parts) → name ≡ other_name → HasTwins reversed ltype other → HaveTwins reversed more others
    → HaveTwins reversed (part name ltype more) (part other_name other others)
first-twins reversed name other_name ltype other more others names_are one rest = record {
  many = ap (λ n. suc n) rest.many;
  total = ap (λ w. w + total_width more) one.width ∙ ap (λ w. width_of other + w) rest.total;
  greatest = ap (λ w. max w (greatest_width more)) one.width ∙ ap (λ w. max (width_of other) w) rest.greatest;
  streams = ap (λ n. n + streams_in_parts more) one.streams ∙ ap (λ n. number_of_streams other + n) rest.streams;
  physical = ap (λ n. n + physical_in_parts more) one.physical ∙ ap (λ n. number_of_physical other + n) rest.physical;
  nodes = λ names place number before same. twins-append (nodes_in (names ++ name ∷ []) place number before ltype) (nodes_in (names ++ other_name ∷ []) place number before other)
      (nodes_in_parts names place (number_of_streams ltype + number) (number_of_physical ltype + before) more)
      (nodes_in_parts names place (number_of_streams other + number) (number_of_physical other + before) others)
      (subst (λ (n : List ℕ). AreTwins (nodes_in (names ++ name ∷ []) place number before ltype) (nodes_in (names ++ n ∷ []) place number before other)) names_are (one.nodes (names ++ name ∷ []) place number before same))
      (subst (λ n. AreTwins (nodes_in_parts names place (number_of_streams ltype + number) (number_of_physical ltype + before) more) (nodes_in_parts names place (n + number) (number_of_physical other + before) others)) one.streams
      (subst (λ n. AreTwins (nodes_in_parts names place (number_of_streams ltype + number) (number_of_physical ltype + before) more) (nodes_in_parts names place (number_of_streams ltype + number) (n + before) others)) one.physical
      (rest.nodes names place (number_of_streams ltype + number) (number_of_physical ltype + before) same)));
}

mutual
  twins : (reversed : Bool) (source sink : Ltype) → Compatible reversed source sink → HasTwins reversed source sink
  twins reversed null null compatible = record { width = refl; streams = refl; physical = refl; nodes = λ names place number before same. tt }
  twins reversed (bits width) (bits other) compatible = record { width = compatible; streams = refl; physical = refl; nodes = λ names place number before same. tt }
  twins reversed (group parts) (group others) compatible = let have = all-twins reversed parts others compatible in
      record { width = have.total; streams = have.streams; physical = have.physical; nodes = have.nodes }
  twins reversed (union parts) (union others) compatible = let have = all-twins reversed parts others compatible in
      record { width = ap (λ n. tag_width n + greatest_width parts) have.many ∙ ap (λ w. tag_width (number_of_parts others) + w) have.greatest; streams = have.streams; physical = have.physical; nodes = have.nodes }
  twins reversed (stream element user settings) (stream other_element other_user others) compatible =
      stream-twins reversed element other_element user other_user settings others compatible.0 compatible.1 (twins (turned reversed settings.reverse) element other_element compatible.2)
  twins reversed null (bits other) compatible = absurd compatible
  twins reversed null (group others) compatible = absurd compatible
  twins reversed null (union others) compatible = absurd compatible
  twins reversed null (stream other_element other_user others) compatible = absurd compatible
  twins reversed (bits width) null compatible = absurd compatible
  twins reversed (bits width) (group others) compatible = absurd compatible
  twins reversed (bits width) (union others) compatible = absurd compatible
  twins reversed (bits width) (stream other_element other_user others) compatible = absurd compatible
  twins reversed (group parts) null compatible = absurd compatible
  twins reversed (group parts) (bits other) compatible = absurd compatible
  twins reversed (group parts) (union others) compatible = absurd compatible
  twins reversed (group parts) (stream other_element other_user others) compatible = absurd compatible
  twins reversed (union parts) null compatible = absurd compatible
  twins reversed (union parts) (bits other) compatible = absurd compatible
  twins reversed (union parts) (group others) compatible = absurd compatible
  twins reversed (union parts) (stream other_element other_user others) compatible = absurd compatible
  twins reversed (stream element user settings) null compatible = absurd compatible
  twins reversed (stream element user settings) (bits other) compatible = absurd compatible
  twins reversed (stream element user settings) (group others) compatible = absurd compatible
  twins reversed (stream element user settings) (union others) compatible = absurd compatible

  all-twins : (reversed : Bool) (parts others : Parts) → AreCompatible reversed parts others → HaveTwins reversed parts others
  all-twins reversed no_parts no_parts compatible = record { many = refl; total = refl; greatest = refl; streams = refl; physical = refl; nodes = λ names place number before same. tt }
  all-twins reversed no_parts (part other_name other others) compatible = absurd compatible
  all-twins reversed (part name ltype more) no_parts compatible = absurd compatible
  all-twins reversed (part name ltype more) (part other_name other others) compatible = first-twins reversed name other_name ltype other more others compatible.0 (twins reversed ltype other compatible.1) (all-twins reversed more others compatible.2)

-- ---- heads

-- two heads of a stream, at the source and at the sink
pub record IsLinked (source sink : Head) : Type 0 where
  pub path : sink.path ≡ source.path
  pub params : sink.params ≡ at_level sink.params.level source.params
  pub reversed : sink.reversed ≡ source.reversed
  pub level : IsTrue (are_in_order source.reversed source.params.level sink.params.level)

abbrev pub AreLinked : List Head → List Head → Type 0
AreLinked [] [] = Unit {0}
AreLinked (source ∷ more) (sink ∷ others) = IsLinked source sink × AreLinked more others
AreLinked more others = ⊥

heads-linked : (number : ℕ) (ones others : List StreamNode) → AreTwins ones others → AreLinked (map head_of_stream (gathered stream_at number ones)) (map head_of_stream (gathered stream_at number others))
heads-linked number [] [] same = tt
heads-linked number [] (other ∷ others) same = absurd same
heads-linked number (one ∷ ones) [] same = absurd same
heads-linked number (one ∷ ones) (other ∷ others) same = subst (λ (p : Option ℕ). AreLinked (map head_of_stream (stream_in number one one.phys ++ gathered stream_at (suc number) ones)) (map head_of_stream (stream_in number other p ++ gathered stream_at (suc number) others)))
    (sym same.0.phys) (by one.phys (heads-linked (suc number) ones others same.1))
  where
    by : (phys : Option ℕ) → AreLinked (map head_of_stream (gathered stream_at (suc number) ones)) (map head_of_stream (gathered stream_at (suc number) others))
        → AreLinked (map head_of_stream (stream_in number one phys ++ gathered stream_at (suc number) ones)) (map head_of_stream (stream_in number other phys ++ gathered stream_at (suc number) others))
    by None rest = rest
    by (Some n) rest = (record { path = same.0.path; params = same.0.params; reversed = same.0.reversed; level = same.0.level }, rest)

-- the head where the data comes from, and that where it arrives
pub record Rises (from to : Head) : Type 0 where
  pub alike : IsAlike from to
  pub level : IsAtMost from.params.level to.params.level

one-rises : (source sink : Head) → IsLinked source sink → Rises (head_from source sink) (head_to source sink)
one-rises source sink is = by source.reversed is.level
  where
    by : (reversed : Bool) → IsTrue (are_in_order reversed source.params.level sink.params.level) → Rises (if reversed then sink else source) (if reversed then source else sink)
    by false level = record { alike = record { path = is.path; params = is.params; reversed = is.reversed }; level = level }
    by true level = record { alike = record { path = sym is.path; params = sym (ap (at_level source.params.level) is.params); reversed = sym is.reversed }; level = level }

all-rise : (sources sinks : List Head) → AreLinked sources sinks
    → (length (heads_to sources sinks) ≡ length (heads_from sources sinks))
    × ((stream : ℕ) (one other : Head) → slice_get (heads_from sources sinks) stream ≡ Some one → slice_get (heads_to sources sinks) stream ≡ Some other → Rises one other)
all-rise [] [] linked = (refl, λ stream one other here there. absurd cc)
all-rise [] (sink ∷ sinks) linked = absurd linked
all-rise (source ∷ sources) [] linked = absurd linked
all-rise (source ∷ sources) (sink ∷ sinks) linked = let rest = all-rise sources sinks linked.1 in (ap (λ n. suc n) rest.0, at rest.1)
  where
    at : ((stream : ℕ) (one other : Head) → slice_get (heads_from sources sinks) stream ≡ Some one → slice_get (heads_to sources sinks) stream ≡ Some other → Rises one other)
        → (stream : ℕ) (one other : Head) → slice_get (head_from source sink ∷ heads_from sources sinks) stream ≡ Some one → slice_get (head_to source sink ∷ heads_to sources sinks) stream ≡ Some other → Rises one other
    at rest zero one other here there =
        let same : head_from source sink ≡ one = cc in let also : head_to source sink ≡ other = cc in
        subst (λ (h : Head). Rises h other) same (subst (λ (h : Head). Rises (head_from source sink) h) also (one-rises source sink linked.0))
    at rest (suc i) one other here there = rest i one other here there

-- the heads of the streams of compatible ports
pub ports-linked : (source sink : Ltype) → Compatible false source sink → AreLinked (heads_of_port source) (heads_of_port sink)
ports-linked source sink compatible = heads-linked 0 (nodes_of source) (nodes_of sink) ((twins false source sink compatible).nodes [] outermost_place 0 0 refl)

pub compatible_ports_rise : CompatiblePortsRise
compatible_ports_rise source sink compatible =
    let all = all-rise (heads_of_port source) (heads_of_port sink) (ports-linked source sink compatible) in
    record {
      alike = record { many = all.0; each = λ stream one other here there. (all.1 stream one other here there).alike };
      rise = λ stream one other here there. (all.1 stream one other here there).level;
    }
