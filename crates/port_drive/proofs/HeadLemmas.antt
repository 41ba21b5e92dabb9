-- The heads of the streams of a port can stand in one trace.
use Rattle.std.proofs.Common.{◌≡◌, ◌∙◌, ℕ, zero, suc, ◌≤◌, Bool, true, false, not, ◌&&◌, ◌||◌, nat_le, if◌then◌else◌, List, [], ◌∷◌, length, map, slice_get, Option, Some, None, IsTrue, All, refl, sym, ap, subst, arith}
use Rattle.std.specs.List.{list_any}
use Rattle.std.specs.Str.{bytes_eq}
use Rattle.std.proofs.lemmas.Bool.Decides.{nat_tests}
use Rattle.std.proofs.lemmas.List.{length-append, length-map}
use Rattle.std.proofs.lemmas.List.Elements.{All-cons, All-head, All-nil, All-tail}
use Rattle.std.proofs.lemmas.Slice.Eq.{bytes_eq-Decides}
use Rattle.tydi_base.specs.Name.{is_name}
use Rattle.tydi_base.specs.Path.{path_of, path_text}
use Rattle.tydi_base.proofs.PathLaws.{path_of-path_text}
use Rattle.physical_stream.specs.StreamLine.{IsHead}
use Rattle.physical_stream.specs.declared.head.Head.{Head}
use Rattle.cycle_trace.specs.Trace.{all_distinct}
use Rattle.type_split.specs.Nodes.{StreamNode, nodes_of, outermost_place}
use Rattle.type_split.specs.Streams as split
use Rattle.type_split.specs.Streams.{IsPortSplit, PlainSplit, clash_from, gathered, is_same_path, stream_at, stream_in}
use Rattle.type_split.specs.declared.split.Phys.{Phys}
use Rattle.type_split.proofs.CountLemmas.{nodes_in-length, streams-few}
use Rattle.logical_types.specs.Tree.{Ltype}
use Rattle.port_drive.specs.Drives.{head_of_stream, heads_of}
use Rattle.port_drive.specs.Text.{PortHeadsStandTogether}

-- ---- few streams

one-at-most : (number : ℕ) (node : StreamNode) (phys : Option ℕ) → length (stream_in number node phys) ≤ 1
one-at-most number node None = omega arith
one-at-most number node (Some phys) = omega arith

gathered-few : (number : ℕ) (nodes : List StreamNode) → length (gathered stream_at number nodes) ≤ length nodes
gathered-few number [] = omega arith
gathered-few number (node ∷ more) =
    omega (arith, length-append (stream_at number node) (gathered stream_at (suc number) more), one-at-most number node node.phys, gathered-few (suc number) more)

streams-in : (ltype : Ltype) → length (split.streams_of ltype) ≤ length (nodes_of ltype)
streams-in ltype = gathered-few 0 (nodes_of ltype)

heads-few : (split : PlainSplit) → IsPortSplit split → length (heads_of split) ≤ 65536
heads-few plain port =
    omega (arith, length-map plain.streams head_of_stream, ap (λ (s : PlainSplit). length s.streams) port.is, streams-in port.ltype, nodes_in-length [] outermost_place 0 0 port.ltype, streams-few port.ltype, port.few)

-- ---- paths that are distinct

-- the names of a path are names
abbrev IsNamed : List (List ℕ) → Type 0
IsNamed path = All (λ name. IsTrue (is_name name)) path

abbrev texts_of : List Phys → List (List ℕ)
texts_of streams = map (λ (s : Phys). path_text s.path) streams

same-text : (one other : List (List ℕ)) → IsNamed one → IsNamed other → path_text one ≡ path_text other → one ≡ other
same-text one other named other_named same = same-path one other (sym (path_of-path_text one named) ∙ ap path_of same ∙ path_of-path_text other other_named)
  where
    same-path : (x y : List (List ℕ)) → ◌≡◌ {A = Option (List (List ℕ))} (Some x) (Some y) → x ≡ y
    same-path x y is = cc

same-path-itself : (path : List (List ℕ)) → is_same_path path path ≡ true
same-path-itself [] = refl
same-path-itself (name ∷ path) = rw ((bytes_eq-Decides name name).1 refl) (same-path-itself path)

-- two paths that differ have texts that differ
texts-differ : (one other : List (List ℕ)) → IsNamed one → IsNamed other → is_same_path one other ≡ false → bytes_eq (path_text other) (path_text one) ≡ false
texts-differ one other named other_named apart = by_test (bytes_eq (path_text other) (path_text one)) refl
  where
    by_test : (test : Bool) → bytes_eq (path_text other) (path_text one) ≡ test → test ≡ false
    by_test false is = refl
    by_test true is =
        let same : other ≡ one = same-text other one other_named named ((bytes_eq-Decides (path_text other) (path_text one)).0 is) in
        let clash : true ≡ false = sym (same-path-itself one) ∙ ap (is_same_path one) (sym same) ∙ apart in
        absurd cc

none-same : (path : List (List ℕ)) (before : List (List (List ℕ))) (i : ℕ) (other : List (List ℕ)) → list_any (is_same_path path) before ≡ false → slice_get before i ≡ Some other → is_same_path path other ≡ false
none-same path [] i other none there = cc
none-same path (one ∷ before) zero other none there =
    let same : one ≡ other = cc in
    subst (λ (p : List (List ℕ)). is_same_path path p ≡ false) same (first-false (is_same_path path one) (list_any (is_same_path path) before) none)
  where
    first-false : (a b : Bool) → (a || b) ≡ false → a ≡ false
    first-false true b is = is
    first-false false b is = refl
none-same path (one ∷ before) (suc i) other none there = none-same path before i other (second-false (is_same_path path one) (list_any (is_same_path path) before) none) there
  where
    second-false : (a b : Bool) → (a || b) ≡ false → b ≡ false
    second-false true b is = cc
    second-false false b is = is

-- streams after these paths do not clash: their texts differ from each other, and from those of the paths before them
record AreApart (before : List (List (List ℕ))) (streams : List Phys) : Type 0 where
  distinct : all_distinct (texts_of streams) ≡ true
  new : (i : ℕ) (path : List (List ℕ)) → slice_get before i ≡ Some path → list_any (bytes_eq (path_text path)) (texts_of streams) ≡ false

-- the paths before are named
abbrev AreNamed : List (List (List ℕ)) → Type 0
AreNamed before = (i : ℕ) (path : List (List ℕ)) → slice_get before i ≡ Some path → IsNamed path

named-more : (before : List (List (List ℕ))) (path : List (List ℕ)) → IsNamed path → AreNamed before → AreNamed (path ∷ before)
named-more before path named all zero other there = let same : path ≡ other = cc in subst IsNamed same named
named-more before path named all (suc i) other there = all i other there

both-false : (a b : Bool) → a ≡ false → b ≡ false → (a || b) ≡ false
both-false a b is_a is_b = rw (is_a, is_b) refl

both-true : (a b : Bool) → a ≡ false → b ≡ true → (not a && b) ≡ true
both-true a b is_a is_b = rw (is_a, is_b) refl

apart-from : (before : List (List (List ℕ))) (streams : List Phys) → AreNamed before → All (λ (s : Phys). IsNamed s.path) streams → clash_from before streams ≡ None → AreApart before streams
apart-from before [] named all none = record { distinct = refl; new = λ i path there. refl }
apart-from before (one ∷ more) named all none =
    let here : IsNamed one.path = All-head (λ (s : Phys). IsNamed s.path) one more all in
    by_test here (apart-from (one.path ∷ before) more (named-more before one.path here named) (All-tail (λ (s : Phys). IsNamed s.path) one more all))
    (list_any (is_same_path one.path) before) refl none
  where
    by_test : IsNamed one.path → (clash_from (one.path ∷ before) more ≡ None → AreApart (one.path ∷ before) more) → (test : Bool) → list_any (is_same_path one.path) before ≡ test
        → (if test then Some one.path else clash_from (one.path ∷ before) more) ≡ None → AreApart before (one ∷ more)
    by_test here later true is rest = cc
    by_test here later false is rest =
        let apart = later rest in
        record {
          distinct = both-true (list_any (bytes_eq (path_text one.path)) (texts_of more)) (all_distinct (texts_of more)) (apart.new 0 one.path refl) apart.distinct;
          new = λ i path there. both-false (bytes_eq (path_text path) (path_text one.path)) (list_any (bytes_eq (path_text path)) (texts_of more))
              (texts-differ one.path path here (named i path there) (none-same one.path before i path is there)) (apart.new (suc i) path there);
        }

-- ---- heads

streams-named : (streams : List Phys) → All IsHead (map head_of_stream streams) → All (λ (s : Phys). IsNamed s.path) streams
streams-named [] all = All-nil (λ (s : Phys). IsNamed s.path)
streams-named (one ∷ more) all = All-cons (λ (s : Phys). IsNamed s.path) one more (All-head IsHead (head_of_stream one) (map head_of_stream more) all).names (streams-named more (All-tail IsHead (head_of_stream one) (map head_of_stream more) all))

texts-same : (streams : List Phys) → map (λ (head : Head). path_text head.path) (map head_of_stream streams) ≡ texts_of streams
texts-same [] = refl
texts-same (one ∷ more) = ap (λ (l : List (List ℕ)). path_text one.path ∷ l) (texts-same more)

pub heads-in-form : (slice streams : List Phys) → slice ≡ streams → All (λ (s : Phys). IsHead (head_of_stream s)) slice → All IsHead (map head_of_stream streams)
heads-in-form slice streams same all = subst (λ (l : List Phys). All IsHead (map head_of_stream l)) same (of-each slice all)
  where
    of-each : (l : List Phys) → All (λ (s : Phys). IsHead (head_of_stream s)) l → All IsHead (map head_of_stream l)
    of-each [] each = All-nil IsHead
    of-each (one ∷ more) each = All-cons IsHead (head_of_stream one) (map head_of_stream more) (All-head (λ (s : Phys). IsHead (head_of_stream s)) one more each)
        (of-each more (All-tail (λ (s : Phys). IsHead (head_of_stream s)) one more each))

pub heads-together : PortHeadsStandTogether
heads-together plain port form =
    let clash : clash_from [] plain.streams ≡ None = ap (λ (s : PlainSplit). clash_from [] s.streams) port.is ∙ port.apart in
    let apart = apart-from [] plain.streams (λ i path there. cc) (streams-named plain.streams form) clash in
    let distinct : all_distinct (map (λ (head : Head). path_text head.path) (heads_of plain)) ≡ true = ap all_distinct (texts-same plain.streams) ∙ apart.distinct in
    let few : length (heads_of plain) ≤ 65536 = heads-few plain port in
    let few_test : nat_le (length (heads_of plain)) 65536 ≡ true = grind (arith, nat_tests) in
    rw (few_test, distinct) refl
