-- Ends of nodes, node after node.
use Rattle.std.proofs.Common.{◌≡◌, ◌∙◌, ℕ, suc, ◌+◌, ◌<◌, ◌≤◌, List, [], ◌∷◌, ◌++◌, length, map, get_or, drop, if◌then◌else◌, refl, sym, ap, subst, append_assoc, length-append, arith}
use Rattle.std.specs.Prelude.{slice_set}
use Rattle.std.proofs.lemmas.List.{append-nil, drop_more}
use Rattle.logical_types.specs.declared.ltype.Part.{Part}
use Rattle.logical_types.specs.Tree.{Ltype, null, bits, group, union, stream, Parts, no_parts, part, plain, plain_parts}
use Rattle.logical_types.proofs.PlainLemmas.{plain_parts-at, plain_parts-past}
use Rattle.type_split.specs.Ending.{ends_in, ends_in_parts}
use Rattle.type_split.specs.Nodes.{StreamNode, is_physical, nodes_in, nodes_in_parts, nodes_of, node_at, number_of_streams, streams_in_parts, number_of_physical, outermost_place, place_inside}
use Rattle.type_split.specs.Standing.{end_at, ends_of}
use Rattle.type_split.specs.Streams.{IsPortSplit, PlainSplit, gathered, node_view}
use Rattle.type_split.specs.declared.place.Place.{Place}
use Rattle.type_split.specs.declared.split.Node.{Node}
use Rattle.type_split.proofs.CountLemmas.{streams-few}
use Rattle.type_split.proofs.StandingLemmas.{gathered-part}

mutual
  ends-length : (number : ℕ) (ltype : Ltype) → length (ends_in number ltype) ≡ number_of_streams ltype
  ends-length number null = refl
  ends-length number (bits width) = refl
  ends-length number (group parts) = ends-length_parts number parts
  ends-length number (union parts) = ends-length_parts number parts
  ends-length number (stream element user settings) = ap (λ (n : ℕ). suc n) (ends-length (suc number) element)

  ends-length_parts : (number : ℕ) (parts : Parts) → length (ends_in_parts number parts) ≡ streams_in_parts parts
  ends-length_parts number no_parts = refl
  ends-length_parts number (part name ltype more) =
      let here = ends-length number ltype in
      let rest = ends-length_parts (number_of_streams ltype + number) more in
      length-append (ends_in number ltype) (ends_in_parts (number_of_streams ltype + number) more) ∙ omega (arith, here, rest)

mutual
  ends-gathered : (names : List (List ℕ)) (place : Place) (number physical : ℕ) (ltype : Ltype) → gathered end_at number (nodes_in names place number physical ltype) ≡ ends_in number ltype
  ends-gathered names place number physical null = refl
  ends-gathered names place number physical (bits width) = refl
  ends-gathered names place number physical (group parts) = ends-gathered_parts names place number physical parts
  ends-gathered names place number physical (union parts) = ends-gathered_parts names place number physical parts
  ends-gathered names place number physical (stream element user settings) =
      ap (λ (l : List ℕ). (suc number + number_of_streams element) ∷ l)
      (ends-gathered names (place_inside place number settings) (suc number) ((if is_physical element user settings then 1 else 0) + physical) element)

  ends-gathered_parts : (names : List (List ℕ)) (place : Place) (number physical : ℕ) (parts : Parts)
      → gathered end_at number (nodes_in_parts names place number physical parts) ≡ ends_in_parts number parts
  ends-gathered_parts names place number physical no_parts = refl
  ends-gathered_parts names place number physical (part name ltype more) =
      let next = number_of_streams ltype + number in
      let back = nodes_in_parts names place next (number_of_physical ltype + physical) more in
      gathered-part end_at names place number physical name ltype more
      ∙ ap (λ (l : List ℕ). l ++ gathered end_at next back) (ends-gathered (names ++ name ∷ []) place number physical ltype)
      ∙ ap (λ (l : List ℕ). ends_in number ltype ++ l) (ends-gathered_parts names place next (number_of_physical ltype + physical) more)

pub ends_of-nodes_of : (ltype : Ltype) → ends_of (nodes_of ltype) ≡ ends_in 0 ltype
ends_of-nodes_of ltype = ends-gathered [] outermost_place 0 0 ltype

-- ---- parts

-- the ends of the parts that are left are to be added behind those that were added
pub record AreLeft (old new : List ℕ) (all more : Parts) : Type 0 where
  pub number : streams_in_parts more + length new ≡ streams_in_parts all + length old
  pub added : new ++ ends_in_parts (length new) more ≡ old ++ ends_in_parts (length old) all

pub AreLeft-step : (old now new : List ℕ) (all : Parts) (parts : List Part) (at : ℕ) (one : Part) → at < length parts → one ≡ get_or parts at one
    → streams_in_parts all + length old ≤ 65536 → AreLeft old now all (plain_parts (drop at parts))
    → (number_of_streams (plain one.ltype) + length now ≤ 65536 → new ≡ now ++ ends_in (length now) (plain one.ltype)) → AreLeft old new all (plain_parts (drop (at + 1) parts))
AreLeft-step old now new all parts at one within is few left adds =
    let next = plain_parts (drop (at + 1) parts) in
    let t = plain one.ltype in
    let here : AreLeft old now all (part one.name t next) = subst (AreLeft old now all) (plain_parts-at parts at one within is) left in
    let grown = adds (omega (arith, here.number, few)) in
    let long : length new ≡ number_of_streams t + length now = ap length grown ∙ length-append now (ends_in (length now) t) ∙ omega (arith, ends-length (length now) t) in
    record {
      number = omega (arith, here.number, long);
      added = ap (λ (n : ℕ). new ++ ends_in_parts n next) long
          ∙ ap (λ (l : List ℕ). l ++ ends_in_parts (number_of_streams t + length now) next) grown
          ∙ append_assoc now (ends_in (length now) t) (ends_in_parts (number_of_streams t + length now) next)
          ∙ here.added;
    }

pub AreLeft-past : (old now : List ℕ) (all : Parts) (parts : List Part) (at : ℕ) → length parts ≤ at → AreLeft old now all (plain_parts (drop at parts))
    → now ≡ old ++ ends_in_parts (length old) all
AreLeft-past old now all parts at done left =
    let here : AreLeft old now all no_parts = subst (AreLeft old now all) (plain_parts-past parts at done) left in sym (append-nil now) ∙ here.added

-- ---- a node

set_seam : (front : List ℕ) (one other : ℕ) (back : List ℕ) → slice_set (front ++ one ∷ back) (length front) other ≡ front ++ other ∷ back
set_seam [] one other back = refl
set_seam (first ∷ front) one other back = ap (λ (l : List ℕ). first ∷ l) (set_seam front one other back)

pub node-added : (old pushed inner new : List ℕ) (element : Ltype) (at count end : ℕ) → suc (number_of_streams element) + length old ≤ 65536 → at ≡ length old → pushed ≡ old ++ 0 ∷ []
    → (number_of_streams element + length pushed ≤ 65536 → inner ≡ pushed ++ ends_in (length pushed) element) → count ≡ length inner → (count ≤ 65536 → end ≡ count)
    → new ≡ slice_set inner at end → new ≡ old ++ (suc (length old) + number_of_streams element) ∷ ends_in (suc (length old)) element
node-added old pushed inner new element at count end few at_is pushes adds counts ends put =
    let long : length pushed ≡ suc (length old) = ap length pushes ∙ length-append old (0 ∷ []) ∙ omega arith in
    let ends_inside = ends_in (suc (length old)) element in
    let is : inner ≡ old ++ 0 ∷ ends_inside =
    adds (omega (arith, long, few)) ∙ ap (λ (n : ℕ). pushed ++ ends_in n element) long ∙ ap (λ (l : List ℕ). l ++ ends_inside) pushes ∙ append_assoc old (0 ∷ []) ends_inside in
    let number : length inner ≡ suc (length old) + number_of_streams element =
    ap length is ∙ length-append old (0 ∷ ends_inside) ∙ omega (arith, ends-length (suc (length old)) element) in
    let end_is : end ≡ suc (length old) + number_of_streams element = ends (omega (arith, counts, number, few)) ∙ counts ∙ number in
    put ∙ ap (λ (l : List ℕ). slice_set l at end) is ∙ ap (λ (n : ℕ). slice_set (old ++ 0 ∷ ends_inside) n end) at_is ∙ set_seam old 0 end ends_inside
    ∙ ap (λ (n : ℕ). old ++ n ∷ ends_inside) end_is

-- ---- a whole port

first_element : (one node : StreamNode) (more rest : List StreamNode) → one ∷ more ≡ node ∷ rest → one.element ≡ node.element
first_element one node more rest same = (let first : one ≡ node = cc in ap (λ (n : StreamNode). n.element) first)

pub ends-whole : (split : PlainSplit) (one : StreamNode) (more : List StreamNode) (old ends : List ℕ) → IsPortSplit split → one ∷ more ≡ split.nodes → old ≡ []
    → (suc (number_of_streams one.element) + length old ≤ 65536 → ends ≡ old ++ (suc (length old) + number_of_streams one.element) ∷ ends_in (suc (length old)) one.element)
    → ends ≡ ends_of split.nodes
ends-whole split one more (first ∷ old) ends is begins none adds = cc
ends-whole split one more [] ends is begins none adds =
    let element = is.port.element in
    let all = stream element is.port.user is.port.settings in
    let nodes : split.nodes ≡ nodes_of all = ap (λ (s : PlainSplit). s.nodes) is.is ∙ ap nodes_of is.port.is in
    let inner = nodes_in [] (place_inside outermost_place 0 is.port.settings) 1 ((if is_physical element is.port.user is.port.settings then 1 else 0) + 0) element in
    let same : one.element ≡ element = first_element one (node_at [] outermost_place 0 0 element is.port.user is.port.settings) more inner (begins ∙ nodes) in
    let less = streams-few is.ltype in
    let count = ap number_of_streams is.port.is in
    let fewer = ap number_of_streams same in
    adds (omega (arith, less, is.few, count, fewer)) ∙ ap (λ (t : Ltype). (suc 0 + number_of_streams t) ∷ ends_in 1 t) same ∙ sym (ends_of-nodes_of all) ∙ ap ends_of (sym nodes)

pub first_node : (nodes : List Node) (one : Node) → 1 ≤ length nodes → one ≡ get_or nodes 0 one → node_view one ∷ map node_view (drop 1 nodes) ≡ map node_view nodes
first_node nodes one some is = ap (map node_view) (ap (λ x. x ∷ drop 1 nodes) is ∙ sym (drop_more nodes 0 one (omega (arith, some))))
