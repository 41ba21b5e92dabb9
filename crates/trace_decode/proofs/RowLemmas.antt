-- The stream of a row: the node of its elements, and what is kept of it.
use Rattle.std.proofs.Common.{◌≡◌, ◌∙◌, ℕ, ◌<◌, Bool, List, [], ◌∷◌, ◌++◌, length, map, get_or, Some, Result, Ok, Err, All, IfOk, OnOk, slice_get, sym, ap, subst, arith}
use Rattle.std.specs.Prelude.{option_map}
use Rattle.std.proofs.Math.ListN.{set}
use Rattle.std.proofs.lemmas.List.{length-map, length-set}
use Rattle.std.proofs.lemmas.List.Elements.{All-get_or}
use Rattle.std.proofs.lemmas.Option.{get_or_from_slice_get, slice_get-map, slice_get_within}
use Rattle.tydi_base.proofs.PlaceLemmas.{slice_get-set_other, slice_get-set_same, slice_get-there}
use Rattle.physical_stream.specs.Params.{Parameters}
use Rattle.physical_stream.specs.Cycles.{Cycle}
use Rattle.logical_types.specs.Faults.{IsPlain}
use Rattle.logical_types.specs.Tree.{Ltype, plain}
use Rattle.logical_types.specs.Width.{width_of}
use Rattle.type_split.specs.Elements.{HasElements}
use Rattle.type_split.specs.Nodes.{StreamNode}
use Rattle.type_split.specs.Streams.{IsPortSplit, PlainSplit, node_view, plain_split}
use Rattle.type_split.specs.declared.split.Node.{Node}
use Rattle.type_split.specs.declared.split.Phys.{Phys}
use Rattle.type_split.specs.declared.split.Split.{Split}
use Rattle.type_split.proofs.ElementLemmas.{nodes_have_elements}
use Rattle.value_views.proofs.NodeLemmas.{has-node, node-width}
use Rattle.trace_decode.specs.Keeping.{IsElementOf, KeepsStream, are_named_in}
use Rattle.trace_decode.specs.Running.{TakesRow}
use Rattle.trace_decode.specs.Tags.{element_at, element_of_node, element_of_stream}
use Rattle.trace_decode.specs.declared.stream_kept.StreamKept.{StreamKept}

pub all-at : {A : Type 0} (P : A → Type 0) (l : List A) (at : ℕ) (x : A) → All P l → slice_get l at ≡ Some x → P x
all-at P l at x all found = subst P (get_or_from_slice_get l at x x found) (All-get_or P l at x (slice_get_within l at x found) all)

pub same_some : {A : Type 0} {x y : A} → Some x ≡ Some y → x ≡ y
same_some is = cc

-- ---- the node of a stream

-- the node of a physical stream, with the type of its elements
pub record HasElementNode (split : Split) (stream : ℕ) (phys : Phys) : Type 0 where
  pub node : Node
  pub found : slice_get split.nodes phys.node ≡ Some node
  pub of : IsElementOf (plain node.element.now) phys.params
  pub at : element_at (plain_split split) stream ≡ plain node.element.now

pub element_node : (split : Split) → IsPortSplit (plain_split split) → (stream : ℕ) (phys : Phys) → slice_get split.streams stream ≡ Some phys → HasElementNode split stream phys
element_node split is stream phys there =
    let has = has-node (plain_split split) is stream phys there in
    let within : phys.node < length split.nodes = omega (arith, slice_get_within (map node_view split.nodes) phys.node has.node has.found, length-map split.nodes node_view) in
    let here = slice_get-there split.nodes phys.node within in
    let is_node : has.node ≡ node_view here.0 = same_some (sym has.found ∙ slice_get-map node_view split.nodes phys.node ∙ ap (option_map node_view) here.1) in
    let element = all-at HasElements (plain_split split).nodes phys.node has.node (nodes_have_elements (plain_split split) is) has.found in
    record {
      node = here.0;
      found = here.1;
      of = record {
        plain = subst (λ (n : StreamNode). IsPlain n.element) is_node element.plain;
        width =
            ap (λ (p : Parameters). p.element) has.params ∙ node-width (plain_split split) is phys.node has.node has.found
            ∙ ap (λ (n : StreamNode). width_of n.element) is_node;
      };
      at = ap (element_of_stream (plain_split split).nodes) there ∙ ap element_of_node (has.found ∙ ap (λ (n : StreamNode). Some n) is_node);
    }

-- an item of a list that was read is the one at that place
pub is_read : {A : Type 0} (list read : List A) (place : ℕ) (x one : A) → slice_get list place ≡ Some x → read ≡ list → one ≡ get_or read place one → one ≡ x
is_read list read place x one there same is =
    let inside : slice_get read place ≡ Some x = ap (λ l. slice_get l place) same ∙ there in
    is ∙ get_or_from_slice_get read place x one inside

-- ---- one row

pub takes_row : {E : Type 0} → (split : PlainSplit) (stream : ℕ) (row : Cycle) (old : List StreamKept) (phys : Phys) (one next : StreamKept) (element : Ltype) (result : Result Bool E)
    → slice_get split.streams stream ≡ Some phys → slice_get old stream ≡ Some one → element_at split stream ≡ element
    → ((cycles : List Cycle) → KeepsStream (record { params = phys.params; cycles = cycles }) one → OnOk result (KeepsStream (record { params = phys.params; cycles = cycles ++ row ∷ [] }) next))
    → IfOk result (λ named. named ≡ are_named_in element phys.params row) → TakesRow split stream row old (set old stream next) result
takes_row split stream row old phys one next element (Err e) there found at keeps says = tt
takes_row split stream row old phys one next element (Ok named) there found at keeps says = record {
  many = length-set old stream next;
  others = λ i other. slice_get-set_other old stream i next (λ same. other (sym same));
  kept = λ phys' one' next' cycles there' found' after was.
      let is_phys : phys ≡ phys' = same_some (sym there ∙ there') in
      let is_one : one ≡ one' = same_some (sym found ∙ found') in
      let is_next : next ≡ next' = same_some (sym (slice_get-set_same old stream next (slice_get_within old stream one found)) ∙ after) in
      subst (λ (n : StreamKept). KeepsStream (record { params = phys'.params; cycles = cycles ++ row ∷ [] }) n) is_next
      (subst (λ (q : Phys). KeepsStream (record { params = q.params; cycles = cycles ++ row ∷ [] }) next) is_phys
      (keeps cycles (subst (λ (k : StreamKept). KeepsStream (record { params = phys.params; cycles = cycles }) k) (sym is_one)
      (subst (λ (q : Phys). KeepsStream (record { params = q.params; cycles = cycles }) one') (sym is_phys) was))));
  is_named = λ phys' there'.
      let is_phys : phys ≡ phys' = same_some (sym there ∙ there') in
      says ∙ ap (λ (e : Ltype). are_named_in e phys.params row) (sym at) ∙ ap (λ (q : Phys). are_named_in (element_at split stream) q.params row) is_phys;
}
