-- The walk over a port finds the first disagreement of its views.
use Rattle.std.proofs.Common.{◌≡◌, ◌∙◌, ◌<◌, ◌≤◌, ℕ, suc, ◌+◌, List, [], ◌∷◌, length, slice_get, Some, None, refl, sym, ap, subst, arith}
use Rattle.std.specs.Prelude.{if◌then◌else◌, Result, MatchResult}
use Rattle.logical_types.specs.Tree.{Ltype, Settings, stream}
use Rattle.type_split.specs.Nodes.{StreamNode, is_physical, nodes_of, number_of_streams, outermost_place, place_inside}
use Rattle.type_split.specs.Standing.{AreFrom}
use Rattle.type_split.specs.Streams.{IsPortSplit, PlainSplit}
use Rattle.type_split.proofs.CountLemmas.{nodes_in-length, streams-few}
use Rattle.nest_shape.specs.Tree as nests
use Rattle.logical_value.specs.Tree.{Tree}
use Rattle.value_views.specs.Along.{along}
use Rattle.value_views.specs.Comparing.{Disagreement, disagreement_of, disagreements_in}
use Rattle.value_views.specs.Giving.{AreGiven, CanJoin}
use Rattle.value_views.specs.Joining.{IsDisagreement}
use Rattle.value_views.specs.Series.{replaced, series_at}
use Rattle.value_views.specs.Shown.{AreNests}
use Rattle.value_views.specs.Walking.{CanCompare, Compares, IsFirst, IsPlaced}
use Rattle.value_views.specs.Words.{given_at, given_of_nodes}
use Rattle.value_views.specs.declared.fault.JoinFault.{JoinFault}
use Rattle.value_views.specs.declared.fault.JoinFault.TheVariants as faults
use Rattle.value_views.proofs.GivenLemmas.{given_in-length}
use Rattle.value_views.proofs.GivenNodeLemmas.{found-within}
use Rattle.value_views.proofs.JoinLemmas.{HasOutermost, disagreements-are, given-values, has-outermost, nodes-from, one-found}
use Rattle.value_views.proofs.NodeLemmas.{nodes_inside, outermost_node}
use Rattle.value_views.proofs.WalkingLemmas.{kept-nests, map_result, replaced-same}

-- ---- all series are given

same-series : (one other : List (List Tree)) → length one ≡ length other → ((k : ℕ) → k < length one → series_at k one ≡ series_at k other) → one ≡ other
same-series [] [] long each = refl
same-series [] (x ∷ other) long each = absurd (omega (arith, long))
same-series (x ∷ one) [] long each = absurd (omega (arith, long))
same-series (x ∷ one) (y ∷ other) long each =
    ap (λ (s : List Tree). s ∷ one) (each 0 (omega arith))
    ∙ ap (λ (l : List (List Tree)). y ∷ l) (same-series one other (omega (arith, long)) (λ k less. each (suc k) (omega (arith, less))))

port-length : (element user : Ltype) (settings : Settings) (views : List (List nests.Tree)) → length (given_of_nodes (nodes_of (stream element user settings)) views) ≡ length (nodes_of (stream element user settings))
port-length element user settings views =
    ap suc (given_in-length (outermost_node element user settings).params.dims _ element
    ∙ sym (nodes_in-length [] (place_inside outermost_place 0 settings) 1 ((if is_physical element user settings then 1 else 0) + 0) element))

pub given-whole : (split : PlainSplit) (views : List (List nests.Tree)) (given : List (List Tree)) → CanJoin split views → AreGiven split views 0 given → given ≡ given_of_nodes split.nodes views
given-whole split views given can are =
    let port = has-outermost split can.port in
    let count : length (given_of_nodes split.nodes views) ≡ length split.nodes =
    subst (λ (s : PlainSplit). length (given_of_nodes s.nodes views) ≡ length s.nodes) (sym port.is) (port-length port.element port.user port.settings views) in
    let long = are.long in
    same-series given (given_of_nodes split.nodes views) (omega (arith, count, long)) (λ k less. are.each k (omega arith) (omega (arith, less, long)))

-- ---- the outermost node

-- the first of a port's nodes
pub outermost-found : (split : PlainSplit) (port : HasOutermost split) → slice_get split.nodes 0 ≡ Some (outermost_node port.element port.user port.settings)
outermost-found split port = ap (λ (s : PlainSplit). slice_get s.nodes 0) port.is

pub some-node : (split : PlainSplit) → IsPortSplit split → 1 ≤ length split.nodes
some-node split is = found-within split.nodes 0 _ (outermost-found split (has-outermost split is))

-- the nodes inside it may be compared
pub port-can : (split : PlainSplit) (views : List (List nests.Tree)) (given : List (List Tree)) (node : StreamNode) (element : Ltype) (dims : ℕ) → CanJoin split views → AreGiven split views 0 given
    → slice_get split.nodes 0 ≡ Some node → element ≡ node.element → dims ≡ node.params.dims
    → CanCompare split given 0 (number_of_streams element + 1) (IsPlaced split 1 dims element)
port-can split views given node element dims can are found same deep =
    subst (λ (t : Ltype). CanCompare split given 0 (number_of_streams t + 1) (IsPlaced split 1 dims t)) (sym (same ∙ ap (λ (n : StreamNode). n.element) is))
    (subst (λ (d : ℕ). CanCompare split given 0 (number_of_streams port.element + 1) (IsPlaced split 1 d port.element)) (sym (deep ∙ ap (λ (n : StreamNode). n.params.dims) is))
    (record {
      long = are.long;
      few = few-streams;
      within = some-node split can.port;
      nested = λ number one there. subst (AreNests one.params.dims) (sym (are.each number (omega arith) (found-within split.nodes number one there)))
          (given-values split can.port can.carried views can.are number one there).nests;
      placed = subst (λ (s : PlainSplit). IsPlaced s 1 (outermost_node port.element port.user port.settings).params.dims port.element) (sym port.is)
          (record {
            names = [];
            place = place_inside outermost_place 0 port.settings;
            physical = (if is_physical port.element port.user port.settings then 1 else 0) + 0;
            around = refl;
            from = nodes-from port.element port.user port.settings;
          });
    }))
  where
    port : HasOutermost split
    port = has-outermost split can.port

    is : node ≡ outermost_node port.element port.user port.settings
    is = one-found (slice_get split.nodes 0) node (outermost_node port.element port.user port.settings) found (outermost-found split port)

    few-streams : number_of_streams port.element + 1 ≤ 65536
    few-streams =
        let all = streams-few can.port.ltype in
        let few = can.port.few in
        let whole : number_of_streams can.port.ltype ≡ suc (number_of_streams can.port.port.element) = ap number_of_streams can.port.port.is in
        omega (arith, all, few, whole)

first-disagreement : (split : PlainSplit) (views : List (List nests.Tree)) (found : List Disagreement) (fault : JoinFault) → disagreement_of split views ≡ slice_get found 0 → IsFirst found fault
    → IsDisagreement split views fault
first-disagreement split views found (faults.Disagree path packet) same first = same ∙ first
first-disagreement split views found faults.Memory same first = tt

-- the walk finds the disagreements of the definition
walked-same : (split : PlainSplit) (views : List (List nests.Tree)) (given : List (List Tree)) (port : HasOutermost split) → CanJoin split views → AreGiven split views 0 given
    → disagreement_of split views
    ≡ slice_get (disagreements_in (λ n. series_at n given) [] 1 (outermost_node port.element port.user port.settings).params.dims port.element
    (replaced (along []) (outermost_node port.element port.user port.settings).params.dims (series_at 0 given))) 0
walked-same split views given port can are =
    let dims = (outermost_node port.element port.user port.settings).params.dims in
    let nested = (given-values split can.port can.carried views can.are 0 (outermost_node port.element port.user port.settings) (outermost-found split port)).nests in
    disagreements-are split port views
    ∙ ap (λ (s : List Tree). slice_get (disagreements_in (given_at split views) [] 1 dims port.element s) 0)
    (sym (replaced-same (along []) (λ v. Some v) (λ v. refl) dims (given_at split views 0) ∙ kept-nests dims (given_at split views 0) nested))
    ∙ ap (λ (l : List (List Tree)). slice_get (disagreements_in (λ n. series_at n l) [] 1 dims port.element (replaced (along []) dims (series_at 0 l))) 0) (sym (given-whole split views given can are))

-- the result of the walk is the first disagreement of the views
pub walk-answers : (split : PlainSplit) (views : List (List nests.Tree)) (given : List (List Tree)) (way : List ℕ) (node : StreamNode) (element : Ltype) (dims : ℕ)
    (result : Result (Unit {0}) JoinFault) → CanJoin split views → AreGiven split views 0 given → slice_get split.nodes 0 ≡ Some node → element ≡ node.element → dims ≡ node.params.dims
    → Compares split given [] way 0 1 dims element result → MatchResult result (λ _. disagreement_of split views ≡ None) (IsDisagreement split views)
walk-answers split views given way node element dims result can are found same deep compares =
    map_result result (λ _. (way ≡ []) × (walked ≡ [])) (λ _. disagreement_of split views ≡ None) (IsFirst walked) (IsDisagreement split views)
    (λ _ both. walked-same split views given port can are ∙ ap (λ (l : List Disagreement). slice_get l 0) both.1)
    (λ fault first. first-disagreement split views walked fault (walked-same split views given port can are) first)
    (here (record {
      names = [];
      place = place_inside outermost_place 0 port.settings;
      physical = (if is_physical port.element port.user port.settings then 1 else 0) + 0;
      around = refl;
      from = subst (λ (s : PlainSplit). AreFrom s.nodes 1 (nodes_inside port.element port.user port.settings)) (sym port.is) (nodes-from port.element port.user port.settings);
    }))
  where
    port : HasOutermost split
    port = has-outermost split can.port

    is : node ≡ outermost_node port.element port.user port.settings
    is = one-found (slice_get split.nodes 0) node (outermost_node port.element port.user port.settings) found (outermost-found split port)

    outer_dims : ℕ
    outer_dims = (outermost_node port.element port.user port.settings).params.dims

    walked : List Disagreement
    walked = disagreements_in (λ n. series_at n given) [] 1 outer_dims port.element (replaced (along []) outer_dims (series_at 0 given))

    here : Compares split given [] way 0 1 (outermost_node port.element port.user port.settings).params.dims port.element result
    here = subst (λ (d : ℕ). Compares split given [] way 0 1 d port.element result) (deep ∙ ap (λ (n : StreamNode). n.params.dims) is)
        (subst (λ (t : Ltype). Compares split given [] way 0 1 dims t result) (same ∙ ap (λ (n : StreamNode). n.element) is) compares)
