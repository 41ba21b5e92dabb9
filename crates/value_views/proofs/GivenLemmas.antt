-- The series that views give to the nodes of a port, by the nodes' numbers, and the physical streams by theirs.
use Rattle.std.proofs.Common.{◌≡◌, ◌∙◌, ◌<◌, ℕ, zero, suc, ◌+◌, Bool, true, false, cond, List, [], ◌∷◌, ◌++◌, length, map, drop, slice_get, refl, sym, ap, subst, arith, length-append, append_assoc}
use Rattle.std.specs.Prelude.{Option, Some, None, is_some}
use Rattle.std.proofs.lemmas.List.{append-nil, drop-drop}
use Rattle.logical_types.specs.Faults.{effective_dims}
use Rattle.logical_types.specs.Tree.{Ltype, Parts, Settings, stream}
use Rattle.logical_types.specs.Tree as types
use Rattle.type_split.specs.Nodes.{StreamNode, is_physical, nodes_in, nodes_in_parts, nodes_of, number_of_physical, number_of_streams, physical_in_parts, streams_in_parts, outermost_place, place_inside}
use Rattle.type_split.specs.Streams.{IsPortSplit, PlainSplit, gathered, phys_of, split_of, stream_at, stream_in}
use Rattle.type_split.specs.declared.split.Phys.{Phys}
use Rattle.type_split.proofs.CountLemmas.{nodes_in-length}
use Rattle.nest_shape.specs.Tree as nests
use Rattle.logical_value.specs.Tree.{Tree}
use Rattle.value_views.specs.Series.{dims_inside, series_at}
use Rattle.value_views.specs.Views.{EachPair}
use Rattle.value_views.specs.Words.{blank_series, first_carried, first_view, given_at, given_in, given_in_parts, given_of_nodes, given_series, unpacked, views_behind}
use Rattle.value_views.proofs.BlankLemmas.{first_carried-same}
use Rattle.value_views.proofs.NodeLemmas.{Place, dims-are, outermost_node}

-- ---- facts of each of a list, by its number

abbrev pub HoldFrom : {A : Type 0} → (ℕ → A → Type 0) → ℕ → List A → Type 0
HoldFrom Holds number [] = Unit {0}
HoldFrom Holds number (x ∷ more) = Holds number x × HoldFrom Holds (suc number) more

pub HoldFrom-append : {A : Type 0} (Holds : ℕ → A → Type 0) (number next : ℕ) (one other : List A) → next ≡ length one + number → HoldFrom Holds number one → HoldFrom Holds next other
    → HoldFrom Holds number (one ++ other)
HoldFrom-append Holds number next [] other is each others = (let same : next ≡ number = omega (arith, is) in subst (λ (n : ℕ). HoldFrom Holds n other) same others)
HoldFrom-append Holds number next (x ∷ one) other is each others = (each.0, HoldFrom-append Holds (suc number) next one other (omega (arith, is)) each.1 others)

pub HoldFrom-at : {A : Type 0} (Holds : ℕ → A → Type 0) (number k whole : ℕ) (l : List A) (x : A) → whole ≡ k + number → HoldFrom Holds number l → slice_get l k ≡ Some x → Holds whole x
HoldFrom-at Holds number k whole [] x is each found = cc
HoldFrom-at Holds number zero whole (y ∷ l) x is each found =
    let same : y ≡ x = cc in
    let at : number ≡ whole = omega (arith, is) in
    subst (λ (n : ℕ). Holds n x) at (subst (Holds number) same each.0)
HoldFrom-at Holds number (suc k) whole (y ∷ l) x is each found = HoldFrom-at Holds (suc number) k whole l x (omega (arith, is)) each.1 found

-- ---- the series of this number in two lists

series_at-front : (one other : List (List Tree)) (k : ℕ) → k < length one → series_at k (one ++ other) ≡ series_at k one
series_at-front [] other k less = absurd (omega (arith, less))
series_at-front (x ∷ one) other zero less = refl
series_at-front (x ∷ one) other (suc k) less = series_at-front one other k (omega (arith, less))

series_at-back : (one other : List (List Tree)) (k whole : ℕ) → whole ≡ k + length one → series_at whole (one ++ other) ≡ series_at k other
series_at-back [] other k whole is = (let same : whole ≡ k = omega (arith, is) in ap (λ (n : ℕ). series_at n other) same)
series_at-back (x ∷ one) other k zero is = absurd (omega (arith, is))
series_at-back (x ∷ one) other k (suc whole) is = series_at-back one other k whole (omega (arith, is))

mutual
  pub given_in-length : (dims : ℕ) (views : List (List nests.Tree)) (ltype : Ltype) → length (given_in dims views ltype) ≡ number_of_streams ltype
  given_in-length dims views types.null = refl
  given_in-length dims views (types.bits width) = refl
  given_in-length dims views (types.group parts) = given_in_parts-length dims views parts
  given_in-length dims views (types.union parts) = given_in_parts-length dims views parts
  given_in-length dims views (types.stream element user settings) =
      ap (λ (n : ℕ). suc n) (given_in-length (dims_inside settings.sync dims settings.dims) (views_behind (is_physical element user settings) views) element)

  given_in_parts-length : (dims : ℕ) (views : List (List nests.Tree)) (parts : Parts) → length (given_in_parts dims views parts) ≡ streams_in_parts parts
  given_in_parts-length dims views types.no_parts = refl
  given_in_parts-length dims views (types.part name ltype more) =
      let here = given_in-length dims views ltype in
      let rest = given_in_parts-length dims (drop (number_of_physical ltype) views) more in
      length-append (given_in dims views ltype) (given_in_parts dims (drop (number_of_physical ltype) views) more) ∙ omega (arith, here, rest)

-- ---- what views give

-- the view of the physical stream of this number
abbrev pub view_at : ℕ → List (List nests.Tree) → List nests.Tree
view_at number views = first_view (drop number views)

-- the series of the node of this number is that of its view, or, where it has none, has the lists of its first carried Sync child
pub record IsGiven (views : List (List nests.Tree)) (given : ℕ → List Tree) (number : ℕ) (node : StreamNode) : Type 0 where
  pub seen : (phys : ℕ) → node.phys ≡ Some phys → given number ≡ map (unpacked node.element) (view_at phys views)
  pub unseen : node.phys ≡ None → given number ≡ blank_series node.element node.params.dims (first_carried given (suc number) node.element)

seen-given : (physical : Bool) (views all : List (List nests.Tree)) (given : List Tree) (before phys dims : ℕ) (element : Ltype) (inside : List (List Tree)) → views ≡ drop before all
    → given ≡ given_series physical element dims views inside → cond physical (Some before) None ≡ Some phys → given ≡ map (unpacked element) (view_at phys all)
seen-given true views all given before phys dims element inside are is there =
    let same : before ≡ phys = cc in
    is ∙ ap (λ (v : List (List nests.Tree)). map (unpacked element) (first_view v)) are ∙ ap (λ (n : ℕ). map (unpacked element) (view_at n all)) same
seen-given false views all given before phys dims element inside are is there = cc

unseen-given : (physical : Bool) (views : List (List nests.Tree)) (given : List Tree) (before dims : ℕ) (element : Ltype) (inside : List (List Tree))
    → given ≡ given_series physical element dims views inside → cond physical (Some before) None ≡ None
    → given ≡ blank_series element dims (first_carried (λ number. series_at number inside) 0 element)
unseen-given true views given before dims element inside is there = cc
unseen-given false views given before dims element inside is there = is

behind-views : (physical : Bool) (views all : List (List nests.Tree)) (before : ℕ) → views ≡ drop before all → views_behind physical views ≡ drop (cond physical 1 0 + before) all
behind-views true views all before are =
    ap (λ (v : List (List nests.Tree)). drop 1 v) are ∙ drop-drop 1 before all
    ∙ (let same : before + 1 ≡ 1 + before = omega arith in ap (λ (n : ℕ). drop n all) same)
behind-views false views all before are = are ∙ (let same : before ≡ 0 + before = omega arith in ap (λ (n : ℕ). drop n all) same)

-- the series of these are the next of those
abbrev AreNext : (ℕ → List Tree) → ℕ → ℕ → List (List Tree) → Type 0
AreNext given number count series = (k : ℕ) → k < count → given (k + number) ≡ series_at k series

mutual
  given-in : (all : List (List nests.Tree)) (given : ℕ → List Tree) (names : List (List ℕ)) (place : Place) (number physical : ℕ) (ltype : Ltype) (dims : ℕ) (views : List (List nests.Tree))
      → place.around.dims ≡ dims → views ≡ drop physical all → AreNext given number (number_of_streams ltype) (given_in dims views ltype)
      → HoldFrom (IsGiven all given) number (nodes_in names place number physical ltype)
  given-in all given names place number physical types.null dims views around are next = tt
  given-in all given names place number physical (types.bits width) dims views around are next = tt
  given-in all given names place number physical (types.group parts) dims views around are next = given-in_parts all given names place number physical parts dims views around are next
  given-in all given names place number physical (types.union parts) dims views around are next = given-in_parts all given names place number physical parts dims views around are next
  given-in all given names place number physical (types.stream element user settings) dims views around are next =
      let inner = dims_inside settings.sync dims settings.dims in
      let same : effective_dims settings.dims settings.sync place.around.dims ≡ inner = dims-are settings.sync place.around.dims dims settings.dims around in
      let seen = is_physical element user settings in
      let behind = views_behind seen views in
      let inside = given_in inner behind element in
      let first : 0 + number ≡ number = omega arith in
      let here : given number ≡ given_series seen element inner views inside = ap given (sym first) ∙ next 0 (omega arith) in
      let rest : AreNext given (suc number) (number_of_streams element) inside =
      (λ k less. (let at : k + suc number ≡ suc k + number = omega arith in ap given at ∙ next (suc k) (omega (arith, less)))) in (
        record {
          seen = λ phys there. seen-given seen views all (given number) physical phys inner element inside are here there;
          unseen = λ there.
              unseen-given seen views (given number) physical inner element inside here there
              ∙ ap (blank_series element inner) (sym (first_carried-same given (λ k. series_at k inside) (suc number) 0 element
              (λ k less. rest k less ∙ (let at : k ≡ k + 0 = omega arith in ap (λ (n : ℕ). series_at n inside) at))))
              ∙ ap (λ (d : ℕ). blank_series element d (first_carried given (suc number) element)) (sym same);
        },
        given-in all given names (place_inside place number settings) (suc number) (cond seen 1 0 + physical) element inner behind same (behind-views seen views all physical are) rest,
      )

  given-in_parts : (all : List (List nests.Tree)) (given : ℕ → List Tree) (names : List (List ℕ)) (place : Place) (number physical : ℕ) (parts : Parts) (dims : ℕ)
      (views : List (List nests.Tree)) → place.around.dims ≡ dims → views ≡ drop physical all → AreNext given number (streams_in_parts parts) (given_in_parts dims views parts)
      → HoldFrom (IsGiven all given) number (nodes_in_parts names place number physical parts)
  given-in_parts all given names place number physical types.no_parts dims views around are next = tt
  given-in_parts all given names place number physical (types.part name ltype more) dims views around are next =
      let streams = number_of_streams ltype in
      let seen = number_of_physical ltype in
      let one = given_in dims views ltype in
      let other = given_in_parts dims (drop seen views) more in
      let long = given_in-length dims views ltype in
      HoldFrom-append (IsGiven all given) number (streams + number) (nodes_in (names ++ name ∷ []) place number physical ltype)
      (nodes_in_parts names place (streams + number) (seen + physical) more)
      (ap (λ (n : ℕ). n + number) (sym (nodes_in-length (names ++ name ∷ []) place number physical ltype)))
      (given-in all given (names ++ name ∷ []) place number physical ltype dims views around are
      (λ k less. next k (omega (arith, less)) ∙ series_at-front one other k (omega (arith, less, long))))
      (given-in_parts all given names place (streams + number) (seen + physical) more dims (drop seen views) around
      (ap (drop seen) are ∙ drop-drop seen physical all ∙ (let same : physical + seen ≡ seen + physical = omega arith in ap (λ (n : ℕ). drop n all) same))
      (λ k less.
      let at : k + (streams + number) ≡ (k + streams) + number = omega arith in
      ap given at ∙ next (k + streams) (omega (arith, less)) ∙ series_at-back one other k (k + streams) (omega (arith, long))))

some-phys : (physical : Bool) (number : ℕ) → is_some (cond physical (Some number) None) ≡ physical
some-phys true number = refl
some-phys false number = refl

-- the outermost node is given as a Stream inside no other
port-given : (element user : Ltype) (settings : Settings) (views : List (List nests.Tree)) → given_of_nodes (nodes_of (stream element user settings)) views ≡ given_in 0 views (stream element user settings)
port-given element user settings views =
    ap (λ (b : Bool). form b (outermost_node element user settings).params.dims) (some-phys (is_physical element user settings) 0)
    ∙ ap (form (is_physical element user settings)) (dims-are settings.sync 0 0 settings.dims refl)
  where
    form : Bool → ℕ → List (List Tree)
    form physical dims = given_series physical element dims views (given_in dims (views_behind physical views) element) ∷ given_in dims (views_behind physical views) element

given-port : (element user : Ltype) (settings : Settings) (views : List (List nests.Tree))
    → HoldFrom (IsGiven views (given_at (split_of (stream element user settings)) views)) 0 (nodes_of (stream element user settings))
given-port element user settings views =
    given-in views (given_at (split_of (stream element user settings)) views) [] outermost_place 0 0 (stream element user settings) 0 views refl refl
    (λ k less.
    let at : k + 0 ≡ k = omega arith in
    ap (λ (n : ℕ). series_at n (given_of_nodes (nodes_of (stream element user settings)) views)) at ∙ ap (series_at k) (port-given element user settings views))

-- the series of each node of a port
pub given-nodes : (split : PlainSplit) → IsPortSplit split → (views : List (List nests.Tree)) (number : ℕ) (node : StreamNode) → slice_get split.nodes number ≡ Some node
    → IsGiven views (given_at split views) number node
given-nodes split is views number node found =
    let same = is.is ∙ ap split_of is.port.is in
    subst (λ (s : PlainSplit). IsGiven views (given_at s views) number node) (sym same)
    (HoldFrom-at (IsGiven views (given_at (split_of (stream is.port.element is.port.user is.port.settings)) views)) 0 number number (nodes_of (stream is.port.element is.port.user is.port.settings)) node
    (omega arith) (given-port is.port.element is.port.user is.port.settings views) (ap (λ (s : PlainSplit). slice_get s.nodes number) (sym same) ∙ found))

-- ---- the physical streams, by their numbers

-- a node has the next physical stream, or none
abbrev NumberNext : Option ℕ → ℕ → Type 0 → Type 0 → Type 0
NumberNext None phys Seen Unseen = Unseen
NumberNext (Some number) phys Seen Unseen = (number ≡ phys) × Seen

-- the physical streams of the nodes have ascending numbers from this one on
abbrev Numbered : ℕ → List StreamNode → Type 0
Numbered phys [] = Unit {0}
Numbered phys (node ∷ more) = NumberNext node.phys phys (Numbered (suc phys) more) (Numbered phys more)

number-next : (seen : Bool) (phys : ℕ) (more : List StreamNode) → Numbered (cond seen 1 0 + phys) more → NumberNext (cond seen (Some phys) None) phys (Numbered (suc phys) more) (Numbered phys more)
number-next true phys more are = (refl, (let same : 1 + phys ≡ suc phys = omega arith in subst (λ (n : ℕ). Numbered n more) same are))
number-next false phys more are = (let same : 0 + phys ≡ phys = omega arith in subst (λ (n : ℕ). Numbered n more) same are)

mutual
  numbered-in : (names : List (List ℕ)) (place : Place) (number physical : ℕ) (ltype : Ltype) (rest : List StreamNode) → Numbered (number_of_physical ltype + physical) rest
      → Numbered physical (nodes_in names place number physical ltype ++ rest)
  numbered-in names place number physical types.null rest are = (let same : 0 + physical ≡ physical = omega arith in subst (λ (n : ℕ). Numbered n rest) same are)
  numbered-in names place number physical (types.bits width) rest are = (let same : 0 + physical ≡ physical = omega arith in subst (λ (n : ℕ). Numbered n rest) same are)
  numbered-in names place number physical (types.group parts) rest are = numbered-in_parts names place number physical parts rest are
  numbered-in names place number physical (types.union parts) rest are = numbered-in_parts names place number physical parts rest are
  numbered-in names place number physical (types.stream element user settings) rest are =
      let seen = is_physical element user settings in
      let same : (cond seen 1 0 + number_of_physical element) + physical ≡ number_of_physical element + (cond seen 1 0 + physical) = omega arith in
      number-next seen physical (nodes_in names (place_inside place number settings) (suc number) (cond seen 1 0 + physical) element ++ rest)
      (numbered-in names (place_inside place number settings) (suc number) (cond seen 1 0 + physical) element rest (subst (λ (n : ℕ). Numbered n rest) same are))

  numbered-in_parts : (names : List (List ℕ)) (place : Place) (number physical : ℕ) (parts : Parts) (rest : List StreamNode) → Numbered (physical_in_parts parts + physical) rest
      → Numbered physical (nodes_in_parts names place number physical parts ++ rest)
  numbered-in_parts names place number physical types.no_parts rest are = (let same : 0 + physical ≡ physical = omega arith in subst (λ (n : ℕ). Numbered n rest) same are)
  numbered-in_parts names place number physical (types.part name ltype more) rest are =
      let streams = number_of_streams ltype in
      let seen = number_of_physical ltype in
      let same : (seen + physical_in_parts more) + physical ≡ physical_in_parts more + (seen + physical) = omega arith in
      let back = nodes_in_parts names place (streams + number) (seen + physical) more in
      subst (Numbered physical) (sym (append_assoc (nodes_in (names ++ name ∷ []) place number physical ltype) back rest))
      (numbered-in (names ++ name ∷ []) place number physical ltype (back ++ rest)
      (numbered-in_parts names place (streams + number) (seen + physical) more rest (subst (λ (n : ℕ). Numbered n rest) same are)))

numbered-nodes : (ltype : Ltype) → Numbered 0 (nodes_of ltype)
numbered-nodes ltype = subst (Numbered 0) (append-nil (nodes_of ltype)) (numbered-in [] outermost_place 0 0 ltype [] tt)

-- the node of a physical stream, among nodes from a number on
record IsStreamOf (nodes : List StreamNode) (number whole : ℕ) (one : Phys) : Type 0 where
  at : ℕ
  is : one.node ≡ at + number
  node : StreamNode
  found : slice_get nodes at ≡ Some node
  params : one.params ≡ node.params
  phys : node.phys ≡ Some whole

behind-node : (node : StreamNode) (more : List StreamNode) (number whole : ℕ) (one : Phys) → IsStreamOf more (suc number) whole one → IsStreamOf (node ∷ more) number whole one
behind-node node more number whole one rest = record { at = suc rest.at; is = omega (arith, rest.is); node = rest.node; found = rest.found; params = rest.params; phys = rest.phys }

stream-first : (node : StreamNode) (more : List StreamNode) (number phys k whole : ℕ) (one : Phys) (o : Option ℕ) → node.phys ≡ o → whole ≡ k + phys
    → NumberNext o phys (Numbered (suc phys) more) (Numbered phys more)
    → ((p j : ℕ) → Numbered p more → whole ≡ j + p → slice_get (gathered stream_at (suc number) more) j ≡ Some one → IsStreamOf more (suc number) whole one)
    → slice_get (stream_in number node o ++ gathered stream_at (suc number) more) k ≡ Some one → IsStreamOf (node ∷ more) number whole one
stream-first node more number phys k whole one None has is are behind found = behind-node node more number whole one (behind phys k are is found)
stream-first node more number phys (suc k) whole one (Some p) has is are behind found = behind-node node more number whole one (behind (suc phys) k are.1 (omega (arith, is)) found)
stream-first node more number phys zero whole one (Some p) has is are behind found =
    let same : phys_of number node ≡ one = cc in
    let at : p ≡ whole = are.0 ∙ omega (arith, is) in
    record {
      at = 0;
      is = ap (λ (s : Phys). s.node) (sym same) ∙ omega arith;
      node = node;
      found = refl;
      params = ap (λ (s : Phys). s.params) (sym same);
      phys = has ∙ ap (λ (n : ℕ). Some n) at;
    }

stream-from : (nodes : List StreamNode) (number phys k whole : ℕ) (one : Phys) → Numbered phys nodes → whole ≡ k + phys → slice_get (gathered stream_at number nodes) k ≡ Some one
    → IsStreamOf nodes number whole one
stream-from [] number phys k whole one are is found = cc
stream-from (node ∷ more) number phys k whole one are is found =
    stream-first node more number phys k whole one node.phys refl is are (λ p j next at there. stream-from more (suc number) p j whole one next at there) found

-- the physical stream of this number is that of a node
pub record HasStreamNode (split : PlainSplit) (number : ℕ) (one : Phys) : Type 0 where
  pub node : StreamNode
  pub found : slice_get split.nodes one.node ≡ Some node
  pub params : one.params ≡ node.params
  pub phys : node.phys ≡ Some number

pub stream-node : (split : PlainSplit) → IsPortSplit split → (number : ℕ) (one : Phys) → slice_get split.streams number ≡ Some one → HasStreamNode split number one
stream-node split is number one found =
    let here = stream-from (nodes_of is.ltype) 0 0 number number one (numbered-nodes is.ltype) (omega arith) (ap (λ (s : PlainSplit). slice_get s.streams number) (sym is.is) ∙ found) in
    let at : here.at ≡ one.node = omega (arith, here.is) in
    record {
      node = here.node;
      found = ap (λ (s : PlainSplit). slice_get s.nodes one.node) is.is ∙ subst (λ (n : ℕ). slice_get (nodes_of is.ltype) n ≡ Some here.node) at here.found;
      params = here.params;
      phys = here.phys;
    }

-- the physical stream of a node, among streams from a number on
record IsNodeOf (streams : List Phys) (whole phys number : ℕ) : Type 0 where
  k : ℕ
  is : number ≡ k + phys
  one : Phys
  found : slice_get streams k ≡ Some one
  node_is : one.node ≡ whole

past-first : (node : StreamNode) (more : List StreamNode) (number whole phys other p q : ℕ) (o : Option ℕ) → NumberNext o phys (Numbered (suc phys) more) (Numbered phys more)
    → ((r : ℕ) → Numbered r more → IsNodeOf (gathered stream_at (suc number) more) whole r q) → IsNodeOf (stream_in number node o ++ gathered stream_at (suc number) more) whole phys q
past-first node more number whole phys other p q None are behind = behind phys are
past-first node more number whole phys other p q (Some r) are behind =
    let rest = behind (suc phys) are.1 in record { k = suc rest.k; is = omega (arith, rest.is); one = rest.one; found = rest.found; node_is = rest.node_is }

node-here : (node : StreamNode) (more : List StreamNode) (number whole phys q : ℕ) (o : Option ℕ) → number ≡ whole → o ≡ Some q → NumberNext o phys (Numbered (suc phys) more) (Numbered phys more)
    → IsNodeOf (stream_in number node o ++ gathered stream_at (suc number) more) whole phys q
node-here node more number whole phys q None at has are = cc
node-here node more number whole phys q (Some r) at has are =
    let same : r ≡ q = cc in record { k = 0; is = sym same ∙ are.0 ∙ omega arith; one = phys_of number node; found = refl; node_is = at }

node-from : (nodes : List StreamNode) (number phys at whole q : ℕ) (node : StreamNode) → Numbered phys nodes → whole ≡ at + number → slice_get nodes at ≡ Some node → node.phys ≡ Some q
    → IsNodeOf (gathered stream_at number nodes) whole phys q
node-from [] number phys at whole q node are is found has = cc
node-from (first ∷ more) number phys zero whole q node are is found has =
    let same : first ≡ node = cc in
    node-here first more number whole phys q first.phys (omega (arith, is)) (ap (λ (n : StreamNode). n.phys) same ∙ has) are
node-from (first ∷ more) number phys (suc at) whole q node are is found has =
    past-first first more number whole phys at phys q first.phys are (λ r next. node-from more (suc number) r at whole q node next (omega (arith, is)) found has)

-- a node with a physical stream is that of the stream
pub record HasNodeStream (split : PlainSplit) (number node : ℕ) : Type 0 where
  pub one : Phys
  pub found : slice_get split.streams number ≡ Some one
  pub node_is : one.node ≡ node

pub node-stream : (split : PlainSplit) → IsPortSplit split → (number phys : ℕ) (node : StreamNode) → slice_get split.nodes number ≡ Some node → node.phys ≡ Some phys
    → HasNodeStream split phys number
node-stream split is number phys node found has =
    let here = node-from (nodes_of is.ltype) 0 0 number number phys node (numbered-nodes is.ltype) (omega arith) (ap (λ (s : PlainSplit). slice_get s.nodes number) (sym is.is) ∙ found) has in
    let at : here.k ≡ phys = omega (arith, here.is) in
    record {
      one = here.one;
      found = ap (λ (s : PlainSplit). slice_get s.streams phys) is.is ∙ subst (λ (n : ℕ). slice_get (split_of is.ltype).streams n ≡ Some here.one) at here.found;
      node_is = here.node_is;
    }

-- ---- pairs of two lists

pub record IsPaired {A B : Type 0} (R : A → B → Type 0) (others : List B) (k : ℕ) (x : A) : Type 0 where
  pub other : B
  pub found : slice_get others k ≡ Some other
  pub holds : R x other

pub pair-at : {A B : Type 0} (R : A → B → Type 0) (l : List A) (others : List B) (k : ℕ) (x : A) → EachPair R l others → slice_get l k ≡ Some x → IsPaired R others k x
pair-at R [] [] k x are found = cc
pair-at R [] (y ∷ others) k x are found = absurd are
pair-at R (z ∷ l) [] k x are found = absurd are
pair-at R (z ∷ l) (y ∷ others) zero x are found = (let same : z ≡ x = cc in record { other = y; found = refl; holds = subst (λ v. R v y) same are.0 })
pair-at R (z ∷ l) (y ∷ others) (suc k) x are found = (let rest = pair-at R l others k x are.1 found in record { other = rest.other; found = rest.found; holds = rest.holds })

pub pair-each : {A B : Type 0} (R S : A → B → Type 0) (l : List A) (others : List B) → EachPair R l others
    → ((k : ℕ) (x : A) (y : B) → slice_get l k ≡ Some x → slice_get others k ≡ Some y → R x y → S x y) → EachPair S l others
pair-each R S [] [] are each = tt
pair-each R S [] (y ∷ others) are each = absurd are
pair-each R S (x ∷ l) [] are each = absurd are
pair-each R S (x ∷ l) (y ∷ others) are each = (each 0 x y refl refl are.0, pair-each R S l others are.1 (λ k v w at there. each (suc k) v w at there))

pub view-found : (views : List (List nests.Tree)) (k : ℕ) (view : List nests.Tree) → slice_get views k ≡ Some view → view_at k views ≡ view
view-found [] k view found = cc
view-found (first ∷ views) zero view found = cc
view-found (first ∷ views) (suc k) view found = view-found views k view found
