-- The types of the elements of the nodes of a type.
use Rattle.std.proofs.Common.{ℕ, suc, ◌+◌, ◌≤◌, List, [], ◌∷◌, ◌++◌, All, if◌then◌else◌, ap, sym, subst, arith}
use Rattle.std.proofs.lemmas.List.Elements.{All-append, All-cons, All-nil}
use Rattle.logical_types.specs.Faults.{ArePlain, IsPlain, IsValid}
use Rattle.logical_types.specs.Size.{number_of_nodes}
use Rattle.logical_types.specs.Size as size
use Rattle.logical_types.specs.Tree.{Ltype, null, bits, group, union, stream, Parts, no_parts, part}
use Rattle.logical_types.proofs.PlainTypes.{IsPlain-IsValid, ArePlain-group, ArePlain-union, IsPlain-first, IsPlain-inside, width-IsPlain}
use Rattle.type_split.specs.Elements.{HasElements, NodesHaveElements}
use Rattle.type_split.specs.Nodes.{is_physical, nodes_in, nodes_in_parts, nodes_of, number_of_physical, number_of_streams, node_at, outermost_place, place_inside}
use Rattle.type_split.specs.Streams.{PlainSplit}
use Rattle.type_split.specs.declared.place.Place.{Place}

mutual
  elements-in : (names : List (List ℕ)) (place : Place) (number physical : ℕ) (ltype : Ltype) → IsPlain ltype → number_of_nodes ltype ≤ 65536
      → All HasElements (nodes_in names place number physical ltype)
  elements-in names place number physical null is few = All-nil HasElements
  elements-in names place number physical (bits width) is few = All-nil HasElements
  elements-in names place number physical (group parts) is few = elements-in_parts names place number physical parts (ArePlain-group parts is) (omega (arith, few))
  elements-in names place number physical (union parts) is few = elements-in_parts names place number physical parts (ArePlain-union parts is) (omega (arith, few))
  elements-in names place number physical (stream element user settings) is few =
      let plain = (IsPlain-inside element user settings is).0 in
      let fewer : number_of_nodes element ≤ 65536 = omega (arith, few) in
      All-cons HasElements (node_at names place number physical element user settings)
      (nodes_in names (place_inside place number settings) (suc number) ((if is_physical element user settings then 1 else 0) + physical) element)
      (record { plain = plain; few = fewer; narrow = width-IsPlain element plain })
      (elements-in names (place_inside place number settings) (suc number) ((if is_physical element user settings then 1 else 0) + physical) element plain fewer)

  elements-in_parts : (names : List (List ℕ)) (place : Place) (number physical : ℕ) (parts : Parts) → ArePlain parts → size.nodes_in_parts parts ≤ 65536
      → All HasElements (nodes_in_parts names place number physical parts)
  elements-in_parts names place number physical no_parts is few = All-nil HasElements
  elements-in_parts names place number physical (part name ltype more) is few =
      let both = IsPlain-first name ltype more is in
      All-append HasElements (nodes_in (names ++ name ∷ []) place number physical ltype)
      (nodes_in_parts names place (number_of_streams ltype + number) (number_of_physical ltype + physical) more)
      (elements-in (names ++ name ∷ []) place number physical ltype both.0 (omega (arith, few)))
      (elements-in_parts names place (number_of_streams ltype + number) (number_of_physical ltype + physical) more both.1 (omega (arith, few)))

pub nodes-have-elements : (ltype : Ltype) → IsValid ltype → number_of_nodes ltype ≤ 65536 → All HasElements (nodes_of ltype)
nodes-have-elements ltype valid few = elements-in [] outermost_place 0 0 ltype (IsPlain-IsValid ltype valid) few

pub nodes_have_elements : NodesHaveElements
nodes_have_elements split is = subst (All HasElements) (sym (ap (λ (s : PlainSplit). s.nodes) is.is)) (nodes-have-elements is.ltype is.valid is.few)
