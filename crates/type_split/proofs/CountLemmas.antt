-- How many nodes and physical streams a type has.
use Rattle.std.proofs.Common.{◌≡◌, ℕ, suc, ◌+◌, ◌≤◌, Bool, true, false, cond, List, [], ◌∷◌, ◌++◌, map, length, refl, sym, ap, ◌∙◌, arith}
use Rattle.std.proofs.lemmas.List.{length-append, length-map}
use Rattle.logical_types.specs.Size.{number_of_nodes}
use Rattle.logical_types.specs.Size as size
use Rattle.logical_types.specs.Tree.{Ltype, null, bits, group, union, stream, Parts, no_parts, part}
use Rattle.type_split.specs.Nodes.{nodes_in, nodes_in_parts, number_of_streams, streams_in_parts, number_of_physical, physical_in_parts, is_physical, place_inside, nodes_of, outermost_place}
use Rattle.type_split.specs.Streams.{node_view}
use Rattle.type_split.specs.declared.split.Node.{Node}
use Rattle.type_split.specs.declared.place.Place.{Place}

-- one or none
pub counted : (test : Bool) → cond test 1 0 ≤ 1
counted true = omega arith
counted false = omega arith

mutual
  pub nodes_in-length : (names : List (List ℕ)) (place : Place) (number physical : ℕ) (t : Ltype) → length (nodes_in names place number physical t) ≡ number_of_streams t
  nodes_in-length names place number physical null = refl
  nodes_in-length names place number physical (bits width) = refl
  nodes_in-length names place number physical (group parts) = nodes_in_parts-length names place number physical parts
  nodes_in-length names place number physical (union parts) = nodes_in_parts-length names place number physical parts
  nodes_in-length names place number physical (stream element user settings) =
      ap suc (nodes_in-length names (place_inside place number settings) (suc number) (cond (is_physical element user settings) 1 0 + physical) element)

  pub nodes_in_parts-length : (names : List (List ℕ)) (place : Place) (number physical : ℕ) (parts : Parts) → length (nodes_in_parts names place number physical parts) ≡ streams_in_parts parts
  nodes_in_parts-length names place number physical no_parts = refl
  nodes_in_parts-length names place number physical (part name ltype more) =
      let here = nodes_in-length (names ++ name ∷ []) place number physical ltype in
      let rest = nodes_in_parts-length names place (number_of_streams ltype + number) (number_of_physical ltype + physical) more in
      length-append (nodes_in (names ++ name ∷ []) place number physical ltype) (nodes_in_parts names place (number_of_streams ltype + number) (number_of_physical ltype + physical) more) ∙ omega (arith, here, rest)

mutual
  pub physical-few : (t : Ltype) → number_of_physical t ≤ number_of_streams t
  physical-few null = omega arith
  physical-few (bits width) = omega arith
  physical-few (group parts) = physical_in_parts-few parts
  physical-few (union parts) = physical_in_parts-few parts
  physical-few (stream element user settings) = let inner = physical-few element in let one = counted (is_physical element user settings) in omega (arith, inner, one)

  pub physical_in_parts-few : (parts : Parts) → physical_in_parts parts ≤ streams_in_parts parts
  physical_in_parts-few no_parts = omega arith
  physical_in_parts-few (part name ltype more) = let here = physical-few ltype in let rest = physical_in_parts-few more in omega (arith, here, rest)

-- the nodes of a type that has so many Streams at most
pub nodes-few : (t : Ltype) (nodes : List Node) → map node_view nodes ≡ nodes_of t → number_of_streams t ≤ 65536 → length nodes ≤ 65536
nodes-few t nodes is few =
    let all = sym (length-map nodes node_view) ∙ ap length is ∙ nodes_in-length [] outermost_place 0 0 t in
    omega (arith, all, few)

-- a type has no more Streams than nodes
mutual
  pub streams-few : (ltype : Ltype) → number_of_streams ltype ≤ number_of_nodes ltype
  streams-few null = omega arith
  streams-few (bits width) = omega arith
  streams-few (group parts) = omega (arith, streams_in_parts-few parts)
  streams-few (union parts) = omega (arith, streams_in_parts-few parts)
  streams-few (stream element user settings) = omega (arith, streams-few element)

  streams_in_parts-few : (parts : Parts) → streams_in_parts parts ≤ size.nodes_in_parts parts
  streams_in_parts-few no_parts = omega arith
  streams_in_parts-few (part name ltype more) = omega (arith, streams-few ltype, streams_in_parts-few more)
