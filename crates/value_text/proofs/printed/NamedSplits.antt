-- The nodes and streams of a port's type have names, and the variants of a Union of a valid type have different names.
use Rattle.std.proofs.Common.{◌≡◌, ℕ, suc, ◌+◌, Bool, true, false, List, [], ◌∷◌, ◌++◌, All, Option, Some, None, if◌then◌else◌, filter, sym, subst}
use Rattle.std.specs.List.{flat_map}
use Rattle.std.proofs.lemmas.List.Elements.{All-append, All-cons, All-head, All-nil, All-tail}
use Rattle.logical_types.specs.Faults.{ArePlain, IsPlain, TypeNode, has_fault, nodes_of_parts, outermost, plain_faults}
use Rattle.logical_types.specs.Names.{has_name_twice}
use Rattle.logical_types.specs.Tree.{Ltype, Parts, names_of}
use Rattle.logical_types.specs.Tree as types
use Rattle.logical_types.specs.declared.fault.TypeFault.{TypeFault}
use Rattle.logical_types.specs.declared.fault.TypeFault.TheVariants as faults
use Rattle.logical_types.proofs.PlainTypes.{ArePlain-group, ArePlain-union, IsPlain-IsValid, IsPlain-first, IsPlain-inside, apart, none_of}
use Rattle.tydi_base.specs.Name.{is_name}
use Rattle.type_split.specs.Nodes.{StreamNode, is_physical, nodes_in, nodes_in_parts, nodes_of, node_at, number_of_physical, number_of_streams, outermost_place, place_inside}
use Rattle.type_split.specs.Streams.{gathered, stream_at, stream_in}
use Rattle.type_split.specs.declared.split.Phys.{Phys}
use Rattle.value_text.specs.Laws.{PortSplitsAreNamed}
use Rattle.value_text.specs.Printable.{AreNamed, HasNames, HaveNames, IsNamed, IsNamedNode, IsNamedSplit}
use Rattle.value_text.proofs.printed.PrintedPaths.{AreNames}

-- no two variants of a Union have one name
distinct-variants : (parts : Parts) → IsPlain (types.union parts) → has_name_twice (names_of parts) ≡ false
distinct-variants parts plain =
    let node : TypeNode = record { around = outermost; ltype = types.union parts } in
    let test : TypeFault → Bool = has_fault node in
    let first = (apart (filter test plain_faults) (flat_map (λ (n : TypeNode). filter (has_fault n) plain_faults) (nodes_of_parts outermost parts)) plain).0 in
    let zero_bits = none_of (test faults.ZeroBits) faults.ZeroBits _ first in
    let wide = none_of (test faults.ElementTooWide) faults.ElementTooWide _ zero_bits.1 in
    let user = none_of (test faults.UserHasStream) faults.UserHasStream _ wide.1 in
    (none_of (test faults.NameTwice) faults.NameTwice _ user.1).0

mutual
  named-type : (ltype : Ltype) → IsPlain ltype → HasNames ltype → IsNamed ltype
  named-type types.null plain has = tt
  named-type (types.bits width) plain has = tt
  named-type (types.group parts) plain has = named-parts parts (ArePlain-group parts plain) has
  named-type (types.union parts) plain has = (distinct-variants parts plain, named-parts parts (ArePlain-union parts plain) has)
  named-type (types.stream element user settings) plain has = named-type element (IsPlain-inside element user settings plain).0 has

  named-parts : (parts : Parts) → ArePlain parts → HaveNames parts → AreNamed parts
  named-parts types.no_parts plain has = tt
  named-parts (types.part name ltype more) plain has =
      let both = IsPlain-first name ltype more plain in (has.0, named-type ltype both.0 has.1, named-parts more both.1 has.2)

-- one name more
names-more : (names : List (List ℕ)) (name : List ℕ) → AreNames names → is_name name ≡ true → AreNames (names ++ name ∷ [])
names-more names name each is =
    All-append (λ n. is_name n ≡ true) names (name ∷ []) each (All-cons (λ n. is_name n ≡ true) name [] is (All-nil (λ n. is_name n ≡ true)))

mutual
  named-nodes : (names : List (List ℕ)) (place : _) (number physical : ℕ) (ltype : Ltype) → AreNames names → IsPlain ltype → HasNames ltype
      → All IsNamedNode (nodes_in names place number physical ltype)
  named-nodes names place number physical types.null each plain has = All-nil IsNamedNode
  named-nodes names place number physical (types.bits width) each plain has = All-nil IsNamedNode
  named-nodes names place number physical (types.group parts) each plain has = named-nodes_in_parts names place number physical parts each (ArePlain-group parts plain) has
  named-nodes names place number physical (types.union parts) each plain has = named-nodes_in_parts names place number physical parts each (ArePlain-union parts plain) has
  named-nodes names place number physical (types.stream element user settings) each plain has =
      let inner = (IsPlain-inside element user settings plain).0 in
      All-cons IsNamedNode (node_at names place number physical element user settings)
      (nodes_in names (place_inside place number settings) (suc number) ((if is_physical element user settings then 1 else 0) + physical) element)
      (record { path = each; element = named-type element inner has })
      (named-nodes names (place_inside place number settings) (suc number) ((if is_physical element user settings then 1 else 0) + physical) element each inner has)

  named-nodes_in_parts : (names : List (List ℕ)) (place : _) (number physical : ℕ) (parts : Parts) → AreNames names → ArePlain parts → HaveNames parts
      → All IsNamedNode (nodes_in_parts names place number physical parts)
  named-nodes_in_parts names place number physical types.no_parts each plain has = All-nil IsNamedNode
  named-nodes_in_parts names place number physical (types.part name ltype more) each plain has =
      let both = IsPlain-first name ltype more plain in
      All-append IsNamedNode (nodes_in (names ++ name ∷ []) place number physical ltype)
      (nodes_in_parts names place (number_of_streams ltype + number) (number_of_physical ltype + physical) more)
      (named-nodes (names ++ name ∷ []) place number physical ltype (names-more names name each has.0) both.0 has.1)
      (named-nodes_in_parts names place (number_of_streams ltype + number) (number_of_physical ltype + physical) more each both.1 has.2)

-- the path of a physical stream is that of its node
abbrev IsNamedStream : Phys → Type 0
IsNamedStream stream = AreNames stream.path

named-streams : (number : ℕ) (nodes : List StreamNode) → All IsNamedNode nodes → All IsNamedStream (gathered stream_at number nodes)
named-streams number [] each = All-nil IsNamedStream
named-streams number (node ∷ more) each =
    All-append IsNamedStream (stream_at number node) (gathered stream_at (suc number) more)
    (here node.phys (All-head IsNamedNode node more each)) (named-streams (suc number) more (All-tail IsNamedNode node more each))
  where
    here : (phys : Option ℕ) → IsNamedNode node → All IsNamedStream (stream_in number node phys)
    here None named = All-nil IsNamedStream
    here (Some phys) named = All-cons IsNamedStream (record { path = node.path; params = node.params; reversed = node.reversed; root = node.root; node = number }) [] named.path (All-nil IsNamedStream)

pub splits_named : PortSplitsAreNamed
splits_named split port has =
    let nodes = named-nodes [] outermost_place 0 0 port.ltype (All-nil (λ (n : List ℕ). is_name n ≡ true)) (IsPlain-IsValid port.ltype port.valid) has in
    subst IsNamedSplit (sym port.is) (record { nodes = nodes; streams = named-streams 0 (nodes_of port.ltype) nodes })
