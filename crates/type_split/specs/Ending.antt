-- Where nodes end. It serves the search for ends, and no public clause. This project's own.
use Rattle.std.specs.Prelude.{◌≡◌, ℕ, suc, ◌+◌, ◌≤◌, List, [], ◌∷◌, ◌++◌, length, Result, OnOk}
use Rattle.logical_types.specs.Tree.{Ltype, null, bits, group, union, stream, Parts, no_parts, part}
use Rattle.type_split.specs.Nodes.{number_of_streams, streams_in_parts}

-- the ends of the nodes of a type, the first of which has this number
abbrev mutual
  pub ends_in : ℕ → Ltype → List ℕ
  ends_in number null = []
  ends_in number (bits width) = []
  ends_in number (group parts) = ends_in_parts number parts
  ends_in number (union parts) = ends_in_parts number parts
  ends_in number (stream element user settings) = (suc number + number_of_streams element) ∷ ends_in (suc number) element

  pub ends_in_parts : ℕ → Parts → List ℕ
  ends_in_parts number no_parts = []
  ends_in_parts number (part name ltype more) = ends_in number ltype ++ ends_in_parts (number_of_streams ltype + number) more

-- the ends of the nodes of a type were added, where there are not too many
abbrev pub AddsEnds : {E : Type 0} → (old new : List ℕ) → Result (Unit {0}) E → Ltype → Type 0
AddsEnds old new result ltype = number_of_streams ltype + length old ≤ 65536 → OnOk result (new ≡ old ++ ends_in (length old) ltype)

abbrev pub AddsEndsOfParts : {E : Type 0} → (old new : List ℕ) → Result (Unit {0}) E → Parts → Type 0
AddsEndsOfParts old new result parts = streams_in_parts parts + length old ≤ 65536 → OnOk result (new ≡ old ++ ends_in_parts (length old) parts)

-- the ends of a node with such elements were added, and of the nodes inside it
abbrev pub AddsNodeEnds : {E : Type 0} → (old new : List ℕ) → Result (Unit {0}) E → Ltype → Type 0
AddsNodeEnds old new result element = suc (number_of_streams element) + length old ≤ 65536
    → OnOk result (new ≡ old ++ (suc (length old) + number_of_streams element) ∷ ends_in (suc (length old)) element)
