-- A word as it is read. It serves the reading, and no public clause.
use Rattle.std.specs.Prelude.{◌≡◌, ℕ, ◌≤◌, Bool, List, [], ◌∷◌, ◌++◌, length, take, drop, map, Result, MatchResult}
use Rattle.std.specs.Borrow.{Bor}
use Rattle.logical_types.specs.Size.{number_of_nodes, nodes_in_parts}
use Rattle.logical_types.specs.Tree.{Ltype, Parts}
use Rattle.logical_types.specs.Width.{width_of, total_width, greatest_width}
use Rattle.logical_value.specs.Agreement.{AgreeAll, AgreesVariant, IsUnpacked, Tells, bad_tag, bad_tag_of_parts, bad_tag_of_variant}
use Rattle.logical_value.specs.Element.{set_all_apart, set_variant_apart}
use Rattle.logical_value.specs.Tree.{Tree, Trees, plain, plain_values}
use Rattle.logical_value.specs.declared.fault.UnpackFault.{UnpackFault}
use Rattle.logical_value.specs.declared.unpacking.Unpacking.{Unpacking}
use Rattle.logical_value.specs.declared.value.Value.{Value}

-- the bits that were not read
abbrev pub left_of : Unpacking → List Bool
left_of unpacking = drop unpacking.offset unpacking.word.now

-- the names that lead to the type that is read
abbrev pub names_of : Unpacking → List (List ℕ)
names_of unpacking = map (λ (name : Bor (List ℕ)). name.now) unpacking.names

-- so many bits were read, and the names are as before
pub record HasRead (old new : Unpacking) (width : ℕ) : Type 0 where
  pub left : left_of new ≡ drop width (left_of old)
  pub names : names_of new ≡ names_of old

-- so many nodes are no more than a type has, so many bits no more than an element has, and they are there
pub record CanRead (unpacking : Unpacking) (number width : ℕ) : Type 0 where
  pub few : number ≤ 65536
  pub narrow : width ≤ 4096
  pub there : width ≤ length (left_of unpacking)

-- values of parts, for which these bits stand
pub record AreUnpacked (parts : Parts) (bits : List Bool) (values : Trees) : Type 0 where
  pub agree : AgreeAll parts bits values
  pub streams : set_all_apart parts values ≡ values

-- a value of the variant of this number, for which these bits stand
pub record IsVariantUnpacked (parts : Parts) (tag : ℕ) (bits : List Bool) (value : Tree) : Type 0 where
  pub agrees : AgreesVariant parts tag bits value
  pub streams : set_variant_apart parts tag value ≡ value

-- the value of a type under these names was read, or its fault found
abbrev pub ReadsAt : List (List ℕ) → Unpacking → Unpacking → Result Value UnpackFault → Ltype → Type 0
ReadsAt names old new result ltype = CanRead old (number_of_nodes ltype) (width_of ltype)
    → MatchResult result (λ value. HasRead old new (width_of ltype) × IsUnpacked ltype (take (width_of ltype) (left_of old)) (plain value))
    (Tells (bad_tag names ltype (take (width_of ltype) (left_of old))))

abbrev pub Reads : Unpacking → Unpacking → Result Value UnpackFault → Ltype → Type 0
Reads old new result ltype = ReadsAt (names_of old) old new result ltype

-- the value of a part of this name was read
abbrev pub ReadsUnder : List (List ℕ) → List ℕ → Unpacking → Unpacking → Result Value UnpackFault → Ltype → Type 0
ReadsUnder names name old new result ltype = ReadsAt (names ++ name ∷ []) old new result ltype

-- the values of parts were read
abbrev pub ReadsParts : Unpacking → Unpacking → Result (List Value) UnpackFault → Parts → Type 0
ReadsParts old new result parts = CanRead old (nodes_in_parts parts) (total_width parts)
    → MatchResult result (λ values. HasRead old new (total_width parts) × AreUnpacked parts (left_of old) (plain_values values))
    (Tells (bad_tag_of_parts (names_of old) parts (left_of old)))

-- the value of a variant was read, and all of the room of variants
abbrev pub ReadsVariant : Unpacking → Unpacking → Result Value UnpackFault → Parts → (tag room : ℕ) → Type 0
ReadsVariant old new result parts tag room = CanRead old (nodes_in_parts parts) room → greatest_width parts ≤ room
    → MatchResult result (λ value. HasRead old new room × IsVariantUnpacked parts tag (left_of old) (plain value))
    (Tells (bad_tag_of_variant (names_of old) (names_of old) parts tag (left_of old)))
