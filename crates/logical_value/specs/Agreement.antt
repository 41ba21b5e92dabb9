-- Which word stands for which value (Tydi specification, logical types; the layout of a Union is this project's own).
use Rattle.std.specs.Prelude.{◌≡◌, ℕ, zero, suc, ◌-◌, Bool, true, false, ◌&&◌, List, [], ◌∷◌, ◌++◌, take, drop, Option, Some, None}
use Rattle.tydi_base.specs.Bits.{number_of_bits, zero_bits}
use Rattle.logical_types.specs.Tree.{Ltype, Parts, number_of_parts}
use Rattle.logical_types.specs.Tree as types
use Rattle.logical_types.specs.Width.{width_of, tag_width, greatest_width}
use Rattle.logical_value.specs.Element.{set_apart}
use Rattle.logical_value.specs.declared.fault.UnpackFault.{UnpackFault}
use Rattle.logical_value.specs.declared.fault.UnpackFault.TheVariants as faults
use Rattle.logical_value.specs.Tree.{Tree, null, word, group, union, Trees, no_trees, tree}

-- a word of an element's width agrees with a value of it: a Null and a Stream agree with any word, a Bits with its own, a Group where
-- each field's slice agrees with it, and a Union where the low bits number the variant and the lowest bits above them agree with it
abbrev mutual
  pub Agrees : Ltype → List Bool → Tree → Type 0
  Agrees types.null bits null = Unit {0}
  Agrees (types.bits width) bits (word other) = other ≡ bits
  Agrees (types.group parts) bits (group values) = AgreeAll parts bits values
  Agrees (types.union parts) bits (union tag value) =
      (number_of_bits (take (tag_width (number_of_parts parts)) bits) ≡ tag) × AgreesVariant parts tag (drop (tag_width (number_of_parts parts)) bits) value
  Agrees (types.stream element user settings) bits value = Unit {0}
  Agrees ltype bits value = ⊥

  -- the slices of parts agree with these values, one after another
  pub AgreeAll : Parts → List Bool → Trees → Type 0
  AgreeAll types.no_parts bits no_trees = Unit {0}
  AgreeAll (types.part name ltype more) bits (tree value others) = Agrees ltype (take (width_of ltype) bits) value × AgreeAll more (drop (width_of ltype) bits) others
  AgreeAll parts bits values = ⊥

  -- the lowest bits agree with a value of the variant of this number
  pub AgreesVariant : Parts → ℕ → List Bool → Tree → Type 0
  AgreesVariant types.no_parts tag bits value = ⊥
  AgreesVariant (types.part name ltype more) zero bits value = Agrees ltype (take (width_of ltype) bits) value
  AgreesVariant (types.part name ltype more) (suc tag) bits value = AgreesVariant more tag bits value

-- the first of two, where there is one
abbrev pub first_of : {A : Type 0} → Option A → Option A → Option A
first_of None other = other
first_of (Some one) other = Some one

-- the path of the Union whose tag is the first, of those that are read, that names no variant; a Union in a variant that is not
-- selected has no tag that is read
abbrev mutual
  pub bad_tag : List (List ℕ) → Ltype → List Bool → Option (List (List ℕ))
  bad_tag names types.null bits = None
  bad_tag names (types.bits width) bits = None
  bad_tag names (types.group parts) bits = bad_tag_of_parts names parts bits
  bad_tag names (types.union parts) bits =
      bad_tag_of_variant names names parts (number_of_bits (take (tag_width (number_of_parts parts)) bits)) (drop (tag_width (number_of_parts parts)) bits)
  bad_tag names (types.stream element user settings) bits = None

  pub bad_tag_of_parts : List (List ℕ) → Parts → List Bool → Option (List (List ℕ))
  bad_tag_of_parts names types.no_parts bits = None
  bad_tag_of_parts names (types.part name ltype more) bits =
      first_of (bad_tag (names ++ name ∷ []) ltype (take (width_of ltype) bits)) (bad_tag_of_parts names more (drop (width_of ltype) bits))

  -- the same in the variant of this number, or the path of the Union where it has none of this number
  pub bad_tag_of_variant : List (List ℕ) → List (List ℕ) → Parts → ℕ → List Bool → Option (List (List ℕ))
  bad_tag_of_variant path names types.no_parts tag bits = Some path
  bad_tag_of_variant path names (types.part name ltype more) zero bits = bad_tag (names ++ name ∷ []) ltype (take (width_of ltype) bits)
  bad_tag_of_variant path names (types.part name ltype more) (suc tag) bits = bad_tag_of_variant path names more tag bits

-- each tag that is read names a variant, of those in no variant that is not selected
abbrev mutual
  pub names_variants : Ltype → List Bool → Bool
  names_variants types.null bits = true
  names_variants (types.bits width) bits = true
  names_variants (types.group parts) bits = name_variants parts bits
  names_variants (types.union parts) bits =
      names_in_variant parts (number_of_bits (take (tag_width (number_of_parts parts)) bits)) (drop (tag_width (number_of_parts parts)) bits)
  names_variants (types.stream element user settings) bits = true

  pub name_variants : Parts → List Bool → Bool
  name_variants types.no_parts bits = true
  name_variants (types.part name ltype more) bits = names_variants ltype (take (width_of ltype) bits) && name_variants more (drop (width_of ltype) bits)

  -- there is a variant of this number, and each tag in it names a variant
  pub names_in_variant : Parts → ℕ → List Bool → Bool
  names_in_variant types.no_parts tag bits = false
  names_in_variant (types.part name ltype more) zero bits = names_variants ltype (take (width_of ltype) bits)
  names_in_variant (types.part name ltype more) (suc tag) bits = names_in_variant more tag bits

-- a word of an element with zeros in all bits that are ignored: those of a Union above the variant that its tag names
abbrev mutual
  pub cleared : Ltype → List Bool → List Bool
  cleared types.null bits = bits
  cleared (types.bits width) bits = bits
  cleared (types.group parts) bits = cleared_parts parts bits
  cleared (types.union parts) bits =
      take (tag_width (number_of_parts parts)) bits
      ++ cleared_variant (greatest_width parts) parts (number_of_bits (take (tag_width (number_of_parts parts)) bits)) (drop (tag_width (number_of_parts parts)) bits)
  cleared (types.stream element user settings) bits = bits

  pub cleared_parts : Parts → List Bool → List Bool
  cleared_parts types.no_parts bits = bits
  cleared_parts (types.part name ltype more) bits = cleared ltype (take (width_of ltype) bits) ++ cleared_parts more (drop (width_of ltype) bits)

  pub cleared_variant : ℕ → Parts → ℕ → List Bool → List Bool
  cleared_variant room types.no_parts tag bits = bits
  cleared_variant room (types.part name ltype more) zero bits = cleared ltype (take (width_of ltype) bits) ++ zero_bits (room - width_of ltype)
  cleared_variant room (types.part name ltype more) (suc tag) bits = cleared_variant room more tag bits

-- the word stands for the value, in which whatever stands for a Stream is apart
pub record IsUnpacked (ltype : Ltype) (bits : List Bool) (value : Tree) : Type 0 where
  pub agrees : Agrees ltype bits value
  pub streams : set_apart ltype value ≡ value

-- the word stands for some value
abbrev pub StandsForSome : Ltype → List Bool → Type 0
StandsForSome ltype bits = (value : Tree) × IsUnpacked ltype bits value

-- the error names this path; want of memory says nothing
abbrev pub Tells : Option (List (List ℕ)) → UnpackFault → Type 0
Tells found (faults.BadTag path) = found ≡ Some path
Tells found faults.Memory = Unit {0}

-- the fault is that of the word
abbrev pub IsFaultOf : Ltype → List Bool → UnpackFault → Type 0
IsFaultOf ltype bits fault = Tells (bad_tag [] ltype bits) fault
