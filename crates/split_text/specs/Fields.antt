-- The fields of an element: which bits of it are which part (Tydi specification, logical types; the layout of a Union is this
-- project's own).
use Rattle.std.specs.Prelude.{◌≡◌, ℕ, ◌+◌, Bool, List, [], ◌∷◌, ◌++◌, filter, codes, nat_lt}
use Rattle.logical_types.specs.Tree.{Ltype, null, bits, group, union, stream, Parts, no_parts, part, number_of_parts}
use Rattle.logical_types.specs.Width.{tag_width, width_of, greatest_width}
use Rattle.split_text.specs.declared.fields.Field.{Field}

-- a field under these names, from this bit on, of so many bits
abbrev pub field : List (List ℕ) → ℕ → ℕ → Field
field names offset width = record { path = names; offset = offset; width = width }

-- the names that lead to the tag of a Union, and to the room that its variants share
abbrev pub tag_in : List (List ℕ) → List (List ℕ)
tag_in names = names ++ codes "tag" ∷ []

abbrev pub union_in : List (List ℕ) → List (List ℕ)
union_in names = names ++ codes "union" ∷ []

-- the fields of a type under these names, from this bit on: the fields of a Group one after another, of a Union its tag and then the
-- room for its widest variant; a Stream has none, since it is carried on its own
abbrev mutual
  pub fields_at : List (List ℕ) → ℕ → Ltype → List Field
  fields_at names offset null = []
  fields_at names offset (bits width) = field names offset width ∷ []
  fields_at names offset (group parts) = fields_of_parts names offset parts
  fields_at names offset (union parts) =
      field (tag_in names) offset (tag_width (number_of_parts parts)) ∷ field (union_in names) (offset + tag_width (number_of_parts parts)) (greatest_width parts) ∷ []
  fields_at names offset (stream element user settings) = []

  -- the fields of parts side by side, the first in the lowest bits
  pub fields_of_parts : List (List ℕ) → ℕ → Parts → List Field
  fields_of_parts names offset no_parts = []
  fields_of_parts names offset (part name ltype more) = fields_at (names ++ name ∷ []) offset ltype ++ fields_of_parts names (offset + width_of ltype) more

-- the fields of an element
abbrev pub all_fields : Ltype → List Field
all_fields ltype = fields_at [] 0 ltype

-- a field has bits
abbrev pub has_bits : Field → Bool
has_bits one = nat_lt 0 one.width

-- the fields of an element that have bits
abbrev pub fields_of : Ltype → List Field
fields_of ltype = filter has_bits (all_fields ltype)

-- fields lie side by side from one bit to another: each begins where the one before it ends
abbrev pub AreSideBySide : ℕ → List Field → ℕ → Type 0
AreSideBySide begin [] end = begin ≡ end
AreSideBySide begin (one ∷ more) end = (one.offset ≡ begin) × AreSideBySide (begin + one.width) more end

-- the law of fields: they fill the element, and no bit is in two of them
abbrev pub FieldsFillTheElement : Type 0
FieldsFillTheElement = (ltype : Ltype) → AreSideBySide 0 (all_fields ltype) (width_of ltype)
