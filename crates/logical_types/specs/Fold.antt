-- The value of a type by a fold over the types in it. This project's own.
use Rattle.std.specs.Prelude.{ℕ, List}
use Rattle.logical_types.specs.Tree.{Ltype, null, bits, group, union, stream, Parts, no_parts, part, Settings, names_of}

-- the value of each kind of type, from the values of the types in it; the parts of a Group or a Union are taken one after another
pub record Layers (X Y : Type 0) : Type 0 where
  pub of_null : X
  pub of_bits : ℕ → X
  -- by the names of the parts, and what these come to together
  pub of_group : List (List ℕ) → Y → X
  pub of_union : List (List ℕ) → Y → X
  -- by the data type and the user type
  pub of_stream : Settings → X → X → X
  pub of_no_parts : Y
  pub of_part : Y → X → Y

-- the value of a type
abbrev mutual
  pub fold : {X Y : Type 0} → Layers X Y → Ltype → X
  fold layers null = layers.of_null
  fold layers (bits width) = layers.of_bits width
  fold layers (group parts) = layers.of_group (names_of parts) (fold_parts layers layers.of_no_parts parts)
  fold layers (union parts) = layers.of_union (names_of parts) (fold_parts layers layers.of_no_parts parts)
  fold layers (stream element user settings) = layers.of_stream settings (fold layers element) (fold layers user)

  -- the value of parts after others
  pub fold_parts : {X Y : Type 0} → Layers X Y → Y → Parts → Y
  fold_parts layers before no_parts = before
  fold_parts layers before (part name ltype more) = fold_parts layers (layers.of_part before (fold layers ltype)) more
