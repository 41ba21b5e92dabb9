-- The values of types by a fold over the types in them, and tables of the values of declarations. They serve the searches for types
-- that are too large, are no Stream or have an error, and no public clause.
use Rattle.std.specs.Prelude.{◌≡◌, ℕ, List, [], ◌∷◌, map}
use Rattle.til_parser.specs.declared.ltype.AstPart.{AstPart}
use Rattle.til_parser.specs.declared.tree.AstName.{AstName}
use Rattle.til_parser.specs.Tree as tree
use Rattle.til_parser.specs.Tree.{plain}
use Rattle.logical_types.specs.Fold.{Layers, fold}
use Rattle.logical_types.specs.Tree.{Ltype}
use Rattle.til_resolve.specs.Declarations.{Declaration}
use Rattle.til_resolve.specs.Tables.{AreEntries}
use Rattle.til_resolve.specs.Types.{settings_of}

-- the names of written parts
abbrev pub names_in : tree.Parts → List (List ℕ)
names_in tree.no_parts = []
names_in (tree.part name ltype more) = name.name ∷ names_in more

abbrev pub written_names : List AstPart → List (List ℕ)
written_names parts = map (λ one. one.name.name) parts

-- the value of a written type, where its paths have these values
abbrev mutual
  pub fold_by : {X Y : Type 0} → Layers X Y → (List AstName → X) → tree.Ltype → X
  fold_by layers of tree.null = layers.of_null
  fold_by layers of (tree.bits width) = layers.of_bits width
  fold_by layers of (tree.group parts) = layers.of_group (names_in parts) (fold_by_parts layers of layers.of_no_parts parts)
  fold_by layers of (tree.union parts) = layers.of_union (names_in parts) (fold_by_parts layers of layers.of_no_parts parts)
  fold_by layers of (tree.stream element user settings) = layers.of_stream (settings_of settings) (fold_by layers of element) (fold_by layers of user)
  fold_by layers of (tree.path names) = of names

  -- the value of parts after others
  pub fold_by_parts : {X Y : Type 0} → Layers X Y → (List AstName → X) → Y → tree.Parts → Y
  fold_by_parts layers of before tree.no_parts = before
  fold_by_parts layers of before (tree.part name ltype more) = fold_by_parts layers of (layers.of_part before (fold_by layers of ltype)) more

-- the same of a list of parts
abbrev pub fold_by_list : {X Y : Type 0} → Layers X Y → (List AstName → X) → Y → List AstPart → Y
fold_by_list layers of before [] = before
fold_by_list layers of before (first ∷ more) = fold_by_list layers of (layers.of_part before (fold_by layers of (plain first.ltype))) more

-- a type comes to this
abbrev pub IsFoldOf : {X Y : Type 0} → Layers X Y → Ltype → X → Type 0
IsFoldOf layers ltype value = value ≡ fold layers ltype

-- a table has what the type of each declaration comes to, with so many names replaced inside one another at most
abbrev pub AreFolds : {X Y : Type 0} → Layers X Y → List Declaration → ℕ → List X → Type 0
AreFolds layers = AreEntries layers.of_null (IsFoldOf layers)
