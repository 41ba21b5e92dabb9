-- The values of written types by a fold, and tables of the values of declarations.
use Rattle.std.proofs.Common.{◌≡◌, ℕ, ◌+◌, ◌<◌, List, [], ◌∷◌, ◌++◌, length, get_or, take, Contains, refl, sym, ap, ◌∙◌}
use Rattle.std.proofs.lemmas.List.{take_more}
use Rattle.std.proofs.lemmas.List.Elements.{Contains-append_left, Contains-append_right, Contains-push}
use Rattle.til_parser.specs.declared.ltype.AstPart.{AstPart}
use Rattle.til_parser.specs.declared.tree.AstName.{AstName}
use Rattle.til_parser.specs.declared.tree.AstPath.{AstPath}
use Rattle.til_parser.specs.Tree as tree
use Rattle.til_parser.specs.Tree.{plain}
use Rattle.til_parser.proofs.PlainLemmas.{plain_parts}
use Rattle.logical_types.specs.Fold.{Layers, fold, fold_parts}
use Rattle.logical_types.specs.Tree.{Ltype, names_of}
use Rattle.til_resolve.specs.Declarations.{Declaration}
use Rattle.til_resolve.specs.Folds.{IsFoldOf, fold_by, fold_by_list, fold_by_parts, names_in, written_names}
use Rattle.til_resolve.specs.Names.{paths_in, paths_in_parts}
use Rattle.til_resolve.specs.Shapes.{entry_named}
use Rattle.til_resolve.specs.Tables.{IsMadeOf}
use Rattle.til_resolve.specs.Types.{meaning_of, replaced, replaced_parts, settings_of}
use Rattle.til_resolve.proofs.EntryLemmas.{entry-meant}

-- ---- names of parts

names-replaced : (meaning : List AstName → Ltype) (parts : tree.Parts) → names_of (replaced_parts meaning parts) ≡ names_in parts
names-replaced meaning tree.no_parts = refl
names-replaced meaning (tree.part name ltype more) = ap (λ l. name.name ∷ l) (names-replaced meaning more)

pub names-written : (parts : List AstPart) → names_in (plain_parts parts) ≡ written_names parts
names-written [] = refl
names-written (first ∷ more) = ap (λ l. first.name.name ∷ l) (names-written more)

module _ {X Y : Type 0} (layers : Layers X Y) where
  -- ---- lists of parts

  pub fold_by-listed : (of : List AstName → X) (before : Y) (parts : List AstPart) → fold_by_parts layers of before (plain_parts parts) ≡ fold_by_list layers of before parts
  fold_by-listed of before [] = refl
  fold_by-listed of before (first ∷ more) = fold_by-listed of (layers.of_part before (fold_by layers of (plain first.ltype))) more

  fold_by_list-push : (of : List AstName → X) (before : Y) (parts : List AstPart) (part : AstPart)
      → fold_by_list layers of before (parts ++ part ∷ []) ≡ layers.of_part (fold_by_list layers of before parts) (fold_by layers of (plain part.ltype))
  fold_by_list-push of before [] part = refl
  fold_by_list-push of before (first ∷ more) part = fold_by_list-push of (layers.of_part before (fold_by layers of (plain first.ltype))) more part

  -- one part more
  pub fold_by_list-more : (of : List AstName → X) (before : Y) (parts : List AstPart) (i : ℕ) (part : AstPart) → i < length parts → part ≡ get_or parts i part
      → fold_by_list layers of before (take (i + 1) parts) ≡ layers.of_part (fold_by_list layers of before (take i parts)) (fold_by layers of (plain part.ltype))
  fold_by_list-more of before parts i part within is =
      ap (fold_by_list layers of before) (take_more parts i part within ∙ ap (λ (p : AstPart). take i parts ++ p ∷ []) (sym is))
      ∙ fold_by_list-push of before (take i parts) part

  -- ---- the value of a type whose names are replaced

  mutual
    fold-replaced : (meaning : List AstName → Ltype) (t : tree.Ltype) → fold layers (replaced meaning t) ≡ fold_by layers (λ names. fold layers (meaning names)) t
    fold-replaced meaning tree.null = refl
    fold-replaced meaning (tree.bits width) = refl
    fold-replaced meaning (tree.group parts) =
        ap (λ l. layers.of_group l (fold_parts layers layers.of_no_parts (replaced_parts meaning parts))) (names-replaced meaning parts)
        ∙ ap (layers.of_group (names_in parts)) (folds-replaced meaning layers.of_no_parts parts)
    fold-replaced meaning (tree.union parts) =
        ap (λ l. layers.of_union l (fold_parts layers layers.of_no_parts (replaced_parts meaning parts))) (names-replaced meaning parts)
        ∙ ap (layers.of_union (names_in parts)) (folds-replaced meaning layers.of_no_parts parts)
    fold-replaced meaning (tree.stream element user settings) =
        ap (λ x. layers.of_stream (settings_of settings) x (fold layers (replaced meaning user))) (fold-replaced meaning element)
        ∙ ap (layers.of_stream (settings_of settings) (fold_by layers (λ names. fold layers (meaning names)) element)) (fold-replaced meaning user)
    fold-replaced meaning (tree.path names) = refl

    folds-replaced : (meaning : List AstName → Ltype) (before : Y) (parts : tree.Parts)
        → fold_parts layers before (replaced_parts meaning parts) ≡ fold_by_parts layers (λ names. fold layers (meaning names)) before parts
    folds-replaced meaning before tree.no_parts = refl
    folds-replaced meaning before (tree.part name ltype more) =
        ap (λ x. fold_parts layers (layers.of_part before x) (replaced_parts meaning more)) (fold-replaced meaning ltype)
        ∙ folds-replaced meaning (layers.of_part before (fold_by layers (λ names. fold layers (meaning names)) ltype)) more

  -- ---- the values of the paths in a type decide

  mutual
    fold_by-same : (of other : List AstName → X) (t : tree.Ltype) → ((path : AstPath) → Contains (paths_in t) path → of path.names ≡ other path.names) → fold_by layers of t ≡ fold_by layers other t
    fold_by-same of other tree.null same = refl
    fold_by-same of other (tree.bits width) same = refl
    fold_by-same of other (tree.group parts) same = ap (layers.of_group (names_in parts)) (folds_by-same of other layers.of_no_parts parts same)
    fold_by-same of other (tree.union parts) same = ap (layers.of_union (names_in parts)) (folds_by-same of other layers.of_no_parts parts same)
    fold_by-same of other (tree.stream element user settings) same =
        ap (λ x. layers.of_stream (settings_of settings) x (fold_by layers of user))
        (fold_by-same of other element (λ path there. same path (Contains-append_left (paths_in element) (paths_in user) path there)))
        ∙ ap (layers.of_stream (settings_of settings) (fold_by layers other element))
        (fold_by-same of other user (λ path there. same path (Contains-append_right (paths_in element) (paths_in user) path there)))
    fold_by-same of other (tree.path names) same = same (record { names = names }) (Contains-push [] (record { names = names }))

    folds_by-same : (of other : List AstName → X) (before : Y) (parts : tree.Parts) → ((path : AstPath) → Contains (paths_in_parts parts) path → of path.names ≡ other path.names)
        → fold_by_parts layers of before parts ≡ fold_by_parts layers other before parts
    folds_by-same of other before tree.no_parts same = refl
    folds_by-same of other before (tree.part name ltype more) same =
        ap (λ x. fold_by_parts layers of (layers.of_part before x) more)
        (fold_by-same of other ltype (λ path there. same path (Contains-append_left (paths_in ltype) (paths_in_parts more) path there)))
        ∙ folds_by-same of other (layers.of_part before (fold_by layers other ltype)) more
        (λ path there. same path (Contains-append_right (paths_in ltype) (paths_in_parts more) path there))

  -- ---- the values that are made of a table

  pub fold-made : (all : List Declaration) (space : List (List ℕ)) (t : tree.Ltype) (table : List X) (made : X) → made ≡ fold_by layers (entry_named layers.of_null all table space) t
      → IsMadeOf layers.of_null (IsFoldOf layers) all space t table made
  fold-made all space t table made is = λ depth ready.
      is
      ∙ fold_by-same (entry_named layers.of_null all table space) (λ names. fold layers (meaning_of all depth space names)) t
      (λ path there. entry-meant layers.of_null (IsFoldOf layers) all space (paths_in t) table depth path there refl ready)
      ∙ sym (fold-replaced (meaning_of all depth space) t)
