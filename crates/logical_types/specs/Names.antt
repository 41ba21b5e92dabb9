-- Names that are equal when ASCII case is ignored. This project's own.
use Rattle.std.specs.Prelude.{ℕ, Bool, false, ◌||◌, List, [], ◌∷◌, map}
use Rattle.std.specs.List.{list_any}
use Rattle.std.specs.Str.{str_eq_ignore_ascii_case}
use Rattle.logical_types.specs.declared.ltype.Part.{Part}

-- two names are equal when case is ignored
abbrev pub is_same_name : List ℕ → List ℕ → Bool
is_same_name one other = str_eq_ignore_ascii_case one other

-- two of these names are equal when case is ignored
abbrev pub has_name_twice : List (List ℕ) → Bool
has_name_twice [] = false
has_name_twice (name ∷ more) = list_any (is_same_name name) more || has_name_twice more

-- the names of parts
abbrev pub part_names : List Part → List (List ℕ)
part_names parts = map (λ one. one.name) parts
