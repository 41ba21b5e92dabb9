-- Paths of names (Tydi specification, paths). All names are compared with their case, but those of ports of one streamlet.
use Rattle.std.specs.Prelude.{ℕ, Bool, List, map}
use Rattle.std.specs.Cmp.Lexicographic.{pointwise}
use Rattle.std.specs.Str.{bytes_eq}
use Rattle.til_parser.specs.declared.tree.AstName.{AstName}

-- two paths are the same names
abbrev pub is_same_path : List (List ℕ) → List (List ℕ) → Bool
is_same_path one other = pointwise bytes_eq one other

-- the names of a path, by their texts
abbrev pub texts_of : List AstName → List (List ℕ)
texts_of names = map (λ one. one.name) names
