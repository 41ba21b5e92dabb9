-- Series of nests: their members, their leaves, and series with leaves replaced.
use Rattle.std.proofs.Common.{◌≡◌, ◌∙◌, ℕ, zero, suc, ◌+◌, List, [], ◌∷◌, ◌++◌, length, drop, slice_get, refl, sym, ap, arith, length-append}
use Rattle.std.specs.Prelude.{map, Option, Some, None}
use Rattle.std.specs.List.{flat_map, filter_map, cons_option}
use Rattle.std.proofs.lemmas.Grind.{flat_map-append}
use Rattle.std.proofs.lemmas.List.{map-append}
use Rattle.std.proofs.lemmas.List.Elements.{filter_map-append}
use Rattle.logical_types.specs.Tree.{Ltype, Parts}
use Rattle.logical_types.specs.Tree as types
use Rattle.type_split.specs.Nodes.{number_of_streams, streams_in_parts}
use Rattle.logical_value.specs.Tree.{Tree, members}
use Rattle.value_views.specs.Series.{listed, replaced, leaves, first_part, other_parts, first_series, dims_inside, series_inside, roots_behind, number_of_roots, series_in, series_in_parts, series_at}
use Rattle.value_views.specs.Way.{and_then}

-- ---- members and leaves

pub members-listed : (values : List Tree) → members (listed values) ≡ values
members-listed [] = refl
members-listed (value ∷ more) = ap (λ (l : List Tree). value ∷ l) (members-listed more)

pub leaves-append : (depth : ℕ) (one other : List Tree) → leaves depth (one ++ other) ≡ leaves depth one ++ leaves depth other
leaves-append zero one other = refl
leaves-append (suc depth) one other = ap (leaves depth) (flat_map-append members one other) ∙ leaves-append depth (flat_map members one) (flat_map members other)

pub leaves-nil : (depth : ℕ) → leaves depth [] ≡ []
leaves-nil zero = refl
leaves-nil (suc depth) = leaves-nil depth

-- ---- leaves replaced

pub replaced-append : (f : Tree → Option Tree) (depth : ℕ) (one other : List Tree) → replaced f depth (one ++ other) ≡ replaced f depth one ++ replaced f depth other
replaced-append f zero one other = filter_map-append f one other
replaced-append f (suc depth) one other = map-append (λ (v : Tree). listed (replaced f depth (members v))) one other

pub replaced-nil : (f : Tree → Option Tree) (depth : ℕ) → replaced f depth [] ≡ []
replaced-nil f zero = refl
replaced-nil f (suc depth) = refl

pub members-replaced : (f : Tree → Option Tree) (depth : ℕ) (series : List Tree) → flat_map members (replaced f (suc depth) series) ≡ replaced f depth (flat_map members series)
members-replaced f depth [] = sym (replaced-nil f depth)
members-replaced f depth (value ∷ series) =
    ap (λ (l : List Tree). l ++ flat_map members (replaced f (suc depth) series)) (members-listed (replaced f depth (members value)))
    ∙ ap (λ (l : List Tree). replaced f depth (members value) ++ l) (members-replaced f depth series)
    ∙ sym (replaced-append f depth (members value) (flat_map members series))

filtered_first : (f : Tree → Option Tree) (o : Option Tree) (more others : List Tree) → filter_map f more ≡ others → filter_map f (cons_option o more) ≡ cons_option (and_then f o) others
filtered_first f None more others are = are
filtered_first f (Some v) more others are = ap (cons_option (f v)) are

filtered_twice : (f g : Tree → Option Tree) (series : List Tree) → filter_map f (filter_map g series) ≡ filter_map (λ v. and_then f (g v)) series
filtered_twice f g [] = refl
filtered_twice f g (value ∷ series) = filtered_first f (g value) (filter_map g series) (filter_map (λ v. and_then f (g v)) series) (filtered_twice f g series)

replaced_lists : (F G H : List Tree → List Tree) → ((l : List Tree) → F (G l) ≡ H l) → (series : List Tree)
    → map (λ v. listed (F (members v))) (map (λ v. listed (G (members v))) series) ≡ map (λ v. listed (H (members v))) series
replaced_lists F G H each [] = refl
replaced_lists F G H each (value ∷ series) =
    ap (λ (l : List Tree). listed (F l) ∷ map (λ v. listed (F (members v))) (map (λ v. listed (G (members v))) series)) (members-listed (G (members value)))
    ∙ ap (λ (l : List Tree). listed l ∷ map (λ v. listed (F (members v))) (map (λ v. listed (G (members v))) series)) (each (members value))
    ∙ ap (λ (l : List Tree). listed (H (members value)) ∷ l) (replaced_lists F G H each series)

-- leaves that are replaced twice are replaced by one choice after the other
pub replaced-twice : (f g : Tree → Option Tree) (dims : ℕ) (series : List Tree) → replaced f dims (replaced g dims series) ≡ replaced (λ v. and_then f (g v)) dims series
replaced-twice f g zero series = filtered_twice f g series
replaced-twice f g (suc dims) series = replaced_lists (replaced f dims) (replaced g dims) (replaced (λ v. and_then f (g v)) dims) (replaced-twice f g dims) series

-- ---- series of roots

pub first-at : (roots : List (List Tree)) → first_series roots ≡ series_at 0 roots
first-at [] = refl
first-at (series ∷ more) = refl

pub second-at : (number : ℕ) (roots : List (List Tree)) → series_at number (drop 1 roots) ≡ series_at (suc number) roots
second-at number [] = refl
second-at zero (series ∷ more) = refl
second-at (suc number) (series ∷ more) = refl

pub series_at-drop : (number past all : ℕ) (roots : List (List Tree)) → all ≡ number + past → series_at number (drop past roots) ≡ series_at all roots
series_at-drop number zero all roots is = (let same : number ≡ all = omega (arith, is) in ap (λ (n : ℕ). series_at n roots) same)
series_at-drop number (suc past) all [] is = refl
series_at-drop number (suc past) zero (series ∷ more) is = absurd (omega (arith, is))
series_at-drop number (suc past) (suc all) (series ∷ more) is = series_at-drop number past all more (omega (arith, is))

-- ---- how many nodes there are

mutual
  pub series_in-length : (dims : ℕ) (series : List Tree) (roots : List (List Tree)) (ltype : Ltype) → length (series_in dims series roots ltype) ≡ number_of_streams ltype
  series_in-length dims series roots types.null = refl
  series_in-length dims series roots (types.bits width) = refl
  series_in-length dims series roots (types.group parts) = series_in_parts-length dims series roots parts
  series_in-length dims series roots (types.union parts) = series_in_parts-length dims series roots parts
  series_in-length dims series roots (types.stream element user settings) =
      ap (λ (n : ℕ). suc n)
      (series_in-length (dims_inside settings.sync dims settings.dims) (series_inside settings.sync dims series roots) (roots_behind settings.sync roots) element)

  pub series_in_parts-length : (dims : ℕ) (series : List Tree) (roots : List (List Tree)) (parts : Parts) → length (series_in_parts dims series roots parts) ≡ streams_in_parts parts
  series_in_parts-length dims series roots types.no_parts = refl
  series_in_parts-length dims series roots (types.part name ltype more) =
      let first = series_in dims (replaced first_part dims series) roots ltype in
      let others = series_in_parts dims (replaced other_parts dims series) (drop (number_of_roots ltype) roots) more in
      let here = series_in-length dims (replaced first_part dims series) roots ltype in
      let rest = series_in_parts-length dims (replaced other_parts dims series) (drop (number_of_roots ltype) roots) more in
      length-append first others ∙ omega (arith, here, rest)

-- ---- places in two lists, one after the other

pub found-front : {A : Type 0} (one other : List A) (at : ℕ) (x : A) → slice_get one at ≡ Some x → slice_get (one ++ other) at ≡ Some x
found-front [] other at x found = cc
found-front (y ∷ one) other zero x found = found
found-front (y ∷ one) other (suc at) x found = found-front one other at x found

pub found-back : {A : Type 0} (one other : List A) (at whole : ℕ) (x : A) → whole ≡ at + length one → slice_get other at ≡ Some x → slice_get (one ++ other) whole ≡ Some x
found-back [] other at whole x is found = (let same : at ≡ whole = omega (arith, is) in ap (λ (n : ℕ). slice_get other n) (sym same) ∙ found)
found-back (y ∷ one) other at zero x is found = absurd (omega (arith, is))
found-back (y ∷ one) other at (suc whole) x is found = found-back one other at whole x (omega (arith, is)) found
