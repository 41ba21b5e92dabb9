-- Two types of one shape.
use Rattle.std.proofs.Common.{◌≡◌, ℕ, Bool, true, false, ◌&&◌, eqb, List, [], ◌∷◌, length, refl, arith}
use Rattle.logical_types.specs.declared.ltype.Part.{Part}
use Rattle.std.specs.Cmp.Lexicographic.{pointwise_decides, bytes_decides}
use Rattle.std.specs.Cmp.{unsigned_Decides}
use Rattle.std.proofs.lemmas.Bool.Decides.{nat_tests}
use Rattle.til_resolve.specs.Paths.{is_same_path}
use Rattle.logical_types.specs.Tree.{Ltype, null, bits, group, union, stream, no_parts, names_of, plain_parts}
use Rattle.link_check.specs.Kinds.{kind_of, is_same_kind, word_width, parts_inside, has_same_shape}
use Rattle.link_check.proofs.TestLemmas.{both, and}

pub record HasOneShape (one other : Ltype) : Type 0 where
  pub kind : is_same_kind (kind_of one) (kind_of other) ≡ true
  pub width : word_width one ≡ word_width other
  pub names : names_of (parts_inside one) ≡ names_of (parts_inside other)

pub paths-are : (one other : List (List ℕ)) → is_same_path one other ≡ true → one ≡ other
paths-are one other e = (pointwise_decides bytes_decides one other).0 e

pub path-itself : (one other : List (List ℕ)) → one ≡ other → is_same_path one other ≡ true
path-itself one other e = (pointwise_decides bytes_decides one other).1 e

pub shape-parts : (one other : Ltype) → has_same_shape one other ≡ true → HasOneShape one other
shape-parts one other e =
    let outer = both (is_same_kind (kind_of one) (kind_of other) && eqb (word_width one) (word_width other)) _ e in
    let inner = both (is_same_kind (kind_of one) (kind_of other)) _ outer.0 in
    record { kind = inner.0; width = (unsigned_Decides (word_width one) (word_width other)).0 inner.1; names = paths-are _ _ outer.1 }

pub shape-whole : (one other : Ltype) → HasOneShape one other → has_same_shape one other ≡ true
shape-whole one other h =
    and (is_same_kind (kind_of one) (kind_of other) && eqb (word_width one) (word_width other)) (is_same_path (names_of (parts_inside one)) (names_of (parts_inside other)))
    (and (is_same_kind (kind_of one) (kind_of other)) (eqb (word_width one) (word_width other)) h.kind ((unsigned_Decides (word_width one) (word_width other)).1 h.width))
    (path-itself _ _ h.names)

pub kind-itself : (one : Ltype) → is_same_kind (kind_of one) (kind_of one) ≡ true
unfolding is_same_kind
kind-itself null = refl
kind-itself (bits width) = refl
kind-itself (group parts) = refl
kind-itself (union parts) = refl
kind-itself (stream element user settings) = refl

pub shape-itself : (one : Ltype) → has_same_shape one one ≡ true
shape-itself one = shape-whole one one (record { kind = kind-itself one; width = refl; names = refl })

-- ---- names of parts from an index on

-- where no part is left, the names are the same exactly where none is left of the others
pub no_names-left : (rest : List Part) (found : Bool) → found ≡ eqb (length rest) 0 → found ≡ is_same_path (names_of no_parts) (names_of (plain_parts rest))
no_names-left [] found is = is
no_names-left (first ∷ more) true is = absurd (grind (arith, nat_tests))
no_names-left (first ∷ more) false is = refl
