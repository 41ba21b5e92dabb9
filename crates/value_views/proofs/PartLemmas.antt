-- Values of Groups and Unions, part by part.
use Rattle.std.proofs.Common.{◌≡◌, ◌∙◌, ℕ, zero, suc, List, [], ◌∷◌, refl, ap, arith}
use Rattle.std.specs.Prelude.{map}
use Rattle.std.specs.List.{filter_map}
use Rattle.logical_types.specs.Tree.{Ltype, Parts, Settings}
use Rattle.logical_types.specs.Tree as types
use Rattle.logical_value.specs.Tree.{Tree, group, union, Trees, tree}
use Rattle.logical_value.specs.Element.{set_all_apart, set_apart, set_variant_apart}
use Rattle.value_views.specs.Series.{first_part, other_parts}
use Rattle.value_views.specs.Shown.{Elements}

-- values of a type whose first part has this type, and the values of this part and of the others
pub record AreParted (whole ltype others : Ltype) (values : List Tree) : Type 0 where
  pub firsts : Elements ltype (filter_map first_part values)
  pub rests : Elements others (filter_map other_parts values)
  pub firsts_apart : map (set_apart ltype) (filter_map first_part values) ≡ filter_map first_part (map (set_apart whole) values)
  pub rests_apart : map (set_apart others) (filter_map other_parts values) ≡ filter_map other_parts (map (set_apart whole) values)

pub fields_of : (name : List ℕ) (ltype : Ltype) (more : Parts) (values : List Tree) → Elements (types.group (types.part name ltype more)) values
    → AreParted (types.group (types.part name ltype more)) ltype (types.group more) values
fields_of name ltype more [] are = record { firsts = tt; rests = tt; firsts_apart = refl; rests_apart = refl }
fields_of name ltype more (group (tree x xs) ∷ values) are =
    let rest = fields_of name ltype more values are.1 in
    record {
      firsts = (are.0.0, rest.firsts);
      rests = (are.0.1, rest.rests);
      firsts_apart = ap (λ (l : List Tree). set_apart ltype x ∷ l) rest.firsts_apart;
      rests_apart = ap (λ (l : List Tree). group (set_all_apart more xs) ∷ l) rest.rests_apart;
    }
fields_of name ltype more (other ∷ values) are = absurd are.0

pub variants_of : (name : List ℕ) (ltype : Ltype) (more : Parts) (values : List Tree) → Elements (types.union (types.part name ltype more)) values
    → AreParted (types.union (types.part name ltype more)) ltype (types.union more) values
variants_of name ltype more [] are = record { firsts = tt; rests = tt; firsts_apart = refl; rests_apart = refl }
variants_of name ltype more (union zero x ∷ values) are =
    let rest = variants_of name ltype more values are.1 in
    record {
      firsts = (are.0, rest.firsts);
      rests = rest.rests;
      firsts_apart = ap (λ (l : List Tree). set_apart ltype x ∷ l) rest.firsts_apart;
      rests_apart = rest.rests_apart;
    }
variants_of name ltype more (union (suc tag) x ∷ values) are =
    let rest = variants_of name ltype more values are.1 in
    record {
      firsts = rest.firsts;
      rests = (are.0, rest.rests);
      firsts_apart = rest.firsts_apart;
      rests_apart = ap (λ (l : List Tree). union tag (set_variant_apart more tag x) ∷ l) rest.rests_apart;
    }
variants_of name ltype more (other ∷ values) are = absurd are.0

pub same_fields : (name : List ℕ) (ltype : Ltype) (more : Parts) (one other : List Tree)
    → Elements (types.group (types.part name ltype more)) one → Elements (types.group (types.part name ltype more)) other
    → filter_map first_part one ≡ filter_map first_part other → filter_map other_parts one ≡ filter_map other_parts other → one ≡ other
same_fields name ltype more [] [] are are' e f = refl
same_fields name ltype more [] (group (tree y ys) ∷ other) are are' e f = cc
same_fields name ltype more [] (v ∷ other) are are' e f = absurd are'.0
same_fields name ltype more (group (tree x xs) ∷ one) [] are are' e f = cc
same_fields name ltype more (group (tree x xs) ∷ one) (group (tree y ys) ∷ other) are are' e f =
    let rest = same_fields name ltype more one other are.1 are'.1 (cc) (cc) in cc
same_fields name ltype more (group (tree x xs) ∷ one) (v ∷ other) are are' e f = absurd are'.0
same_fields name ltype more (v ∷ one) other are are' e f = absurd are.0

pub same_variants : (name : List ℕ) (ltype : Ltype) (more : Parts) (one other : List Tree)
    → Elements (types.union (types.part name ltype more)) one → Elements (types.union (types.part name ltype more)) other
    → map (set_apart (types.union (types.part name ltype more))) one ≡ map (set_apart (types.union (types.part name ltype more))) other
    → filter_map first_part one ≡ filter_map first_part other → filter_map other_parts one ≡ filter_map other_parts other → one ≡ other
same_variants name ltype more [] [] are are' s e f = refl
same_variants name ltype more [] (v ∷ other) are are' s e f = cc
same_variants name ltype more (v ∷ one) [] are are' s e f = cc
same_variants name ltype more (union zero x ∷ one) (union zero y ∷ other) are are' s e f =
    let rest = same_variants name ltype more one other are.1 are'.1 (cc) (cc) (cc) in cc
same_variants name ltype more (union (suc tag) x ∷ one) (union (suc tag') y ∷ other) are are' s e f =
    let rest = same_variants name ltype more one other are.1 are'.1 (cc) (cc) (cc) in
    let here : union tag x ≡ union tag' y = cc in
    let tags : tag ≡ tag' = cc in
    let parts : x ≡ y = cc in cc
same_variants name ltype more (union zero x ∷ one) (union (suc tag') y ∷ other) are are' s e f = let tags : ◌≡◌ {A = ℕ} zero (suc tag') = cc in absurd (omega (arith, tags))
same_variants name ltype more (union (suc tag) x ∷ one) (union zero y ∷ other) are are' s e f = let tags : ◌≡◌ {A = ℕ} (suc tag) zero = cc in absurd (omega (arith, tags))
same_variants name ltype more (union zero x ∷ one) (v ∷ other) are are' s e f = absurd are'.0
same_variants name ltype more (union (suc tag) x ∷ one) (v ∷ other) are are' s e f = absurd are'.0
same_variants name ltype more (v ∷ one) (w ∷ other) are are' s e f = absurd are.0

-- ---- values of given parts

pub record ArePut (whole others : Ltype) (plain firsts rests : List Tree) : Type 0 where
  pub values : List Tree
  pub elements : Elements whole values
  pub same : map (set_apart whole) values ≡ plain
  pub firsts_are : filter_map first_part values ≡ firsts
  pub rests_are : filter_map other_parts values ≡ rests

pub put_fields : (name : List ℕ) (ltype : Ltype) (more : Parts) (plain firsts rests : List Tree)
    → Elements (types.group (types.part name ltype more)) plain → Elements ltype firsts → Elements (types.group more) rests
    → map (set_apart ltype) firsts ≡ filter_map first_part plain → map (set_apart (types.group more)) rests ≡ filter_map other_parts plain
    → ArePut (types.group (types.part name ltype more)) (types.group more) plain firsts rests
put_fields name ltype more [] [] [] are fs rs e f = record { values = []; elements = tt; same = refl; firsts_are = refl; rests_are = refl }
put_fields name ltype more [] (h ∷ firsts) rests are fs rs e f = cc
put_fields name ltype more [] [] (r ∷ rests) are fs rs e f = cc
put_fields name ltype more (group (tree x xs) ∷ plain) [] rests are fs rs e f = cc
put_fields name ltype more (group (tree x xs) ∷ plain) (h ∷ firsts) [] are fs rs e f = cc
put_fields name ltype more (group (tree x xs) ∷ plain) (h ∷ firsts) (group ys ∷ rests) are fs rs e f =
    let left = put_fields name ltype more plain firsts rests are.1 fs.1 rs.1 (cc) (cc) in
    let here : set_apart ltype h ≡ x = cc in
    let there : set_all_apart more ys ≡ xs = cc in
    record {
      values = group (tree h ys) ∷ left.values;
      elements = ((fs.0, rs.0), left.elements);
      same = ap (λ (l : List Tree). group (tree (set_apart ltype h) (set_all_apart more ys)) ∷ l) left.same
          ∙ ap (λ (v : Tree). group (tree v (set_all_apart more ys)) ∷ plain) here ∙ ap (λ (vs : Trees). group (tree x vs) ∷ plain) there;
      firsts_are = ap (λ (l : List Tree). h ∷ l) left.firsts_are;
      rests_are = ap (λ (l : List Tree). group ys ∷ l) left.rests_are;
    }
put_fields name ltype more (group (tree x xs) ∷ plain) (h ∷ firsts) (r ∷ rests) are fs rs e f = absurd rs.0
put_fields name ltype more (v ∷ plain) firsts rests are fs rs e f = absurd are.0

pub put_variants : (name : List ℕ) (ltype : Ltype) (more : Parts) (plain firsts rests : List Tree)
    → Elements (types.union (types.part name ltype more)) plain → Elements ltype firsts → Elements (types.union more) rests
    → map (set_apart ltype) firsts ≡ filter_map first_part plain → map (set_apart (types.union more)) rests ≡ filter_map other_parts plain
    → ArePut (types.union (types.part name ltype more)) (types.union more) plain firsts rests
put_variants name ltype more [] [] [] are fs rs e f = record { values = []; elements = tt; same = refl; firsts_are = refl; rests_are = refl }
put_variants name ltype more [] (h ∷ firsts) rests are fs rs e f = cc
put_variants name ltype more [] [] (r ∷ rests) are fs rs e f = cc
put_variants name ltype more (union zero x ∷ plain) [] rests are fs rs e f = cc
put_variants name ltype more (union zero x ∷ plain) (h ∷ firsts) rests are fs rs e f =
    let left = put_variants name ltype more plain firsts rests are.1 fs.1 rs (cc) f in
    let here : set_apart ltype h ≡ x = cc in
    record {
      values = union zero h ∷ left.values;
      elements = (fs.0, left.elements);
      same = ap (λ (l : List Tree). union zero (set_apart ltype h) ∷ l) left.same ∙ ap (λ (v : Tree). union zero v ∷ plain) here;
      firsts_are = ap (λ (l : List Tree). h ∷ l) left.firsts_are;
      rests_are = left.rests_are;
    }
put_variants name ltype more (union (suc tag) x ∷ plain) firsts [] are fs rs e f = cc
put_variants name ltype more (union (suc tag) x ∷ plain) firsts (union tag' y ∷ rests) are fs rs e f =
    let left = put_variants name ltype more plain firsts rests are.1 fs rs.1 e (cc) in
    let here : union tag' (set_variant_apart more tag' y) ≡ union tag x = cc in
    record {
      values = union (suc tag') y ∷ left.values;
      elements = (rs.0, left.elements);
      same = ap (λ (l : List Tree). union (suc tag') (set_variant_apart more tag' y) ∷ l) left.same ∙ ap (λ (v : Tree). next_variant v ∷ plain) here;
      firsts_are = left.firsts_are;
      rests_are = ap (λ (l : List Tree). union tag' y ∷ l) left.rests_are;
    }
  where
    next_variant : Tree → Tree
    next_variant (union n v) = union (suc n) v
    next_variant v = v
put_variants name ltype more (union (suc tag) x ∷ plain) firsts (r ∷ rests) are fs rs e f = absurd rs.0
put_variants name ltype more (v ∷ plain) firsts rests are fs rs e f = absurd are.0
