-- Nests determine values, and give them where there are as many as are selected.
use Rattle.std.proofs.Common.{inl, inr, ◌≡◌, ◌∙◌, ℕ, zero, suc, ◌+◌, Bool, true, false, List, [], ◌∷◌, length, refl, sym, ap, subst, arith}
use Rattle.std.specs.Prelude.{map, ◌⊎◌}
use Rattle.std.specs.List.{flat_map, filter_map}
use Rattle.std.proofs.lemmas.List.{map-id, length-map}
use Rattle.logical_value.specs.Packed.{pack_of}
use Rattle.logical_value.proofs.LawLemmas.{packed_is_unpacked, unpacked_are_elements}
use Rattle.logical_value.proofs.PackingLemmas.{length-pack_of}
use Rattle.logical_types.specs.Tree.{Ltype, Parts, Settings}
use Rattle.logical_types.specs.Tree as types
use Rattle.logical_value.specs.Tree.{Tree, group, union, apart, no_trees}
use Rattle.logical_types.specs.Faults.{dims_taken_over}
use Rattle.logical_types.specs.Synchronicity.{is_apart}
use Rattle.logical_value.specs.Element.{IsElement, set_apart}
use Rattle.logical_value.specs.Tree.{members}
use Rattle.type_split.specs.Nodes.{number_of_streams}
use Rattle.value_views.proofs.NestLemmas.{leaves-in_nest, lift_nests, members-in_nest, same_nests}
use Rattle.value_views.proofs.PartLemmas.{fields_of, put_fields, put_variants, same_fields, same_variants, variants_of}
use Rattle.value_views.proofs.SeriesLemmas.{members-listed}
use Rattle.value_views.specs.Series.{dims_inside, first_part, leaves, listed, other_parts}
use Rattle.value_views.specs.Shown.{AreLists, AreNests, ArePlain, Counts, CountsOfParts, Elements, Nests, NestsOfParts}
use Rattle.value_views.specs.Words.{in_nest}

pub bool_is : (b : Bool) → (b ≡ true) ⊎ (b ≡ false)
bool_is true = inl refl
bool_is false = inr refl

pub not_both : {Z : Type 0} → (b : Bool) → b ≡ true → b ≡ false → Z
not_both b yes' no' = cc

all_apart : (one other : List Tree) → length one ≡ length other → map (λ (v : Tree). apart) one ≡ map (λ (v : Tree). apart) other
all_apart [] [] long = refl
all_apart [] (w ∷ other) long = absurd (omega (arith, long))
all_apart (v ∷ one) [] long = absurd (omega (arith, long))
all_apart (v ∷ one) (w ∷ other) long = ap (λ (l : List Tree). apart ∷ l) (all_apart one other (omega (arith, long)))

no_fields : (one other : List Tree) → Elements (types.group types.no_parts) one → Elements (types.group types.no_parts) other
    → map (set_apart (types.group types.no_parts)) one ≡ map (set_apart (types.group types.no_parts)) other → one ≡ other
no_fields [] [] are are' e = refl
no_fields [] (v ∷ other) are are' e = cc
no_fields (v ∷ one) [] are are' e = cc
no_fields (group no_trees ∷ one) (group no_trees ∷ other) are are' e = ap (λ (l : List Tree). group no_trees ∷ l) (no_fields one other are.1 are'.1 (cc))
no_fields (group no_trees ∷ one) (w ∷ other) are are' e = absurd are'.0
no_fields (v ∷ one) other are are' e = absurd are.0

no_variants : (one other : List Tree) → Elements (types.union types.no_parts) one → Elements (types.union types.no_parts) other
    → map (set_apart (types.union types.no_parts)) one ≡ map (set_apart (types.union types.no_parts)) other → one ≡ other
no_variants [] [] are are' e = refl
no_variants [] (v ∷ other) are are' e = cc
no_variants (v ∷ one) [] are are' e = cc
no_variants (union tag v ∷ one) other are are' e = absurd are.0
no_variants (v ∷ one) other are are' e = absurd are.0

-- ---- one value

mutual
  pub one_value : (nests : ℕ → List Tree) (number dims : ℕ) (ltype : Ltype) (one other : List Tree) → Elements ltype one → Elements ltype other
      → map (set_apart ltype) one ≡ map (set_apart ltype) other → Nests nests number dims ltype one → Nests nests number dims ltype other → one ≡ other
  one_value nests number dims types.null one other are are' e n n' = sym (map-id one) ∙ e ∙ map-id other
  one_value nests number dims (types.bits width) one other are are' e n n' = sym (map-id one) ∙ e ∙ map-id other
  one_value nests number dims (types.group parts) one other are are' e n n' = one_of_fields nests number dims parts one other are are' e n n'
  one_value nests number dims (types.union parts) one other are are' e n n' = one_of_variants nests number dims parts one other are are' e n n'
  one_value nests number dims (types.stream element user settings) one other are are' e n n' = elim (bool_is (is_apart settings.sync)) [
    | inl apart_is ↦ n.0 apart_is ∙ e ∙ sym (n'.0 apart_is)
    | inr tied ↦
        let here = n.1 tied in
        let there = n'.1 tied in
        let f = set_apart element in
        let d = settings.dims in
        let given : map f (leaves d one) ≡ map f (leaves d other) =
        sym (leaves-in_nest f d one) ∙ ap (leaves d) (sym here.1 ∙ there.1) ∙ leaves-in_nest f d other in
        same_nests f d one other here.0 there.0 (sym here.1 ∙ there.1)
        (one_value nests (suc number) (dims_inside settings.sync dims settings.dims) element (leaves d one) (leaves d other) here.2 there.2 given here.3 there.3)
  ]

  one_of_fields : (nests : ℕ → List Tree) (number dims : ℕ) (parts : Parts) (one other : List Tree) → Elements (types.group parts) one → Elements (types.group parts) other
      → map (set_apart (types.group parts)) one ≡ map (set_apart (types.group parts)) other → NestsOfParts nests number dims parts one → NestsOfParts nests number dims parts other → one ≡ other
  one_of_fields nests number dims types.no_parts one other are are' e n n' = no_fields one other are are' e
  one_of_fields nests number dims (types.part name ltype more) one other are are' e n n' =
      let p = fields_of name ltype more one are in
      let p' = fields_of name ltype more other are' in
      same_fields name ltype more one other are are'
      (one_value nests number dims ltype (filter_map first_part one) (filter_map first_part other) p.firsts p'.firsts
      (p.firsts_apart ∙ ap (filter_map first_part) e ∙ sym p'.firsts_apart) n.0 n'.0)
      (one_of_fields nests (number_of_streams ltype + number) dims more (filter_map other_parts one) (filter_map other_parts other) p.rests p'.rests
      (p.rests_apart ∙ ap (filter_map other_parts) e ∙ sym p'.rests_apart) n.1 n'.1)

  one_of_variants : (nests : ℕ → List Tree) (number dims : ℕ) (parts : Parts) (one other : List Tree) → Elements (types.union parts) one → Elements (types.union parts) other
      → map (set_apart (types.union parts)) one ≡ map (set_apart (types.union parts)) other → NestsOfParts nests number dims parts one → NestsOfParts nests number dims parts other → one ≡ other
  one_of_variants nests number dims types.no_parts one other are are' e n n' = no_variants one other are are' e
  one_of_variants nests number dims (types.part name ltype more) one other are are' e n n' =
      let p = variants_of name ltype more one are in
      let p' = variants_of name ltype more other are' in
      same_variants name ltype more one other are are' e
      (one_value nests number dims ltype (filter_map first_part one) (filter_map first_part other) p.firsts p'.firsts
      (p.firsts_apart ∙ ap (filter_map first_part) e ∙ sym p'.firsts_apart) n.0 n'.0)
      (one_of_variants nests (number_of_streams ltype + number) dims more (filter_map other_parts one) (filter_map other_parts other) p.rests p'.rests
      (p.rests_apart ∙ ap (filter_map other_parts) e ∙ sym p'.rests_apart) n.1 n'.1)

-- ---- some value

pub record AreJoined (ltype : Ltype) (Taken : List Tree → Type 0) (plain : List Tree) : Type 0 where
  pub values : List Tree
  pub elements : Elements ltype values
  pub same : map (set_apart ltype) values ≡ plain
  pub nests : Taken values

any_elements : (element user : Ltype) (settings : Settings) (values : List Tree) → Elements (types.stream element user settings) values
any_elements element user settings [] = tt
any_elements element user settings (v ∷ values) = (tt, any_elements element user settings values)

mutual
  pub joined : (nests : ℕ → List Tree) (number dims : ℕ) (ltype : Ltype) (plain : List Tree) → Elements ltype plain → map (set_apart ltype) plain ≡ plain
      → Counts nests number dims ltype plain → AreJoined ltype (Nests nests number dims ltype) plain
  joined nests number dims types.null plain are p c = record { values = plain; elements = are; same = p; nests = tt }
  joined nests number dims (types.bits width) plain are p c = record { values = plain; elements = are; same = p; nests = tt }
  joined nests number dims (types.group parts) plain are p c = joined_fields nests number dims parts plain are p c
  joined nests number dims (types.union parts) plain are p c = joined_variants nests number dims parts plain are p c
  joined nests number dims (types.stream element user settings) plain are p c = elim (bool_is (is_apart settings.sync)) [
    | inl apart_is ↦ record { values = plain; elements = are; same = p; nests = (λ t. sym p, λ f. not_both (is_apart settings.sync) apart_is f) }
    | inr tied ↦
        let here = c tied in
        let f = set_apart element in
        let d = settings.dims in
        let inside = joined nests (suc number) (dims_inside settings.sync dims settings.dims) element (leaves d (leaves (dims_taken_over settings.sync dims) (nests number))) here.2.elements here.2.plain here.3 in
        let put = lift_nests f d (leaves (dims_taken_over settings.sync dims) (nests number)) inside.values here.0 inside.same in
        let long : length put.nests ≡ length plain = sym (length-map put.nests (in_nest f d)) ∙ ap length put.same ∙ sym here.1 in
        record {
          values = put.nests;
          elements = any_elements element user settings put.nests;
          same = all_apart put.nests plain long ∙ p;
          nests = (
            λ t. not_both (is_apart settings.sync) t tied,
            λ _. (put.are, sym put.same, subst (Elements element) (sym put.inner) inside.elements, subst (Nests nests (suc number) (dims_inside settings.sync dims settings.dims) element) (sym put.inner) inside.nests),
          );
        }
  ]

  joined_fields : (nests : ℕ → List Tree) (number dims : ℕ) (parts : Parts) (plain : List Tree) → Elements (types.group parts) plain → map (set_apart (types.group parts)) plain ≡ plain
      → CountsOfParts nests number dims parts plain → AreJoined (types.group parts) (NestsOfParts nests number dims parts) plain
  joined_fields nests number dims types.no_parts plain are p c = record { values = plain; elements = are; same = p; nests = tt }
  joined_fields nests number dims (types.part name ltype more) plain are p c =
      let q = fields_of name ltype more plain are in
      let first = joined nests number dims ltype (filter_map first_part plain) q.firsts (q.firsts_apart ∙ ap (filter_map first_part) p) c.0 in
      let rest = joined_fields nests (number_of_streams ltype + number) dims more (filter_map other_parts plain) q.rests (q.rests_apart ∙ ap (filter_map other_parts) p) c.1 in
      let put = put_fields name ltype more plain first.values rest.values are first.elements rest.elements first.same rest.same in
      record {
        values = put.values;
        elements = put.elements;
        same = put.same;
        nests = (
          subst (Nests nests number dims ltype) (sym put.firsts_are) first.nests,
          subst (NestsOfParts nests (number_of_streams ltype + number) dims more) (sym put.rests_are) rest.nests,
        );
      }

  joined_variants : (nests : ℕ → List Tree) (number dims : ℕ) (parts : Parts) (plain : List Tree) → Elements (types.union parts) plain → map (set_apart (types.union parts)) plain ≡ plain
      → CountsOfParts nests number dims parts plain → AreJoined (types.union parts) (NestsOfParts nests number dims parts) plain
  joined_variants nests number dims types.no_parts plain are p c = record { values = plain; elements = are; same = p; nests = tt }
  joined_variants nests number dims (types.part name ltype more) plain are p c =
      let q = variants_of name ltype more plain are in
      let first = joined nests number dims ltype (filter_map first_part plain) q.firsts (q.firsts_apart ∙ ap (filter_map first_part) p) c.0 in
      let rest = joined_variants nests (number_of_streams ltype + number) dims more (filter_map other_parts plain) q.rests (q.rests_apart ∙ ap (filter_map other_parts) p) c.1 in
      let put = put_variants name ltype more plain first.values rest.values are first.elements rest.elements first.same rest.same in
      record {
        values = put.values;
        elements = put.elements;
        same = put.same;
        nests = (
          subst (Nests nests number dims ltype) (sym put.firsts_are) first.nests,
          subst (NestsOfParts nests (number_of_streams ltype + number) dims more) (sym put.rests_are) rest.nests,
        );
      }

-- ---- what nests of values are

pub are_nests-in_nest : (f : Tree → Tree) (depth : ℕ) (series : List Tree) → AreNests depth (map (in_nest f depth) series)
are_nests-in_nest f zero series = tt
are_nests-in_nest f (suc depth) series = (are_lists series, subst (AreNests depth) (sym (members-in_nest (in_nest f depth) series)) (are_nests-in_nest f depth (flat_map members series)))
  where
    are_lists : (values : List Tree) → AreLists (map (λ value. listed (map (in_nest f depth) (members value))) values)
    are_lists [] = tt
    are_lists (v ∷ values) = (ap listed (members-listed (map (in_nest f depth) (members v))), are_lists values)

plain_element : (ltype : Ltype) (value : Tree) → IsElement ltype value → IsElement ltype (set_apart ltype value)
plain_element ltype value is =
    unpacked_are_elements ltype (pack_of ltype value) (set_apart ltype value) (length-pack_of ltype value is) (packed_is_unpacked ltype value is).agrees

pub plain_elements : (ltype : Ltype) (values : List Tree) → Elements ltype values → ArePlain ltype (map (set_apart ltype) values)
plain_elements ltype [] are = record { elements = tt; plain = refl }
plain_elements ltype (v ∷ values) are =
    let rest = plain_elements ltype values are.1 in
    let here = (packed_is_unpacked ltype v are.0).streams in
    record {
      elements = (plain_element ltype v are.0, rest.elements);
      plain = ap (λ (w : Tree). w ∷ map (set_apart ltype) (map (set_apart ltype) values)) here ∙ ap (λ (l : List Tree). set_apart ltype v ∷ l) rest.plain;
    }

mutual
  pub counts_of_value : (nests : ℕ → List Tree) (number dims : ℕ) (ltype : Ltype) (values : List Tree) → Elements ltype values → Nests nests number dims ltype values
      → Counts nests number dims ltype (map (set_apart ltype) values)
  counts_of_value nests number dims types.null values are n = tt
  counts_of_value nests number dims (types.bits width) values are n = tt
  counts_of_value nests number dims (types.group parts) values are n = counts_of_fields nests number dims parts values are n
  counts_of_value nests number dims (types.union parts) values are n = counts_of_variants nests number dims parts values are n
  counts_of_value nests number dims (types.stream element user settings) values are n = λ tied.
      let here = n.1 tied in
      let f = set_apart element in
      let d = settings.dims in
      let given : map f (leaves d values) ≡ leaves d (leaves (dims_taken_over settings.sync dims) (nests number)) = sym (leaves-in_nest f d values) ∙ ap (leaves d) (sym here.1) in (
        subst (AreNests d) (sym here.1) (are_nests-in_nest f d values),
        length-map values (λ (v : Tree). apart) ∙ sym (length-map values (in_nest f d)) ∙ ap length (sym here.1),
        subst (ArePlain element) given (plain_elements element (leaves d values) here.2),
        subst (Counts nests (suc number) (dims_inside settings.sync dims settings.dims) element) given (counts_of_value nests (suc number) (dims_inside settings.sync dims settings.dims) element (leaves d values) here.2 here.3),
      )

  counts_of_fields : (nests : ℕ → List Tree) (number dims : ℕ) (parts : Parts) (values : List Tree) → Elements (types.group parts) values → NestsOfParts nests number dims parts values
      → CountsOfParts nests number dims parts (map (set_apart (types.group parts)) values)
  counts_of_fields nests number dims types.no_parts values are n = tt
  counts_of_fields nests number dims (types.part name ltype more) values are n =
      let p = fields_of name ltype more values are in (
        subst (Counts nests number dims ltype) p.firsts_apart (counts_of_value nests number dims ltype (filter_map first_part values) p.firsts n.0),
        subst (CountsOfParts nests (number_of_streams ltype + number) dims more) p.rests_apart
            (counts_of_fields nests (number_of_streams ltype + number) dims more (filter_map other_parts values) p.rests n.1),
      )

  counts_of_variants : (nests : ℕ → List Tree) (number dims : ℕ) (parts : Parts) (values : List Tree) → Elements (types.union parts) values → NestsOfParts nests number dims parts values
      → CountsOfParts nests number dims parts (map (set_apart (types.union parts)) values)
  counts_of_variants nests number dims types.no_parts values are n = tt
  counts_of_variants nests number dims (types.part name ltype more) values are n =
      let p = variants_of name ltype more values are in (
        subst (Counts nests number dims ltype) p.firsts_apart (counts_of_value nests number dims ltype (filter_map first_part values) p.firsts n.0),
        subst (CountsOfParts nests (number_of_streams ltype + number) dims more) p.rests_apart
            (counts_of_variants nests (number_of_streams ltype + number) dims more (filter_map other_parts values) p.rests n.1),
      )
