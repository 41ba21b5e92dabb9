-- No node disagrees exactly where all agree with those around them.
use Rattle.std.proofs.Common.{inl, inr, ◌≡◌, ◌∙◌, ℕ, zero, suc, ◌+◌, Bool, true, false, List, [], ◌∷◌, ◌++◌, refl, sym, ap}
use Rattle.std.specs.Prelude.{map, ◌&&◌, if◌then◌else◌, Option, Some, None}
use Rattle.logical_types.specs.Tree.{Ltype, Parts, Settings}
use Rattle.logical_types.specs.Tree as types
use Rattle.logical_value.specs.Tree.{Tree, apart}
use Rattle.logical_types.specs.Faults.{dims_taken_over}
use Rattle.logical_types.specs.Synchronicity.{is_apart}
use Rattle.logical_value.specs.Tree.{members}
use Rattle.type_split.specs.Nodes.{number_of_streams}
use Rattle.value_views.proofs.SeriesLemmas.{members-listed}
use Rattle.value_views.proofs.ValueLemmas.{bool_is}
use Rattle.value_views.specs.Comparing.{Disagreement, disagreements_in, disagreements_in_parts, disagrees_at, first_difference, pass_both, same_shape, tied_series}
use Rattle.value_views.specs.Series.{deep, dims_inside, first_part, listed, other_parts, replaced}
use Rattle.value_views.specs.Shown.{Agree, AgreeParts, AreSeries, AreSeriesOfParts, RootsAgree, RootsOfPartsAgree}
use Rattle.value_views.specs.Words.{in_nest}

both : (a b : Bool) → (a && b) ≡ true → (a ≡ true) × (b ≡ true)
both true b e = (refl, e)
both false b e = cc

-- members of one shape are cut alike
cut_alike : (test : Tree → Tree → Bool) (h : Tree → Tree) → ((v w : Tree) → test v w ≡ true → h v ≡ h w) → (one other : List Tree) → pass_both test one other ≡ true → map h one ≡ map h other
cut_alike test h each [] [] e = refl
cut_alike test h each [] (w ∷ other) e = cc
cut_alike test h each (v ∷ one) [] e = cc
cut_alike test h each (v ∷ one) (w ∷ other) e =
    let p = both (test v w) (pass_both test one other) e in
    ap (λ (x : Tree). x ∷ map h one) (each v w p.0) ∙ ap (λ (l : List Tree). h w ∷ l) (cut_alike test h each one other p.1)

pub same_cut : (depth : ℕ) (one other : Tree) → same_shape depth one other ≡ true → in_nest (λ (v : Tree). apart) depth one ≡ in_nest (λ (v : Tree). apart) depth other
same_cut zero one other e = refl
same_cut (suc depth) one other e =
    ap listed (cut_alike (same_shape depth) (in_nest (λ (v : Tree). apart) depth) (same_cut depth) (members one) (members other) e)

alike_cut : (test : Tree → Tree → Bool) (h : Tree → Tree) → ((v w : Tree) → h v ≡ h w → test v w ≡ true) → (one other : List Tree) → map h one ≡ map h other → pass_both test one other ≡ true
alike_cut test h each [] [] e = refl
alike_cut test h each [] (w ∷ other) e = cc
alike_cut test h each (v ∷ one) [] e = cc
alike_cut test h each (v ∷ one) (w ∷ other) e =
    ap (λ (b : Bool). b && pass_both test one other) (each v w (cc)) ∙ alike_cut test h each one other (cc)

pub cut_same : (depth : ℕ) (one other : Tree) → in_nest (λ (v : Tree). apart) depth one ≡ in_nest (λ (v : Tree). apart) depth other → same_shape depth one other ≡ true
cut_same zero one other e = refl
cut_same (suc depth) one other e =
    let h = in_nest (λ (v : Tree). apart) depth in
    alike_cut (same_shape depth) h (cut_same depth) (members one) (members other)
    (sym (members-listed (map h (members one))) ∙ ap members e ∙ members-listed (map h (members other)))

chosen : (b : Bool) (next : Option ℕ) (number : ℕ) → (if b then next else Some number) ≡ None → (b ≡ true) × (next ≡ None)
chosen true next number e = (refl, e)
chosen false next number e = cc

pub no_difference : (depth number : ℕ) (one other : List Tree) → first_difference (same_shape depth) number one other ≡ None
    → map (in_nest (λ (v : Tree). apart) depth) one ≡ map (in_nest (λ (v : Tree). apart) depth) other
no_difference depth number [] [] e = refl
no_difference depth number [] (w ∷ other) e = cc
no_difference depth number (v ∷ one) [] e = cc
no_difference depth number (v ∷ one) (w ∷ other) e =
    let h = in_nest (λ (v : Tree). apart) depth in
    let p = chosen (same_shape depth v w) (first_difference (same_shape depth) (suc number) one other) number e in
    ap (λ (x : Tree). x ∷ map h one) (same_cut depth v w p.0) ∙ ap (λ (l : List Tree). h w ∷ l) (no_difference depth (suc number) one other p.1)

pub cut_no_difference : (depth number : ℕ) (one other : List Tree) → map (in_nest (λ (v : Tree). apart) depth) one ≡ map (in_nest (λ (v : Tree). apart) depth) other
    → first_difference (same_shape depth) number one other ≡ None
cut_no_difference depth number [] [] e = refl
cut_no_difference depth number [] (w ∷ other) e = cc
cut_no_difference depth number (v ∷ one) [] e = cc
cut_no_difference depth number (v ∷ one) (w ∷ other) e =
    ap (λ (b : Bool). if b then first_difference (same_shape depth) (suc number) one other else Some number) (cut_same depth v w (cc))
    ∙ cut_no_difference depth (suc number) one other (cc)

-- ---- no disagreement is agreement

no_items : (one other : List Disagreement) → one ++ other ≡ [] → (one ≡ []) × (other ≡ [])
no_items [] other e = (refl, e)
no_items (x ∷ one) other e = cc

is_none : (path : List (List ℕ)) (o : Option ℕ) → disagrees_at path o ≡ [] → o ≡ None
is_none path None e = refl
is_none path (Some packet) e = cc

by_choice : (b : Bool) (other : List Disagreement) → b ≡ false → (if b then [] else other) ≡ [] → other ≡ []
by_choice true other f e = cc
by_choice false other f e = e

pub record AllAgree (Here There : Type 0) : Type 0 where
  pub here : Here
  pub roots : There

mutual
  pub agree_where_none : (given : ℕ → List Tree) (names : List (List ℕ)) (number dims : ℕ) (ltype : Ltype) (series : List Tree) → AreSeries given number dims ltype
      → disagreements_in given names number dims ltype series ≡ [] → AllAgree (Agree given number dims ltype series) (RootsAgree given number dims ltype)
  agree_where_none given names number dims types.null series are e = record { here = tt; roots = tt }
  agree_where_none given names number dims (types.bits width) series are e = record { here = tt; roots = tt }
  agree_where_none given names number dims (types.group parts) series are e = agree_where_none_in given names number dims parts series are e
  agree_where_none given names number dims (types.union parts) series are e = agree_where_none_in given names number dims parts series are e
  agree_where_none given names number dims (types.stream element user settings) series are e =
      let k = dims_taken_over settings.sync dims in
      let difference = first_difference (same_shape k) 0 (tied_series settings.sync dims series) (given number) in
      let split = no_items (if is_apart settings.sync then [] else disagrees_at names difference)
      (disagreements_in given names (suc number) (deep k settings.dims) element (given number)) e in
      let inside = agree_where_none given names (suc number) (deep k settings.dims) element (given number) are.2 split.1 in
      record {
        here = λ tied. (
          are.0,
          are.1,
          no_difference k 0 (tied_series settings.sync dims series) (given number) (is_none names difference (by_choice (is_apart settings.sync) (disagrees_at names difference) tied split.0)),
          inside.here,
        );
        roots = (λ _. record { nests = are.0; plain = are.1; inside = inside.here }, inside.roots);
      }

  agree_where_none_in : (given : ℕ → List Tree) (names : List (List ℕ)) (number dims : ℕ) (parts : Parts) (series : List Tree) → AreSeriesOfParts given number dims parts
      → disagreements_in_parts given names number dims parts series ≡ [] → AllAgree (AgreeParts given number dims parts series) (RootsOfPartsAgree given number dims parts)
  agree_where_none_in given names number dims types.no_parts series are e = record { here = tt; roots = tt }
  agree_where_none_in given names number dims (types.part name ltype more) series are e =
      let split = no_items (disagreements_in given (names ++ name ∷ []) number dims ltype (replaced first_part dims series))
      (disagreements_in_parts given names (number_of_streams ltype + number) dims more (replaced other_parts dims series)) e in
      let first = agree_where_none given (names ++ name ∷ []) number dims ltype (replaced first_part dims series) are.0 split.0 in
      let rest = agree_where_none_in given names (number_of_streams ltype + number) dims more (replaced other_parts dims series) are.1 split.1 in
      record { here = (first.here, rest.here); roots = (first.roots, rest.roots) }

-- ---- agreement is no disagreement

no_choice : (b : Bool) (other : List Disagreement) → (b ≡ false → other ≡ []) → (if b then [] else other) ≡ []
no_choice true other e = refl
no_choice false other e = e refl

neither : (one other : List Disagreement) → one ≡ [] → other ≡ [] → one ++ other ≡ []
neither [] other e f = f
neither (x ∷ one) other e f = cc

pub root_inside : (given : ℕ → List Tree) (number dims : ℕ) (element user : Ltype) (settings : types.Settings) (series : List Tree)
    → Agree given number dims (types.stream element user settings) series → RootsAgree given number dims (types.stream element user settings)
    → Agree given (suc number) (dims_inside settings.sync dims settings.dims) element (given number)
root_inside given number dims element user settings series a r = elim (bool_is (is_apart settings.sync)) [
  | inl is ↦ (r.0 is).inside
  | inr tied ↦ (a tied).3
]

mutual
  pub none_where_agree : (given : ℕ → List Tree) (names : List (List ℕ)) (number dims : ℕ) (ltype : Ltype) (series : List Tree)
      → Agree given number dims ltype series → RootsAgree given number dims ltype → disagreements_in given names number dims ltype series ≡ []
  none_where_agree given names number dims types.null series a r = refl
  none_where_agree given names number dims (types.bits width) series a r = refl
  none_where_agree given names number dims (types.group parts) series a r = none_where_agree_in given names number dims parts series a r
  none_where_agree given names number dims (types.union parts) series a r = none_where_agree_in given names number dims parts series a r
  none_where_agree given names number dims (types.stream element user settings) series a r =
      let k = dims_taken_over settings.sync dims in
      let difference = first_difference (same_shape k) 0 (tied_series settings.sync dims series) (given number) in
      neither (if is_apart settings.sync then [] else disagrees_at names difference)
      (disagreements_in given names (suc number) (deep k settings.dims) element (given number))
      (no_choice (is_apart settings.sync) (disagrees_at names difference)
      (λ tied. ap (disagrees_at names) (cut_no_difference k 0 (tied_series settings.sync dims series) (given number) (a tied).2)))
      (none_where_agree given names (suc number) (deep k settings.dims) element (given number) (root_inside given number dims element user settings series a r) r.1)

  none_where_agree_in : (given : ℕ → List Tree) (names : List (List ℕ)) (number dims : ℕ) (parts : Parts) (series : List Tree)
      → AgreeParts given number dims parts series → RootsOfPartsAgree given number dims parts → disagreements_in_parts given names number dims parts series ≡ []
  none_where_agree_in given names number dims types.no_parts series a r = refl
  none_where_agree_in given names number dims (types.part name ltype more) series a r =
      neither (disagreements_in given (names ++ name ∷ []) number dims ltype (replaced first_part dims series))
      (disagreements_in_parts given names (number_of_streams ltype + number) dims more (replaced other_parts dims series))
      (none_where_agree given (names ++ name ∷ []) number dims ltype (replaced first_part dims series) a.0 r.0)
      (none_where_agree_in given names (number_of_streams ltype + number) dims more (replaced other_parts dims series) a.1 r.1)
