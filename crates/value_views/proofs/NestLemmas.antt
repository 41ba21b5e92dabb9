-- Nests with their leaves replaced, cut, and put into given lists.
use Rattle.std.proofs.Common.{◌≡◌, ◌∙◌, ℕ, zero, suc, List, [], ◌∷◌, ◌++◌, length, refl, sym, ap, subst, arith}
use Rattle.std.specs.Prelude.{map, Option, Some, None}
use Rattle.std.specs.List.{flat_map, filter_map, cons_option}
use Rattle.std.proofs.lemmas.Grind.{flat_map-append}
use Rattle.std.proofs.lemmas.List.{map-append, length-map}
use Rattle.logical_types.specs.declared.ltype.Sync.{Sync}
use Rattle.logical_types.specs.declared.ltype.Sync.TheVariants as syncs
use Rattle.logical_value.specs.Tree.{Tree, apart}
use Rattle.logical_types.specs.Faults.{dims_taken_over}
use Rattle.logical_value.specs.Tree.{members}
use Rattle.value_views.proofs.SeriesLemmas.{leaves-append, members-listed, members-replaced}
use Rattle.value_views.specs.Comparing.{tied_series}
use Rattle.value_views.specs.Series.{deep, leaves, listed, replaced}
use Rattle.value_views.specs.Shown.{AreLists, AreNests, Each}
use Rattle.value_views.specs.Words.{in_nest}

pub members-in_nest : (h : Tree → Tree) (series : List Tree) → flat_map members (map (λ value. listed (map h (members value))) series) ≡ map h (flat_map members series)
members-in_nest h [] = refl
members-in_nest h (value ∷ more) =
    ap (λ (l : List Tree). l ++ flat_map members (map (λ v. listed (map h (members v))) more)) (members-listed (map h (members value)))
    ∙ ap (λ (l : List Tree). map h (members value) ++ l) (members-in_nest h more) ∙ sym (map-append h (members value) (flat_map members more))

pub leaves-in_nest : (f : Tree → Tree) (depth : ℕ) (series : List Tree) → leaves depth (map (in_nest f depth) series) ≡ map f (leaves depth series)
leaves-in_nest f zero series = refl
leaves-in_nest f (suc depth) series = ap (leaves depth) (members-in_nest (in_nest f depth) series) ∙ leaves-in_nest f depth (flat_map members series)

pub split_append : (xs ys as' bs : List Tree) → length xs ≡ length as' → xs ++ ys ≡ as' ++ bs → (xs ≡ as') × (ys ≡ bs)
split_append [] ys [] bs long e = (refl, e)
split_append [] ys (a ∷ as') bs long e = absurd (omega (arith, long))
split_append (x ∷ xs) ys [] bs long e = absurd (omega (arith, long))
split_append (x ∷ xs) ys (a ∷ as') bs long e =
    let rest = split_append xs ys as' bs (omega (arith, long)) (cc) in (cc, rest.1)

same_length : (h : Tree → Tree) (one other : List Tree) → map h one ≡ map h other → length one ≡ length other
same_length h one other e = sym (length-map one h) ∙ ap length e ∙ length-map other h

pub same_lists : (h : Tree → Tree) (one other : List Tree) → AreLists one → AreLists other
    → map (λ value. listed (map h (members value))) one ≡ map (λ value. listed (map h (members value))) other → flat_map members one ≡ flat_map members other → one ≡ other
same_lists h [] [] are are' e f = refl
same_lists h [] (v ∷ other) are are' e f = cc
same_lists h (v ∷ one) [] are are' e f = cc
same_lists h (v ∷ one) (w ∷ other) are are' e f =
    let heads : listed (map h (members v)) ≡ listed (map h (members w)) = cc in
    let mapped : map h (members v) ≡ map h (members w) = sym (members-listed (map h (members v))) ∙ ap members heads ∙ members-listed (map h (members w)) in
    let parts = split_append (members v) (flat_map members one) (members w) (flat_map members other) (same_length h (members v) (members w) mapped) f in
    let rest = same_lists h one other are.1 are'.1 (cc) parts.1 in
    let first : v ≡ w = sym are.0 ∙ ap listed parts.0 ∙ are'.0 in cc

pub same_nests : (f : Tree → Tree) (depth : ℕ) (one other : List Tree) → AreNests depth one → AreNests depth other
    → map (in_nest f depth) one ≡ map (in_nest f depth) other → leaves depth one ≡ leaves depth other → one ≡ other
same_nests f zero one other are are' e l = l
same_nests f (suc depth) one other are are' e l =
    same_lists (in_nest f depth) one other are.0 are'.0 e
    (same_nests f depth (flat_map members one) (flat_map members other) are.1 are'.1
    (sym (members-in_nest (in_nest f depth) one) ∙ ap (flat_map members) e ∙ members-in_nest (in_nest f depth) other) l)

-- ---- nests of given leaves

pub record IsCut (h : Tree → Tree) (us xs ys : List Tree) : Type 0 where
  pub front : List Tree
  pub back : List Tree
  pub whole : front ++ back ≡ us
  pub fronts : map h front ≡ xs
  pub backs : map h back ≡ ys

pub cut_map : (h : Tree → Tree) (us xs ys : List Tree) → map h us ≡ xs ++ ys → IsCut h us xs ys
cut_map h us [] ys e = record { front = []; back = us; whole = refl; fronts = refl; backs = e }
cut_map h [] (x ∷ xs) ys e = cc
cut_map h (u ∷ us) (x ∷ xs) ys e =
    let rest = cut_map h us xs ys (cc) in
    let whole = rest.whole in
    let fronts = rest.fronts in
    record { front = u ∷ rest.front; back = rest.back; whole = ap (λ (l : List Tree). u ∷ l) rest.whole; fronts = cc; backs = rest.backs }

pub record AreLifted (h : Tree → Tree) (us series : List Tree) : Type 0 where
  pub lists : List Tree
  pub are : AreLists lists
  pub inner : flat_map members lists ≡ us
  pub same : map (λ value. listed (map h (members value))) lists ≡ series

pub lift_lists : (h : Tree → Tree) (series us : List Tree) → AreLists series → map h us ≡ flat_map members series → AreLifted h us series
lift_lists h [] [] are e = record { lists = []; are = tt; inner = refl; same = refl }
lift_lists h [] (u ∷ us) are e = cc
lift_lists h (v ∷ series) us are e =
    let cut = cut_map h us (members v) (flat_map members series) e in
    let rest = lift_lists h series cut.back are.1 cut.backs in
    record {
      lists = listed cut.front ∷ rest.lists;
      are = (ap listed (members-listed cut.front), rest.are);
      inner = ap (λ (l : List Tree). l ++ flat_map members rest.lists) (members-listed cut.front) ∙ ap (λ (l : List Tree). cut.front ++ l) rest.inner ∙ cut.whole;
      same = ap (λ (l : List Tree). listed (map h l) ∷ map (λ value. listed (map h (members value))) rest.lists) (members-listed cut.front)
          ∙ ap (λ (l : List Tree). listed l ∷ map (λ value. listed (map h (members value))) rest.lists) cut.fronts
          ∙ ap (λ (x : Tree). x ∷ map (λ value. listed (map h (members value))) rest.lists) are.0
          ∙ ap (λ (l : List Tree). v ∷ l) rest.same;
    }

pub record HasLeaves (f : Tree → Tree) (depth : ℕ) (series us : List Tree) : Type 0 where
  pub nests : List Tree
  pub are : AreNests depth nests
  pub inner : leaves depth nests ≡ us
  pub same : map (in_nest f depth) nests ≡ series

pub lift_nests : (f : Tree → Tree) (depth : ℕ) (series us : List Tree) → AreNests depth series → map f us ≡ leaves depth series → HasLeaves f depth series us
lift_nests f zero series us are e = record { nests = us; are = tt; inner = refl; same = e }
lift_nests f (suc depth) series us are e =
    let deep = lift_nests f depth (flat_map members series) us are.1 e in
    let flat = lift_lists (in_nest f depth) series deep.nests are.0 deep.same in
    record {
      nests = flat.lists;
      are = (flat.are, subst (AreNests depth) (sym flat.inner) deep.are);
      inner = ap (leaves depth) flat.inner ∙ deep.inner;
      same = flat.same;
    }

pub leaves-replaced : (f : Tree → Option Tree) (depth : ℕ) (series : List Tree) → leaves depth (replaced f depth series) ≡ filter_map f (leaves depth series)
leaves-replaced f zero series = refl
leaves-replaced f (suc depth) series = ap (leaves depth) (members-replaced f depth series) ∙ leaves-replaced f depth (flat_map members series)

pub are_nests-replaced : (f : Tree → Option Tree) (depth : ℕ) (series : List Tree) → AreNests depth (replaced f depth series)
are_nests-replaced f zero series = tt
are_nests-replaced f (suc depth) series = (are_lists series, subst (AreNests depth) (sym (members-replaced f depth series)) (are_nests-replaced f depth (flat_map members series)))
  where
    are_lists : (values : List Tree) → AreLists (map (λ value. listed (replaced f depth (members value))) values)
    are_lists [] = tt
    are_lists (v ∷ values) = (ap listed (members-listed (replaced f depth (members v))), are_lists values)

-- ---- more dimensions

pub leaves-deep : (depth own : ℕ) (series : List Tree) → leaves (deep depth own) series ≡ leaves own (leaves depth series)
leaves-deep zero own series = refl
leaves-deep (suc depth) own series = leaves-deep depth own (flat_map members series)

pub leaves-in_deep : (f : Tree → Tree) (depth own : ℕ) (series : List Tree) → leaves depth (map (in_nest f (deep depth own)) series) ≡ map (in_nest f own) (leaves depth series)
leaves-in_deep f zero own series = refl
leaves-in_deep f (suc depth) own series = ap (leaves depth) (members-in_nest (in_nest f (deep depth own)) series) ∙ leaves-in_deep f depth own (flat_map members series)

pub are-deeper : (depth own : ℕ) (series : List Tree) → AreNests (deep depth own) series → AreNests own (leaves depth series)
are-deeper zero own series are = are
are-deeper (suc depth) own series are = are-deeper depth own (flat_map members series) are.1

pub are-upper : (depth own : ℕ) (series : List Tree) → AreNests (deep depth own) series → AreNests depth series
are-upper zero own series are = tt
are-upper (suc depth) own series are = (are.0, are-upper depth own (flat_map members series) are.1)

pub are-both : (depth own : ℕ) (series : List Tree) → AreNests depth series → AreNests own (leaves depth series) → AreNests (deep depth own) series
are-both zero own series are inner = inner
are-both (suc depth) own series are inner = (are.0, are-both depth own (flat_map members series) are.1 inner)

pub again_lists : (G H : Tree → Tree) → ((l : List Tree) → map G (map H l) ≡ map G l) → (series : List Tree)
    → map (λ v. listed (map G (members v))) (map (λ v. listed (map H (members v))) series) ≡ map (λ v. listed (map G (members v))) series
again_lists G H each [] = refl
again_lists G H each (v ∷ series) =
    ap (λ (l : List Tree). listed (map G l) ∷ map (λ v. listed (map G (members v))) (map (λ v. listed (map H (members v))) series)) (members-listed (map H (members v)))
    ∙ ap (λ (l : List Tree). listed l ∷ map (λ v. listed (map G (members v))) (map (λ v. listed (map H (members v))) series)) (each (members v))
    ∙ ap (λ (l : List Tree). listed (map G (members v)) ∷ l) (again_lists G H each series)

all_cut : (H : Tree → Tree) (l : List Tree) → map (λ (v : Tree). apart) (map H l) ≡ map (λ (v : Tree). apart) l
all_cut H [] = refl
all_cut H (v ∷ l) = ap (λ (l : List Tree). apart ∷ l) (all_cut H l)

-- to cut what stands deeper changes nothing above
pub cut-deeper : (f : Tree → Tree) (depth own : ℕ) (series : List Tree)
    → map (in_nest (λ (v : Tree). apart) depth) (map (in_nest f (deep depth own)) series) ≡ map (in_nest (λ (v : Tree). apart) depth) series
cut-deeper f zero own series = all_cut (in_nest f own) series
cut-deeper f (suc depth) own series = again_lists (in_nest (λ (v : Tree). apart) depth) (in_nest f (deep depth own)) (cut-deeper f depth own) series

pub cut-again : (depth : ℕ) (series : List Tree)
    → map (in_nest (λ (v : Tree). apart) depth) (map (in_nest (λ (v : Tree). apart) depth) series) ≡ map (in_nest (λ (v : Tree). apart) depth) series
cut-again zero series = all_cut (λ (v : Tree). apart) series
cut-again (suc depth) series = again_lists (in_nest (λ (v : Tree). apart) depth) (in_nest (λ (v : Tree). apart) depth) (cut-again depth) series

-- ---- children

pub leaves-tied_series : (sync : Sync) (dims : ℕ) (series : List Tree) → leaves (dims_taken_over sync dims) (tied_series sync dims series) ≡ leaves dims series
leaves-tied_series syncs.Sync dims series = refl
leaves-tied_series syncs.Flatten dims series = refl
leaves-tied_series syncs.Desync dims series = refl
leaves-tied_series syncs.FlatDesync dims series = refl

pub cut-tied_series : (sync : Sync) (dims : ℕ) (series : List Tree)
    → map (in_nest (λ (v : Tree). apart) (dims_taken_over sync dims)) (tied_series sync dims series) ≡ tied_series sync dims (map (in_nest (λ (v : Tree). apart) dims) series)
cut-tied_series syncs.Sync dims series = refl
cut-tied_series syncs.Flatten dims series = sym (leaves-in_nest (λ (v : Tree). apart) dims series)
cut-tied_series syncs.Desync dims series = refl
cut-tied_series syncs.FlatDesync dims series = sym (leaves-in_nest (λ (v : Tree). apart) dims series)

pub cut-plain : (sync : Sync) (dims : ℕ) (series : List Tree)
    → map (in_nest (λ (v : Tree). apart) (dims_taken_over sync dims)) (tied_series sync dims (map (in_nest (λ (v : Tree). apart) dims) series))
    ≡ map (in_nest (λ (v : Tree). apart) (dims_taken_over sync dims)) (tied_series sync dims series)
cut-plain sync dims series = cut-tied_series sync dims (map (in_nest (λ (v : Tree). apart) dims) series) ∙ ap (tied_series sync dims) (cut-again dims series) ∙ sym (cut-tied_series sync dims series)

pub are-tied_series : (sync : Sync) (dims : ℕ) (series : List Tree) → AreNests dims series → AreNests (dims_taken_over sync dims) (tied_series sync dims series)
are-tied_series syncs.Sync dims series are = are
are-tied_series syncs.Flatten dims series are = tt
are-tied_series syncs.Desync dims series are = are
are-tied_series syncs.FlatDesync dims series are = tt

-- ---- leaves replaced twice

pub each_split : (P : Tree → Type 0) (one other : List Tree) → Each P (one ++ other) → Each P one × Each P other
each_split P [] other are = (tt, are)
each_split P (v ∷ one) other are = let rest = each_split P one other are.1 in ((are.0, rest.0), rest.1)

abbrev pub mapped : (Tree → Tree) → Option Tree → Option Tree
mapped h None = None
mapped h (Some v) = Some (h v)

map-cons_option : (h : Tree → Tree) (o : Option Tree) (l : List Tree) → cons_option (mapped h o) (map h l) ≡ map h (cons_option o l)
map-cons_option h None l = refl
map-cons_option h (Some v) l = refl

filtered : (f : Tree → Option Tree) (g h : Tree → Tree) (P : Tree → Type 0) → ((v : Tree) → P v → f (g v) ≡ mapped h (f v)) → (values : List Tree) → Each P values
    → filter_map f (map g values) ≡ map h (filter_map f values)
filtered f g h P each [] are = refl
filtered f g h P each (v ∷ values) are =
    ap (λ (o : Option Tree). cons_option o (filter_map f (map g values))) (each v are.0)
    ∙ ap (λ (l : List Tree). cons_option (mapped h (f v)) l) (filtered f g h P each values are.1) ∙ map-cons_option h (f v) (filter_map f values)

replaced_lists : (F : List Tree → List Tree) (G H : Tree → Tree) (Q : List Tree → Type 0) → ((l : List Tree) → Q l → F (map G l) ≡ map H (F l)) → (series : List Tree)
    → Each (λ v. Q (members v)) series
    → map (λ v. listed (F (members v))) (map (λ v. listed (map G (members v))) series) ≡ map (λ v. listed (map H (members v))) (map (λ v. listed (F (members v))) series)
replaced_lists F G H Q each [] are = refl
replaced_lists F G H Q each (v ∷ series) are =
    ap (λ (l : List Tree). listed (F l) ∷ map (λ v. listed (F (members v))) (map (λ v. listed (map G (members v))) series)) (members-listed (map G (members v)))
    ∙ ap (λ (l : List Tree). listed l ∷ map (λ v. listed (F (members v))) (map (λ v. listed (map G (members v))) series)) (each (members v) are.0)
    ∙ ap (λ (l : List Tree). listed (map H l) ∷ map (λ v. listed (F (members v))) (map (λ v. listed (map G (members v))) series)) (sym (members-listed (F (members v))))
    ∙ ap (λ (l : List Tree). listed (map H (members (listed (F (members v))))) ∷ l) (replaced_lists F G H Q each series are.1)

pub each_members : (P : Tree → Type 0) (depth : ℕ) (series : List Tree) → Each P (leaves (suc depth) series) → Each (λ v. Each P (leaves depth (members v))) series
each_members P depth [] are = tt
each_members P depth (v ∷ series) are =
    let parts = each_split P (leaves depth (members v)) (leaves depth (flat_map members series)) (subst (Each P) (leaves-append depth (members v) (flat_map members series)) are) in
    (parts.0, each_members P depth series parts.1)

pub replaced-in_nest : (f : Tree → Option Tree) (g h : Tree → Tree) (P : Tree → Type 0) → ((v : Tree) → P v → f (g v) ≡ mapped h (f v)) → (depth : ℕ) (series : List Tree)
    → Each P (leaves depth series) → replaced f depth (map (in_nest g depth) series) ≡ map (in_nest h depth) (replaced f depth series)
replaced-in_nest f g h P each zero series are = filtered f g h P each series are
replaced-in_nest f g h P each (suc depth) series are =
    replaced_lists (replaced f depth) (in_nest g depth) (in_nest h depth) (λ l. Each P (leaves depth l)) (replaced-in_nest f g h P each depth) series (each_members P depth series are)

-- ---- nests one after another

pub nests-append : (depth : ℕ) (one other : List Tree) → AreNests depth (one ++ other) → AreNests depth one × AreNests depth other
nests-append zero one other are = (tt, tt)
nests-append (suc depth) one other are =
    let lists = lists-append one other are.0 in
    let below = nests-append depth (flat_map members one) (flat_map members other) (subst (AreNests depth) (flat_map-append members one other) are.1) in
    ((lists.0, below.0), (lists.1, below.1))
  where
    lists-append : (one other : List Tree) → AreLists (one ++ other) → AreLists one × AreLists other
    lists-append [] other are = (tt, are)
    lists-append (v ∷ one) other are = let rest = lists-append one other are.1 in ((are.0, rest.0), rest.1)
