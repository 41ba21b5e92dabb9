-- Values that fit, as nests with elements in their leaves.
use Rattle.std.proofs.Common.{inl, inr, ◌≡◌, ℕ, zero, suc, ◌+◌, Bool, true, false, List, [], ◌∷◌, ◌++◌, length, refl, sym, ap, subst, arith}
use Rattle.std.specs.Prelude.{map, ◌&&◌, if◌then◌else◌}
use Rattle.std.specs.List.{flat_map, filter_map}
use Rattle.std.specs.Prelude.{◌==◌}
use Rattle.std.proofs.lemmas.Bool.Decides.{nat_tests}
use Rattle.logical_value.specs.Fits.{all_pass, is_nest, stands_apart, fits_element, fit_fields}
use Rattle.logical_types.specs.Tree.{Ltype, Parts, Settings}
use Rattle.logical_types.specs.Tree as types
use Rattle.logical_value.specs.Tree.{Tree, null, word, group, union, list, apart, Trees, no_trees, tree, trees_of}
use Rattle.logical_types.specs.Synchronicity.{is_apart}
use Rattle.logical_value.proofs.PlainLemmas.{trees_of-list_of}
use Rattle.logical_value.specs.Tree.{list_of, members}
use Rattle.type_split.specs.Nodes.{number_of_streams}
use Rattle.value_views.proofs.NestLemmas.{each_split}
use Rattle.value_views.proofs.PartLemmas.{fields_of, variants_of}
use Rattle.value_views.proofs.ValueLemmas.{bool_is}
use Rattle.value_views.specs.Series.{dims_inside, first_part, leaves, other_parts}
use Rattle.value_views.specs.Shown.{AreLists, AreNests, Each, Elements, Nests, NestsOfParts}

abbrev pub Fit : Ltype → List Tree → Type 0
Fit ltype values = Each (λ v. fits_element ltype v ≡ true) values

pub both : (a b : Bool) → (a && b) ≡ true → (a ≡ true) × (b ≡ true)
both true b e = (refl, e)
both false b e = cc

each_append : (P : Tree → Type 0) (one other : List Tree) → Each P one → Each P other → Each P (one ++ other)
each_append P [] other a b = b
each_append P (v ∷ one) other a b = (a.0, each_append P one other a.1 b)

pub each_map : (P Q : Tree → Type 0) → ((v : Tree) → P v → Q v) → (values : List Tree) → Each P values → Each Q values
each_map P Q f [] a = tt
each_map P Q f (v ∷ values) a = (f v a.0, each_map P Q f values a.1)

each_passes : (test : Tree → Bool) (values : Trees) → all_pass test values ≡ true → Each (λ v. test v ≡ true) (list_of values)
each_passes test no_trees e = tt
each_passes test (tree v values) e = let p = both (test v) (all_pass test values) e in (p.0, each_passes test values p.1)

pub record AreListed (test : Tree → Bool) (values : List Tree) : Type 0 where
  pub lists : AreLists values
  pub inner : Each (λ v. test v ≡ true) (flat_map members values)

listed_fit : (test : Tree → Bool) (depth : ℕ) (values : List Tree) → Each (λ v. is_nest test (suc depth) v ≡ true) values → AreListed (is_nest test depth) values
listed_fit test depth [] a = record { lists = tt; inner = tt }
listed_fit test depth (list vs ∷ values) a =
    let rest = listed_fit test depth values a.1 in
    record {
      lists = (ap list (trees_of-list_of vs), rest.lists);
      inner = each_append (λ v. is_nest test depth v ≡ true) (list_of vs) (flat_map members values) (each_passes (is_nest test depth) vs a.0) rest.inner;
    }
listed_fit test depth (v ∷ values) a = let no' = a.0 in cc

pub record AreNestsOf (test : Tree → Bool) (depth : ℕ) (values : List Tree) : Type 0 where
  pub nests : AreNests depth values
  pub inner : Each (λ v. test v ≡ true) (leaves depth values)

pub nests_fit : (test : Tree → Bool) (depth : ℕ) (values : List Tree) → Each (λ v. is_nest test depth v ≡ true) values → AreNestsOf test depth values
nests_fit test zero values a = record { nests = tt; inner = a }
nests_fit test (suc depth) values a =
    let flat = listed_fit test depth values a in
    let rest = nests_fit test depth (flat_map members values) flat.inner in
    record { nests = (flat.lists, rest.nests); inner = rest.inner }

pub record FitParts (ltype others : Ltype) (values : List Tree) : Type 0 where
  pub firsts : Fit ltype (filter_map first_part values)
  pub rests : Fit others (filter_map other_parts values)

pub fields_fit : (name : List ℕ) (ltype : Ltype) (more : Parts) (values : List Tree) → Fit (types.group (types.part name ltype more)) values → FitParts ltype (types.group more) values
fields_fit name ltype more [] a = record { firsts = tt; rests = tt }
fields_fit name ltype more (group (tree x xs) ∷ values) a =
    let p = both (fits_element ltype x) (fits_element (types.group more) (group xs)) a.0 in
    let rest = fields_fit name ltype more values a.1 in record { firsts = (p.0, rest.firsts); rests = (p.1, rest.rests) }
fields_fit name ltype more (v ∷ values) a = let no' = a.0 in cc

pub variants_fit : (name : List ℕ) (ltype : Ltype) (more : Parts) (values : List Tree) → Fit (types.union (types.part name ltype more)) values → FitParts ltype (types.union more) values
variants_fit name ltype more [] a = record { firsts = tt; rests = tt }
variants_fit name ltype more (union zero x ∷ values) a =
    let rest = variants_fit name ltype more values a.1 in record { firsts = (a.0, rest.firsts); rests = rest.rests }
variants_fit name ltype more (union (suc tag) x ∷ values) a =
    let rest = variants_fit name ltype more values a.1 in record { firsts = rest.firsts; rests = (a.0, rest.rests) }
variants_fit name ltype more (v ∷ values) a = let no' = a.0 in cc

pub all_stand : (values : List Tree) → Each (λ v. stands_apart v ≡ true) values → values ≡ map (λ (v : Tree). apart) values
all_stand [] a = refl
all_stand (apart ∷ values) a = ap (λ (l : List Tree). apart ∷ l) (all_stand values a.1)
all_stand (v ∷ values) a = let no' = a.0 in cc

-- ---- values that have nests fit

and_both : (a b : Bool) → a ≡ true → b ≡ true → (a && b) ≡ true
and_both true b e f = f
and_both false b e f = cc

pub all_of_each : (test : Tree → Bool) (values : List Tree) → Each (λ v. test v ≡ true) values → all_pass test (trees_of values) ≡ true
all_of_each test [] a = refl
all_of_each test (v ∷ values) a = and_both (test v) (all_pass test (trees_of values)) a.0 (all_of_each test values a.1)

lists_fit : (test : Tree → Bool) (depth : ℕ) (values : List Tree) → AreLists values → Each (λ v. is_nest test depth v ≡ true) (flat_map members values) → Each (λ v. is_nest test (suc depth) v ≡ true) values
lists_fit test depth [] are a = tt
lists_fit test depth (v ∷ values) are a =
    let parts = each_split (λ v. is_nest test depth v ≡ true) (members v) (flat_map members values) a in (
      subst (λ (w : Tree). is_nest test (suc depth) w ≡ true) are.0 (all_of_each (is_nest test depth) (members v) parts.0),
      lists_fit test depth values are.1 parts.1,
    )

pub fit_nests : (test : Tree → Bool) (depth : ℕ) (values : List Tree) → AreNests depth values → Each (λ v. test v ≡ true) (leaves depth values) → Each (λ v. is_nest test depth v ≡ true) values
fit_nests test zero values are a = a
fit_nests test (suc depth) values are a = lists_fit test depth values are.0 (fit_nests test depth (flat_map members values) are.1 a)

nulls_fit : (values : List Tree) → Elements types.null values → Fit types.null values
nulls_fit [] are = tt
nulls_fit (null ∷ values) are = (refl, nulls_fit values are.1)
nulls_fit (v ∷ values) are = absurd are.0

word_fits : (n width : ℕ) → n ≡ width → (n == width) ≡ true
word_fits n width e = grind (arith, nat_tests)

words_fit : (width : ℕ) (values : List Tree) → Elements (types.bits width) values → Fit (types.bits width) values
words_fit width [] are = tt
words_fit width (word bits ∷ values) are = (word_fits (length bits) width are.0, words_fit width values are.1)
words_fit width (v ∷ values) are = absurd are.0

no_fields_fit : (values : List Tree) → Elements (types.group types.no_parts) values → Fit (types.group types.no_parts) values
no_fields_fit [] are = tt
no_fields_fit (group no_trees ∷ values) are = (refl, no_fields_fit values are.1)
no_fields_fit (v ∷ values) are = absurd are.0

no_variants_fit : (values : List Tree) → Elements (types.union types.no_parts) values → Fit (types.union types.no_parts) values
no_variants_fit [] are = tt
no_variants_fit (union tag v ∷ values) are = absurd are.0
no_variants_fit (v ∷ values) are = absurd are.0

put_fields_fit : (name : List ℕ) (ltype : Ltype) (more : Parts) (values : List Tree) → Elements (types.group (types.part name ltype more)) values → Fit ltype (filter_map first_part values)
    → Fit (types.group more) (filter_map other_parts values) → Fit (types.group (types.part name ltype more)) values
put_fields_fit name ltype more [] are a b = tt
put_fields_fit name ltype more (group (tree x xs) ∷ values) are a b = (and_both (fits_element ltype x) (fit_fields more xs) a.0 b.0, put_fields_fit name ltype more values are.1 a.1 b.1)
put_fields_fit name ltype more (v ∷ values) are a b = absurd are.0

put_variants_fit : (name : List ℕ) (ltype : Ltype) (more : Parts) (values : List Tree) → Elements (types.union (types.part name ltype more)) values → Fit ltype (filter_map first_part values)
    → Fit (types.union more) (filter_map other_parts values) → Fit (types.union (types.part name ltype more)) values
put_variants_fit name ltype more [] are a b = tt
put_variants_fit name ltype more (union zero x ∷ values) are a b = (a.0, put_variants_fit name ltype more values are.1 a.1 b)
put_variants_fit name ltype more (union (suc tag) x ∷ values) are a b = (b.0, put_variants_fit name ltype more values are.1 a b.1)
put_variants_fit name ltype more (v ∷ values) are a b = absurd are.0

aparts_fit : (values : List Tree) → values ≡ map (λ (v : Tree). apart) values → Each (λ v. stands_apart v ≡ true) values
aparts_fit [] e = tt
aparts_fit (v ∷ values) e = let first : v ≡ apart = cc in (ap stands_apart first, aparts_fit values (cc))

mutual
  pub fits_of_nests : (given : ℕ → List Tree) (number dims : ℕ) (ltype : Ltype) (values : List Tree) → Elements ltype values → Nests given number dims ltype values → Fit ltype values
  fits_of_nests given number dims types.null values are n = nulls_fit values are
  fits_of_nests given number dims (types.bits width) values are n = words_fit width values are
  fits_of_nests given number dims (types.group parts) values are n = fits_of_fields given number dims parts values are n
  fits_of_nests given number dims (types.union parts) values are n = fits_of_variants given number dims parts values are n
  fits_of_nests given number dims (types.stream element user settings) values are n = elim (bool_is (is_apart settings.sync)) [
    | inl is ↦ subst (λ (b : Bool). Each (λ v. (if b then stands_apart v else is_nest (fits_element element) settings.dims v) ≡ true) values) (sym is) (aparts_fit values (n.0 is))
    | inr tied ↦
        let here = n.1 tied in
        subst (λ (b : Bool). Each (λ v. (if b then stands_apart v else is_nest (fits_element element) settings.dims v) ≡ true) values) (sym tied)
        (fit_nests (fits_element element) settings.dims values here.0
        (fits_of_nests given (suc number) (dims_inside settings.sync dims settings.dims) element (leaves settings.dims values) here.2 here.3))
  ]

  fits_of_fields : (given : ℕ → List Tree) (number dims : ℕ) (parts : Parts) (values : List Tree) → Elements (types.group parts) values → NestsOfParts given number dims parts values → Fit (types.group parts) values
  fits_of_fields given number dims types.no_parts values are n = no_fields_fit values are
  fits_of_fields given number dims (types.part name ltype more) values are n =
      let p = fields_of name ltype more values are in
      put_fields_fit name ltype more values are (fits_of_nests given number dims ltype (filter_map first_part values) p.firsts n.0)
      (fits_of_fields given (number_of_streams ltype + number) dims more (filter_map other_parts values) p.rests n.1)

  fits_of_variants : (given : ℕ → List Tree) (number dims : ℕ) (parts : Parts) (values : List Tree) → Elements (types.union parts) values → NestsOfParts given number dims parts values → Fit (types.union parts) values
  fits_of_variants given number dims types.no_parts values are n = no_variants_fit values are
  fits_of_variants given number dims (types.part name ltype more) values are n =
      let p = variants_of name ltype more values are in
      put_variants_fit name ltype more values are (fits_of_nests given number dims ltype (filter_map first_part values) p.firsts n.0)
      (fits_of_variants given (number_of_streams ltype + number) dims more (filter_map other_parts values) p.rests n.1)
