-- The values of words: series whose words agree with a view are, with their Streams apart, the view's values.
use Rattle.std.proofs.Common.{◌≡◌, ◌∙◌, ℕ, zero, suc, ◌-◌, Bool, List, [], ◌∷◌, ◌++◌, refl, sym, ap, subst, take, drop, arith}
use Rattle.std.specs.Prelude.{map}
use Rattle.std.specs.List.{flat_map}
use Rattle.std.proofs.lemmas.List.{map-append}
use Rattle.logical_types.specs.Tree.{Ltype, Parts, number_of_parts}
use Rattle.logical_types.specs.Tree as types
use Rattle.logical_types.specs.Width.{width_of, tag_width}
use Rattle.nest_shape.specs.Flat.{HasDepth, HaveDepth}
use Rattle.nest_shape.specs.Tree.{leaf}
use Rattle.nest_shape.specs.Tree as nests
use Rattle.logical_value.specs.Agreement.{Agrees, AgreeAll, AgreesVariant, IsUnpacked, StandsForSome}
use Rattle.logical_value.specs.Element.{IsElement, set_apart, set_all_apart, set_variant_apart}
use Rattle.logical_value.specs.Tree.{Tree, null, word, group, union, list, Trees, no_trees, tree, trees_of, members}
use Rattle.logical_value.proofs.AgreeingLemmas.{agrees-apart, agrees_with_one}
use Rattle.logical_value.proofs.LawLemmas.{set_apart-again, unpacked_are_elements}
use Rattle.value_views.specs.Joining.{HasWords, HaveWords}
use Rattle.value_views.specs.Series.{leaves, listed}
use Rattle.value_views.specs.Shown.{Each, Elements, ArePlain, AreLists, AreNests}
use Rattle.value_views.specs.Views.{AgreesAt, EachPair}
use Rattle.value_views.specs.Words.{in_nest, value_of, values_of, variant_of, unpacked, unpacked_all}
use Rattle.value_views.proofs.NestLemmas.{each_split}
use Rattle.value_views.proofs.SeriesLemmas.{members-listed}

-- ---- one word

-- a value that agrees with a word, with its Streams apart, is the value of the word
mutual
  pub value_of-is : (ltype : Ltype) (bits : List Bool) (value : Tree) → Agrees ltype bits value → set_apart ltype value ≡ value → value ≡ value_of ltype bits
  value_of-is types.null bits null a e = refl
  value_of-is types.null bits value a e = absurd a
  value_of-is (types.bits width) bits (word other) a e = ap word a
  value_of-is (types.bits width) bits value a e = absurd a
  value_of-is (types.group parts) bits (group values) a e = ap group (values_of-are parts bits values a (cc))
  value_of-is (types.group parts) bits value a e = absurd a
  value_of-is (types.union parts) bits (union tag value) a e =
      let rest = drop (tag_width (number_of_parts parts)) bits in
      ap (union tag) (variant_of-is parts tag rest value a.1 (cc)) ∙ ap (λ (n : ℕ). union n (variant_of parts n rest)) (sym a.0)
  value_of-is (types.union parts) bits value a e = absurd a
  value_of-is (types.stream element user settings) bits value a e = sym e

  values_of-are : (parts : Parts) (bits : List Bool) (values : Trees) → AgreeAll parts bits values → set_all_apart parts values ≡ values → values ≡ values_of parts bits
  values_of-are types.no_parts bits no_trees a e = refl
  values_of-are (types.part name ltype more) bits (tree value others) a e =
      ap (λ (v : Tree). tree v others) (value_of-is ltype (take (width_of ltype) bits) value a.0 (cc))
      ∙ ap (tree (value_of ltype (take (width_of ltype) bits))) (values_of-are more (drop (width_of ltype) bits) others a.1 (cc))
  values_of-are parts bits values a e = absurd a

  variant_of-is : (parts : Parts) (tag : ℕ) (bits : List Bool) (value : Tree) → AgreesVariant parts tag bits value → set_variant_apart parts tag value ≡ value
      → value ≡ variant_of parts tag bits
  variant_of-is types.no_parts tag bits value a e = absurd a
  variant_of-is (types.part name ltype more) zero bits value a e = value_of-is ltype (take (width_of ltype) bits) value a e
  variant_of-is (types.part name ltype more) (suc tag) bits value a e = variant_of-is more tag bits value a e

-- the value of a word that stands for some value
pub unpacked-word : (ltype : Ltype) (bits : List Bool) → StandsForSome ltype bits → IsUnpacked ltype bits (value_of ltype bits)
unpacked-word ltype bits some = subst (IsUnpacked ltype bits) (value_of-is ltype bits some.0 some.1.agrees some.1.streams) some.1

-- the value of a word that agrees with a value is this value with its Streams apart
pub agreed-apart : (ltype : Ltype) (bits : List Bool) (value : Tree) → Agrees ltype bits value → set_apart ltype value ≡ value_of ltype bits
agreed-apart ltype bits value a = value_of-is ltype bits (set_apart ltype value) (agrees-apart ltype bits value a) (set_apart-again ltype value)

pub agreed-stands : (ltype : Ltype) (bits : List Bool) (value : Tree) → Agrees ltype bits value → StandsForSome ltype bits
agreed-stands ltype bits value a = (set_apart ltype value, record { agrees = agrees-apart ltype bits value a; streams = set_apart-again ltype value })

-- ---- nests of words

unpacked_all-are : (element : Ltype) (parts : nests.Trees) → unpacked_all element parts ≡ trees_of (map (unpacked element) (nests.list_of parts))
unpacked_all-are element nests.no_trees = refl
unpacked_all-are element (nests.tree first more) = ap (tree (unpacked element first)) (unpacked_all-are element more)

pub unpacked-list : (element : Ltype) (parts : nests.Trees) → unpacked element (nests.list parts) ≡ listed (map (unpacked element) (nests.list_of parts))
unpacked-list element parts = ap list (unpacked_all-are element parts)

pairs-map : (R : nests.Tree → Tree → Type 0) (f : nests.Tree → Tree) (g : Tree → Tree) → ((x : nests.Tree) (y : Tree) → R x y → f x ≡ g y) → (xs : List nests.Tree) (ys : List Tree)
    → EachPair R xs ys → map f xs ≡ map g ys
pairs-map R f g each [] [] are = refl
pairs-map R f g each [] (y ∷ ys) are = absurd are
pairs-map R f g each (x ∷ xs) [] are = absurd are
pairs-map R f g each (x ∷ xs) (y ∷ ys) are = ap (λ (v : Tree). v ∷ map f xs) (each x y are.0) ∙ ap (λ (l : List Tree). g y ∷ l) (pairs-map R f g each xs ys are.1)

agreed-nest : (element : Ltype) (depth : ℕ) (nest : nests.Tree) (value : Tree) → AgreesAt element depth nest value → unpacked element nest ≡ in_nest (set_apart element) depth value
agreed-nest element zero (leaf bits) value a = sym (agreed-apart element bits value a.1)
agreed-nest element zero (nests.list parts) value a = absurd a
agreed-nest element (suc depth) (leaf bits) value a = absurd a
agreed-nest element (suc depth) (nests.list parts) value a =
    unpacked-list element parts
    ∙ ap listed (pairs-map (AgreesAt element depth) (unpacked element) (in_nest (set_apart element) depth) (agreed-nest element depth) (nests.list_of parts) (members value) a)

-- a series whose view agrees has the view's values where its Streams are apart
pub agreed-series : (element : Ltype) (dims : ℕ) (view : List nests.Tree) (series : List Tree) → EachPair (AgreesAt element dims) view series
    → map (unpacked element) view ≡ map (in_nest (set_apart element) dims) series
agreed-series element dims view series a = pairs-map (AgreesAt element dims) (unpacked element) (in_nest (set_apart element) dims) (agreed-nest element dims) view series a

-- ---- the way back

-- each leaf of a nest of this depth has the property
abbrev EachLeaf : (Tree → Type 0) → ℕ → Tree → Type 0
EachLeaf P zero value = P value
EachLeaf P (suc depth) value = Each (EachLeaf P depth) (members value)

each-members : (P : Tree → Type 0) (series : List Tree) → Each P (flat_map members series) → Each (λ value. Each P (members value)) series
each-members P [] are = tt
each-members P (value ∷ series) are = let split = each_split P (members value) (flat_map members series) are in (split.0, each-members P series split.1)

each-leaf : (P : Tree → Type 0) (depth : ℕ) (series : List Tree) → Each P (leaves depth series) → Each (EachLeaf P depth) series
each-leaf P zero series are = are
each-leaf P (suc depth) series are = each-members (EachLeaf P depth) series (each-leaf P depth (flat_map members series) are)

abbrev EachNest : (nests.Tree → Type 0) → List nests.Tree → Type 0
EachNest P [] = Unit {0}
EachNest P (x ∷ xs) = P x × EachNest P xs

abbrev IsOf : Ltype → ℕ → nests.Tree → Type 0
IsOf element depth nest = HasDepth depth nest × HasWords element nest

each-nest : (element : Ltype) (depth : ℕ) (parts : nests.Trees) → HaveDepth depth parts → HaveWords element parts → EachNest (IsOf element depth) (nests.list_of parts)
each-nest element depth nests.no_trees deep words = tt
each-nest element depth (nests.tree first more) deep words = ((deep.0, words.0), each-nest element depth more deep.1 words.1)

map-pairs : (P : nests.Tree → Type 0) (Q : Tree → Type 0) (R : nests.Tree → Tree → Type 0) (f : nests.Tree → Tree) (g : Tree → Tree)
    → ((x : nests.Tree) (y : Tree) → P x → Q y → f x ≡ g y → R x y) → (xs : List nests.Tree) (ys : List Tree) → EachNest P xs → Each Q ys → map f xs ≡ map g ys → EachPair R xs ys
map-pairs P Q R f g each [] [] ps qs e = tt
map-pairs P Q R f g each [] (y ∷ ys) ps qs e = cc
map-pairs P Q R f g each (x ∷ xs) [] ps qs e = cc
map-pairs P Q R f g each (x ∷ xs) (y ∷ ys) ps qs e = (each x y ps.0 qs.0 (cc), map-pairs P Q R f g each xs ys ps.1 qs.1 (cc))

nest-agrees : (element : Ltype) (depth : ℕ) (nest : nests.Tree) (value : Tree) → IsOf element depth nest → EachLeaf (IsElement element) depth value
    → unpacked element nest ≡ in_nest (set_apart element) depth value → AgreesAt element depth nest value
nest-agrees element zero (leaf bits) value is element_is e =
    (is.1.0, (agrees_with_one element bits (value_of element bits) value (unpacked-word element bits is.1.1) element_is).1 (sym e))
nest-agrees element zero (nests.list parts) value is element_is e = absurd (omega (arith, is.0.0))
nest-agrees element (suc depth) (leaf bits) value is element_is e = absurd (omega (arith, is.0))
nest-agrees element (suc depth) (nests.list parts) value is element_is e =
    let same : suc depth - 1 ≡ depth = omega arith in
    let lists : listed (map (unpacked element) (nests.list_of parts)) ≡ listed (map (in_nest (set_apart element) depth) (members value)) = sym (unpacked-list element parts) ∙ e in
    map-pairs (IsOf element depth) (EachLeaf (IsElement element) depth) (AgreesAt element depth) (unpacked element) (in_nest (set_apart element) depth) (nest-agrees element depth)
    (nests.list_of parts) (members value)
    (each-nest element depth parts (subst (λ (d : ℕ). HaveDepth d parts) same is.0.1) is.1) element_is
    (sym (members-listed (map (unpacked element) (nests.list_of parts))) ∙ ap members lists ∙ members-listed (map (in_nest (set_apart element) depth) (members value)))

list_of-same : (view : List nests.Tree) → nests.list_of (nests.trees_of view) ≡ view
list_of-same [] = refl
list_of-same (nest ∷ view) = ap (λ (l : List nests.Tree). nest ∷ l) (list_of-same view)

-- a series that has the view's values where its Streams are apart agrees with the view
pub series-agrees : (element : Ltype) (dims : ℕ) (view : List nests.Tree) (series : List Tree) → HaveDepth dims (nests.trees_of view) → HaveWords element (nests.trees_of view)
    → Elements element (leaves dims series) → map (unpacked element) view ≡ map (in_nest (set_apart element) dims) series → EachPair (AgreesAt element dims) view series
series-agrees element dims view series deep words elements e =
    map-pairs (IsOf element dims) (EachLeaf (IsElement element) dims) (AgreesAt element dims) (unpacked element) (in_nest (set_apart element) dims) (nest-agrees element dims) view series
    (subst (EachNest (IsOf element dims)) (list_of-same view) (each-nest element dims (nests.trees_of view) deep words)) (each-leaf (IsElement element) dims series elements) e

-- ---- the series of a view

parts_of : nests.Tree → List nests.Tree
parts_of (leaf bits) = []
parts_of (nests.list parts) = nests.list_of parts

-- a list of nests as a list of values
list-members : (element : Ltype) (depth : ℕ) (nest : nests.Tree) → HasDepth (suc depth) nest → unpacked element nest ≡ listed (map (unpacked element) (parts_of nest))
unfolding parts_of
list-members element depth (leaf bits) deep = absurd (omega (arith, deep))
list-members element depth (nests.list parts) deep = unpacked-list element parts

depth-append : (depth : ℕ) (one other : List nests.Tree) → HaveDepth depth (nests.trees_of one) → HaveDepth depth (nests.trees_of other) → HaveDepth depth (nests.trees_of (one ++ other))
depth-append depth [] other deep deeper = deeper
depth-append depth (nest ∷ one) other deep deeper = (deep.0, depth-append depth one other deep.1 deeper)

words-append : (element : Ltype) (one other : List nests.Tree) → HaveWords element (nests.trees_of one) → HaveWords element (nests.trees_of other) → HaveWords element (nests.trees_of (one ++ other))
words-append element [] other words more = more
words-append element (nest ∷ one) other words more = (words.0, words-append element one other words.1 more)

trees-same : (parts : nests.Trees) → nests.trees_of (nests.list_of parts) ≡ parts
trees-same nests.no_trees = refl
trees-same (nests.tree first more) = ap (nests.tree first) (trees-same more)

parts-depth : (depth : ℕ) (nest : nests.Tree) → HasDepth (suc depth) nest → HaveDepth depth (nests.trees_of (parts_of nest))
unfolding parts_of
parts-depth depth (leaf bits) deep = tt
parts-depth depth (nests.list parts) deep =
    let same : suc depth - 1 ≡ depth = omega arith in
    subst (HaveDepth depth) (sym (trees-same parts)) (subst (λ (d : ℕ). HaveDepth d parts) same deep.1)

parts-words : (element : Ltype) (nest : nests.Tree) → HasWords element nest → HaveWords element (nests.trees_of (parts_of nest))
unfolding parts_of
parts-words element (leaf bits) words = tt
parts-words element (nests.list parts) words = subst (HaveWords element) (sym (trees-same parts)) words

-- the nests one level below nests of one depth
record IsBelow (element : Ltype) (depth : ℕ) (view : List nests.Tree) : Type 0 where
  below : List nests.Tree
  depth_is : HaveDepth depth (nests.trees_of below)
  words : HaveWords element (nests.trees_of below)
  lists : AreLists (map (unpacked element) view)
  same : flat_map members (map (unpacked element) view) ≡ map (unpacked element) below

below-one : (element : Ltype) (depth : ℕ) (view : List nests.Tree) → HaveDepth (suc depth) (nests.trees_of view) → HaveWords element (nests.trees_of view) → IsBelow element depth view
below-one element depth [] deep words = record { below = []; depth_is = tt; words = tt; lists = tt; same = refl }
below-one element depth (nest ∷ view) deep words =
    let rest = below-one element depth view deep.1 words.1 in
    let here = list-members element depth nest deep.0 in
    let values = map (unpacked element) (parts_of nest) in
    record {
      below = parts_of nest ++ rest.below;
      depth_is = depth-append depth (parts_of nest) rest.below (parts-depth depth nest deep.0) rest.depth_is;
      words = words-append element (parts_of nest) rest.below (parts-words element nest words.0) rest.words;
      lists = (ap (λ (v : Tree). listed (members v)) here ∙ ap listed (members-listed values) ∙ sym here, rest.lists);
      same = ap (λ (v : Tree). members v ++ flat_map members (map (unpacked element) view)) here
          ∙ ap (λ (l : List Tree). l ++ flat_map members (map (unpacked element) view)) (members-listed values)
          ∙ ap (λ (l : List Tree). values ++ l) rest.same
          ∙ sym (map-append (unpacked element) (parts_of nest) rest.below);
    }

word-values : (element : Ltype) (view : List nests.Tree) → HaveDepth 0 (nests.trees_of view) → HaveWords element (nests.trees_of view) → ArePlain element (map (unpacked element) view)
word-values element [] deep words = record { elements = tt; plain = refl }
word-values element (leaf bits ∷ view) deep words =
    let rest = word-values element view deep.1 words.1 in
    let is = unpacked-word element bits words.0.1 in
    record {
      elements = (unpacked_are_elements element bits (value_of element bits) words.0.0 is.agrees, rest.elements);
      plain = ap (λ (v : Tree). v ∷ map (set_apart element) (map (unpacked element) view)) is.streams ∙ ap (λ (l : List Tree). value_of element bits ∷ l) rest.plain;
    }
word-values element (nests.list parts ∷ view) deep words = absurd (omega (arith, deep.0.0))

-- the values of a view are nests of its depth, with values of elements in their leaves
pub record AreValues (element : Ltype) (depth : ℕ) (values : List Tree) : Type 0 where
  pub nests : AreNests depth values
  pub plain : ArePlain element (leaves depth values)

pub view-values : (element : Ltype) (depth : ℕ) (view : List nests.Tree) → HaveDepth depth (nests.trees_of view) → HaveWords element (nests.trees_of view)
    → AreValues element depth (map (unpacked element) view)
view-values element zero view deep words = record { nests = tt; plain = word-values element view deep words }
view-values element (suc depth) view deep words =
    let below = below-one element depth view deep words in
    let inner = view-values element depth below.below below.depth_is below.words in
    record {
      nests = (below.lists, subst (AreNests depth) (sym below.same) inner.nests);
      plain = subst (λ (l : List Tree). ArePlain element (leaves depth l)) (sym below.same) inner.plain;
    }
