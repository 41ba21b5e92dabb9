-- The series of a node whose elements have no bits.
use Rattle.std.proofs.Common.{inl, inr, ◌≡◌, ◌∙◌, ◌≤◌, ◌<◌, ℕ, zero, suc, ◌+◌, ◌^◌, Bool, true, false, List, [], ◌∷◌, refl, sym, ap, subst, arith}
use Rattle.std.specs.Prelude.{filter, map, ◌⊎◌, ◌&&◌, ◌||◌, if◌then◌else◌, Option, Some, None}
use Rattle.std.specs.List.{filter_map, cons_option}
use Rattle.tydi_base.proofs.WidthLaws.{index_width-enough}
use Rattle.logical_types.specs.Tree.{number_of_parts}
use Rattle.logical_types.specs.Tree.{Ltype, Parts, Settings}
use Rattle.logical_types.specs.Tree as types
use Rattle.logical_types.specs.declared.ltype.Sync.{Sync}
use Rattle.logical_types.specs.declared.ltype.Sync.TheVariants as syncs
use Rattle.logical_value.specs.Tree.{Tree, null, word, group, union, Trees, no_trees, tree}
use Rattle.logical_types.specs.Faults.{dims_taken_over, IsPlain}
use Rattle.logical_types.specs.Faults.{ArePlain as AreAllPlain}
use Rattle.logical_types.proofs.PlainTypes.{ArePlain-group, ArePlain-union, IsPlain-first, none_of}
use Rattle.logical_types.proofs.PlainTypes.{apart as separate}
use Rattle.logical_types.specs.declared.fault.TypeFault.{TypeFault}
use Rattle.logical_types.specs.declared.fault.TypeFault.TheVariants as faults
use Rattle.logical_types.specs.Faults.{TypeNode, has_fault, outermost, plain_faults}
use Rattle.logical_types.specs.Synchronicity.{is_apart}
use Rattle.logical_types.specs.Width.{greatest_width, tag_width, total_width, width_of}
use Rattle.logical_value.specs.Agreement.{first_of}
use Rattle.logical_value.specs.Element.{AreElements, IsElement, IsVariant, set_all_apart, set_apart, set_variant_apart}
use Rattle.logical_value.specs.Tree.{members}
use Rattle.type_split.specs.Carried.{has_carried, have_carried, is_tied}
use Rattle.type_split.specs.Nodes.{is_physical, number_of_streams, streams_in_parts}
use Rattle.value_views.proofs.NestLemmas.{again_lists, each_members, leaves-replaced}
use Rattle.value_views.proofs.PartLemmas.{fields_of, variants_of}
use Rattle.value_views.specs.Comparing.{tied_series}
use Rattle.value_views.specs.Series.{deep, first_part, leaves, listed, other_parts, replaced}
use Rattle.value_views.specs.Shown.{Each, Elements, Shows, ShowsParts}
use Rattle.value_views.specs.Words.{blank_of, blank_series, blank_variant, blanks_of, first_carried, first_carried_in, in_nest}

-- ---- the one value of an element that takes no bits

no_tag : (parts : Parts) (n : ℕ) → number_of_parts parts ≡ n → tag_width (number_of_parts parts) ≡ 0 → n ≤ 1
unfolding tag_width
no_tag parts n count none =
    let enough = index_width-enough (number_of_parts parts) in
    let power : ◌≡◌ {A = ℕ} (2 ^ tag_width (number_of_parts parts)) (2 ^ 0) = ap (λ (k : ℕ). 2 ^ k) none in omega (arith, enough, power, count)

mutual
  pub blank : (ltype : Ltype) (value : Tree) → width_of ltype ≡ 0 → IsElement ltype value → set_apart ltype value ≡ blank_of ltype
  blank types.null null narrow is = refl
  blank types.null value narrow is = absurd is
  blank (types.bits width) (word []) narrow is = refl
  blank (types.bits width) (word (bit ∷ bits)) narrow is = absurd (omega (arith, narrow, is))
  blank (types.bits width) value narrow is = absurd is
  blank (types.group parts) (group values) narrow is = ap group (blanks parts values narrow is)
  blank (types.group parts) value narrow is = absurd is
  blank (types.union parts) (union tag value) narrow is = blank_union parts tag value (omega (arith, narrow)) (omega (arith, narrow)) is
  blank (types.union parts) value narrow is = absurd is
  blank (types.stream element user settings) value narrow is = refl

  blanks : (parts : Parts) (values : Trees) → total_width parts ≡ 0 → AreElements parts values → set_all_apart parts values ≡ blanks_of parts
  blanks types.no_parts no_trees narrow are = refl
  blanks (types.part name ltype more) (tree value others) narrow are =
      ap (λ v. tree v (set_all_apart more others)) (blank ltype value (omega (arith, narrow)) are.0) ∙ ap (tree (blank_of ltype)) (blanks more others (omega (arith, narrow)) are.1)
  blanks parts values narrow are = absurd are

  blank_union : (parts : Parts) (tag : ℕ) (value : Tree) → tag_width (number_of_parts parts) ≡ 0 → greatest_width parts ≡ 0 → IsVariant parts tag value
      → union tag (set_variant_apart parts tag value) ≡ union 0 (blank_variant parts)
  blank_union types.no_parts tag value none narrow is = absurd is
  blank_union (types.part name ltype more) zero value none narrow is = ap (union 0) (blank ltype value (omega (arith, narrow)) is)
  blank_union (types.part name ltype types.no_parts) (suc tag) value none narrow is = absurd is
  blank_union (types.part name ltype (types.part name' ltype' more)) (suc tag) value none narrow is =
      let few = no_tag (types.part name ltype (types.part name' ltype' more)) (suc (suc (number_of_parts more))) refl none in absurd (omega (arith, few))

-- ---- nests whose leaves are all selected

abbrev chosen : Option Tree → Tree → Tree
chosen None other = other
chosen (Some one) other = one

selected_lists : (F : List Tree → List Tree) (G : Tree → Tree) (Q : List Tree → Type 0) → ((l : List Tree) → Q l → F l ≡ map G l) → (series : List Tree) → Each (λ v. Q (members v)) series
    → map (λ v. listed (F (members v))) series ≡ map (λ v. listed (map G (members v))) series
selected_lists F G Q each [] are = refl
selected_lists F G Q each (v ∷ series) are =
    ap (λ (l : List Tree). listed l ∷ map (λ v. listed (F (members v))) series) (each (members v) are.0)
    ∙ ap (λ (l : List Tree). listed (map G (members v)) ∷ l) (selected_lists F G Q each series are.1)

selected_leaves : (f : Tree → Option Tree) (g : Tree → Tree) (P : Tree → Type 0) → ((v : Tree) → P v → f v ≡ Some (g v)) → (values : List Tree) → Each P values → filter_map f values ≡ map g values
selected_leaves f g P each [] are = refl
selected_leaves f g P each (v ∷ values) are =
    ap (λ (o : Option Tree). cons_option o (filter_map f values)) (each v are.0) ∙ ap (λ (l : List Tree). g v ∷ l) (selected_leaves f g P each values are.1)

selected : (f : Tree → Option Tree) (g : Tree → Tree) (P : Tree → Type 0) → ((v : Tree) → P v → f v ≡ Some (g v)) → (depth : ℕ) (series : List Tree) → Each P (leaves depth series)
    → replaced f depth series ≡ map (in_nest g depth) series
selected f g P each zero series are = selected_leaves f g P each series are
selected f g P each (suc depth) series are =
    selected_lists (replaced f depth) (in_nest g depth) (λ l. Each P (leaves depth l)) (selected f g P each depth) series (each_members P depth series are)

same_leaves : (f g : Tree → Tree) (P : Tree → Type 0) → ((v : Tree) → P v → f v ≡ g v) → (values : List Tree) → Each P values → map f values ≡ map g values
same_leaves f g P each [] are = refl
same_leaves f g P each (v ∷ values) are = ap (λ (w : Tree). w ∷ map f values) (each v are.0) ∙ ap (λ (l : List Tree). g v ∷ l) (same_leaves f g P each values are.1)

pub same_in_nest : (f g : Tree → Tree) (P : Tree → Type 0) → ((v : Tree) → P v → f v ≡ g v) → (depth : ℕ) (series : List Tree) → Each P (leaves depth series)
    → map (in_nest f depth) series ≡ map (in_nest g depth) series
same_in_nest f g P each zero series are = same_leaves f g P each series are
same_in_nest f g P each (suc depth) series are =
    selected_lists (map (in_nest f depth)) (in_nest g depth) (λ l. Each P (leaves depth l)) (same_in_nest f g P each depth) series (each_members P depth series are)

all_level : (x : Tree) (H : Tree → Tree) (l : List Tree) → map (λ (v : Tree). x) (map H l) ≡ map (λ (v : Tree). x) l
all_level x H [] = refl
all_level x H (v ∷ l) = ap (λ (l : List Tree). x ∷ l) (all_level x H l)

level-deeper : (x : Tree) (f : Tree → Tree) (depth own : ℕ) (series : List Tree)
    → map (in_nest (λ (v : Tree). x) depth) (map (in_nest f (deep depth own)) series) ≡ map (in_nest (λ (v : Tree). x) depth) series
level-deeper x f zero own series = all_level x (in_nest f own) series
level-deeper x f (suc depth) own series = again_lists (in_nest (λ (v : Tree). x) depth) (in_nest f (deep depth own)) (level-deeper x f depth own) series

level-again : (x : Tree) (g : Tree → Tree) (depth : ℕ) (series : List Tree)
    → map (in_nest (λ (v : Tree). x) depth) (map (in_nest g depth) series) ≡ map (in_nest (λ (v : Tree). x) depth) series
level-again x g zero series = all_level x g series
level-again x g (suc depth) series = again_lists (in_nest (λ (v : Tree). x) depth) (in_nest g depth) (level-again x g depth) series

level-selected : (x : Tree) (f : Tree → Option Tree) (g : Tree → Tree) (P : Tree → Type 0) → ((v : Tree) → P v → f v ≡ Some (g v)) → (depth : ℕ) (series : List Tree) → Each P (leaves depth series)
    → map (in_nest (λ (v : Tree). x) depth) (replaced f depth series) ≡ map (in_nest (λ (v : Tree). x) depth) series
level-selected x f g P each depth series are = ap (map (in_nest (λ (v : Tree). x) depth)) (selected f g P each depth series are) ∙ level-again x g depth series

-- ---- parts of elements that take no bits

first_of_fields : (name : List ℕ) (ltype : Ltype) (more : Parts) (v : Tree) → IsElement (types.group (types.part name ltype more)) v → first_part v ≡ Some (chosen (first_part v) v)
first_of_fields name ltype more (group (tree x xs)) is = refl
first_of_fields name ltype more v is = absurd is

others_of_fields : (name : List ℕ) (ltype : Ltype) (more : Parts) (v : Tree) → IsElement (types.group (types.part name ltype more)) v → other_parts v ≡ Some (chosen (other_parts v) v)
others_of_fields name ltype more (group (tree x xs)) is = refl
others_of_fields name ltype more v is = absurd is

only_variant : (name : List ℕ) (ltype : Ltype) (v : Tree) → IsElement (types.union (types.part name ltype types.no_parts)) v → first_part v ≡ Some (chosen (first_part v) v)
only_variant name ltype (union zero x) is = refl
only_variant name ltype (union (suc tag) x) is = absurd is
only_variant name ltype v is = absurd is

is_sync : (sync : Sync) (carried : Bool) (given shape : List Tree) → (if is_tied sync && carried then Some given else None) ≡ Some shape → (sync ≡ syncs.Sync) × (given ≡ shape)
is_sync syncs.Sync true given shape e = (refl, cc)
is_sync syncs.Sync false given shape e = cc
is_sync syncs.Flatten carried given shape e = cc
is_sync syncs.Desync carried given shape e = cc
is_sync syncs.FlatDesync carried given shape e = cc

either_first : (one other : Option (List Tree)) (shape : List Tree) → first_of one other ≡ Some shape → (one ≡ Some shape) ⊎ (other ≡ Some shape)
either_first None other shape e = inr e
either_first (Some x) other shape e = inl e

tied_if : (kind : Sync) → kind ≡ syncs.Sync → is_apart kind ≡ false
tied_if kind e = ap is_apart e

mutual
  pub shape_of_carried : (x : Tree) (given : ℕ → List Tree) (number dims : ℕ) (ltype : Ltype) (series shape : List Tree) → width_of ltype ≡ 0 → Elements ltype (leaves dims series)
      → Shows given number dims ltype series → first_carried given number ltype ≡ Some shape
      → map (in_nest (λ (v : Tree). x) dims) shape ≡ map (in_nest (λ (v : Tree). x) dims) series
  shape_of_carried x given number dims types.null series shape narrow are n e = cc
  shape_of_carried x given number dims (types.bits width) series shape narrow are n e = cc
  shape_of_carried x given number dims (types.group parts) series shape narrow are n e = shape_of_fields x given number dims parts series shape narrow are n e
  shape_of_carried x given number dims (types.union parts) series shape narrow are n e = shape_of_variants x given number dims parts series shape (omega (arith, narrow)) (omega (arith, narrow)) are n e
  shape_of_carried x given number dims (types.stream element user settings) series shape narrow are n e =
      let is = is_sync settings.sync (is_physical element user settings || has_carried element) (given number) shape e in
      let f = set_apart element in
      let own = settings.dims in
      let view : given number ≡ map (in_nest f (deep dims own)) series =
      subst (λ (s : Sync). given number ≡ map (in_nest f (deep (dims_taken_over s dims) own)) (tied_series s dims series)) is.0 (n.1 (tied_if settings.sync is.0)).1 in
      ap (map (in_nest (λ (v : Tree). x) dims)) (sym is.1 ∙ view) ∙ level-deeper x f dims own series

  shape_of_fields : (x : Tree) (given : ℕ → List Tree) (number dims : ℕ) (parts : Parts) (series shape : List Tree) → total_width parts ≡ 0 → Elements (types.group parts) (leaves dims series)
      → ShowsParts given number dims parts series → first_carried_in given number parts ≡ Some shape
      → map (in_nest (λ (v : Tree). x) dims) shape ≡ map (in_nest (λ (v : Tree). x) dims) series
  shape_of_fields x given number dims types.no_parts series shape narrow are n e = cc
  shape_of_fields x given number dims (types.part name ltype more) series shape narrow are n e =
      let p = fields_of name ltype more (leaves dims series) are in
      let whole = IsElement (types.group (types.part name ltype more)) in
      elim (either_first (first_carried given number ltype) (first_carried_in given (number_of_streams ltype + number) more) shape e) [
        | inl here ↦ shape_of_carried x given number dims ltype (replaced first_part dims series) shape (omega (arith, narrow))
            (subst (Elements ltype) (sym (leaves-replaced first_part dims series)) p.firsts) n.0 here
            ∙ level-selected x first_part (λ v. chosen (first_part v) v) whole (first_of_fields name ltype more) dims series are
        | inr there ↦ shape_of_fields x given (number_of_streams ltype + number) dims more (replaced other_parts dims series) shape (omega (arith, narrow))
            (subst (Elements (types.group more)) (sym (leaves-replaced other_parts dims series)) p.rests) n.1 there
            ∙ level-selected x other_parts (λ v. chosen (other_parts v) v) whole (others_of_fields name ltype more) dims series are
      ]

  shape_of_variants : (x : Tree) (given : ℕ → List Tree) (number dims : ℕ) (parts : Parts) (series shape : List Tree) → tag_width (number_of_parts parts) ≡ 0 → greatest_width parts ≡ 0
      → Elements (types.union parts) (leaves dims series)
      → ShowsParts given number dims parts series → first_carried_in given number parts ≡ Some shape
      → map (in_nest (λ (v : Tree). x) dims) shape ≡ map (in_nest (λ (v : Tree). x) dims) series
  shape_of_variants x given number dims types.no_parts series shape none narrow are n e = cc
  shape_of_variants x given number dims (types.part name ltype types.no_parts) series shape none narrow are n e =
      let p = variants_of name ltype types.no_parts (leaves dims series) are in
      let whole = IsElement (types.union (types.part name ltype types.no_parts)) in
      elim (either_first (first_carried given number ltype) None shape e) [
        | inl here ↦ shape_of_carried x given number dims ltype (replaced first_part dims series) shape (omega (arith, narrow))
            (subst (Elements ltype) (sym (leaves-replaced first_part dims series)) p.firsts) n.0 here
            ∙ level-selected x first_part (λ v. chosen (first_part v) v) whole (only_variant name ltype) dims series are
        | inr there ↦ cc
      ]
  shape_of_variants x given number dims (types.part name ltype (types.part name' ltype' more)) series shape none narrow are n e =
      let few = no_tag (types.part name ltype (types.part name' ltype' more)) (suc (suc (number_of_parts more))) refl none in absurd (omega (arith, few))

-- ---- the first carried Stream

-- a carried Stream's series
pub record HasShape (found : Option (List Tree)) : Type 0 where
  pub shape : List Tree
  pub is : found ≡ Some shape

where_true : (b : Bool) (series : List Tree) → b ≡ true → HasShape (if b then Some series else None)
where_true true series is = record { shape = series; is = refl }
where_true false series is = cc

where_either : (b other : Bool) (first others : Option (List Tree)) → (b || other) ≡ true → (b ≡ true → HasShape first) → (other ≡ true → HasShape others) → HasShape (first_of first others)
where_either b other (Some series) others is here there = record { shape = series; is = refl }
where_either true other None others is here there = (let first = here refl in let no_shape = first.is in cc)
where_either false other None others is here there = there is

mutual
  pub has_shape : (given : ℕ → List Tree) (number : ℕ) (ltype : Ltype) → has_carried ltype ≡ true → HasShape (first_carried given number ltype)
  has_shape given number types.null has = cc
  has_shape given number (types.bits width) has = cc
  has_shape given number (types.group parts) has = has_shape_in given number parts has
  has_shape given number (types.union parts) has = has_shape_in given number parts has
  has_shape given number (types.stream element user settings) has = where_true (is_tied settings.sync && (is_physical element user settings || has_carried element)) (given number) has

  has_shape_in : (given : ℕ → List Tree) (number : ℕ) (parts : Parts) → have_carried parts ≡ true → HasShape (first_carried_in given number parts)
  has_shape_in given number types.no_parts has = cc
  has_shape_in given number (types.part name ltype more) has =
      where_either (has_carried ltype) (have_carried more) (first_carried given number ltype) (first_carried_in given (number_of_streams ltype + number) more) has
      (has_shape given number ltype) (has_shape_in given (number_of_streams ltype + number) more)

-- it depends on the series from the number on alone
mutual
  pub first_carried-same : (one other : ℕ → List Tree) (at there : ℕ) (ltype : Ltype) → ((k : ℕ) → k < number_of_streams ltype → one (k + at) ≡ other (k + there))
      → first_carried one at ltype ≡ first_carried other there ltype
  first_carried-same one other at there types.null same = refl
  first_carried-same one other at there (types.bits width) same = refl
  first_carried-same one other at there (types.group parts) same = first_carried_in-same one other at there parts same
  first_carried-same one other at there (types.union parts) same = first_carried_in-same one other at there parts same
  first_carried-same one other at there (types.stream element user settings) same =
      let first : 0 + at ≡ at = omega arith in
      let second : 0 + there ≡ there = omega arith in
      ap (λ (w : List Tree). if is_tied settings.sync && (is_physical element user settings || has_carried element) then Some w else None)
      (ap one (sym first) ∙ same 0 (omega arith) ∙ ap other second)

  first_carried_in-same : (one other : ℕ → List Tree) (at there : ℕ) (parts : Parts) → ((k : ℕ) → k < streams_in_parts parts → one (k + at) ≡ other (k + there))
      → first_carried_in one at parts ≡ first_carried_in other there parts
  first_carried_in-same one other at there types.no_parts same = refl
  first_carried_in-same one other at there (types.part name ltype more) same =
      let n = number_of_streams ltype in
      ap (λ (o : Option (List Tree)). first_of o (first_carried_in one (n + at) more)) (first_carried-same one other at there ltype (λ k less. same k (omega (arith, less))))
      ∙ ap (first_of (first_carried other there ltype))
      (first_carried_in-same one other (n + at) (n + there) more (λ k less.
      let here : k + (n + at) ≡ (k + n) + at = omega arith in
      let beyond : (k + n) + there ≡ k + (n + there) = omega arith in
      ap one here ∙ same (k + n) (omega (arith, less)) ∙ ap other beyond))

-- the series of a node whose elements have no bits, with its Streams apart, has the lists of its first carried Sync child
pub blank_node : (given : ℕ → List Tree) (number dims : ℕ) (element : Ltype) (series : List Tree) → width_of element ≡ 0 → has_carried element ≡ true → Elements element (leaves dims series)
    → Shows given number dims element series → map (in_nest (set_apart element) dims) series ≡ blank_series element dims (first_carried given number element)
blank_node given number dims element series narrow has are n =
    let found = has_shape given number element has in
    same_in_nest (set_apart element) (λ (v : Tree). blank_of element) (IsElement element) (λ v is. blank element v narrow is) dims series are
    ∙ sym (shape_of_carried (blank_of element) given number dims element series found.shape narrow are n found.is)
    ∙ ap (blank_series element dims) (sym found.is)

-- ---- blank values

last_fault : (test : TypeFault → Bool) → filter test plain_faults ≡ [] → test faults.EmptyUnion ≡ false
last_fault test empty =
    let zero_bits = none_of (test faults.ZeroBits) faults.ZeroBits _ empty in
    let wide = none_of (test faults.ElementTooWide) faults.ElementTooWide _ zero_bits.1 in
    let user = none_of (test faults.UserHasStream) faults.UserHasStream _ wide.1 in
    let name = none_of (test faults.NameTwice) faults.NameTwice _ user.1 in
    (none_of (test faults.EmptyUnion) faults.EmptyUnion _ name.1).0

-- a Union without variants is not plain
no_empty_union : IsPlain (types.union types.no_parts) → ⊥
no_empty_union is =
    let node : TypeNode = record { around = outermost; ltype = types.union types.no_parts } in
    let none : true ≡ false = last_fault (has_fault node) (separate (filter (has_fault node) plain_faults) [] is).0 in
    absurd (cc)

mutual
  pub blank-element : (ltype : Ltype) → IsPlain ltype → width_of ltype ≡ 0 → IsElement ltype (blank_of ltype)
  blank-element types.null is narrow = tt
  blank-element (types.bits width) is narrow = sym narrow
  blank-element (types.group parts) is narrow = blank-elements parts (ArePlain-group parts is) narrow
  blank-element (types.union parts) is narrow = blank-first parts is (omega (arith, narrow))
  blank-element (types.stream element user settings) is narrow = tt

  blank-elements : (parts : Parts) → AreAllPlain parts → total_width parts ≡ 0 → AreElements parts (blanks_of parts)
  blank-elements types.no_parts are narrow = tt
  blank-elements (types.part name ltype more) are narrow =
      let both = IsPlain-first name ltype more are in
      (blank-element ltype both.0 (omega (arith, narrow)), blank-elements more both.1 (omega (arith, narrow)))

  blank-first : (parts : Parts) → IsPlain (types.union parts) → greatest_width parts ≡ 0 → IsVariant parts 0 (blank_variant parts)
  blank-first types.no_parts is narrow = absurd (no_empty_union is)
  blank-first (types.part name ltype more) is narrow =
      blank-element ltype (IsPlain-first name ltype more (ArePlain-union (types.part name ltype more) is)).0 (omega (arith, narrow))

mutual
  pub blank-apart : (ltype : Ltype) → set_apart ltype (blank_of ltype) ≡ blank_of ltype
  blank-apart types.null = refl
  blank-apart (types.bits width) = refl
  blank-apart (types.group parts) = ap group (blanks-apart parts)
  blank-apart (types.union parts) = ap (union 0) (blank_variant-apart parts)
  blank-apart (types.stream element user settings) = refl

  blanks-apart : (parts : Parts) → set_all_apart parts (blanks_of parts) ≡ blanks_of parts
  blanks-apart types.no_parts = refl
  blanks-apart (types.part name ltype more) =
      ap (λ (v : Tree). tree v (set_all_apart more (blanks_of more))) (blank-apart ltype) ∙ ap (tree (blank_of ltype)) (blanks-apart more)

  blank_variant-apart : (parts : Parts) → set_variant_apart parts 0 (blank_variant parts) ≡ blank_variant parts
  blank_variant-apart types.no_parts = refl
  blank_variant-apart (types.part name ltype more) = blank-apart ltype
