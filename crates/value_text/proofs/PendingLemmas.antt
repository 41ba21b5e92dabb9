-- The text that is left, part after part.
use Rattle.std.proofs.Common.{◌≡◌, ◌∙◌, ℕ, zero, suc, ◌+◌, ◌*◌, ◌-◌, ◌<◌, ◌≤◌, List, [], ◌∷◌, ◌++◌, length, length-append, min, drop, get_or, codes, refl, sym, ap, subst, append_assoc, arith}
use Rattle.std.specs.Prelude.{Bool}
use Rattle.std.specs.List.{flat_map}
use Rattle.std.proofs.lemmas.List.{reverse-append}
use Rattle.std.proofs.lemmas.List.Sums.{sum_by-append}
use Rattle.logical_types.specs.declared.ltype.Part.{Part}
use Rattle.tydi_base.specs.Hex.{hex_of}
use Rattle.tydi_base.specs.Lengths.{most_bytes}
use Rattle.logical_types.specs.Tree.{Ltype, Parts, plain, plain_parts}
use Rattle.logical_types.specs.Tree as types
use Rattle.logical_types.proofs.PlainLemmas.{plain_parts-at, plain_parts-past}
use Rattle.logical_value.specs.Tree.{Tree, null, word, group, union, list, apart, Trees, no_trees, tree, plain as plain_value, plain_values}
use Rattle.logical_value.specs.declared.value.Value.{Value}
use Rattle.value_text.specs.Canonical.{element_text, fields_text, named_text, nest_text, nests_text, user_word, variant_text, word_text}
use Rattle.value_text.specs.Inside.{tree_of}
use Rattle.value_text.specs.declared.inside.Inside.{Inside}
use Rattle.value_text.specs.declared.inside.Inside.TheVariants as kinds
use Rattle.value_text.specs.declared.items.Item.{Item}
use Rattle.value_text.specs.declared.items.Items.{Items}
use Rattle.value_text.specs.declared.pending.Pending.{Pending}
use Rattle.value_text.specs.Pending.{Begins, Counts, lines_text, number_in, number_of_values, part_steps, part_text, rest_of, steps_of}

-- ---- one part more

pub rest-push : (left : List Pending) (part : Pending) → rest_of (left ++ part ∷ []) ≡ part_text part ++ rest_of left
rest-push left part = ap lines_text (reverse-append left (part ∷ []))

pub steps-push : (left : List Pending) (part : Pending) → steps_of (left ++ part ∷ []) ≡ steps_of left + part_steps part
steps-push left part = sum_by-append part_steps left (part ∷ []) ∙ (let one : steps_of (part ∷ []) ≡ part_steps part = omega arith in ap (λ (n : ℕ). steps_of left + n) one)

pub values-some : (value : Tree) → 0 < number_of_values value
values-some null = omega arith
values-some (word bits) = omega arith
values-some (group values) = omega arith
values-some (union tag value) = omega arith
values-some (list values) = omega arith
values-some apart = omega arith

-- ---- texts that are begun

-- nothing is written of an empty text
pub begun-none : (text : List ℕ) (steps : ℕ) (left : List Pending) (out : List ℕ) → text ≡ [] → 0 < steps → Begins text steps left left out out
begun-none text steps left out none some = record {
  written = ap (λ (l : List ℕ). out ++ (l ++ rest_of left)) (sym none);
  fewer = omega arith;
}

-- a text is written whole
pub begun-whole : (text : List ℕ) (steps : ℕ) (left : List Pending) (out out_now : List ℕ) → out_now ≡ out ++ text → 0 < steps → Begins text steps left left out out_now
begun-whole text steps left out out_now is some = record {
  written = ap (λ (l : List ℕ). l ++ rest_of left) is ∙ append_assoc out text (rest_of left);
  fewer = omega arith;
}

-- all of a text is left as a part
pub begun-part : (part : Pending) (steps : ℕ) (left left_now : List Pending) (out : List ℕ) → left_now ≡ left ++ part ∷ [] → part_steps part < steps
    → Begins (part_text part) steps left left_now out out
begun-part part steps left left_now out is few = record {
  written = ap (λ (l : List Pending). out ++ rest_of l) is ∙ ap (λ (l : List ℕ). out ++ l) (rest-push left part);
  fewer = omega (arith, ap steps_of is ∙ steps-push left part, few);
}

-- three parts and what follows, behind what was there
three-parts : (out front inner back rest : List ℕ) → (out ++ front) ++ (inner ++ (back ++ rest)) ≡ out ++ ((front ++ (inner ++ back)) ++ rest)
three-parts out front inner back rest =
    append_assoc out front (inner ++ (back ++ rest))
    ∙ ap (λ (l : List ℕ). out ++ (front ++ l)) (sym (append_assoc inner back rest))
    ∙ ap (λ (l : List ℕ). out ++ l) (sym (append_assoc front (inner ++ back) rest))

-- a text is written, then one is begun, and the last is left as a part
pub begun-before : (part : Pending) (front inner all : List ℕ) (few steps : ℕ) (left left_one left_now : List Pending) (out out_one out_now : List ℕ)
    → out_one ≡ out ++ front → left_one ≡ left ++ part ∷ [] → Begins inner few left_one left_now out_one out_now
    → front ++ (inner ++ part_text part) ≡ all → few + part_steps part ≤ steps → Begins all steps left left_now out out_now
begun-before part front inner all few steps left left_one left_now out out_one out_now written pushed begun same within = record {
  written = begun.written
      ∙ ap (λ (l : List ℕ). l ++ (inner ++ rest_of left_one)) written
      ∙ ap (λ (l : List Pending). (out ++ front) ++ (inner ++ rest_of l)) pushed
      ∙ ap (λ (l : List ℕ). (out ++ front) ++ (inner ++ l)) (rest-push left part)
      ∙ three-parts out front inner (part_text part) (rest_of left)
      ∙ ap (λ (l : List ℕ). out ++ (l ++ rest_of left)) same;
  fewer = omega (arith, ap steps_of pushed ∙ steps-push left part, begun.fewer, within);
}

-- a text is written, and the rest is left as a part
pub begun-front : (part : Pending) (front all : List ℕ) (steps : ℕ) (left left_now : List Pending) (out out_now : List ℕ)
    → out_now ≡ out ++ front → left_now ≡ left ++ part ∷ [] → front ++ part_text part ≡ all → part_steps part < steps → Begins all steps left left_now out out_now
begun-front part front all steps left left_now out out_now written pushed same within = record {
  written = ap (λ (l : List ℕ). l ++ rest_of left_now) written
      ∙ ap (λ (l : List Pending). (out ++ front) ++ rest_of l) pushed
      ∙ ap (λ (l : List ℕ). (out ++ front) ++ l) (rest-push left part)
      ∙ append_assoc out front (part_text part ++ rest_of left)
      ∙ ap (λ (l : List ℕ). out ++ l) (sym (append_assoc front (part_text part) (rest_of left)))
      ∙ ap (λ (l : List ℕ). out ++ (l ++ rest_of left)) same;
  fewer = omega (arith, ap steps_of pushed ∙ steps-push left part, within);
}

-- the text of a value is begun as that of the same value
pub begun-same : (text : Tree → List ℕ) (one other : Tree) (left left_now : List Pending) (out out_now : List ℕ) → one ≡ other
    → Begins (text one) (3 * number_of_values one) left left_now out out_now → Begins (text other) (3 * number_of_values other) left left_now out out_now
begun-same text one other left left_now out out_now same begun =
    let P : Tree → Type 0 = λ v. Begins (text v) (3 * number_of_values v) left left_now out out_now in subst P same begun

-- the text of a value is begun as the same text
pub begun-as : (text other : List ℕ) (steps : ℕ) (left left_now : List Pending) (out out_now : List ℕ) → text ≡ other
    → Begins text steps left left_now out out_now → Begins other steps left left_now out out_now
begun-as text other steps left left_now out out_now same begun =
    let P : List ℕ → Type 0 = λ t. Begins t steps left left_now out out_now in subst P same begun

-- a part is begun as the same part
pub part-begun : (part other : Pending) (left left_now : List Pending) (out out_now : List ℕ) → other ≡ part
    → Begins (part_text part) (part_steps part) left left_now out out_now → Begins (part_text other) (part_steps other) left left_now out out_now
part-begun part other left left_now out out_now same begun =
    let P : Pending → Type 0 = λ p. Begins (part_text p) (part_steps p) left left_now out out_now in subst P (sym same) begun

-- ---- steps

-- the last part is taken and begun
pub stepped : (part : Pending) (left left_one left_now : List Pending) (out out_now all : List ℕ) → left ≡ left_one ++ part ∷ []
    → Begins (part_text part) (part_steps part) left_one left_now out out_now → all ≡ out ++ rest_of left → all ≡ out_now ++ rest_of left_now
stepped part left left_one left_now out out_now all taken begun same =
    same ∙ ap (λ (l : List Pending). out ++ rest_of l) taken ∙ ap (λ (l : List ℕ). out ++ l) (rest-push left_one part) ∙ sym begun.written

pub step-fewer : (part : Pending) (left left_one left_now : List Pending) (out out_now : List ℕ) → left ≡ left_one ++ part ∷ []
    → Begins (part_text part) (part_steps part) left_one left_now out out_now → steps_of left_now < steps_of left
step-fewer part left left_one left_now out out_now taken begun = omega (arith, ap steps_of taken ∙ steps-push left_one part, begun.fewer)

-- ---- values that do not fit have no text

pub no-nest : (text : Tree → List ℕ) (depth : ℕ) (kind : Inside) → ((members : Items Value) → kind ≡ kinds.List members → ⊥) → nest_text text (suc depth) (tree_of kind) ≡ []
no-nest text depth kinds.Null other = refl
no-nest text depth (kinds.Word bits) other = refl
no-nest text depth (kinds.Group values) other = refl
no-nest text depth (kinds.Union tag value) other = refl
no-nest text depth (kinds.List members) other = absurd (other members refl)
no-nest text depth kinds.Apart other = refl

pub no-word : (width : ℕ) (kind : Inside) → ((bits : Item (List Bool)) → kind ≡ kinds.Word bits → ⊥) → element_text (types.bits width) (tree_of kind) ≡ []
no-word width kinds.Null other = refl
no-word width (kinds.Word bits) other = absurd (other bits refl)
no-word width (kinds.Group values) other = refl
no-word width (kinds.Union tag value) other = refl
no-word width (kinds.List members) other = refl
no-word width kinds.Apart other = refl

pub no-group : (parts : Parts) (kind : Inside) → ((values : Items Value) → kind ≡ kinds.Group values → ⊥) → element_text (types.group parts) (tree_of kind) ≡ []
no-group parts kinds.Null other = refl
no-group parts (kinds.Word bits) other = refl
no-group parts (kinds.Group values) other = absurd (other values refl)
no-group parts (kinds.Union tag value) other = refl
no-group parts (kinds.List members) other = refl
no-group parts kinds.Apart other = refl

pub no-variant : (parts : Parts) (kind : Inside) → ((tag : ℕ) (value : Item Value) → kind ≡ kinds.Union tag value → ⊥) → element_text (types.union parts) (tree_of kind) ≡ []
no-variant parts kinds.Null other = refl
no-variant parts (kinds.Word bits) other = refl
no-variant parts (kinds.Group values) other = refl
no-variant parts (kinds.Union tag value) other = absurd (other tag value refl)
no-variant parts (kinds.List members) other = refl
no-variant parts kinds.Apart other = refl

-- ---- the variant of a number

pub variant-at : (parts : List Part) (tag : ℕ) (value : Tree) (part : Part) → tag < length parts → part ≡ get_or parts tag part
    → named_text part.name (element_text (plain part.ltype) value) ≡ variant_text (plain_parts parts) tag value
variant-at [] tag value part within is = absurd (omega (arith, within))
variant-at (one ∷ more) zero value part within is = ap (λ (p : Part). named_text p.name (element_text (plain p.ltype) value)) is
variant-at (one ∷ more) (suc tag) value part within is = variant-at more tag value part (omega (arith, within)) is

pub variant-none : (parts : List Part) (tag : ℕ) (value : Tree) → length parts ≤ tag → variant_text (plain_parts parts) tag value ≡ []
variant-none [] tag value past = refl
variant-none (one ∷ more) zero value past = absurd (omega (arith, past))
variant-none (one ∷ more) (suc tag) value past = variant-none more tag value (omega (arith, past))

-- ---- what stands in brackets or braces

pub enclosed-begun : (front back inner : List ℕ) (count : ℕ) (mark inside : Pending) (left left_one left_now : List Pending) (out out_now : List ℕ)
    → part_text mark ≡ back → part_steps mark ≡ 1 → part_text inside ≡ inner → part_steps inside ≡ 1 + 3 * count
    → out_now ≡ out ++ front → left_one ≡ left ++ mark ∷ [] → left_now ≡ left_one ++ inside ∷ []
    → Begins (front ++ (inner ++ back)) (3 * suc count) left left_now out out_now
enclosed-begun front back inner count mark inside left left_one left_now out out_now is_back one is_inner many written marked pushed =
    begun-before mark front (part_text inside) (front ++ (inner ++ back)) (2 + 3 * count) (3 * suc count) left left_one left_now out out_now out_now written marked
    (begun-part inside (2 + 3 * count) left_one left_now out_now pushed (omega (arith, many)))
    (ap (λ (l : List ℕ). front ++ (part_text inside ++ l)) is_back ∙ ap (λ (l : List ℕ). front ++ (l ++ back)) is_inner) (omega (arith, one))

-- ---- fronts of values

-- the text of a nest of depth 0 is that of its leaf
pub leaf-begun : (text : Tree → List ℕ) (depth : ℕ) (value : Tree) (left left_now : List Pending) (out out_now : List ℕ) → depth ≡ 0
    → Begins (text value) (3 * number_of_values value) left left_now out out_now → Begins (nest_text text depth value) (3 * number_of_values value) left left_now out out_now
leaf-begun text depth value left left_now out out_now none begun =
    begun-as (text value) (nest_text text depth value) (3 * number_of_values value) left left_now out out_now (ap (λ (d : ℕ). nest_text text d value) (sym none)) begun

deeper : (depth : ℕ) → (depth ≡ 0 → ⊥) → suc (depth - 1) ≡ depth
deeper zero some = absurd (some refl)
deeper (suc depth) some = omega arith

pub list-begun : (text : Tree → List ℕ) (depth : ℕ) (one value : Tree) (left left_now : List Pending) (out out_now : List ℕ) → (depth ≡ 0 → ⊥) → one ≡ value
    → Begins (nest_text text (suc (depth - 1)) one) (3 * number_of_values one) left left_now out out_now
    → Begins (nest_text text depth value) (3 * number_of_values value) left left_now out out_now
list-begun text depth one value left left_now out out_now some same begun =
    begun-as (nest_text text (suc (depth - 1)) value) (nest_text text depth value) (3 * number_of_values value) left left_now out out_now
    (ap (λ (d : ℕ). nest_text text d value) (deeper depth some))
    (begun-same (nest_text text (suc (depth - 1))) one value left left_now out out_now same begun)

-- the text of a value that does not fit is begun by nothing
pub nothing-begun : (text : Tree → List ℕ) (one value : Tree) (left : List Pending) (out : List ℕ) → one ≡ value → text one ≡ []
    → Begins (text value) (3 * number_of_values value) left left out out
nothing-begun text one value left out same none =
    begun-none (text value) (3 * number_of_values value) left out (ap text (sym same) ∙ none) (omega (arith, values-some value))

pub no_list-begun : (text : Tree → List ℕ) (depth : ℕ) (kind : Inside) (value : Tree) (left : List Pending) (out : List ℕ) → (depth ≡ 0 → ⊥)
    → ((members : Items Value) → kind ≡ kinds.List members → ⊥) → tree_of kind ≡ value → Begins (nest_text text depth value) (3 * number_of_values value) left left out out
no_list-begun text depth kind value left out some other same =
    nothing-begun (nest_text text depth) (tree_of kind) value left out same
    (ap (λ (d : ℕ). nest_text text d (tree_of kind)) (sym (deeper depth some)) ∙ no-nest text (depth - 1) kind other)

-- the text of a value of a type is begun as that of the same type
pub type-begun : (one other : Ltype) (value : Tree) (left left_now : List Pending) (out out_now : List ℕ) → other ≡ one
    → Begins (element_text one value) (3 * number_of_values value) left left_now out out_now → Begins (element_text other value) (3 * number_of_values value) left left_now out out_now
type-begun one other value left left_now out out_now same begun =
    begun-as (element_text one value) (element_text other value) (3 * number_of_values value) left left_now out out_now (ap (λ (t : Ltype). element_text t value) (sym same)) begun

pub word-begun : (width : ℕ) (made bits : List Bool) (value : Tree) (left : List Pending) (out out_now : List ℕ) → made ≡ bits → word bits ≡ value → out_now ≡ out ++ word_text made
    → Begins (element_text (types.bits width) value) (3 * number_of_values value) left left out out_now
word-begun width made bits value left out out_now same is written =
    begun-same (element_text (types.bits width)) (word bits) value left left out out_now is
    (begun-whole (word_text bits) 3 left out out_now (written ∙ ap (λ (b : List Bool). out ++ word_text b) same) (omega arith))

pub named-begun : (name inner : List ℕ) (count : ℕ) (mark : Pending) (left left_one left_now : List Pending) (out out_one out_now : List ℕ)
    → part_text mark ≡ codes ")" → part_steps mark ≡ 1 → out_one ≡ out ++ (name ++ codes "(") → left_one ≡ left ++ mark ∷ []
    → Begins inner (3 * count) left_one left_now out_one out_now → Begins (named_text name inner) (3 * suc count) left left_now out out_now
named-begun name inner count mark left left_one left_now out out_one out_now closing one written marked begun =
    begun-before mark (name ++ codes "(") inner (named_text name inner) (3 * count) (3 * suc count) left left_one left_now out out_one out_now written marked begun
    (ap (λ (l : List ℕ). (name ++ codes "(") ++ (inner ++ l)) closing ∙ append_assoc name (codes "(") (inner ++ codes ")")) (omega (arith, one))

-- ---- steps of parts that are left

pub nests-begun : (text : Tree → List ℕ) (between before : List ℕ) (values more : List Value) (one : Value) (part : Pending) (left left_one left_now : List Pending) (out out_one out_now : List ℕ)
    → values ≡ one ∷ more → part_text part ≡ nests_text text between between (plain_values more) → part_steps part ≡ 1 + 3 * number_in (plain_values more)
    → out_one ≡ out ++ before → left_one ≡ left ++ part ∷ [] → Begins (text (plain_value one)) (3 * number_of_values (plain_value one)) left_one left_now out_one out_now
    → Begins (nests_text text between before (plain_values values)) (1 + 3 * number_in (plain_values values)) left left_now out out_now
nests-begun text between before values more one part left left_one left_now out out_one out_now begins is_rest many written pushed begun =
    let count : number_in (plain_values values) ≡ number_of_values (plain_value one) + number_in (plain_values more) = ap (λ (vs : List Value). number_in (plain_values vs)) begins in
    begun-before part before (text (plain_value one)) (nests_text text between before (plain_values values)) (3 * number_of_values (plain_value one)) (1 + 3 * number_in (plain_values values))
    left left_one left_now out out_one out_now written pushed begun
    (ap (λ (l : List ℕ). before ++ (text (plain_value one) ++ l)) is_rest
    ∙ sym (append_assoc before (text (plain_value one)) (nests_text text between between (plain_values more)))
    ∙ ap (λ (vs : List Value). nests_text text between before (plain_values vs)) (sym begins))
    (omega (arith, many, count))

pub no_nests-begun : (text : Tree → List ℕ) (between before : List ℕ) (values : List Value) (left : List Pending) (out : List ℕ) → values ≡ []
    → Begins (nests_text text between before (plain_values values)) (1 + 3 * number_in (plain_values values)) left left out out
no_nests-begun text between before values left out none =
    begun-none (nests_text text between before (plain_values values)) (1 + 3 * number_in (plain_values values)) left out
    (ap (λ (vs : List Value). nests_text text between before (plain_values vs)) none) (omega arith)

pub fields-begun : (parts : List Part) (at : ℕ) (field : Part) (before : List ℕ) (values more : List Value) (one : Value) (part : Pending) (left left_one left_now : List Pending)
    (out out_one out_now : List ℕ) → at < length parts → field ≡ get_or parts at field → values ≡ one ∷ more
    → part_text part ≡ fields_text (codes ", ") (plain_parts (drop (at + 1) parts)) (plain_values more) → part_steps part ≡ 1 + 3 * number_in (plain_values more)
    → out_one ≡ out ++ (before ++ (field.name ++ codes ": ")) → left_one ≡ left ++ part ∷ []
    → Begins (element_text (plain field.ltype) (plain_value one)) (3 * number_of_values (plain_value one)) left_one left_now out_one out_now
    → Begins (fields_text before (plain_parts (drop at parts)) (plain_values values)) (1 + 3 * number_in (plain_values values)) left left_now out out_now
fields-begun parts at field before values more one part left left_one left_now out out_one out_now within found begins is_rest many written pushed begun =
    let text = element_text (plain field.ltype) (plain_value one) in
    let front = before ++ (field.name ++ codes ": ") in
    let rest = fields_text (codes ", ") (plain_parts (drop (at + 1) parts)) (plain_values more) in
    let count : number_in (plain_values values) ≡ number_of_values (plain_value one) + number_in (plain_values more) = ap (λ (vs : List Value). number_in (plain_values vs)) begins in
    begun-before part front text (fields_text before (plain_parts (drop at parts)) (plain_values values)) (3 * number_of_values (plain_value one)) (1 + 3 * number_in (plain_values values))
    left left_one left_now out out_one out_now written pushed begun
    (ap (λ (l : List ℕ). front ++ (text ++ l)) is_rest
    ∙ sym (append_assoc front text rest)
    ∙ ap (λ (vs : List Value). fields_text before (types.part field.name (plain field.ltype) (plain_parts (drop (at + 1) parts))) (plain_values vs)) (sym begins)
    ∙ ap (λ ps. fields_text before ps (plain_values values)) (sym (plain_parts-at parts at field within found)))
    (omega (arith, many, count))

pub no_fields-begun : (before : List ℕ) (parts : Parts) (values : List Value) (left : List Pending) (out : List ℕ) → values ≡ []
    → Begins (fields_text before parts (plain_values values)) (1 + 3 * number_in (plain_values values)) left left out out
no_fields-begun before parts values left out none =
    begun-none (fields_text before parts (plain_values values)) (1 + 3 * number_in (plain_values values)) left out
    (ap (λ (vs : List Value). fields_text before parts (plain_values vs)) none ∙ no_values before parts) (omega arith)
  where
    no_values : (b : List ℕ) (ps : Parts) → fields_text b ps no_trees ≡ []
    no_values b types.no_parts = refl
    no_values b (types.part name ltype rest) = refl

pub no_parts-begun : (before : List ℕ) (parts : List Part) (at : ℕ) (values : List Value) (left : List Pending) (out : List ℕ) → length parts ≤ at
    → Begins (fields_text before (plain_parts (drop at parts)) (plain_values values)) (1 + 3 * number_in (plain_values values)) left left out out
no_parts-begun before parts at values left out past =
    begun-none (fields_text before (plain_parts (drop at parts)) (plain_values values)) (1 + 3 * number_in (plain_values values)) left out
    (ap (λ ps. fields_text before ps (plain_values values)) (plain_parts-past parts at past) ∙ no_part (plain_values values)) (omega arith)
  where
    no_part : (vs : Trees) → fields_text before types.no_parts vs ≡ []
    no_part no_trees = refl
    no_part (tree value others) = refl

pub words-begun : (words more : List (List Bool)) (one made : List Bool) (part : Pending) (left left_now : List Pending) (out out_now : List ℕ) → words ≡ one ∷ more → made ≡ one
    → part_text part ≡ flat_map user_word more → part_steps part ≡ 1 + length more → out_now ≡ out ++ (codes " " ++ hex_of made) → left_now ≡ left ++ part ∷ []
    → Begins (flat_map user_word words) (1 + length words) left left_now out out_now
words-begun words more one made part left left_now out out_now begins same is_rest many written pushed =
    begun-front part (user_word one) (flat_map user_word words) (1 + length words) left left_now out out_now
    (written ∙ ap (λ (b : List Bool). out ++ user_word b) same) pushed
    (ap (λ (l : List ℕ). user_word one ++ l) is_rest ∙ ap (λ (ws : List (List Bool)). flat_map user_word ws) (sym begins))
    (omega (arith, many, ap length begins))

pub no_words-begun : (words : List (List Bool)) (left : List Pending) (out : List ℕ) → words ≡ [] → Begins (flat_map user_word words) (1 + length words) left left out out
no_words-begun words left out none = begun-none (flat_map user_word words) (1 + length words) left out (ap (λ (ws : List (List Bool)). flat_map user_word ws) none) (omega arith)

-- ---- parts that are counted

-- a front is counted, and what is left behind it
pub counts-text : (text : List ℕ) (steps : ℕ) (left left_now : List Pending) (out out_now : List ℕ) (bytes : ℕ) → Begins text steps left left_now out out_now → out ≡ []
    → bytes ≡ length out_now → bytes ≤ most_bytes → Counts text steps left left_now bytes
counts-text text steps left left_now out out_now bytes begun none many few =
    let same : out_now ++ rest_of left_now ≡ text ++ rest_of left = begun.written ∙ ap (λ (l : List ℕ). l ++ (text ++ rest_of left)) none in
    record {
      counted = omega (arith, many, sym (length-append out_now (rest_of left_now)) ∙ ap length same ∙ length-append text (rest_of left));
      few = few;
      fewer = begun.fewer;
    }

-- a part is counted whole
pub counts-whole : (text : List ℕ) (steps : ℕ) (left : List Pending) (bytes : ℕ) → bytes ≡ min (length text) most_bytes → 0 < steps → Counts text steps left left bytes
counts-whole text steps left bytes is some = record { counted = omega (arith, is); few = omega (arith, is); fewer = omega (arith, some) }

pub counted-more : (part : Pending) (left left_one left_now : List Pending) (all bytes more next : ℕ) → left ≡ left_one ++ part ∷ []
    → Counts (part_text part) (part_steps part) left_one left_now more → next ≡ min (bytes + more) most_bytes
    → min all most_bytes ≡ min (bytes + length (rest_of left)) most_bytes → min all most_bytes ≡ min (next + length (rest_of left_now)) most_bytes
counted-more part left left_one left_now all bytes more next taken counts is before =
    let long : length (rest_of left) ≡ length (part_text part) + length (rest_of left_one) =
    ap (λ (l : List Pending). length (rest_of l)) taken ∙ ap length (rest-push left_one part) ∙ length-append (part_text part) (rest_of left_one) in
    omega (arith, long, counts.counted, is, before)

pub counted-fewer : (part : Pending) (left left_one left_now : List Pending) (more : ℕ) → left ≡ left_one ++ part ∷ []
    → Counts (part_text part) (part_steps part) left_one left_now more → steps_of left_now < steps_of left
counted-fewer part left left_one left_now more taken counts = omega (arith, ap steps_of taken ∙ steps-push left_one part, counts.fewer)

-- no part is left
pub counted-all : (left : List Pending) (all bytes : ℕ) → left ≡ [] → bytes ≤ most_bytes → min all most_bytes ≡ min (bytes + length (rest_of left)) most_bytes → bytes ≡ min all most_bytes
counted-all left all bytes none few before = omega (arith, few, before, ap (λ (l : List Pending). length (rest_of l)) none)
