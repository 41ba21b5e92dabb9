-- A word as it is written, part after part.
use Rattle.std.proofs.Common.{◌≡◌, ◌∙◌, ℕ, zero, suc, ◌+◌, ◌-◌, ◌^◌, ◌<◌, ◌≤◌, Bool, false, true, ltb, if◌then◌else◌, Option, None, Some, IsSome, get_or, List, [], ◌∷◌, ◌++◌, length, drop, refl, sym, ap, subst, append_assoc, arith, length-append}
use Rattle.std.proofs.lemmas.Bool.Decides.{nat_tests}
use Rattle.std.proofs.lemmas.List.{append-nil, drop-replicate, length-replicate, replicate-append-replicate}
use Rattle.std.proofs.Math.Seq.{take-append_seam, drop-append-add}
use Rattle.tydi_base.specs.Bits.{bits_of, zero_bits, written_at}
use Rattle.tydi_base.specs.Numbers.{word_of_number}
use Rattle.tydi_base.specs.Width.{index_width}
use Rattle.tydi_base.proofs.WidthLaws.{index_width-enough}
use Rattle.tydi_base.proofs.BitsLemmas.{length-bits_of}
use Rattle.logical_types.specs.Tree.{Ltype, Parts, number_of_parts, plain, plain_parts}
use Rattle.logical_types.specs.declared.ltype.Part.{Part}
use Rattle.logical_types.specs.Faults.{IsPlain}
use Rattle.logical_types.proofs.PlainTypes.{width-IsPlain}
use Rattle.logical_types.proofs.PlainLemmas.{number_of_parts-plain, plain_parts-at, plain_parts-past}
use Rattle.logical_types.specs.Tree as types
use Rattle.logical_types.specs.Width.{width_of, total_width, tag_width, greatest_width, saturated}
use Rattle.logical_value.specs.Element.{IsElement, AreElements, IsVariant}
use Rattle.logical_value.specs.Packed.{pack_of, pack_parts, pack_selected, pack_variant}
use Rattle.logical_value.specs.Packing.{Holds, Puts}
use Rattle.logical_value.specs.Tree.{Tree, word, group, union, Trees, no_trees, tree}
use Rattle.logical_value.specs.Tree.{plain as plain_value, plain_values}
use Rattle.logical_value.specs.declared.packing.Packing.{Packing}
use Rattle.logical_value.specs.declared.value.Value.{Value}

-- ---- how long the word of a value is

mutual
  pub length-pack_of : (ltype : Ltype) (value : Tree) → IsElement ltype value → length (pack_of ltype value) ≡ width_of ltype
  length-pack_of types.null value is = refl
  length-pack_of (types.bits width) (word bits) is = is
  length-pack_of (types.bits width) value is = absurd is
  length-pack_of (types.group parts) (group values) is = length-pack_parts parts values is
  length-pack_of (types.group parts) value is = absurd is
  length-pack_of (types.union parts) (union tag value) is =
      length-append (bits_of (tag_width (number_of_parts parts)) tag) (pack_variant (greatest_width parts) parts tag value)
      ∙ ap (λ (n : ℕ). n + length (pack_variant (greatest_width parts) parts tag value)) (length-bits_of (tag_width (number_of_parts parts)) tag)
      ∙ ap (λ (n : ℕ). tag_width (number_of_parts parts) + n) (length-pack_variant (greatest_width parts) parts tag value (omega arith) is)
  length-pack_of (types.union parts) value is = absurd is
  length-pack_of (types.stream element user settings) value is = refl

  pub length-pack_parts : (parts : Parts) (values : Trees) → AreElements parts values → length (pack_parts parts values) ≡ total_width parts
  length-pack_parts types.no_parts no_trees are = refl
  length-pack_parts (types.part name ltype more) (tree value others) are =
      length-append (pack_of ltype value) (pack_parts more others)
      ∙ ap (λ (n : ℕ). n + length (pack_parts more others)) (length-pack_of ltype value are.0) ∙ ap (λ (n : ℕ). width_of ltype + n) (length-pack_parts more others are.1)
  length-pack_parts parts values are = absurd are

  pub length-pack_variant : (room : ℕ) (parts : Parts) (tag : ℕ) (value : Tree) → greatest_width parts ≤ room → IsVariant parts tag value
      → length (pack_variant room parts tag value) ≡ room
  length-pack_variant room types.no_parts tag value wide is = absurd is
  length-pack_variant room (types.part name ltype more) zero value wide is =
      length-append (pack_of ltype value) (zero_bits (room - width_of ltype))
      ∙ (let here = length-pack_of ltype value is in
      let above = length-replicate (room - width_of ltype) false in
      omega (arith, here, above, wide))
  length-pack_variant room (types.part name ltype more) (suc tag) value wide is = length-pack_variant room more tag value (omega (arith, wide)) is

-- a variant's number is below their number
pub tag-below : (parts : Parts) (tag : ℕ) (value : Tree) → IsVariant parts tag value → tag < number_of_parts parts
tag-below types.no_parts tag value is = absurd is
tag-below (types.part name ltype more) zero value is = omega arith
tag-below (types.part name ltype more) (suc tag) value is = let less = tag-below more tag value is in omega (arith, less)

-- ---- parts of a word

pub Puts-none : (packing : Packing) (bits : List Bool) → bits ≡ [] → Puts packing packing bits
Puts-none packing bits none done room narrow fits holds =
    subst (λ (l : List Bool). Holds packing (done ++ l) (room - length l)) (sym none)
    (subst (λ (l : List Bool). Holds packing l (room - 0)) (sym (append-nil done))
    (let same : room ≡ room - 0 = omega arith in subst (Holds packing done) same holds))

pub Puts-then : (one two three : Packing) (first second : List Bool) → Puts one two first → Puts two three second → Puts one three (first ++ second)
Puts-then one two three first second puts puts' done room narrow fits holds =
    let long = length-append first second in
    let so_far = length-append done first in
    let between = puts done room narrow (omega (arith, long, fits)) holds in
    let after = puts' (done ++ first) (room - length first) (omega (arith, so_far, long, narrow, fits)) (omega (arith, long, fits)) between in
    let left : room - length first - length second ≡ room - length (first ++ second) = omega (arith, long) in
    subst (λ (n : ℕ). Holds three (done ++ (first ++ second)) n) left (subst (λ (l : List Bool). Holds three l (room - length first - length second)) (append_assoc done first second) after)

-- bits written above what is there
pub written-above : (done more : List Bool) (room : ℕ) → length more ≤ room →
    written_at (length done) more (done ++ zero_bits room) ≡ (done ++ more) ++ zero_bits (room - length more)
written-above done more room fits =
    ap (λ (l : List Bool). l ++ more ++ drop (length done + length more) (done ++ zero_bits room)) (take-append_seam done (zero_bits room))
    ∙ ap (λ (l : List Bool). done ++ more ++ l) (drop-append-add done (zero_bits room) (length more) ∙ drop-replicate (length more) room false)

pub Puts-word : (old new : Packing) (more : List Bool) → new.bits ≡ written_at old.offset more old.bits → new.offset ≡ old.offset + length more → Puts old new more
Puts-word old new more writes moves done room narrow fits holds = record {
  at = moves ∙ ap (λ (n : ℕ). n + length more) holds.at ∙ sym (length-append done more);
  bits = writes ∙ ap (λ (n : ℕ). written_at n more old.bits) holds.at ∙ ap (written_at (length done) more) holds.bits ∙ written-above done more room fits;
}

pub Puts-zeros : (old new : Packing) (count : ℕ) → new.bits ≡ old.bits → new.offset ≡ old.offset + count → Puts old new (zero_bits count)
Puts-zeros old new count same moves done room narrow fits holds =
    let zeros = length-replicate count false in
    let so_far = length-append done (zero_bits count) in
    let enough : count + (room - length (zero_bits count)) ≡ room = omega (arith, zeros, fits) in
    record {
      at = omega (arith, moves, holds.at, so_far, zeros);
      bits =
          same ∙ holds.bits ∙ ap (λ (n : ℕ). done ++ zero_bits n) (sym enough)
          ∙ ap (λ (l : List Bool). done ++ l) (sym (replicate-append-replicate count (room - length (zero_bits count)) false))
          ∙ sym (append_assoc done (zero_bits count) (zero_bits (room - length (zero_bits count))));
    }

no_some : (found : Option ℕ) → found ≡ None → IsSome found → ⊥
no_some None none there = cc
no_some (Some x) none there = cc

-- where there is no room, nothing was to be written
pub Puts-no_room : (old new : Packing) (more : List Bool) (count : ℕ) (found : Option ℕ) → length more ≡ count → found ≡ None
    → (old.offset + count ≤ length old.bits → IsSome found) → Puts old new more
Puts-no_room old new more count found long none some done room narrow fits holds =
    let wide : length old.bits ≡ length done + length (zero_bits room) = ap length holds.bits ∙ length-append done (zero_bits room) in
    let zeros = length-replicate room false in
    absurd (no_some found none (some (omega (arith, holds.at, wide, zeros, fits, long))))

-- ---- numbers

pub word_of_number-fits : (width number : ℕ) (found : Option (List Bool)) → found ≡ word_of_number width number → number < 2 ^ width → found ≡ Some (bits_of width number)
unfolding word_of_number
word_of_number-fits width number found is below =
    let test : ltb number (2 ^ width) ≡ true = grind (arith, nat_tests) in is ∙ ap (λ (b : Bool). if b then Some (bits_of width number) else None) test

pub Puts-number : (old new : Packing) (width number : ℕ) (found : Option (List Bool)) (made : List Bool) → found ≡ word_of_number width number → found ≡ Some made
    → Puts old new made → number < 2 ^ width → Puts old new (bits_of width number)
Puts-number old new width number found made is some puts below =
    let same : made ≡ bits_of width number = (let both : Some made ≡ Some (bits_of width number) = sym some ∙ word_of_number-fits width number found is below in cc) in
    subst (Puts old new) same puts

pub no_number : (width number : ℕ) (found : Option (List Bool)) → found ≡ word_of_number width number → found ≡ None → number < 2 ^ width → ⊥
no_number width number found is none below = let clash : None ≡ Some (bits_of width number) = sym none ∙ word_of_number-fits width number found is below in cc

-- ---- a Union

pub Puts-selected : (old tagged new : Packing) (parts : List Part) (tag : ℕ) (value : Tree) (width whole room : ℕ) → width ≡ index_width (length parts)
    → whole ≡ saturated (width_of (types.union (plain_parts parts))) → room ≡ whole - width
    → (tag < 2 ^ width → Puts old tagged (bits_of width tag)) → (IsVariant (plain_parts parts) tag value → Puts tagged new (pack_variant room (plain_parts parts) tag value))
    → IsVariant (plain_parts parts) tag value → Puts old new (pack_selected (plain_parts parts) tag value)
unfolding tag_width
Puts-selected old tagged new parts tag value width whole room is_width is_whole is_room puts_tag puts is done free narrow fits holds =
    let variants = plain_parts parts in
    let same : width ≡ index_width (number_of_parts variants) = is_width ∙ ap index_width (sym (number_of_parts-plain parts)) in
    let enough = index_width-enough (number_of_parts variants) in
    let below = tag-below variants tag value is in
    let fits_tag : tag < 2 ^ width = subst (λ (n : ℕ). tag < 2 ^ n) (sym same) (omega (arith, enough, below)) in
    let long = length-append (bits_of (index_width (number_of_parts variants)) tag) (pack_variant (greatest_width variants) variants tag value) in
    let tag_long = length-bits_of (index_width (number_of_parts variants)) tag in
    let rest_long = length-pack_variant (greatest_width variants) variants tag value (omega arith) is in
    let same_room : room ≡ greatest_width variants = omega (arith, is_room, is_whole, same, narrow, fits, long, tag_long, rest_long) in
    Puts-then old tagged new (bits_of (index_width (number_of_parts variants)) tag) (pack_variant (greatest_width variants) variants tag value)
    (subst (λ (n : ℕ). Puts old tagged (bits_of n tag)) same (puts_tag fits_tag)) (subst (λ (n : ℕ). Puts tagged new (pack_variant n variants tag value)) same_room (puts is))
    done free narrow fits holds

-- ---- the fields of a Group

-- the values that are left fit the parts that are left, and once these are written all are
pub record Continues (first now : Packing) (parts : Parts) (values : Trees) (more : Parts) (others : Trees) : Type 0 where
  pub are : AreElements more others
  pub rest : (final : Packing) → Puts now final (pack_parts more others) → Puts first final (pack_parts parts values)

pub Continues-step : (first now new : Packing) (all : Parts) (values : Trees) (parts : List Part) (at : ℕ) (one : Part) (left more : List Value) (value : Value) → at < length parts
    → one ≡ get_or parts at one → left ≡ value ∷ more → Continues first now all values (plain_parts (drop at parts)) (plain_values left)
    → (IsElement (plain one.ltype) (plain_value value) → Puts now new (pack_of (plain one.ltype) (plain_value value)))
    → Continues first new all values (plain_parts (drop (at + 1) parts)) (plain_values more)
Continues-step first now new all values parts at one left more value within is begins continues puts =
    let here = plain_parts-at parts at one within is in
    let next = plain_parts (drop (at + 1) parts) in
    let both : Continues first now all values (types.part one.name (plain one.ltype) next) (tree (plain_value value) (plain_values more)) =
    subst (λ ps. Continues first now all values ps (tree (plain_value value) (plain_values more))) here
    (subst (λ vs. Continues first now all values (plain_parts (drop at parts)) (plain_values vs)) begins continues) in
    record {
      are = both.are.1;
      rest = λ final later_puts. both.rest final (Puts-then now new final (pack_of (plain one.ltype) (plain_value value)) (pack_parts next (plain_values more)) (puts both.are.0) later_puts);
    }

pub Continues-past : (first now : Packing) (all : Parts) (values : Trees) (parts : List Part) (at : ℕ) (left : List Value) → length parts ≤ at
    → Continues first now all values (plain_parts (drop at parts)) (plain_values left) → Puts first now (pack_parts all values)
Continues-past first now all values parts at left done continues =
    continues.rest now (Puts-none now (pack_parts (plain_parts (drop at parts)) (plain_values left)) (ap (λ ps. pack_parts ps (plain_values left)) (plain_parts-past parts at done)))

-- ---- the whole word

-- the part written into a word of the element's width is the whole word
pub packed-whole : (old new : Packing) (ltype : Ltype) (value : Tree) (width : ℕ) → width ≡ width_of ltype → old.bits ≡ zero_bits width → old.offset ≡ 0 → IsPlain ltype
    → IsElement ltype value → Puts old new (pack_of ltype value) → new.bits ≡ pack_of ltype value
packed-whole old new ltype value width is_width zeros none plain element puts =
    let narrow = width-IsPlain ltype plain in
    let long = length-pack_of ltype value element in
    let after = puts [] width (omega (arith, narrow, is_width)) (omega (arith, long, is_width)) (record { at = none; bits = zeros }) in
    let nothing : width - length (pack_of ltype value) ≡ 0 = omega (arith, long, is_width) in
    after.bits ∙ ap (λ (n : ℕ). pack_of ltype value ++ zero_bits n) nothing ∙ append-nil (pack_of ltype value)
