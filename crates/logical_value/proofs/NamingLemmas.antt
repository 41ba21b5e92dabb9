-- The tags of a word, part after part.
use Rattle.std.proofs.Common.{◌≡◌, ◌↔◌, ◌∙◌, ℕ, zero, suc, ◌+◌, ◌-◌, ◌*◌, ◌^◌, ◌<◌, ◌≤◌, Bool, true, false, ◌&&◌, cond, Option, None, Some, IfSome, IsSome, IsTrue, is_some, get_or, List, [], ◌∷◌, length, take, drop, refl, sym, ap, subst, arith, length-drop}
use Rattle.std.proofs.Math.Pow.{pow_mono}
use Rattle.std.proofs.lemmas.List.{length-take, drop-drop, drop_more, take_all}
use Rattle.tydi_base.specs.Bits.{number_of_bits}
use Rattle.tydi_base.specs.Width.{index_width}
use Rattle.tydi_base.proofs.BitsLemmas.{number_of_bits-below}
use Rattle.logical_types.specs.declared.ltype.Part.{Part}
use Rattle.logical_types.specs.Faults.{IsPlain}
use Rattle.logical_types.specs.Tree.{Ltype, Parts, number_of_parts, plain, plain_parts}
use Rattle.logical_types.specs.Tree as types
use Rattle.logical_types.specs.Width.{width_of, total_width, tag_width, greatest_width, saturated}
use Rattle.logical_types.proofs.PlainLemmas.{number_of_parts-plain, plain_parts-at, plain_parts-past}
use Rattle.logical_types.proofs.PlainTypes.{width-IsPlain}
use Rattle.logical_value.specs.Agreement.{names_variants, name_variants, names_in_variant}
use Rattle.logical_value.specs.Naming.{CanPass, NamesVariant, Passes, PassesFields, PassesType}
use Rattle.logical_value.proofs.UnpackingLemmas.{take-less, drop-less}

-- ---- bits above those of parts say nothing of them

name-front : (parts : Parts) (many : ℕ) (bits : List Bool) → total_width parts ≤ many → name_variants parts (take many bits) ≡ name_variants parts bits
name-front types.no_parts many bits wide = refl
name-front (types.part name ltype more) many bits wide =
    ap (λ (l : List Bool). names_variants ltype l && name_variants more (drop (width_of ltype) (take many bits))) (take-less (width_of ltype) many bits (omega (arith, wide)))
    ∙ ap (λ b. names_variants ltype (take (width_of ltype) bits) && b)
    (ap (name_variants more) (drop-less (width_of ltype) many bits (omega (arith, wide))) ∙ name-front more (many - width_of ltype) (drop (width_of ltype) bits) (omega (arith, wide)))

names-front_variant : (parts : Parts) (tag many : ℕ) (bits : List Bool) → greatest_width parts ≤ many → names_in_variant parts tag (take many bits) ≡ names_in_variant parts tag bits
names-front_variant types.no_parts tag many bits wide = refl
names-front_variant (types.part name ltype more) zero many bits wide = ap (names_variants ltype) (take-less (width_of ltype) many bits (omega (arith, wide)))
names-front_variant (types.part name ltype more) (suc tag) many bits wide = names-front_variant more tag many bits (omega (arith, wide))

-- ---- places behind bits

-- where there is room for so many bits, the place behind them is found
pub end-there : (found : Option ℕ) (begin count most : ℕ) → IfSome found (λ end. end ≡ begin + count) → (begin + count ≤ most → IsSome found) → begin + count ≤ most
    → found ≡ Some (begin + count)
end-there None begin count most is some there = let none = some there in cc
end-there (Some end) begin count most is some there = ap (λ (n : ℕ). Some n) is

none-there : {X : Type 0} (found : Option ℕ) (begin count most : ℕ) → found ≡ None → (begin + count ≤ most → IsSome found) → begin + count ≤ most → X
none-there None begin count most none some there = let never = some there in cc
none-there (Some end) begin count most none some there = cc

-- a place is found exactly where there are such tags
passed : (named : Bool) (end place : ℕ) → Some end ≡ cond named (Some place) None → (named ≡ true) × (end ≡ place)
passed true end place is = (refl, cc)
passed false end place is = cc

not_passed : (named : Bool) (place : ℕ) → None ≡ cond named (Some place) None → named ≡ false
not_passed true place is = cc
not_passed false place is = refl

some_passed : (named : Bool) (place : ℕ) (found : Option ℕ) → found ≡ cond named (Some place) None → is_some found ≡ named
some_passed true place found is = ap is_some is
some_passed false place found is = ap is_some is

-- ---- a Bits

pub bits-passed : (word : List Bool) (offset width : ℕ) (found : Option ℕ) (count : ℕ) → (width ≤ 4096 → count ≡ width) → IfSome found (λ end. end ≡ offset + count)
    → (offset + count ≤ length word → IsSome found) → PassesType word offset (types.bits width) found
bits-passed word offset width found count is end some can =
    let same = is (omega (arith, can.there, can.narrow)) in
    end-there found offset count (length word) end some (omega (arith, same, can.there)) ∙ ap (λ (n : ℕ). Some (offset + n)) same

-- nothing is passed
pub nothing-passed : (word : List Bool) (offset : ℕ) (ltype : Ltype) → width_of ltype ≡ 0 → ((bits : List Bool) → names_variants ltype bits ≡ true) → PassesType word offset ltype (Some offset)
nothing-passed word offset ltype none names can =
    let same : offset ≡ offset + width_of ltype = omega (arith, none) in
    ap (λ (n : ℕ). Some n) same ∙ ap (λ b. cond b (Some (offset + width_of ltype)) None) (sym (names (take (width_of ltype) (drop offset word))))

-- ---- fields

-- the fields that are left are to be passed, and once they are, all are
pub record AreLeft (word : List Bool) (first now : ℕ) (all more : Parts) : Type 0 where
  pub can : CanPass word now (total_width more)
  pub named : name_variants all (drop first word) ≡ name_variants more (drop now word)
  pub end : now + total_width more ≡ first + total_width all

can_first : (word : List Bool) (now : ℕ) (name : List ℕ) (ltype : Ltype) (more : Parts) → CanPass word now (total_width (types.part name ltype more)) → CanPass word now (width_of ltype)
can_first word now name ltype more can = record { there = omega (arith, can.there); narrow = can.narrow }

pub AreLeft-step : (word : List Bool) (first now new : ℕ) (all : Parts) (parts : List Part) (at : ℕ) (one : Part) → at < length parts → one ≡ get_or parts at one
    → AreLeft word first now all (plain_parts (drop at parts)) → PassesType word now (plain one.ltype) (Some new) → AreLeft word first new all (plain_parts (drop (at + 1) parts))
AreLeft-step word first now new all parts at one within is left passes =
    let next = plain_parts (drop (at + 1) parts) in
    let t = plain one.ltype in
    let width = width_of t in
    let here : AreLeft word first now all (types.part one.name t next) = subst (AreLeft word first now all) (plain_parts-at parts at one within is) left in
    let past = passed (names_variants t (take width (drop now word))) new (now + width) (passes (can_first word now one.name t next here.can)) in
    record {
      can = record { there = omega (arith, here.can.there, past.1); narrow = here.can.narrow };
      named = here.named ∙ ap (λ b. b && name_variants next (drop width (drop now word))) past.0
          ∙ ap (name_variants next) (drop-drop width now word ∙ ap (λ (n : ℕ). drop n word) (sym past.1));
      end = omega (arith, here.end, past.1);
    }

pub AreLeft-none : (word : List Bool) (first now : ℕ) (all : Parts) (parts : List Part) (at : ℕ) (one : Part) → at < length parts → one ≡ get_or parts at one
    → AreLeft word first now all (plain_parts (drop at parts)) → PassesType word now (plain one.ltype) None
    → None ≡ cond (name_variants all (drop first word)) (Some (first + total_width all)) None
AreLeft-none word first now all parts at one within is left passes =
    let next = plain_parts (drop (at + 1) parts) in
    let t = plain one.ltype in
    let width = width_of t in
    let here : AreLeft word first now all (types.part one.name t next) = subst (AreLeft word first now all) (plain_parts-at parts at one within is) left in
    let bad = not_passed (names_variants t (take width (drop now word))) (now + width) (passes (can_first word now one.name t next here.can)) in
    sym (ap (λ b. cond b (Some (first + total_width all)) None) (here.named ∙ ap (λ b. b && name_variants next (drop width (drop now word))) bad))

pub AreLeft-past : (word : List Bool) (first now : ℕ) (all : Parts) (parts : List Part) (at : ℕ) → length parts ≤ at → AreLeft word first now all (plain_parts (drop at parts))
    → Some now ≡ cond (name_variants all (drop first word)) (Some (first + total_width all)) None
AreLeft-past word first now all parts at done left =
    let here : AreLeft word first now all types.no_parts = subst (AreLeft word first now all) (plain_parts-past parts at done) left in
    let same : now ≡ first + total_width all = omega (arith, here.end) in
    ap (λ (n : ℕ). Some n) same ∙ sym (ap (λ b. cond b (Some (first + total_width all)) None) here.named)

-- the fields of a Group are its bits
pub group-passed : (word : List Bool) (offset : ℕ) (ltype : Ltype) (parts : Parts) (found : Option ℕ) → ltype ≡ types.group parts → PassesFields word offset parts found
    → PassesType word offset ltype found
group-passed word offset ltype parts found is passes =
    subst (λ (t : Ltype). PassesType word offset t found) (sym is)
    (λ can. passes (record { there = can.there; narrow = can.narrow })
    ∙ ap (λ b. cond b (Some (offset + total_width parts)) None) (sym (name-front parts (total_width parts) (drop offset word) (omega arith))))

-- ---- the variants of a Union

-- the variant that is looked for is among those that are left
pub record IsAmong (word : List Bool) (offset : ℕ) (all : Parts) (tag : ℕ) (more : Parts) (left : ℕ) : Type 0 where
  pub wide : greatest_width more ≤ greatest_width all
  pub named : names_in_variant more left (drop offset word) ≡ names_in_variant all tag (drop offset word)

some_less : (n : ℕ) → (n ≡ 0 → ⊥) → n ≡ suc (n - 1)
some_less zero some = absurd (some refl)
some_less (suc n) some = omega arith

pub IsAmong-step : (word : List Bool) (offset : ℕ) (all : Parts) (tag : ℕ) (parts : List Part) (at : ℕ) (one : Part) (left : ℕ) → at < length parts → one ≡ get_or parts at one
    → (left ≡ 0 → ⊥) → IsAmong word offset all tag (plain_parts (drop at parts)) left → IsAmong word offset all tag (plain_parts (drop (at + 1) parts)) (left - 1)
IsAmong-step word offset all tag parts at one left within is some among =
    let next = plain_parts (drop (at + 1) parts) in
    let t = plain one.ltype in
    let here : IsAmong word offset all tag (types.part one.name t next) (suc (left - 1)) =
    subst (IsAmong word offset all tag (types.part one.name t next)) (some_less left some) (subst (λ ps. IsAmong word offset all tag ps left) (plain_parts-at parts at one within is) among) in
    record { wide = omega (arith, here.wide); named = here.named }

pub IsAmong-here : (word : List Bool) (offset : ℕ) (all : Parts) (tag : ℕ) (parts : List Part) (at : ℕ) (one : Part) (left : ℕ) (found : Option ℕ) (result : Bool) → at < length parts
    → one ≡ get_or parts at one → left ≡ 0 → IsAmong word offset all tag (plain_parts (drop at parts)) left → PassesType word offset (plain one.ltype) found → result ≡ is_some found
    → NamesVariant word offset all tag result
IsAmong-here word offset all tag parts at one left found result within is none among passes tells can =
    let next = plain_parts (drop (at + 1) parts) in
    let t = plain one.ltype in
    let here : IsAmong word offset all tag (types.part one.name t next) 0 =
    subst (IsAmong word offset all tag (types.part one.name t next)) none (subst (λ ps. IsAmong word offset all tag ps left) (plain_parts-at parts at one within is) among) in
    tells ∙ some_passed (names_variants t (take (width_of t) (drop offset word))) (offset + width_of t) found
    (passes (record { there = omega (arith, can.there, here.wide); narrow = can.narrow })) ∙ here.named

pub IsAmong-past : (word : List Bool) (offset : ℕ) (all : Parts) (tag : ℕ) (parts : List Part) (at left : ℕ) → length parts ≤ at
    → IsAmong word offset all tag (plain_parts (drop at parts)) left → NamesVariant word offset all tag false
IsAmong-past word offset all tag parts at left done among can =
    let here : IsAmong word offset all tag types.no_parts left = subst (λ ps. IsAmong word offset all tag ps left) (plain_parts-past parts at done) among in here.named

-- ---- a Union

union-named : (word : List Bool) (offset : ℕ) (parts : List Part) (width : ℕ) → width ≡ index_width (length parts)
    → names_variants (types.union (plain_parts parts)) (take (width_of (types.union (plain_parts parts))) (drop offset word))
    ≡ names_in_variant (plain_parts parts) (number_of_bits (take width (drop offset word))) (drop (offset + width) word)
unfolding tag_width
union-named word offset parts width is =
    let variants = plain_parts parts in
    let tag = index_width (number_of_parts variants) in
    let all = width_of (types.union variants) in
    let left = drop offset word in
    let same : width ≡ tag = is ∙ ap index_width (sym (number_of_parts-plain parts)) in
    let within : tag ≤ all = omega arith in
    ap (λ (l : List Bool). names_in_variant variants (number_of_bits l) (drop tag (take all left))) (take-less tag all left within)
    ∙ ap (names_in_variant variants (number_of_bits (take tag left))) (drop-less tag all left within)
    ∙ names-front_variant variants (number_of_bits (take tag left)) (all - tag) (drop tag left) (omega arith)
    ∙ ap (λ (l : List Bool). names_in_variant variants (number_of_bits (take tag left)) l) (drop-drop tag offset word)
    ∙ ap (λ (n : ℕ). names_in_variant variants (number_of_bits (take n left)) (drop (offset + n) word)) (sym same)

-- the bits of a tag and of the widest variant are those of the Union
union-room : (parts : List Part) (width : ℕ) → width ≡ index_width (length parts) → width_of (types.union (plain_parts parts)) ≡ width + greatest_width (plain_parts parts)
unfolding tag_width
union-room parts width is =
    let same : width ≡ index_width (number_of_parts (plain_parts parts)) = is ∙ ap index_width (sym (number_of_parts-plain parts)) in omega (arith, same)

pub union-no_tag : (word : List Bool) (offset : ℕ) (parts : List Part) (width : ℕ) (found : Option ℕ) → width ≡ index_width (length parts) → found ≡ None
    → (offset + width ≤ length word → IsSome found) → PassesType word offset (types.union (plain_parts parts)) None
union-no_tag word offset parts width found is none some can =
    let room = union-room parts width is in none-there found offset width (length word) none some (omega (arith, room, can.there))

can_variant : (word : List Bool) (offset begin : ℕ) (parts : List Part) (width : ℕ) → width ≡ index_width (length parts) → begin ≡ offset + width
    → CanPass word offset (width_of (types.union (plain_parts parts))) → CanPass word begin (greatest_width (plain_parts parts))
can_variant word offset begin parts width is at can = let room = union-room parts width is in record { there = omega (arith, room, at, can.there); narrow = can.narrow }

-- whether the Union's tags name variants is whether those of its variant do
named-in : (word : List Bool) (offset begin : ℕ) (parts : List Part) (width tag : ℕ) (named : Bool) → width ≡ index_width (length parts) → begin ≡ offset + width
    → tag ≡ number_of_bits (take width (drop offset word)) → NamesVariant word begin (plain_parts parts) tag named
    → CanPass word offset (width_of (types.union (plain_parts parts)))
    → named ≡ names_variants (types.union (plain_parts parts)) (take (width_of (types.union (plain_parts parts))) (drop offset word))
named-in word offset begin parts width tag named is at tag_is names can =
    names (can_variant word offset begin parts width is at can)
    ∙ ap (λ (n : ℕ). names_in_variant (plain_parts parts) n (drop begin word)) tag_is
    ∙ ap (λ (n : ℕ). names_in_variant (plain_parts parts) (number_of_bits (take width (drop offset word))) (drop n word)) at
    ∙ sym (union-named word offset parts width is)

pub union-bad : (word : List Bool) (offset begin : ℕ) (parts : List Part) (width tag : ℕ) (named : Bool) → width ≡ index_width (length parts) → begin ≡ offset + width
    → tag ≡ number_of_bits (take width (drop offset word)) → NamesVariant word begin (plain_parts parts) tag named → named ≡ false
    → PassesType word offset (types.union (plain_parts parts)) None
union-bad word offset begin parts width tag named is at tag_is names bad can =
    let all = width_of (types.union (plain_parts parts)) in
    sym (ap (λ b. cond b (Some (offset + all)) None) (sym (named-in word offset begin parts width tag named is at tag_is names can) ∙ bad))

pub union-passed : (word : List Bool) (offset begin : ℕ) (parts : List Part) (width tag whole : ℕ) (named : Bool) (found : Option ℕ) → width ≡ index_width (length parts) → begin ≡ offset + width
    → tag ≡ number_of_bits (take width (drop offset word)) → NamesVariant word begin (plain_parts parts) tag named → named ≡ true
    → whole ≡ saturated (width_of (types.union (plain_parts parts))) → IfSome found (λ end. end ≡ offset + whole) → (offset + whole ≤ length word → IsSome found)
    → PassesType word offset (types.union (plain_parts parts)) found
union-passed word offset begin parts width tag whole named found is at tag_is names good whole_is end some can =
    let all = width_of (types.union (plain_parts parts)) in
    let same : whole ≡ all = omega (arith, whole_is, can.there, can.narrow) in
    end-there found offset whole (length word) end some (omega (arith, same, can.there)) ∙ ap (λ (n : ℕ). Some (offset + n)) same
    ∙ ap (λ b. cond b (Some (offset + all)) None) (sym good ∙ named-in word offset begin parts width tag named is at tag_is names can)

-- ---- the number of a tag

-- the number so far is that of the bits from this place on
pub record Counts (word : List Bool) (from to at number : ℕ) : Type 0 where
  pub above : from ≤ at
  pub below : at ≤ to
  pub is : number ≡ number_of_bits (take (to - at) (drop at word))

pub Counts-none : (word : List Bool) (from to : ℕ) → from ≤ to → Counts word from to to 0
unfolding number_of_bits
Counts-none word from to order =
    let none : to - to ≡ 0 = omega arith in record { above = order; below = omega arith; is = ap (λ (n : ℕ). number_of_bits (take n (drop to word))) (sym none) }

below_power : (number value few many : ℕ) → number ≡ value → value < 2 ^ few → few ≤ many → number < 2 ^ many
below_power number value few many is below less = let most = pow_mono less in omega (arith, is, below, most)

-- a number of few bits is small
pub Counts-small : (word : List Bool) (from to at number : ℕ) → to ≤ from + 64 → from < at → Counts word from to at number → number < 2 ^ 63
Counts-small word from to at number few more counts =
    let bits = take (to - at) (drop at word) in
    let below = number_of_bits-below bits in
    let long = length-take (to - at) (drop at word) in
    let short : length bits ≤ 63 = omega (arith, long, few, more) in
    below_power number (number_of_bits bits) (length bits) 63 counts.is below short

pub Counts-more : (word : List Bool) (from to at number bit next : ℕ) (got : Bool) → to ≤ length word → from < at → Counts word from to at number
    → got ≡ get_or word (at - 1) false → bit ≡ cond got 1 0 → next ≡ 2 * number + bit → Counts word from to (at - 1) next
unfolding number_of_bits
Counts-more word from to at number bit next got within more counts got_is bit_is next_is =
    let less = at - 1 in
    let place : less + 1 ≡ at = omega (arith, more) in
    let many : to - less ≡ suc (to - at) = omega (arith, more, counts.below) in
    let begins : drop less word ≡ got ∷ drop at word =
    drop_more word less false (omega (arith, more, within, counts.below)) ∙ ap (λ (b : Bool). b ∷ drop (less + 1) word) (sym got_is) ∙ ap (λ (n : ℕ). got ∷ drop n word) place in
    let value : number_of_bits (take (to - less) (drop less word)) ≡ cond got 1 0 + 2 * number_of_bits (take (to - at) (drop at word)) =
    ap (λ (n : ℕ). number_of_bits (take n (drop less word))) many ∙ ap (λ (l : List Bool). number_of_bits (take (suc (to - at)) l)) begins in
    record { above = omega (arith, more); below = omega (arith, counts.below); is = omega (arith, next_is, bit_is, counts.is, value) }

-- ---- a whole word

-- the meaning of a test holds for a test that is the same
pub test-for : {X : Type 0} (test other : Bool) → test ≡ other → (other ≡ true) ↔ X → IsTrue test ↔ X
test-for test other is both = (λ holds. both.0 (sym is ∙ holds), λ x. is ∙ both.1 x)

pub named-whole : (ltype : Ltype) (word : List Bool) (found : Option ℕ) (result : Bool) → IsPlain ltype → length word ≡ width_of ltype → PassesType word 0 ltype found → result ≡ is_some found
    → result ≡ names_variants ltype word
named-whole ltype word found result is_plain long passes tells =
    let narrow = width-IsPlain ltype is_plain in
    tells ∙ some_passed (names_variants ltype (take (width_of ltype) word)) (0 + width_of ltype) found (passes (record { there = omega (arith, long); narrow = omega (arith, long, narrow) }))
    ∙ ap (names_variants ltype) (take_all (width_of ltype) word (omega (arith, long)))
